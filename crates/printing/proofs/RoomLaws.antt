-- Laws of the room: what an output has where the notices can be printed, and that bytes put at its front are then what printing leaves.
-- Assumes nothing.
use Prim.Native.Nat.{ℕ, ◌+◌, ◌*◌, ◌/◌, ◌≤◌, ◌<◌}
use mathlib.Core.Bool.{Bool, true, false}
use mathlib.Core.List.{List, ◌++◌}
use mathlib.Core.Path.{◌≡◌, refl, ◌∙◌}
use native.Mathlib.Omega.{arith}
use lib.Dec.{ltb, leb}
use lib.ListN.{length, drop}
use lib.Seq.{sets-eq}
use borrow.Author.Tests.{le-ltb, lt-leb, ltb-false, leb-false}
use Rattle.laws.proofs.Guards.{neither}
use Rattle.numerals.specs.Put.{Put}
use Rattle.printing.specs.Room.{cannot_print, printed, printed_count}

-- four numbers a notice, and a line's room for each and for the rest
pub has_room : (notices numbers room : ℕ) → cannot_print notices numbers room ≡ false → (4 * notices ≤ numbers) × (152 * notices + 152 ≤ room)
unfolding cannot_print
has_room notices numbers room e =
    let t = neither (ltb (numbers / 4) notices) (leb (room / 152) notices) e in
    let n : notices ≤ numbers / 4 = ltb-false _ _ t.0 in
    let r : notices < room / 152 = leb-false _ _ t.1 in
    (omega arith, omega arith)

pub printed_nothing : (bytes out : List ℕ) {cannot : Bool} → cannot ≡ true → (0 ≡ printed_count cannot bytes) × (out ≡ printed cannot bytes out)
unfolding printed printed_count
printed_nothing bytes out e = rw e (refl, refl)

pub printed_front : {out after bytes : List ℕ} {next : ℕ} {cannot : Bool} → cannot ≡ false → Put out 0 bytes next after → next ≤ length out
    → (next ≡ printed_count cannot bytes) × (after ≡ printed cannot bytes out)
unfolding printed printed_count
printed_front {out = out} {bytes = bytes} {next = next} e a h =
    let n : next ≡ length bytes = omega (arith, a.ends) in
    let z : 0 + length bytes ≡ length bytes = omega arith in
    rw e (n, a.holds ∙ sets-eq bytes out 0 (omega arith) ∙ rw z)

-- and the other way: with that room all is printed
pub can_print : (notices numbers room : ℕ) → 4 * notices ≤ numbers → 152 * notices + 152 ≤ room → cannot_print notices numbers room ≡ false
unfolding cannot_print
can_print notices numbers room n r =
    rw (le-ltb (numbers / 4) notices (omega arith), lt-leb (room / 152) notices (omega arith))

pub all_printed : (bytes out : List ℕ) {cannot : Bool} → cannot ≡ false
    → (printed_count cannot bytes ≡ length bytes) × (printed cannot bytes out ≡ bytes ++ drop (length bytes) out)
unfolding printed printed_count
all_printed bytes out e = rw e (refl, refl)

pub ruleset room_laws = (has_room, printed_nothing, printed_front)
