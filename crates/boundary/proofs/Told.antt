-- What the one number tells C: the refusal's number and place are to be read off it, it is 0 exactly where nothing is refused, and beside any
-- other number the output is as it was. By the bounds of numbers and places.
-- Assumes nothing.
use Prim.Native.Nat.{ℕ, ◌/◌, ◌%◌, ◌≤◌}
use mathlib.Core.List.{List}
use mathlib.Core.Path.{◌≡◌, ap}
use native.Mathlib.Omega.{arith}
use lib.ListN.{length, get_or}
use borrow.Author.Tests.{eq-eqb, ne_eqb}
use Rattle.laws.specs.Answer.{Answer}
use Rattle.laws.specs.Bounds.{largest_place}
use Rattle.credit.proofs.SettlementLaws.{number_is, settled_accepted, settlement_bounded}
use Rattle.credit.specs.Settlement.{Settlement, settlement}
use Rattle.schedule.proofs.Bounds.{check_bounded}
use Rattle.schedule.specs.ListCheck.{check_answer}
use Rattle.wire.specs.Decoded.{decoded}
use Rattle.boundary.specs.Calls.{packed, check_call, lines_over, settled_over, settle_call, settle_bytes}

-- number and place of one packed number
pub packed_told : (number place : ℕ) → place ≤ largest_place → (packed number place / 65536 ≡ number) × (packed number place % 65536 ≡ place)
packed_told number place h = (omega arith, omega arith)

-- of a list check
module _ (w profile : ℕ) (list : List ℕ) where
  abbrev checked : Answer
  checked = check_answer w profile (decoded list)

  pub check_told : (check_call w profile list / 65536 ≡ checked.number) × (check_call w profile list % 65536 ≡ get_or checked.values 0 0)
  unfolding check_call
  check_told = packed_told _ _ (check_bounded w (decoded list) profile).1

-- of a settlement
module _ (w p : ℕ) (book list out : List ℕ) where
  abbrev settled : Settlement
  settled = settlement w (decoded book) p (decoded list) (length out / 8)

  pub settle_told : (settle_call w book p list (length out) / 65536 ≡ settled.number) × (settle_call w book p list (length out) % 65536 ≡ settled.place)
  unfolding settle_call
  settle_told = packed_told _ _ (settlement_bounded w p (decoded book) (decoded list) (length out / 8)).1

  -- rule 9.5: an accepted call answers 0
  pub accepted_told : settled.number ≡ 0 → settle_call w book p list (length out) ≡ 0
  unfolding settle_call
  accepted_told z =
      let none = number_is w p (decoded book) (decoded list) (length out / 8) z in
      omega (arith, z, ap (λ (s : Settlement). s.place) (settled_accepted w p (decoded book) (decoded list) (length out / 8) none))

  -- rules 9.7 and 10.2: a refused call leaves every byte
  pub refused_unwritten : (settle_call w book p list (length out) ≡ 0 → ⊥) → settle_bytes w book p list out ≡ out
  unfolding settle_bytes settled_over
  refused_unwritten f = rw (ne_eqb settled.number 0 (λ (z : settled.number ≡ 0). f (accepted_told z)))

  -- an accepted settlement leaves the bytes of its lines
  pub accepted_written : settled.number ≡ 0 → settle_bytes w book p list out ≡ lines_over w (decoded book) p (decoded list) out
  unfolding settle_bytes settled_over
  accepted_written z = rw (eq-eqb settled.number 0 z)
