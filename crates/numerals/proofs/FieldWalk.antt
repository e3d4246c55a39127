-- The walk that puts the numbers of a line: its invariant, that the numbers that are left put what all put, with its start, its turn and its
-- end over plain variables; and the room of a line.
-- Assumes nothing.
use Prim.Native.Nat.{ℕ, suc, ◌+◌, ◌*◌, ◌≤◌, ◌<◌}
use mathlib.Core.Bool.{Bool, true, false}
use mathlib.Core.List.{List, [], ◌∷◌, ◌++◌, append_assoc, append-nil, map}
use mathlib.Core.Path.{◌≡◌, refl, sym, ap, ◌∙◌}
use native.Mathlib.Numerals.{add-one}
use native.Mathlib.Omega.{arith}
use lib.Dec.{ltb}
use lib.ListN.{length, get_or, drop, length-append, length-drop, drop_of_length-le}
use lib.Seq.{sets, drop-cons}
use borrow.Author.Tests.{lt-ltb, le-ltb, ltb-true, ltb-false}
use Rattle.numerals.specs.Decimal.{decimal}
use Rattle.numerals.specs.Lines.{field_bytes, line_bytes}
use Rattle.numerals.specs.Put.{Put, end_before, field_room, no_room, line_put}
use Rattle.numerals.specs.Words.{comma, line_end}
use Rattle.numerals.proofs.LineLaws.{number_line, number_bytes, fields_last, fields_more, line_is}
use Rattle.numerals.proofs.PutLaws.{put_length, put_same, put_nothing}
use Rattle.laws.proofs.Stores.{sets_append}

none_bytes : number_bytes [] ≡ []
unfolding field_bytes
none_bytes = refl

-- the first of some numbers with the byte that ends it, and the others
abbrev first_bytes : ℕ → Bool → List ℕ
first_bytes n more = decimal n ++ (end_before more ∷ [])

first_and_rest : (n : ℕ) (ms : List ℕ) → number_bytes (n ∷ ms) ≡ first_bytes n (ltb 0 (length ms)) ++ number_bytes ms
first_and_rest n [] = fields_last (decimal n) ∙ sym (append-nil (decimal n ++ (line_end ∷ []))) ∙ rw none_bytes
first_and_rest n (m ∷ ms) =
    rw (lt-ltb 0 (length (m ∷ ms)) (omega arith))
    (fields_more (decimal n) (decimal m) (map decimal ms) ∙ sym (append_assoc (decimal n) (comma ∷ []) (number_bytes (m ∷ ms))))

-- the number at index k, and those behind it
turn : (ns : List ℕ) (k : ℕ) → k < length ns
    → number_bytes (drop k ns) ≡ first_bytes (get_or ns k 0) (ltb (k + 1) (length ns)) ++ number_bytes (drop (k + 1) ns)
turn ns k h =
    rw (add-one k) (ap number_bytes (drop-cons ns k 0 h) ∙ first_and_rest (get_or ns k 0) (drop (suc k) ns) ∙ rw (more (ltb (suc k) (length ns)) refl))
  where
    more : (t : Bool) → ltb (suc k) (length ns) ≡ t → ltb 0 (length (drop (suc k) ns)) ≡ t
    more true e = lt-ltb 0 (length (drop (suc k) ns)) (omega (arith, length-drop (suc k) ns, ltb-true (suc k) (length ns) e))
    more false e = le-ltb 0 (length (drop (suc k) ns)) (omega (arith, length-drop (suc k) ns, ltb-false (suc k) (length ns) e))

-- the loop's invariant: k numbers are put, and the index after them is i
pub record FieldsLeft (came : List ℕ) (at : ℕ) (ns out : List ℕ) (i k : ℕ) : Type 0 where
  pub within : k ≤ length ns
  pub reach : i ≤ at + field_room * k
  pub size : length out ≡ length came
  pub ends : i + length (number_bytes (drop k ns)) ≡ at + length (number_bytes ns)
  pub stores : sets came at (number_bytes ns) ≡ sets out i (number_bytes (drop k ns))

module _ {came : List ℕ} {at : ℕ} {ns out : List ℕ} {i k : ℕ} (h : FieldsLeft came at ns out i k) where
  pub fields_next : {end next : ℕ} {after : List ℕ} → k < length ns → end ≡ end_before (ltb (k + 1) (length ns))
      → Put out i (decimal (get_or ns k 0) ++ (end ∷ [])) next after → next ≤ i + field_room → FieldsLeft came at ns after next (k + 1)
  fields_next {end} {next} {after} more e put near =
      let first = decimal (get_or ns k 0) ++ (end ∷ []) in
      let rest = number_bytes (drop (k + 1) ns) in
      let both : number_bytes (drop k ns) ≡ first ++ rest = turn ns k more ∙ rw e in
      record {
        within = omega arith;
        reach = omega (arith, h.reach);
        size = put_length put ∙ h.size;
        ends = omega (arith, h.ends, put.ends, ap length both, length-append first rest);
        stores = h.stores ∙ ap (sets out i) both ∙ sets_append first rest out i ∙ rw (put.holds, put.ends);
      }

  pub fields_end : length ns ≤ k → Put came at (number_bytes ns) i out
  fields_end all =
      let none : number_bytes (drop k ns) ≡ [] = ap number_bytes (drop_of_length-le ns all) ∙ none_bytes in
      record { ends = omega (arith, h.ends, ap length none); holds = sym (h.stores ∙ ap (sets out i) none) }

-- a line is put whole where there is room, and not at all where there is none
module _ (long at : ℕ) (key ns : List ℕ) where
  pub has_room : no_room long at (length key) (length ns) ≡ false → at + length key + field_room * length ns ≤ long
  unfolding no_room
  has_room e = ltb-false long _ e

  pub line_none : no_room long at (length key) (length ns) ≡ true → line_put long at key ns ≡ []
  unfolding line_put
  line_none e = rw e

  pub line_whole : no_room long at (length key) (length ns) ≡ false → line_put long at key ns ≡ key ++ number_bytes ns
  unfolding line_put
  line_whole e = rw e (line_is (number_line key ns))

  -- as callers ask for it
  room_line : at + length key + field_room * length ns ≤ long → line_put long at key ns ≡ line_bytes (number_line key ns)
  unfolding line_put no_room
  room_line h = rw (le-ltb long (at + length key + field_room * length ns) h)

pub ruleset room_laws = (has_room, line_none, put_length, put_same, put_nothing)

-- a line that has room is put whole
pub whole_line : {out after : List ℕ} {at next : ℕ} (key ns : List ℕ) → Put out at (line_put (length out) at key ns) next after
    → at + length key + field_room * length ns ≤ length out → Put out at (line_bytes (number_line key ns)) next after
whole_line {out} {at = at} key ns put room = put_same put (room_line (length out) at key ns room)
