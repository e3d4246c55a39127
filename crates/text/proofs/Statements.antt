-- What the statement of an accepted text says: the lines of the settlement of its values, and totals that are their sums. Proved from the
-- read-back of what is printed, and what the settlement promises of its output.
-- Assumes nothing.
use Prim.Native.Nat.{ℕ}
use mathlib.Core.List.{List, [], ◌∷◌, ◌++◌}
use mathlib.Core.Path.{◌≡◌, sym, ap, ◌∙◌}
use lib.ListN.{length, replicate, length-replicate}
use Rattle.credit.proofs.Demands.{cents_add_up, energies_add_up}
use Rattle.credit.specs.Printed.{energy_in, cents_in}
use Rattle.credit.specs.Settlement.{settlement, written}
use Rattle.form.specs.Form.{notices_said}
use Rattle.laws.specs.Sums.{run_of}
use Rattle.laws.specs.Table.{accepted, is_refusal}
use Rattle.notices.specs.Notices.{count_of}
use Rattle.numerals.specs.Numbers.{numbers_in, numbers_of_lines}
use Rattle.printing.proofs.Shows.{statement_numbers}
use Rattle.printing.specs.Sheet.{notice_lines, statement_bytes}
use Rattle.text.specs.Refusals.{text_refusal}
use Rattle.text.specs.Statement.{room_for, settled_bytes, statement_of}
use Rattle.text.specs.Values.{winter_said, price_said, book_said}
use Rattle.text.proofs.FirstRefusal.{accepted_settles}
use Rattle.text.proofs.PrintLaws.{statement_told}

-- the statement of an accepted text
module _ (s : List ℕ) (ok : text_refusal s ≡ accepted) where
  -- its values
  abbrev w : ℕ
  w = winter_said s

  abbrev p : ℕ
  p = price_said s

  abbrev book : List ℕ
  book = book_said s

  abbrev l : List ℕ
  l = notices_said s

  -- the output with just the room, and the lines that the settlement leaves in it
  abbrev pub room : List ℕ
  room = replicate (room_for l) 0

  abbrev pub lines : List ℕ
  lines = written w book p l room

  just : length room ≡ room_for l
  just = length-replicate (room_for l) 0

  settles : (settlement w book p l (room_for l)).number ≡ 0
  settles = accepted_settles s ok

  pub standing : (settlement w book p l (length room)).number ≡ 0
  standing = rw just settles

  -- THE LINES PRINTED ARE THOSE OF THE SETTLEMENT
  settled_statement : statement_of s
      ≡ statement_bytes w p l lines (settlement w book p l (room_for l)).energy (settlement w book p l (room_for l)).cents
  unfolding statement_of settled_bytes
  settled_statement = sym (statement_told (text_refusal s) _ (ap is_refusal ok))

  -- A STATEMENT'S PRINTED TOTAL IS THE SUM OF ITS PRINTED LINES: the numbers that stand in it are winter, price, how many notices, seven for
  -- each notice, the sum of the energies of its lines and the sum of their cents
  pub numbers_shown : numbers_in (statement_of s)
      ≡ w
      ∷ p
      ∷ count_of l
      ∷ (numbers_of_lines (notice_lines l lines (count_of l)) ++ (run_of (energy_in lines) 0 (count_of l) ∷ run_of (cents_in lines) 0 (count_of l) ∷ []))
  numbers_shown =
      let energy : run_of (energy_in lines) 0 (count_of l) ≡ (settlement w book p l (room_for l)).energy
      = energies_add_up w p book l room standing ∙ ap (λ (n : ℕ). (settlement w book p l n).energy) just in
      let cents : run_of (cents_in lines) 0 (count_of l) ≡ (settlement w book p l (room_for l)).cents
      = cents_add_up w p book l room standing ∙ ap (λ (n : ℕ). (settlement w book p l n).cents) just in
      rw (energy, cents)
      (ap numbers_in settled_statement
      ∙ statement_numbers w p l lines (settlement w book p l (room_for l)).energy (settlement w book p l (room_for l)).cents)
