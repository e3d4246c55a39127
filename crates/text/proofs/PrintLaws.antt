-- What is printed at the front of the output, and what the call's arrays hold of a text: the front of the list is its notices, the front of the
-- book is the book of its winter.
-- Assumes nothing.
use Prim.Native.Nat.{ℕ, ◌+◌, ◌*◌, ◌≤◌}
use mathlib.Core.Bool.{true, false}
use mathlib.Core.List.{List}
use mathlib.Core.Logic.{⊎_elim}
use mathlib.Core.Path.{◌≡◌, refl, ap, ◌∙◌}
use native.Mathlib.Omega.{arith}
use lib.ListN.{length, get_or, take, replicate, length-replicate}
use lib.Seq.{sets-eq, take_at}
use Rattle.book.specs.Length.{book_length, most_readings}
use Rattle.book.specs.Values.{missing_mark}
use Rattle.dates.proofs.Promise.{days_two}
use Rattle.dates.specs.Winters.{days}
use Rattle.form.proofs.PlaceLaws.{book_front}
use Rattle.form.specs.Document.{ReadLine}
use Rattle.form.specs.Places.{book_in}
use Rattle.laws.proofs.Stores.{take_replicate}
use Rattle.laws.specs.Answer.{Answer}
use Rattle.laws.specs.Table.{is_refusal}
use Rattle.notices.specs.Notices.{notice_numbers, most_notices, longest_list}
use Rattle.printing.proofs.RoomLaws.{can_print, all_printed}
use Rattle.printing.specs.Room.{cannot_print, printed, printed_count}
use Rattle.printing.specs.Sheet.{refused_bytes}
use Rattle.text.specs.Prints.{Prints, Holds}
use Rattle.text.specs.Statement.{told_bytes, answer_room}
use Rattle.text.specs.Values.{no_readings}

pub prints_same : {out bytes other after : List ℕ} {n : ℕ} → Prints bytes out n after → bytes ≡ other → Prints other out n after
prints_same p e = rw (← e) p

-- what is printed where there is the room of every answer and not too many notices
pub prints : (bytes out after : List ℕ) (n notices numbers : ℕ) → 4 * notices ≤ numbers → notices ≤ most_notices → answer_room ≤ length out
    → (n ≡ printed_count (cannot_print notices numbers (length out)) bytes) × (after ≡ printed (cannot_print notices numbers (length out)) bytes out)
    → Prints bytes out n after
prints bytes out after n notices numbers a b c e =
    let all = all_printed bytes out (can_print notices numbers (length out) a (omega arith)) in
    record { count = e.0 ∙ all.0; front = e.1 ∙ all.1 }

-- the line of a refusal, or what is told without one
module _ (a : Answer) (statement : List ℕ) where
  pub refusal_told : {b : Answer} → is_refusal a ≡ true → a ≡ b → refused_bytes a.number (get_or a.values 0 0) ≡ told_bytes b statement
  unfolding told_bytes
  refusal_told t e = rw (← e, t)

  pub statement_told : is_refusal a ≡ false → statement ≡ told_bytes a statement
  unfolding told_bytes
  statement_told t = rw t

-- the book of a winter, cut from one of 152 days, is the one that the text fills
pub book_fits : (w n : ℕ) → n ≡ days w → book_length n ≤ most_readings
book_fits w n e = ⊎_elim (λ d. omega (arith, e, d)) (λ d. omega (arith, e, d)) (days_two w)

pub winter_book : (w : ℕ) (xs : List ReadLine) → take (book_length (days w)) (book_in xs (replicate most_readings missing_mark)) ≡ book_in xs (no_readings w)
winter_book w xs =
    book_front (book_length (days w)) xs (replicate most_readings missing_mark)
    ∙ ap (book_in xs) (take_replicate (book_length (days w)) most_readings missing_mark (book_fits w (days w) refl))

-- the front of the list that the text fills is its notices
pub list_front : (events : ℕ) (l list : List ℕ) → events ≤ most_notices → Holds events l list → take (notice_numbers * events) list ≡ l
list_front events l list few h =
    let fits : 0 + length l ≤ length (replicate {A = ℕ} longest_list 0) = omega (arith, length-replicate {A = ℕ} longest_list 0, h.three) in
    ap (take (notice_numbers * events)) (h.held ∙ sets-eq l (replicate longest_list 0) 0 fits) ∙ take_at l _ (notice_numbers * events) h.three
