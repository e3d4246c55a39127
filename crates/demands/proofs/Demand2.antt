-- Demand 2: a list is accepted exactly when it keeps every rule of its profile (`Lawful`), and of an accepted one each line is that of its event
-- (`Demand2`).
-- Assumes nothing.
use Prim.Native.Nat.{ℕ, ◌*◌, ◌/◌, ◌<◌}
use mathlib.Core.List.{List}
use mathlib.Core.Logic.{◌↔◌}
use mathlib.Core.Path.{◌≡◌, refl, ap, ◌∙◌}
use native.Mathlib.Omega.{arith}
use lib.ListN.{length, replicate}
use Rattle.boundary.proofs.Told.{check_told, settle_told, accepted_told}
use Rattle.boundary.specs.Calls.{check_call, settle_call, settle_bytes}
use Rattle.wire.specs.Decoded.{decoded}
use Rattle.calendar.specs.WinterOf.{winter_of}
use Rattle.credit.proofs.Demands.{line_is_answer}
use Rattle.credit.proofs.Exact.{Settles, accepted_iff_settles}
use Rattle.credit.specs.Lines.{line_numbers}
use Rattle.credit.specs.Settlement.{settlement, written}
use Rattle.energy.proofs.WhyUnsettled.{asked_is}
use Rattle.energy.specs.Line.{line_of}
use Rattle.references.specs.ReferenceDays.{free_in}
use Rattle.event_hours.specs.Days.{masks_of}
use Rattle.laws.proofs.Tells.{place_in}
use Rattle.laws.specs.Answer.{Answer}
use Rattle.laws.specs.Table.{accepted}
use Rattle.form.specs.Document.{Document, notices_in}
use Rattle.form.specs.Form.{notices_said}
use Rattle.form.specs.Places.{book_in}
use Rattle.notices.specs.Notices.{count_of, notice_at}
use Rattle.notices.specs.Profiles.{figures_of, profile_number}
use Rattle.notices.specs.declared.profiles.Profile.TheVariants.{Credit}
use Rattle.notices.specs.declared.profiles.Profile.{Profile}
use Rattle.schedule.proofs.Accepted.{Lawful, check_accepted, accepted_iff_lawful}
use Rattle.schedule.proofs.Standing.{Standing}
use Rattle.schedule.proofs.Together.{accepted_standing}
use Rattle.schedule.specs.ListCheck.{check_answer}
use Rattle.text.proofs.HeldValues.{winter_is, book_is, notices_are}
use Rattle.text.proofs.Stands.{TextStands, accepted_iff_stands}
use Rattle.text.proofs.Statements.{room, standing}
use Rattle.text.specs.Refusals.{text_refusal}
use Rattle.text.specs.Statement.{statement_of}
use Rattle.text.specs.Values.{winter_said, price_said, no_readings, book_said}
use Rattle.demands.specs.Demand2.{Demand2}
use Rattle.demands.specs.Faces.{Sheet, in_output, in_bytes, in_statement, ShowsNotice}
use Rattle.demands.proofs.LentBytes.{just, same_lines}
use Rattle.demands.proofs.Lines.{event_line_lem}
use Rattle.demands.proofs.Printed.{notice_shown, printed_same}
use Rattle.demands.proofs.Sheets.{demand_2_same}

-- lists, under either profile: on numbers, and from C
pub check_lawful : (winter : ℕ) (profile : Profile) (list : List ℕ)
    → (check_answer winter (profile_number profile) list ≡ accepted) ↔ Lawful winter (figures_of profile) list
check_lawful = accepted_iff_lawful

pub check_lawful_c : (winter : ℕ) (profile : Profile) (list : List ℕ)
    → (check_call winter (profile_number profile) list ≡ 0) ↔ Lawful winter (figures_of profile) (decoded list)
check_lawful_c winter profile list =
    let q = profile_number profile in
    let told = check_told winter q list in (
      λ (z : check_call winter q list ≡ 0). let none : (check_answer winter q (decoded list)).number ≡ 0 = omega (arith, told.0) in
          (accepted_iff_lawful winter profile (decoded list)).0 (check_accepted winter q (decoded list) (rw none)),
      λ r. let is = (accepted_iff_lawful winter profile (decoded list)).1 r in
          omega (arith, told.0, told.1, ap (λ (a : Answer). a.number) is, ap place_in is),
    )

-- settlements, under the winter credit's rules, with what the call itself asks: on numbers, and from C
pub settle_lawful : (winter price : ℕ) (book list : List ℕ) (room : ℕ)
    → ((settlement winter book price list room).number ≡ 0) ↔ Settles winter (length book) price list room
settle_lawful = accepted_iff_settles

pub settle_lawful_c : (winter price : ℕ) (book list out : List ℕ)
    → (settle_call winter book price list (length out) ≡ 0) ↔ Settles winter (length (decoded book)) price (decoded list) (length out / 8)
settle_lawful_c winter price book list out =
    let exactly = accepted_iff_settles winter price (decoded book) (decoded list) (length out / 8) in (
      λ (z : settle_call winter book price list (length out) ≡ 0). exactly.0 (omega (arith, (settle_told winter price book list out).0)),
      λ s. accepted_told winter price book list out (exactly.1 s),
    )

-- the lines of an accepted settlement, on numbers
module _ (winter price : ℕ) (book list out : List ℕ) (ok : (settlement winter book price list (length out)).number ≡ 0) where
  list_stands : Standing winter (figures_of Credit) list
  list_stands =
      let settles = (accepted_iff_settles winter price book list (length out)).0 ok in
      accepted_standing winter Credit list ((accepted_iff_lawful winter Credit list).1 settles.list)

  pub lines : Demand2 winter book list (in_output (count_of list) (written winter book price list out))
  lines =
      record {
        as_many = refl;
        each = λ k h. event_line_lem list_stands book (notice_at list k) (list_stands.each k h) _ _ _
            (line_is_answer winter price book list out ok k h ∙ ap (line_of book) (asked_is (winter_of winter) (free_in (masks_of list)) (notice_at list k)));
      }

-- the same of the numbers that C reads out of the bytes it lent
pub lines_c : (winter price : ℕ) (book list out : List ℕ) → settle_call winter book price list (length out) ≡ 0
    → Demand2 winter (decoded book) (decoded list) (in_bytes (count_of (decoded list)) (settle_bytes winter book price list out))
lines_c winter price book list out ok =
    let room : List ℕ = replicate (line_numbers * count_of (decoded list)) 0 in
    demand_2_same (same_lines winter price book list out ok) (lines winter price (decoded book) (decoded list) room (just winter price book list out ok))

-- texts: accepted exactly when the text is not too long and of some values, and these keep every rule (`TextStands`)
pub text_lawful : (text : List ℕ) → (text_refusal text ≡ accepted) ↔ TextStands text
text_lawful = accepted_iff_stands

-- the lines that stand in the statement of such a text, by its values; each shows its notice
by_values : {w w' : ℕ} {book book' list list' : List ℕ} {s : Sheet} → w ≡ w' → book ≡ book' → list ≡ list' → Demand2 w book list s → Demand2 w' book' list' s
by_values w book list d = rw (← w, ← book, ← list) d

module _ (text : List ℕ) (stands : TextStands text) where
  ok : text_refusal text ≡ accepted
  ok = (accepted_iff_stands text).1 stands

  abbrev pub values : Document
  values = stands.held.document

  pub lines_text : Demand2 values.winter (book_in values.reads (no_readings values.winter)) (notices_in values.events) (in_statement (statement_of text))
  lines_text =
      let held = stands.held in
      let numbers = lines (winter_said text) (price_said text) (book_said text) (notices_said text) (room text ok) (standing text ok) in
      by_values (winter_is text held) (book_is text held) (notices_are text held) (demand_2_same (printed_same text ok) numbers)

  pub notices_text : (k : ℕ) → k < count_of (notices_in values.events) → ShowsNotice (statement_of text) k (notice_at (notices_in values.events) k)
  notices_text = shows (notices_are text stands.held) (notice_shown text ok)
    where
      shows : {list list' : List ℕ} → list ≡ list' → ((k : ℕ) → k < count_of list → ShowsNotice (statement_of text) k (notice_at list k))
          → (k : ℕ) → k < count_of list' → ShowsNotice (statement_of text) k (notice_at list' k)
      shows e f = rw (← e) f
