-- The walk over the read lines: its invariant, that the lines that are left end where all end, put into the book what all put, and have the
-- first misplaced line of all unless one was found before; with its start, its turn and its ways out over plain variables.
-- Assumes nothing.
use Prim.Native.Nat.{ℕ, ◌+◌, ◌-◌, ◌≤◌, ◌<◌}
use mathlib.Core.Bool.{Bool, true, false, cond}
use mathlib.Core.List.{List}
use mathlib.Core.Path.{◌≡◌, refl, sym, ap, ◌∙◌}
use native.Mathlib.Omega.{arith}
use lib.ListN.{length}
use Rattle.std.proofs.lemmas.Option.{none-some}
use Rattle.std.specs.Bool.{then_some}
use Rattle.std.specs.Option.{option_or}
use Rattle.std.specs.Prelude.{Option, Some, None, Result, Ok}
use Rattle.form.specs.declared.lines.Placed.{Placed}
use Rattle.form.specs.declared.lines.BrokenLine.{BrokenLine}
use Rattle.numerals.specs.Fields.{after_step}
use Rattle.numerals.specs.Rows.{Read}
use Rattle.form.specs.Document.{ReadLine}
use Rattle.form.specs.Lines.{read_line_at, lines_end, lines_said, breaks}
use Rattle.form.specs.Places.{hour_place, end_of, misplaced_by, misplaced, misplaced_in, book_in, hours_told, placed_lines, hours, placed}
use Rattle.form.proofs.Parts.{hours_parts}
use Rattle.form.proofs.LineLaws.{lines_done, said_done, lines_bad, said_bad, lines_more, said_more}
use Rattle.form.proofs.OneLine.{ReadPut}

-- what is told of a read line: that it is broken, or its hours and where it ends
pub hours_broken : (r : Read ReadLine) → None ≡ hours_told r → r.end ≡ None
hours_broken r e = by r.end e
  where
    by : (x : Option ℕ) → None ≡ after_step None x (λ p. Some (hours r.said.day r.said.hour (length r.said.values) p))
        → x ≡ None
    by (Some p) e = let z : ◌≡◌ {A = ℕ} 0 1 = cc in absurd (omega arith)
    by None e = refl

pub record HoursOf (r : Read ReadLine) (day hour count p : ℕ) : Type 0 where
  pub ends : r.end ≡ Some p
  pub its_day : day ≡ r.said.day
  pub its_hour : hour ≡ r.said.hour
  pub many : count ≡ length r.said.values

pub hours_of_lem : (r : Read ReadLine) {day hour count p : ℕ} → Some (hours day hour count p) ≡ hours_told r → HoursOf r day hour count p
hours_of_lem r {day} {hour} {count} {p} e = by r.end refl e
  where
    by : (x : Option ℕ) → r.end ≡ x
        → Some (hours day hour count p) ≡ after_step None x (λ q. Some (hours r.said.day r.said.hour (length r.said.values) q))
        → HoursOf r day hour count p
    by (Some q) i e =
        let same = hours_parts e in
        record { ends = i ∙ ap Some (sym same.3); its_day = same.0; its_hour = same.1; many = same.2 }
    by None i e = absurd (none-some (hours day hour count p) (sym e))

-- the first misplaced line, that was found or is among the lines that are left, once one line more was tested
found_turn : (found : Option ℕ) (here : Bool) (line : ℕ) (rest : Option ℕ)
    → option_or found (cond here (Some line) rest) ≡ option_or (option_or found (then_some here line)) rest
found_turn (Some n) here line rest = refl
found_turn None true line rest = refl
found_turn None false line rest = refl

found_none : (found : Option ℕ) → option_or found None ≡ found
found_none (Some n) = refl
found_none None = refl

-- of so many read lines from `at` on, of which the first is line `first`, k are done: the next stands at i, the one before ends before place
-- `end`, and `found` is the first misplaced line so far
pub record ReadsLeft (days : ℕ) (s : List ℕ) (at reads first : ℕ) (came book : List ℕ) (i end : ℕ) (found : Option ℕ) (k : ℕ) : Type 0 where
  pub ends : lines_end (read_line_at s) reads at first ≡ lines_end (read_line_at s) (reads - k) i (first + k)
  pub first_misplaced_lem : misplaced_in days (lines_said (read_line_at s) reads at) first 0
      ≡ option_or found (misplaced_in days (lines_said (read_line_at s) (reads - k) i) (first + k) end)
  pub puts : book_in (lines_said (read_line_at s) reads at) came ≡ book_in (lines_said (read_line_at s) (reads - k) i) book

pub reads_start : (days : ℕ) (s : List ℕ) (at reads first : ℕ) (came : List ℕ) → ReadsLeft days s at reads first came came at 0 None 0
reads_start days s at reads first came =
    let z : reads - 0 ≡ reads = omega arith in
    let y : first + 0 ≡ first = omega arith in
    record { ends = rw (z, y); first_misplaced_lem = rw (z, y); puts = rw z }

-- what the walk answers and leaves in the book
abbrev pub ReadsPut : ℕ → List ℕ → ℕ → ℕ → ℕ → List ℕ → Result Placed BrokenLine → List ℕ → Type 0
ReadsPut days s at reads first came told after = (told ≡ placed_lines days reads s at first) × (after ≡ book_in (lines_said (read_line_at s) reads at) came)

module _ {days : ℕ} {s : List ℕ} {at reads first : ℕ} {came book : List ℕ} {i end : ℕ} {found : Option ℕ} {k : ℕ}
    (h : ReadsLeft days s at reads first came book i end found k) where
  pub reads_end : reads ≤ k → ReadsPut days s at reads first came (Ok (placed i found)) book
  unfolding placed_lines misplaced_in book_in
  reads_end all =
      let none = said_done (read_line_at s) reads k i all in
      let whole = h.ends ∙ lines_done (read_line_at s) reads k i (first + k) all in
      let first : misplaced_in days (lines_said (read_line_at s) reads at) first 0 ≡ found = h.first_misplaced_lem ∙ rw none (found_none found) in
      let all : book_in (lines_said (read_line_at s) reads at) came ≡ book = h.puts ∙ rw none in
      (rw (whole, first), sym all)

  module _ (more : k < reads) {after : List ℕ} where
    -- the line is broken, and the values that were read of it are put
    pub reads_stop : ReadPut s i book None after → ReadsPut days s at reads first came (breaks (first + k)) after
    unfolding placed_lines book_in
    reads_stop put =
        let bad = hours_broken (read_line_at s i) put.0 in
        let broken = h.ends ∙ lines_bad (read_line_at s) reads k i more (first + k) bad in
        (rw broken, sym (h.puts ∙ rw (said_bad (read_line_at s) reads k i more bad) (sym put.1)))

    -- it is whole, its values are put, and it is misplaced or not
    pub reads_next : {day hour count next : ℕ} {after_found : Option ℕ} {here : Bool} → ReadPut s i book (Some (hours day hour count next)) after
        → here ≡ misplaced_by days end day hour count → after_found ≡ option_or found (then_some here (first + k))
        → ReadsLeft days s at reads first came after next (hour_place day hour + count) after_found (k + 1)
    unfolding misplaced_in book_in
    reads_next {day} {hour} {count} {next} {after_found} {here} put test now =
        let told = hours_of_lem (read_line_at s i) put.0 in
        let said = (read_line_at s i).said in
        let rest = lines_said (read_line_at s) (reads - (k + 1)) next in
        let more_said = said_more (read_line_at s) reads k i more told.ends in
        let place : hour_place day hour + count ≡ end_of said = rw (told.its_day, told.its_hour, told.many) in
        let tested : here ≡ misplaced days end said = test ∙ rw (told.its_day, told.its_hour, told.many) in
        let line : first + k + 1 ≡ first + (k + 1) = omega arith in
        let later = misplaced_in days rest (first + (k + 1)) (end_of said) in
        let turned : option_or found (cond (misplaced days end said) (Some (first + k)) later) ≡ option_or after_found later
        = found_turn found (misplaced days end said) (first + k) later ∙ rw (now, tested) in
        record {
          ends = h.ends ∙ lines_more (read_line_at s) reads k i more first told.ends;
          first_misplaced_lem = h.first_misplaced_lem ∙ rw (more_said, place, line) turned;
          puts = h.puts ∙ rw (more_said, put.1);
        }
