-- Refusals are exact: the call is accepted exactly when it is right and its list keeps every rule of the winter credit; what is answered is told by
-- the table; and a refusal leaves a total of 0 and writes nothing.
-- Assumes nothing.
use Prim.Native.Nat.{ℕ, ◌*◌, ◌≤◌}
use mathlib.Core.Bool.{Bool, true, false}
use mathlib.Core.List.{List}
use mathlib.Core.Logic.{inl, ◌↔◌}
use mathlib.Core.Path.{◌≡◌, refl, ap}
use lib.ListN.{length}
use Rattle.book.specs.Length.{book_length}
use Rattle.dates.specs.Winters.{days}
use Rattle.laws.proofs.Tables.{unrefused_none}
use Rattle.laws.proofs.Tells.{Tells, table_tells}
use Rattle.laws.specs.Answer.{Answer}
use Rattle.laws.specs.Table.{Row, is_refusal}
use Rattle.notices.specs.Notices.{count_of}
use Rattle.notices.specs.Profiles.{figures_of}
use Rattle.notices.specs.declared.profiles.Profile.TheVariants.{Credit}
use Rattle.schedule.proofs.Accepted.{Lawful}
use Rattle.settlement.specs.Energies.{Spared, energies_of, energies_written}
use Rattle.settlement.specs.Lines.{line_numbers}
use Rattle.settlement.specs.Refusals.{energies_table, refusal_of}
use Rattle.settlement.proofs.CallLaws.{RightCall}
use Rattle.settlement.proofs.EnergiesLaws.{number_is, answer_accepted, refused_by, written_by_lem}
use Rattle.settlement.proofs.RefusalLaws.{table_numbered, unrefused_right, list_lawful, right_accepted}

-- all that the call asks: rule 10.3, with its own rules
pub record Settles (w readings : ℕ) (l : List ℕ) (room : ℕ) : Type 0 where
  pub book : readings ≡ book_length (days w)
  pub list : Lawful w (figures_of Credit) l
  pub room_enough : line_numbers * count_of l ≤ room

pub accepted_iff_settles : (w : ℕ) (book l : List ℕ) (room : ℕ) → ((energies_of w book l room).number ≡ 0) ↔ Settles w (length book) l room
accepted_iff_settles w book l room = (
  λ e. let n = number_is w book l room e in
      let s = unrefused_right w (length book) l room n in
      record { book = s.book; list = list_lawful w (length book) l room n; room_enough = s.room_enough },
  λ s. let r = s.list in
      let c : RightCall w (length book) (length l) room =
      record { winter = r.winter; book = s.book; whole = r.whole; few = r.few; room_enough = s.room_enough } in
      rw (answer_accepted w book l room (right_accepted w (length book) l room c r)) refl,
)

-- number and place are told by the table: 0 where no row is broken, else those of its first broken row
pub energies_tell : (w : ℕ) (book l : List ℕ) (room : ℕ)
    → Tells (energies_table w (length book) l room) (energies_of w book l room).number (energies_of w book l room).place
unfolding refusal_of
energies_tell w book l room = by (is_refusal refusal) refl
  where
    table : List Row
    table = energies_table w (length book) l room

    refusal : Answer
    refusal = refusal_of w (length book) l room

    by : (b : Bool) → is_refusal refusal ≡ b → Tells table (energies_of w book l room).number (energies_of w book l room).place
    by true q = rw (refused_by w book l room q) (table_tells table (table_numbered w (length book) l room) refusal refl)
    by false q =
        rw (answer_accepted w book l room q)
        (inl (record { none_broken = unrefused_none table (table_numbered w (length book) l room) q; number_none = refl; place_none = refl }))

-- a refusal writes nothing, and its total is 0
module _ (w : ℕ) (book l out : List ℕ) (refused : (energies_of w book l (length out)).number ≡ 0 → ⊥) where
  is_refusal_lem : is_refusal (refusal_of w (length book) l (length out)) ≡ true
  is_refusal_lem = by (is_refusal (refusal_of w (length book) l (length out))) refl
    where
      by : (b : Bool) → is_refusal (refusal_of w (length book) l (length out)) ≡ b → is_refusal (refusal_of w (length book) l (length out)) ≡ true
      by true q = q
      by false q = absurd (refused (ap (λ (s : Spared). s.number) (answer_accepted w book l (length out) q)))

  pub refused_untouched : energies_written w book l out ≡ out
  refused_untouched = written_by_lem w book l out is_refusal_lem

  pub refused_total : (energies_of w book l (length out)).energy ≡ 0
  refused_total = rw (refused_by w book l (length out) is_refusal_lem) refl
