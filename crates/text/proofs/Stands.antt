-- Which texts are accepted: those of some values that can be written in the form, not too long, and of which every rule is kept. Both directions,
-- row by row.
-- Assumes nothing.
use Prim.Native.Nat.{ℕ, ◌≤◌}
use mathlib.Core.Bool.{false, true≢false}
use mathlib.Core.List.{List}
use mathlib.Core.Logic.{◌↔◌}
use mathlib.Core.Path.{◌≡◌, refl, sym, ap, ◌∙◌}
use Rattle.std.specs.Option.{is_some}
use Rattle.std.specs.Prelude.{Option, Some, None, Result, Ok, Err}
use lib.ListN.{length}
use borrow.Author.Tests.{ltb-false, le-ltb}
use Rattle.dates.proofs.Promise.{winter_range}
use Rattle.dates.specs.Winters.{no_winter, days}
use Rattle.form.proofs.Converse.{Held, form_written}
use Rattle.form.proofs.Formed.{form_of_held}
use Rattle.form.specs.Document.{notices_in}
use Rattle.form.specs.Form.{form_of, notices_said}
use Rattle.form.specs.Places.{misplaced_line_in}
use Rattle.form.specs.declared.lines.BrokenLine.{BrokenLine}
use Rattle.form.specs.declared.whole.Shape.{Shape}
use Rattle.laws.specs.Table.{accepted}
use Rattle.money.proofs.PriceLaws.{RightPrice, right_price, price_right}
use Rattle.notices.specs.Profiles.{figures_of}
use Rattle.notices.specs.declared.profiles.Profile.TheVariants.{Credit}
use Rattle.schedule.proofs.Accepted.{Lawful, notices_lawful, lawful_notices, whole_test}
use Rattle.text.specs.Refusals.{most_bytes, value_rows, text_table, text_refusal}
use Rattle.text.specs.Values.{is_broken, winter_said, price_said, misplaced_said}
use Rattle.text.proofs.FirstRefusal.{accepted_iff_none}
use Rattle.text.proofs.HeldValues.{winter_is, price_is, notices_are, line_is}

pub record TextStands (s : List ℕ) : Type 0 where
  pub short : length s ≤ most_bytes
  pub held : Held s
  pub placed : misplaced_line_in (days held.document.winter) held.document ≡ None
  pub price : RightPrice held.document.price
  pub list : Lawful held.document.winter (figures_of Credit) (notices_in held.document.events)

none_is : (line : Option ℕ) → is_some line ≡ false → line ≡ None
none_is None e = refl
none_is (Some n) e = absurd (true≢false e)

module _ (s : List ℕ) where
  -- a text whose form is not broken has it
  whole : (f : Result Shape BrokenLine) → is_broken f ≡ false → form_of s ≡ f → Held s
  whole (Ok f) e q = form_written s f q
  whole (Err b) e q = absurd (true≢false e)

  stands : text_refusal s ≡ accepted → TextStands s
  unfolding text_table value_rows
  stands ok =
      let none = (accepted_iff_none s).0 ok in
      let t = whole (form_of s) none.1.0 refl in
      let d = t.document in
      let values = none.1.1 in
      let winter : no_winter d.winter ≡ false = ap no_winter (sym (winter_is s t)) ∙ values.0 in
      let line = none_is (misplaced_said s) values.1.0 in
      let priced = values.1.1 in
      let listed = priced.1 in
      let lawful = notices_lawful (winter_said s) (figures_of Credit) (notices_said s) values.0 listed.0 listed.1 in
      record {
        short = ltb-false most_bytes (length s) none.0;
        held = t;
        placed = sym (line_is s t winter) ∙ line;
        price = rw (← price_is s t) (right_price (price_said s) priced.0);
        list = rw (← winter_is s t, ← notices_are s t) lawful;
      }

  accepts : TextStands s → text_refusal s ≡ accepted
  unfolding text_table value_rows
  accepts st =
      let t = st.held in
      let d = t.document in
      let l = st.list in
      let winter : no_winter d.winter ≡ false = (winter_range d.winter).1 l.winter in
      let whole_form : is_broken (form_of s) ≡ false = ap is_broken (form_of_held s t).is in
      let no_line : is_some (misplaced_said s) ≡ false = rw (line_is s t winter, st.placed) in
      (accepted_iff_none s).1 (
        le-ltb most_bytes (length s) st.short,
        (
          whole_form,
          (
            rw (winter_is s t) winter,
            (
              no_line,
              (
                rw (price_is s t) (price_right d.price st.price),
                (
                  rw (notices_are s t) (whole_test (length (notices_in d.events)) l.whole l.few),
                  rw (winter_is s t, notices_are s t) (lawful_notices d.winter (figures_of Credit) (notices_in d.events) l),
                ),
              ),
            ),
          ),
        ),
      )

  -- DEMAND 2, of a text
  pub accepted_iff_stands : (text_refusal s ≡ accepted) ↔ TextStands s
  accepted_iff_stands = (stands, accepts)
