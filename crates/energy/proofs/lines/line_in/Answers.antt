-- `line_in` answers 20 for fewer than five reference days, else by the six days, all of which the book has.
-- Assumes nothing.
use Rattle.references.proofs.FoundLaws.{refs_found}
use Rattle.energy.proofs.BookParts.{days_ready, book_line}
use Rattle.energy.proofs.LineLaws.{counted_few, days_are, parts_ready, line_five}
use borrow.Author.Rules.{rules}
use Rattle.energy.proofs.lines.line_in.Goals as goal

pub returns-then-found-lt5 : goal.returns-then-found-lt5
returns-then-found-lt5 c =
    let found = refs_found _ _ _ _ c.requires.book_day c.reference_days-found.ensures in
    counted_few _ _ c.args.n _ found _ c.if-found-lt5.true

pub fetch-requires : goal.fetch-requires
fetch-requires c =
    let found = refs_found _ _ _ _ c.requires.book_day c.reference_days-found.ensures in
    parts_ready _ _ c.args.n _ (days_are _ _ c.args.n _ found c.if-found-lt5.false) _ c.requires.day_there

pub line-requires : goal.line-requires
line-requires c =
    let found = refs_found _ _ _ _ c.requires.book_day c.reference_days-found.ensures in
    let ready = parts_ready _ _ c.args.n _ (days_are _ _ c.args.n _ found c.if-found-lt5.false) _ c.requires.day_there in
    days_ready _ _ _ _ c.fetch.ensures (search rules) _ c.hours_of-hours.ensures.inside c.args.w _ ready

pub returns : goal.returns
returns c =
    let found = refs_found _ _ _ _ c.requires.book_day c.reference_days-found.ensures in
    line_five _ _ c.args.n _ (days_are _ _ c.args.n _ found c.if-found-lt5.false) _ c.hours_of-hours.ensures _
    (book_line _ _ _ _ c.fetch.ensures (search rules) _ c.hours_of-hours.ensures.inside c.line.ensures)
