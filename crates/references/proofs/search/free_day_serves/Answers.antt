-- `free_day_serves` goes by the kind of the day, which is a book day and so has one.
-- Assumes nothing.
use native.Mathlib.Omega.{arith}
use Rattle.references.specs.Search.{free_serves}
use Rattle.references.proofs.KindLaws.{kind_there}
use Rattle.references.proofs.search.free_day_serves.Goals as goal

pub returns : goal.returns
unfolding free_serves
returns c =
    let is = kind_there _ _ _ c.requires c.kind_of.ensures in
    let told = rw is at c.is_ok_and.ensures in
    grind (arith, told)
