-- `reference_days` asks the calendar for the kind of the event day: of a book day it gives the nearest days, else none.
-- Assumes nothing.
use mathlib.Core.Path.{◌∙◌}
use Rattle.references.proofs.FoundLaws.{refs_given, refs_none}
use Rattle.references.proofs.KindLaws.{told_day}
use Rattle.references.proofs.search.reference_days.Goals as goal

pub nearest_before-requires : goal.nearest_before-requires
nearest_before-requires c = told_day _ _ _ _ c.in-Ok.is c.kind_of.ensures

pub returns-in-Ok : goal.returns-in-Ok
returns-in-Ok c =
    let on_day = told_day _ _ _ _ c.in-Ok.is c.kind_of.ensures in
    c.nearest_before.ensures ∙ refs_given _ _ _ _ on_day.day

pub returns-in-Err : goal.returns-in-Err
returns-in-Err c = c.no_refs.ensures ∙ refs_none _ _ _ _ _ _ c.in-Err.is c.kind_of.ensures
