-- `first_fault` is what the search over its range finds.
-- Assumes nothing.
use Rattle.std.proofs.Common.{rules}
use Rattle.book.proofs.FoundLaws.{found}
use Rattle.book.proofs.runs.first_fault.Goals as goal

pub returns : goal.returns
returns c = found c.args.values.now _ _ (λ x r q k. search rules) _ _ _ _ c.end_among-end.ensures c.find_map.ensures.runs
