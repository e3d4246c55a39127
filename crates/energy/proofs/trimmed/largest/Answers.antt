-- `largest` is what the iterator finds.
-- Assumes nothing.
use Prim.Native.Nat.{ℕ}
use mathlib.Core.Path.{sym, ap, ◌∙◌}
use Rattle.std.proofs.Common.{Option, unwrap_or}
use Rattle.std.proofs.lemmas.Iterator.{YieldsList-from_slice}
use Rattle.std.proofs.lemmas.Iterator.Adapters.{option_map_id}
use Rattle.std.proofs.lemmas.Iterator.Consumers.{YieldsList-from_copied, max_from_yields_List}
use Rattle.energy.proofs.TrimmedLaws.{largest_is}
use Rattle.energy.proofs.trimmed.largest.Goals as goal

pub returns : goal.returns
returns c =
    let found = max_from_yields_List _ c.max.result c.max.ensures.ran (YieldsList-from_copied (YieldsList-from_slice c.args.five.now cc)) in
    c.unwrap_or.ensures ∙ ap (λ (o : Option ℕ). unwrap_or o 0) (sym (option_map_id c.max.result) ∙ found) ∙ largest_is c.args.five.now
