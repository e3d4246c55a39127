-- `fetch` takes the part of each of the six days, all of which the book has.
-- Assumes nothing.
use Prim.Native.Nat.{ℕ}
use mathlib.Core.List.{List}
use mathlib.Core.Path.{◌≡◌, refl, sym, ◌∙◌}
use native.Mathlib.Omega.{arith}
use lib.ListN.{length}
use borrow.Author.Rules.{rules}
use Rattle.std.proofs.Common.{lit<}
use Rattle.std.proofs.lemmas.Iterator.Adapters.{serves_from_places}
use Rattle.std.proofs.lemmas.Iterator.Consumers.{YieldsList-from_shown}
use Rattle.std.specs.Array.{list_steps}
use Rattle.energy.proofs.days.SixDays.fetch.Goals as goal

pub map-refs-requires : goal.map-refs-requires
map-refs-requires c =
    let road = YieldsList-from_shown list_steps (λ (x : ℕ). x) (λ (s : List ℕ). s) (λ s t e. rw e refl) (λ s x t e. e) c.args.refs in
    let callable = serves_from_places road (λ x q k. search rules) (λ x k b is. let there = c.requires.refs_there k x b in search rules) in
    (lit< tt, (lit< tt, (lit< tt, callable)))

pub returns : goal.returns
returns c =
    let five : length c.args.refs ≡ 5 = search rules in
    record {
      event_is = c.fetch-event.ensures;
      long = c.map-refs.ensures.items.long ∙ sym five;
      refs_are = λ k d b. let called = c.map-refs.ensures.items.at k 0 d (omega (arith, five)) in search rules;
    }
