-- What is left to show of `check_notices`, by the invariant in `Invariants.antt`.
-- Assumes nothing.
use mathlib.Core.Path.{◌≡◌, ◌∙◌}
use Rattle.std.proofs.Common.{rules}
use Rattle.std.specs.Prelude.{Err}
use Rattle.refusals.specs.Refusals.{rule_paper, verdict_paper}
use Rattle.refusals.specs.declared.rule.Rule.{Rule}
use Rattle.schedule.proofs.Walk.{nothing_is, walk_start, walk_stop, walk_fits, walk_next, walk_done}
use Rattle.schedule.proofs.notice_check.Terms.check_notices.Goals as goal

pub loop-k-init : goal.loop-k-init
loop-k-init g c = walk_start _ _ _ _ _ (nothing_is _ _ c.default-so.ensures)

pub notice_verdict-requires : goal.notice_verdict-requires
notice_verdict-requires g c = c.loop-k.invariant.small

pub returns-in_err-map_err : goal.returns-in_err-map_err
returns-in_err-map_err g c =
    let told : verdict_paper c.from_residual.result ≡ rule_paper c.notice_verdict.result c.loop-k.k = search rules in
    let refused : (rule : Rule) × (c.notice_verdict.result ≡ Err rule) = search rules in
    told ∙ walk_stop c.loop-k.invariant _ c.notice-n.ensures c.notice_verdict.ensures refused.0 c.loop-k-test.true refused.1

pub after_notice-so-requires : goal.after_notice-so-requires
after_notice-so-requires g c = walk_fits c.loop-k.invariant _ c.notice-n.ensures c.notice_verdict.ensures c.args.self.figures (search rules)

pub loop-k-preserved : goal.loop-k-preserved
loop-k-preserved g c =
    walk_next c.loop-k.invariant _ c.notice-n.ensures c.notice_verdict.ensures c.args.self.figures (search rules) c.loop-k-test.true
    c.after_notice-so.ensures

pub returns : goal.returns
returns g c = walk_done c.loop-k.invariant c.loop-k-test.false
