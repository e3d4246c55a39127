-- `answer` has room for every statement, of which no byte is lost; what it read is all of the text, or shows that the text is too long, unless a
-- read failed.
-- Assumes nothing.
use Rattle.std.proofs.Common.{rules, sym, subst, length-take-le}
use Rattle.std.specs.Io.KnownBytes.{Appends}
use Rattle.text.proofs.StatementLaws.{answered_within}
use Rattle.statement.proofs.Known.{front_short}
use Rattle.statement.proofs.Said.{holds_statement, said_for_all}
use Rattle.statement.proofs.answer.Goals as goal

pub slice_bounds-out-end : goal.slice_bounds-out-end
slice_bounds-out-end g c = let s = c.statement-written in answered_within _ _ _ _ (s.ensures.value, s.ensures.out_after) s.auto.out

pub slice_bounds-write_all-end : goal.slice_bounds-write_all-end
slice_bounds-write_all-end g c =
    let s = c.statement-written in
    sym (length-take-le _ _ (answered_within _ _ _ _ (s.ensures.value, s.ensures.out_after) s.auto.out))

pub returns : goal.returns
returns g c =
    let s = c.statement-written in
    let read = c.read_front-read.ensures in
    let holds = holds_statement _ _ _ _ (search rules) s.ensures.value s.ensures.out_after in
    λ whole. said_for_all _ _ _ _ _ read.bytes (λ h. read.end whole (front_short _ _ _ read.bound (search rules) h))
    (subst (Appends _ _) holds c.in_ok-write_all.ensures.bytes)
