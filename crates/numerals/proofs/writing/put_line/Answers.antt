-- `put_line` puts the key and behind it the numbers, where there is room for them; else nothing.
-- Assumes nothing.
use mathlib.Core.Path.{sym}
use Rattle.laws.proofs.Guards.{found}
use Rattle.numerals.proofs.FieldWalk.{line_whole}
use Rattle.numerals.proofs.PutLaws.{put_same, put_then}
use Rattle.numerals.proofs.writing.put_line.Goals as goal

pub returns-clause-put : goal.returns-clause-put
returns-clause-put c =
    let whole = line_whole _ _ c.args.key.now c.args.numbers.now (found c.no_room.ensures c.if-no_room.false) in
    put_same (put_then c.put_key-first.ensures c.put_fields.ensures.put) (sym whole)
