-- `put_totals` puts two lines of one number, for which there is room.
-- Assumes nothing.
use native.Mathlib.Omega.{arith}
use Rattle.numerals.proofs.FieldWalk.{whole_line}
use Rattle.numerals.proofs.PutLaws.{put_length, put_last, put_more}
use Rattle.numerals.specs.Words.{bytes_of}
use Rattle.printing.proofs.sheet.put_totals.Goals as goal

pub returns-clause-put : goal.returns-clause-put
returns-clause-put c =
    let energy = whole_line (bytes_of "energy=") _ c.put_line-last.ensures.put (omega arith) in
    let total = whole_line (bytes_of "total=") _ c.put_line.ensures.put (omega (arith, put_length energy)) in
    put_more _ energy _ (put_last _ total)
