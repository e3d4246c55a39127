-- `put_head` puts three lines of one number, for which there is room.
-- Assumes nothing.
use native.Mathlib.Omega.{arith}
use Rattle.numerals.proofs.FieldWalk.{whole_line}
use Rattle.numerals.proofs.PutLaws.{put_length, put_last, put_more}
use Rattle.numerals.specs.Words.{bytes_of}
use Rattle.printing.proofs.sheet.put_head.Goals as goal

pub returns-clause-put : goal.returns-clause-put
returns-clause-put c =
    let winter = whole_line (bytes_of "winter=") _ c.put_line-second.ensures.put (omega arith) in
    let price = whole_line (bytes_of "price=") _ c.put_line-third.ensures.put (omega (arith, put_length winter)) in
    let events = whole_line (bytes_of "events=") _ c.put_line.ensures.put (omega (arith, put_length winter, put_length price)) in
    put_more _ winter _ (put_more _ price _ (put_last _ events))
