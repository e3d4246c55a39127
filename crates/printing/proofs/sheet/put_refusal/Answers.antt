-- `put_refusal` puts a line of two numbers, for which there is room.
-- Assumes nothing.
use native.Mathlib.Omega.{arith}
use Rattle.numerals.proofs.FieldWalk.{whole_line}
use Rattle.numerals.proofs.PutLaws.{put_last}
use Rattle.numerals.specs.Words.{bytes_of}
use Rattle.printing.specs.Sheet.{refused_lines}
use Rattle.printing.proofs.sheet.put_refusal.Goals as goal

pub returns-clause-put : goal.returns-clause-put
unfolding refused_lines
returns-clause-put c = put_last _ (whole_line (bytes_of "refused=") _ c.put_line.ensures.put (omega arith))
