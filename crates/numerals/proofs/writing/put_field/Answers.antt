-- `put_field` puts the digits and behind them the byte that ends the number: at most 20 and one.
-- Assumes nothing.
use Rattle.numerals.proofs.PutLaws.{put_end}
use Rattle.numerals.proofs.writing.put_field.Goals as goal

pub returns-clause-put : goal.returns-clause-put
returns-clause-put c = put_end _ _ c.put_number-next.ensures
