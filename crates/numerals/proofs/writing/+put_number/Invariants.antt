-- `put_number` puts the digits of the tenth first, and behind them the last one. The number falls from call to call.
-- Assumes nothing.
use Rattle.numerals.proofs.writing.+put_number.Given as goal

abbrev pub decreases-put_number : goal.decreases-put_number
decreases-put_number l = l.n
