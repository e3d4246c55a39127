-- All figures of RULES.md, as one list.
-- Assumes nothing.
use Rattle.std.specs.Prelude.{List, ◌++◌}
use Rattle.figures.specs.CalendarFigures.{calendar_figures}
use Rattle.figures.specs.EnergyFigures.{energy_figures}
use Rattle.figures.specs.Figure.{Figure}
use Rattle.figures.specs.MoneyFigures.{money_figures}
use Rattle.figures.specs.PowerFigures.{power_figures}
use Rattle.figures.specs.ScheduleFigures.{schedule_figures}
use Rattle.figures.specs.TextFigures.{text_figures}

abbrev pub figures : List Figure
figures = calendar_figures ++ (schedule_figures ++ (energy_figures ++ (money_figures ++ (power_figures ++ text_figures))))
