pub mod Figure
pub mod CalendarFigures
pub mod ScheduleFigures
pub mod EnergyFigures
pub mod MoneyFigures
pub mod PowerFigures
pub mod TextFigures
pub mod Figures
