pub mod AllWinters
pub mod FiguresHold
