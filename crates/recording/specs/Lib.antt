-- A recording, what is claimed of every one, and the closed totals. Assumes nothing.
pub mod Recording
pub mod Demand3
pub mod Totals
