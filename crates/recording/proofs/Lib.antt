-- What holds of recordings; `Theorems` has what a reader is meant to see. Assumes nothing.
pub mod Reached
pub mod Counts
pub mod Outputs
pub mod Reading
pub mod Fronts
pub mod Cuttings
pub mod Totals
pub mod Theorems
