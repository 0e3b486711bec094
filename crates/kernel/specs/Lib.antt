-- One output, by either kernel. Assumes nothing.
pub mod Sums
pub mod Cubic
pub mod Interpolated
pub mod Step
