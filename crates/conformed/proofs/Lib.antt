-- What holds of the small program, from its parts to the theorem. Assumes nothing.
pub mod Headers
pub mod Opened
pub mod Odd
pub mod Resampled
pub mod Theorems
