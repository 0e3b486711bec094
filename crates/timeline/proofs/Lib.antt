-- What holds of calls and recordings; `Theorems` has what a reader is meant to see. Assumes nothing.
pub mod Places
pub mod Turns
pub mod Unrolled
pub mod Law
pub mod Bound
pub mod Count
pub mod Parts
pub mod Outputs
pub mod History
pub mod Lines
pub mod Cuttings
pub mod SameNumbers
pub mod Streams
pub mod Theorems
pub mod Worked
