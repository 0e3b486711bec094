-- What the contracts of the moves cite beside the library's `paste`. Assumes nothing.
pub mod Zeroed
