-- Document 01's sizes. Assumes nothing.
pub mod Sizes
