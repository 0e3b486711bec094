-- What the contracts of this crate say, in document 01's order. Assumes nothing.
pub mod Output
pub mod Rounds
pub mod Runs
