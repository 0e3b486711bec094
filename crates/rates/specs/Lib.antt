-- What the contracts of this crate say, in document 01's order. Assumes nothing.
pub mod Setting
pub mod Limits
pub mod Rated
