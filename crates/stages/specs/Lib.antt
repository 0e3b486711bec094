-- What the contracts of this crate say, in the order of document 01's "Small program". Assumes nothing.
pub mod Stages
pub mod Promises
