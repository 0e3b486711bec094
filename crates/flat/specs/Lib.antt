-- What crosses to C. Assumes nothing.
pub mod Flat
