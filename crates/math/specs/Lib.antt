-- The definitions of floats that every crate shares. Assumes nothing.
pub mod Operators
pub mod Numerals
pub mod Powers
pub mod Sign
