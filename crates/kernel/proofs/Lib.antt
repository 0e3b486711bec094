-- What the functions' proofs share. It is for other crates too. Assumes nothing.
pub mod Turns
pub mod Parts
pub mod Local
