-- What the proofs of this crate share. Assumes nothing.
pub mod Four
pub mod Turns
