-- What holds of the definitions, for this crate's proofs and for others'. Assumes nothing.
pub mod Numbers
pub mod Real
pub mod Limits
pub mod House
