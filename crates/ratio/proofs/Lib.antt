-- What holds of the definitions, for this crate's proofs and for others'. Assumes nothing.
pub mod Laws
