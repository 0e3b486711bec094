-- Laws that belong to no one function: they serve proofs here and in the crates above. Assumes nothing.
pub mod Pick
pub mod Closest
pub mod Rounded
pub mod Real
pub mod Nan
pub mod Sign
pub mod Bounded
pub mod Negated
