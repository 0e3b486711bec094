-- What holds of rounds, for this crate's proofs and for others'. `Settings` is for callers. Assumes nothing.
pub mod Phases
pub mod Running
pub mod Classes
pub mod Counts
pub mod Settings
