-- What a verdict that a rate is to be set says, for the functions of this crate. Assumes nothing.
pub mod Updates
