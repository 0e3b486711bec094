-- One coefficient. Assumes nothing.
pub mod Sinc
