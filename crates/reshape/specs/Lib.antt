-- What becomes of the history when a rate is set. Assumes nothing.
pub mod Reshaped
