-- That the twin of a state loses nothing. Assumes nothing.
pub mod Twins
