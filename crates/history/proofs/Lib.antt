-- Laws of a loop that writes a history's entries one by one, for the crates whose loops do. Assumes nothing.
pub mod Pasted
