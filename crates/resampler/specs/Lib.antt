-- What the contracts of the resampler say, in document 01's order. Assumes nothing.
pub mod Answers
pub mod Entries
pub mod Promises
