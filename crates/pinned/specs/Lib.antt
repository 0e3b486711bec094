-- What is claimed of the resampler's calls. Assumes nothing.
pub mod Pinned
