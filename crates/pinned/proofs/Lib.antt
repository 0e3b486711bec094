-- What holds of the resampler's calls. Assumes nothing.
pub mod Verdicts
pub mod OneResult
pub mod StillBelongs
pub mod Untouched
pub mod First
pub mod Calls
