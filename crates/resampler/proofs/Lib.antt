-- What each verdict makes of a call. Assumes nothing.
pub mod Outcomes
