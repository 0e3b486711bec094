-- What a state that belongs together gives a call, and where the call leaves it. Assumes nothing.
pub mod Processes
