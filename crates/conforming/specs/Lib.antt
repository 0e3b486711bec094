-- How a run of the small program may end. Assumes nothing.
pub mod Endings
