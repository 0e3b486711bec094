-- The worked numbers of document 01. Assumes nothing.
pub mod Worked
