-- The worked numbers. Assumes nothing.
pub mod Worked
