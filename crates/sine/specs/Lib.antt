-- The sine, step by step. Assumes nothing.
pub mod Sine
pub mod Halving
