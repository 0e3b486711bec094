-- Laws that belong to no one function. `Odd`, the signs of the sine, is for the reader and for other crates. Assumes nothing.
pub mod Odd
pub mod Halving
