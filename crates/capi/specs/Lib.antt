-- What the exported functions say, of the numbers that cross. Assumes nothing.
pub mod Promises
