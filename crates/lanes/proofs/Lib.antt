-- Laws that belong to no one function. Assumes nothing.
mod Stepping
mod Rows
mod Spots
mod Adding
mod Strewing
mod Strands
