-- Laws that belong to no one function. Assumes nothing.
mod Bounds
