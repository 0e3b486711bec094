-- From one kind of number to another. Assumes nothing.
pub mod Narrowed
pub mod Floor
