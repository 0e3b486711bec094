-- What the small program makes of a file, and how it goes about it. Assumes nothing.
pub mod Conformed
pub mod Program
