-- Four outputs side by side, each as document 01 has it. Assumes nothing.
pub mod Within
pub mod Rows
pub mod Interpolated
pub mod Four
