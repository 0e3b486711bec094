-- Laws for the crates above. Assumes nothing.
pub mod Judged
