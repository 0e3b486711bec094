-- Laws for the crates above. Assumes nothing.
pub mod Tests
pub mod Bits
pub mod Belonging
