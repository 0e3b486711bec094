-- Laws of blocks. Assumes nothing.
pub mod Laws
