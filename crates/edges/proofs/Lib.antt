-- Laws of an odd byte and of the zeros. Assumes nothing.
pub mod Laws
