-- The words in which a call, and a recording made by calls, are told. Assumes nothing.
pub mod Numbers
pub mod Samples
pub mod Recording
pub mod Laws
