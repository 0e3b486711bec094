-- The quality row of document 01. Assumes nothing.
pub mod Quality
pub mod House
