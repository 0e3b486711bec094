-- Laws that belong to no one function; `Blocks` is for other crates too. Assumes nothing.
pub mod Blocks
mod Laid
mod Mark
pub mod Pinned
