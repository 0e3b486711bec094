-- Laws that belong to no one function. `Settings` is for other crates too. Assumes nothing.
mod Shifted
mod Coordinates
mod Mirrors
mod Entries
pub mod Settings
