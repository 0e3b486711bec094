-- Laws that belong to no one function. `Place` is for other crates too. Assumes nothing.
pub mod Place
mod NearFar
mod Mirrored
