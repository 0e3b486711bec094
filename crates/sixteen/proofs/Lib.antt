-- Laws that belong to no one function; `From` is for other crates too. Assumes nothing.
mod Exact
mod Steps
mod Signs
pub mod From
