-- Laws that belong to no one function: `Pattern` and `Cases` stand behind `narrow_pattern`, `Floored` is for other crates. Assumes nothing.
mod Pattern
mod Cases
pub mod Floored
