-- Outputs of one phase, worked out side by side. Assumes nothing.
pub mod Layout
pub mod Class
pub mod Inner
