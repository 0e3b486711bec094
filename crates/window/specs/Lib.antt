-- The Kaiser window. Assumes nothing.
pub mod Window
