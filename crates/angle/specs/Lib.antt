-- How large an angle the sine is asked for. Assumes nothing.
pub mod Angle
