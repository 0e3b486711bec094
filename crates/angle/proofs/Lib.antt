-- Every angle is within reach. Assumes nothing.
pub mod Angle
