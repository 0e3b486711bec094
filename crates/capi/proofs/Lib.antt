-- That no call's counts are cut, and that a refused call changes nothing. Assumes nothing.
pub mod Counts
pub mod Refused
