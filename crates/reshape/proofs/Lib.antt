-- What holds of a change of rate, for those who cite it. Assumes nothing.
pub mod Excess
