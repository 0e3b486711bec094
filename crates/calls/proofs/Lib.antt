-- What holds of the calls: what they ask of each other, and how what one wrote joins on to what another wrote. Assumes nothing.
pub mod Asks
pub mod Onward
pub mod Playing
pub mod Magic
