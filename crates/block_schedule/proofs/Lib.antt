pub mod Ages
pub mod Due
pub mod Limits
pub mod Live
pub mod Next
pub mod Ranks
pub mod Slots
