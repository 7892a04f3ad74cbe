pub mod Coming
pub mod Fronts
pub mod Kept
pub mod Listed
pub mod Moving
pub mod Queues
pub mod Sleeping
pub mod Steps
