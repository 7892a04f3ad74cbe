pub mod Parts
pub mod Placed
pub mod Finding
pub mod Going
