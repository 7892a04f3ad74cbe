pub mod Among
pub mod Choices
pub mod Lowered
pub mod Needed
pub mod Shown
pub mod Least
pub mod BitsLine
