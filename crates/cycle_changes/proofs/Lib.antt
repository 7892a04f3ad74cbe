pub mod HeldSteps
pub mod RightLooks
pub mod OtherHeld
pub mod InTurn
pub mod Waiting
pub mod RightChanges
pub mod SomeCores
pub mod Reaching
pub mod Changing
pub mod Counting
pub mod Putting
pub mod Moving
mod SoFar
mod Beginning
mod Begun
mod Cutting
pub mod Enabled
pub mod Final
pub mod Keeping
pub mod Local
pub mod Marks
pub mod Onward
pub mod Recording
pub mod Standing
