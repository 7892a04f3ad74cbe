pub mod After
pub mod Late
pub mod Steps
pub mod Reading
pub mod Ends
pub mod Depths
pub mod Shown
