pub mod Lines
pub mod Showing
pub mod Filling
pub mod Whole
pub mod LogLines
pub mod Named
pub mod Stepping
