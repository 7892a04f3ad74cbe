pub mod Counting
pub mod Crossing
pub mod Found
pub mod Grids
