pub mod Counts
pub mod Most
pub mod Counting
pub mod Passing
pub mod Filled
pub mod Walking
