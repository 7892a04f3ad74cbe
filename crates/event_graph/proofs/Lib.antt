pub mod Forgetting
pub mod Growth
pub mod Kept
pub mod Listed
pub mod Packing
pub mod Shaping
