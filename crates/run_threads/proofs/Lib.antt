pub mod Lists
pub mod Places
pub mod Openings
pub mod Crossing
mod Named
