pub mod Firsts
pub mod Causing
pub mod Looking
pub mod Permissions
pub mod Acts
