pub mod Bits
pub mod Orders
pub mod Apart
pub mod Found
pub mod Needs
pub mod Needed
pub mod Accesses
