pub mod Beyond
pub mod Failing
pub mod Rings
pub mod Values
