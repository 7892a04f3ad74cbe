pub mod Going
pub mod Logs
pub mod After
