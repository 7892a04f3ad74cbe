pub mod Earlier
pub mod Winners
