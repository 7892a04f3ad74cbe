pub mod Accesses
pub mod Uses
pub mod Polled
pub mod Asked
pub mod Lines
pub mod Totals
pub mod Fills
pub mod Whole
