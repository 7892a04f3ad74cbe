pub mod Printed
pub mod ReadBack
pub mod PartLemmas
pub mod SplitLemmas
