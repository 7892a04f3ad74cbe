pub mod Counts
pub mod Giving
pub mod NameLemmas
pub mod Trees
