pub mod FormLaws
pub mod OperationLaws
pub mod ReadingLaws
pub mod NameLemmas
pub mod ChannelLemmas
pub mod TableLaws
