pub mod Sets
pub use Sets.{HasMask, IsAdded, IsFirstBit, IsFirstFrom, IsIn, IsJoined, IsRemoved, IsSet, capacity}
unfoldable pub use Sets.{Has}
pub use declared.{mask.Mask.Mask}
