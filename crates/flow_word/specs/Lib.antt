pub mod formers
pub mod Kinds
pub mod Lends
pub mod Number
pub mod Room
pub use Kinds.{is_blocking, is_taking, other_side, same_side, side_of}
pub use Lends.{LendsItems}
pub use Number.{IsDigit, fitting, is_no_digit, number_unless, number_written, word_of}
pub use Room.{Roomed, UsesPlace, roomed_code}
pub use declared.{access.Access.Access, access.Kind.Kind, access.Place.Place, access.Port.Port, access.Side.Side, access.Step.Step}
pub use declared.{memory.OutOfMemory.OutOfMemory, number.NumberFault.NumberFault}
