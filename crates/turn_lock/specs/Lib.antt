pub mod Entries
pub mod Views
pub mod Turns
pub mod Rule
pub mod Steps
pub mod Passes
pub mod Lending
pub mod Counts
pub use Entries.{Owns, bears, entries_of}
pub use Turns.{AllJoined, AreAllMade, BeginsTurn, Continues, EndsTurn, IsSamePass, ShowsAll, ShowsEach, ShowsJoined, ShowsPass}
pub use Rule.{HasMark, IsHome, Knows, Past, Ruled, Story}
pub use Steps.{CanEnd}
pub use Passes.{lock_id}
pub use Lending.{LendsValue}
pub use Counts.{IsLedBy}
pub use declared.{view.Joined.Joined, view.PassView.PassView}
