pub mod Decisions
pub mod Earliest
pub mod Firsts
pub use Decisions.{IsImpossible, IsPossible, late_outcome}
pub use Earliest.{IsEarliest, determined_cycle}
pub use Firsts.{AreWonBut, ComesFirst, HasWinners, IsBeaten, IsWinner, at_place, first_by}
pub use declared.{rounds.First.First}
pub use Rattle.time_engine.specs.{HasPlaces, IsAccess, Known}
unfoldable pub use Rattle.time_engine.specs.{when_possible}
pub use Rattle.event_graph.specs.{Candidate}
pub use Rattle.flow_word.specs.{Kind, is_taking}
