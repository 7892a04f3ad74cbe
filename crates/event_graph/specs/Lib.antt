pub mod Lanes
pub mod Listed
pub mod Packed
pub mod Roomed
pub mod Shapes
pub mod Words
pub use Lanes.{HasStep, IsSoundLane, IsSoundStep, Lane, cycle_bound, cycle_of, gap_bound, if_below, lane_at, lane_with_cycle}
pub use Lanes.{lane_with_step, last_cycle, no_lane, put_in, timed_below, with_cycle, with_put, with_step}
pub use Listed.{HoldsAccesses, listed_in}
pub use Packed.{CanPack, IsFewIfCopied, IsFewStep, IsPacked, IsPackedThere, IsStepKept, IsStepThere, IsStepUpTo, KeepsInside, Store}
pub use Packed.{count_words, fit_head, head_words, in_lane, long_mark, most_words, new_step, nothing, other_step, packed_step, step_head}
pub use Packed.{step_of_form, store_with, whole, whole_mark, words_for}
unfoldable pub use Packed.{unpacked_step}
pub use Roomed.{RoomedLane, RoomedLanes, lanes_of, rooms_of}
pub use Shapes.{Form, IsNumbered, IsShapeIn, form_at, form_in, no_form, room_in, shown_form, step_form}
pub use Words.{Fits, access_slot, accesses_in, code_of, has_value, is_valued, is_write, kind_with_code, packed, places_for, slot_size}
pub use Words.{slot_sizes, unpacked_access, wide_accesses, words_of}
pub use declared.{candidate.Candidate.Candidate, shapes.Shape.Shape, steps.Head.Head}
pub use Rattle.flow_word.specs.{Access, Kind, Place, Step, UsesPlace}
