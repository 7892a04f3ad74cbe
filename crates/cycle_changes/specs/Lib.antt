pub mod Looks
pub mod OtherCycles
pub mod Around
pub mod Seeds
pub mod Changed
pub mod Moved
pub mod Puts
pub mod Found
pub mod Records
pub use Looks.{IsLooked, cycle_held, looked, previous_cycle}
pub use OtherCycles.{HasOtherCycles}
pub use Around.{AreLooked, HasAccessAt, IsAccessAt, IsLookedAround, NoneIsDue, StandsAs, WaitsAt, WaitsForStep}
pub use Seeds.{AreSeeds}
pub use Changed.{AreRightChanges, HasChanged, LosesNoRoom, StaysRight}
pub use Moved.{moved_in, others_in}
pub use Puts.{AreDrafted, ArePut, HasCycle, HasPut, IsFitting, drafted, undone}
pub use Found.{AreFoundRight, IsFoundRight, put_places}
pub use Records.{AreRightAround, HasSlack, IsAmong, IsBeside, IsBetween, IsChecked, IsRight, IsRightRecord, IsSaidAround, IsSlack, IsTaking}
pub use Records.{IsUnmoved, KeepsEnabler, count_before, enabling_step, is_free_at, known_at, partner, with_cycles}
pub use declared.{changes.Put.Put, draft.Draft.Draft}
pub use Rattle.retime.specs.{IsEditIn, KeepsRoomEdited, cycles_in, only_steps, steps_in_lanes}
pub use Rattle.engine_view.specs.{AreTaken, AreWhole, Engine, HasRoom, IsCut, IsKept, IsKind, IsNow, IsRoomy, IsSomeCore, IsSound}
pub use Rattle.engine_view.specs.{IsTakenAt, OfEach, ShowsCore, are_among, as_known, core_of, emitted_of, first_of, flags_by, flags_of}
pub use Rattle.engine_view.specs.{found_flags, held_in, held_parts, kinds_in, no_step, place_of, query_bound, replies_at, room_of, seen}
pub use Rattle.engine_view.specs.{step_of, values_at, waited}
unfoldable pub use Rattle.engine_view.specs.{pending, queries_before}
pub use Rattle.time_engine.specs.{HasAccesses, HasPlaces, IsAccess, cycle_unless, is_waiting, open_step}
unfoldable pub use Rattle.time_engine.specs.{clocks_of, determined, enabler_at, latest, when_possible}
pub use Rattle.event_graph.specs.{HasStep, IsSoundLane, Lane, cycle_bound, in_lane, lane_at, no_lane, put_in, timed_below, with_put}
pub use Rattle.fifo_table.specs.{Channel, HasSide, IsFifo, RoomedChannels, TableChannel, channel_at, deepened, deepened_channels, depth_of}
pub use Rattle.fifo_table.specs.{enabler_by, event_at, first_module, free_of, lag_of, places_of, unused}
pub use Rattle.query_log.specs.{IsSoundLog, Log, RoomedLogs, log_at, no_log}
pub use Rattle.event_timing.specs.{AreOwnMarks, Design, Each, FlagsFit, IsAgreed, IsDesign, IsDetermined, IsFinal, IsHistory, IsStuck}
pub use Rattle.event_timing.specs.{IsTimed, Known, MayRun, Reply, Trace, after_edit, all_below, answer, bare_replies, both, bound}
pub use Rattle.event_timing.specs.{core_accesses, core_reply, core_tally, core_values, edited, elements_timed, flags_at, from, from_step}
pub use Rattle.event_timing.specs.{has_query, kept_cycle, known_of, new_flags, own_state, possible_all, ready, replies_of, reply_to, takers}
pub use Rattle.event_timing.specs.{takes_at, to_clock, unblocked_clock, values_there, view}
unfoldable pub use Rattle.event_timing.specs.{candidate, done, kept, known, own, place, replies, steps, tally}
pub use Rattle.flow_design.specs.{Advance, Edit, ModuleState}
pub use Rattle.flow_word.specs.{Access, Place, Side, Step, other_side, same_side, side_of}
