-- The accesses that a view lists.
use Rattle.std.specs.Prelude.{◌≤◌, List, length}
use Rattle.flow_word.specs.{Access}
use Rattle.event_graph.specs.{declared.view.Listed.Listed, Words.slot_sizes, Words.accesses_in}
use Rattle.event_graph.specs.declared.view.Listed.TheVariants.{Packed, Slice}

abbrev pub listed_in : Listed → List Access
listed_in (Packed slots words) = accesses_in slots.now words.now
listed_in (Slice items) = items.now

-- the words of the accesses are there
abbrev pub HoldsAccesses : Listed → Type 0
HoldsAccesses (Packed slots words) = slot_sizes slots.now ≤ length words.now
HoldsAccesses (Slice items) = Unit {0}
