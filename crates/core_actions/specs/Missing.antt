-- What the code looks for in a step: a query, and an undecided one.
use Rattle.std.specs.Prelude.{◌&&◌, Bool, not, List}
use Rattle.event_graph.specs.{Lane}
use Rattle.time_engine.specs.{when_possible}
use Rattle.event_timing.specs.{is_decided}
use Rattle.engine_view.specs.{as_known}
use Rattle.flow_word.specs.{Access, is_blocking}
use Rattle.fifo_table.specs.{Channel}

abbrev pub is_query_access : Access → Bool
is_query_access a = not (is_blocking a.kind)

-- the access is a query that is undecided, by the graph and the table
abbrev pub is_open_query : List Lane → List Channel → Access → Bool
is_open_query lanes channels a = is_query_access a && not (is_decided (as_known (when_possible lanes channels a)))
