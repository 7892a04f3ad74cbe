use Rattle.std.proofs.Common.{◌≡◌, List, vec_len}
use Rattle.cycle_changes.specs.{Lane, ArePut}
use Rattle.cycle_changes.proofs.puts.undo.Given as goal

-- what is left to take back leads to where it began
abbrev pub invariant-loop-put : goal.invariant-loop-put
invariant-loop-put g l = record {
  some : (first : List Lane) × ArePut first l.puts.items l.graph.lanes;
  all : (first : List Lane) → ArePut first l.fn.puts.items l.fn.graph.lanes → ArePut first l.puts.items l.graph.lanes;
  rooms : l.graph.rooms ≡ l.fn.graph.rooms;
}

abbrev pub decreases-loop-put : goal.decreases-loop-put
decreases-loop-put g l = vec_len l.puts
