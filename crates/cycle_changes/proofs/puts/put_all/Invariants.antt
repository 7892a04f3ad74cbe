use Rattle.std.proofs.Common.{◌≡◌, ◌+◌, List, length}
use Rattle.cycle_changes.specs.{Lane, AreDrafted}
use Rattle.cycle_changes.proofs.puts.put_all.Given as goal

-- the puts so far lead on from those of before, with a tick for each
abbrev pub invariant-loop-before : goal.invariant-loop-before
invariant-loop-before g l = record {
  puts : (first : List Lane) → AreDrafted l.draft first l.fn.puts.items l.fn.graph.lanes → AreDrafted l.draft first l.puts.items
      l.graph.lanes;
  rooms : l.graph.rooms ≡ l.fn.graph.rooms;
  ticks : l.steps + length l.fn.puts.items ≡ l.fn.steps + length l.puts.items;
}
