use Rattle.std.proofs.Common.{◌≡◌, ◌++◌, map}
use Rattle.fifo_table.specs.{unused, bare_channels}
use Rattle.fifo_table.proofs.table.FifoTable.new.Given as goal

-- the channels so far were made
abbrev pub invariant-loop-kind : goal.invariant-loop-kind
invariant-loop-kind l = (bare_channels l.made.items ≡ map unused l.yielded) × (l.fn.channels.items ≡ l.yielded ++
    l.kind-iterator.rest.items)
