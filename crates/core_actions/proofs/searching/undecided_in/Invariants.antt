use Rattle.std.proofs.Common.{◌≡◌, ◌+◌, length, position}
use Rattle.std.specs.Prelude.{option_map}
use Rattle.core_actions.specs.{is_open_query}
use Rattle.core_actions.proofs.searching.undecided_in.Given as goal

-- the first undecided query is among the accesses that are left
abbrev pub invariant-loop-access : goal.invariant-loop-access
invariant-loop-access l =
    let q = is_open_query l.graph.lanes l.fifos.channels in
    (position q l.accesses ≡ option_map (λ k. k + l.number) (position q l.access-iterator))
    × (l.number + length l.access-iterator ≡ length l.accesses)
