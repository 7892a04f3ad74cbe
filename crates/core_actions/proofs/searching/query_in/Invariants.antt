use Rattle.std.proofs.Common.{◌≡◌, ◌+◌, length, position}
use Rattle.std.specs.Prelude.{option_map}
use Rattle.core_actions.specs.{is_query_access}
use Rattle.core_actions.proofs.searching.query_in.Given as goal

-- the first query is among the accesses that are left
abbrev pub invariant-loop-access : goal.invariant-loop-access
invariant-loop-access l =
    (position is_query_access l.accesses ≡ option_map (λ k. k + l.number) (position is_query_access l.access-iterator))
    × (l.number + length l.access-iterator ≡ length l.accesses)
