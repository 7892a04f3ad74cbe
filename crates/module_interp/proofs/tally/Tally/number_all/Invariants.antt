use Rattle.std.proofs.Common.{◌≡◌, List, map, take, drop}
use Rattle.module_interp.specs.{Exchange, access_of, request_from, IsTallyOf}
use Rattle.module_interp.proofs.tally.Tally.number_all.Given as goal

-- the accesses so far have their ordinals, and the others are as they were
abbrev pub invariant-loop-access : goal.invariant-loop-access
invariant-loop-access l = record {
  numbered : (before : List Exchange) → IsTallyOf before l.self
      → take l.access-index l.items ≡ map (λ a. access_of before (request_from a)) (take l.access-index l.initial.items);
  rest : drop l.access-index l.items ≡ drop l.access-index l.initial.items;
}
