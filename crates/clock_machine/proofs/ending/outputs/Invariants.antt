use Rattle.std.proofs.Common.{◌≡◌, ℕ, ◌≤◌, map}
use Rattle.std.specs.List.{range_with_len, filter}
use Rattle.clock_machine.specs.{kind_at, is_sink, values, contents_of}
use Rattle.clock_machine.proofs.ending.outputs.Given as goal

abbrev pub invariant-loop-i : goal.invariant-loop-i
invariant-loop-i l = record {
  told : l.outputs ≡ map (λ f. values (contents_of l.initial.contents f)) (filter (λ f. is_sink (kind_at l.plan f)) (range_with_len 0 l.i));
  rest : (k : ℕ) → l.i ≤ k → contents_of l.contents k ≡ contents_of l.initial.contents k;
}
