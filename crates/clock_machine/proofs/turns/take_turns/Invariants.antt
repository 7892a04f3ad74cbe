use Rattle.std.proofs.Common.{◌≡◌, ℕ, ◌+◌, ◌<◌, ◌≤◌, ◌++◌, [], length, take, get_or}
use Rattle.std.specs.List.{list_any, flat_map}
use Rattle.clock_machine.specs.{nobody, numbered, moves, state, module_step, outcomes, HasDone, step_at, IsRemembered, no_memo}
use Rattle.clock_machine.proofs.turns.take_turns.Given as goal

-- the modules so far have had their turns
abbrev pub invariant-loop-i : goal.invariant-loop-i
invariant-loop-i l =
    let p = l.at.of.now.plan.now in
    let st = state p l.at.clock in
    record {
      moving : l.moving ≡ list_any (moves p l.at.clock st.contents) (take l.i (numbered st));
      remembered : (k : ℕ) → k < l.i → IsRemembered p l.at.of.now.codes.now (l.at.clock + 1) k (get_or l.states k nobody) (get_or l.memos k
          no_memo);
      rest : (k : ℕ) → l.i ≤ k → k < length p.design.modules
          → IsRemembered p l.at.of.now.codes.now l.at.clock k (get_or l.states k nobody) (get_or l.memos k no_memo);
      done : HasDone l.at.keep l.initial.round l.round (flat_map (module_step p l.at.clock st.contents) (take l.i (numbered st)));
      told : (k : ℕ) → k < l.i → get_or l.answers k [] ≡ get_or l.initial.answers k [] ++ outcomes (step_at p l.at.clock k);
      untold : (k : ℕ) → l.i ≤ k → get_or l.answers k [] ≡ get_or l.initial.answers k [];
    }
