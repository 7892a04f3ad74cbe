use Rattle.std.proofs.Common.{◌≡◌, ℕ, ◌<◌, false, length, take, get_or}
use Rattle.std.specs.List.{list_any}
use Rattle.clock_machine.specs.{all_ready, nobody, numbered, moves, state, IsRemembered, no_memo}
use Rattle.clock_machine.proofs.turns.is_settled.Given as goal

-- none of the modules so far
abbrev pub invariant-loop-i : goal.invariant-loop-i
invariant-loop-i l =
    let p = l.at.of.now.plan.now in
    let st = state p l.at.clock in
    record {
      none : list_any (moves p 0 (all_ready st.contents)) (take l.i (numbered st)) ≡ false;
      remembered : (k : ℕ) → k < length p.design.modules → IsRemembered p l.at.of.now.codes.now l.at.clock k (get_or l.states k nobody)
          (get_or
          l.memos k no_memo);
    }
