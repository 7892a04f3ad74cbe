use Rattle.std.proofs.Common.{◌≡◌, ◌++◌, List, map, take, drop}
use Rattle.module_interp.specs.{Exchange, request_from, paired, IsTallyOf}
use Rattle.module_interp.proofs.tally.Tally.count_step.Given as goal

-- the operations so far were counted, at the same channels, and the replies to the others are still to be told
abbrev pub invariant-loop-access : goal.invariant-loop-access
invariant-loop-access g l = record {
  tally : (before : List Exchange) → IsTallyOf before l.initial.self
      → IsTallyOf (before ++ paired (take l.access-index (map request_from l.accesses)) (g.R.Replies.left l.initial.replies)) l.self;
  popped : l.self.popped.channels ≡ l.initial.self.popped.channels;
  pushed : l.self.pushed.channels ≡ l.initial.self.pushed.channels;
  known : g.R.Replies.known l.replies;
  left : g.R.Replies.left l.replies ≡ drop l.access-index (g.R.Replies.left l.initial.replies);
}
