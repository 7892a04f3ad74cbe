use Rattle.std.proofs.Common.{◌+◌, ℕ, arith, ap}
use Rattle.module_interp.proofs.Tallies.{tally_more, queries_few}
use Rattle.module_interp.proofs.tally.Tally.count.Goals as goal

pub overflow_add-self : goal.overflow_add-self
overflow_add-self c =
    let (before, (h, small)) = c.requires.tally in
    let same = c.count_moved.ensures.queries in
    omega (arith, h.queries_are, queries_few before, c.queries_of.ensures.most)

pub returns-clause-tally : goal.returns-clause-tally
returns-clause-tally c before h =
    tally_more before (record { request = c.args.request; reply = c.args.reply }) c.args.self.now _ h c.count_moved.ensures.popped
    c.count_moved.ensures.pushed
    (rw c.count_moved.ensures.queries (ap (λ (k : ℕ). c.args.self.now.queries + k) c.queries_of.ensures.count))
