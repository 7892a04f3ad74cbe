use Rattle.std.proofs.Common.{suc}
use Rattle.event_timing.proofs.{Answering.answer_grows, Beside.run_grows, Beside.assign_grows, Beside.actions_grow, Beside.others_grow}
use Rattle.event_timing.proofs.Growing.{settled_old, settled_all, settled_less, tally_grow, reply_grow, there_grow, own_grow}
use Rattle.event_timing.proofs.laws.cores_grow.Goals as goal

pub returns-clause-run : goal.returns-clause-run
returns-clause-run g c = λ d x m. run_grows d x m

pub returns-clause-assign : goal.returns-clause-assign
returns-clause-assign g c = λ d x m k. assign_grows d x m k

pub returns-clause-answer : goal.returns-clause-answer
returns-clause-answer g c = λ d i x b m k l s. answer_grows d i x b m k l s

pub returns-clause-all : goal.returns-clause-all
returns-clause-all g c = λ d h i y limit x a actions z s. actions_grow d h i y limit x a actions z s

pub returns-clause-others : goal.returns-clause-others
returns-clause-others g c = λ d h i y limit x a m actions o z s. others_grow d h i y limit x a m actions o z s

pub returns-clause-settled : goal.returns-clause-settled
returns-clause-settled g c = λ d x b m n l. settled_old d x b m n l

pub returns-clause-settled_all : goal.returns-clause-settled_all
returns-clause-settled_all g c = λ d x b m r. settled_all d x b m r.answered r.there

pub returns-clause-replies : goal.returns-clause-replies
returns-clause-replies g c = λ d x z w m n s. record {
  counts = tally_grow d x z w m n s.emitted s.answered;
  replies = λ k l. reply_grow d x z w m k (settled_less d x m n (suc k) l s);
  there = λ k l. there_grow d x z w m k (settled_less d x m n (suc k) l s);
  rests = own_grow d x z w m n s;
}
