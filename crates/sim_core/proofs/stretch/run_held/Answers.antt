use Rattle.sim_core.proofs.stretch.run_held.Goals as goal

pub run_many-requires-clause-out : goal.run_many-requires-clause-out
run_many-requires-clause-out c = let (p, (runs, (o, k))) = c.requires.out in (p, (runs, (rw c.in-Some.is at o, k)))

pub returns-in-Some-clause-out : goal.returns-in-Some-clause-out
returns-in-Some-clause-out c = λ p runs (o, k). c.run_many.ensures.out p runs (rw c.in-Some.is at o, k)

pub returns-in-Some-clause-acts : goal.returns-in-Some-clause-acts
returns-in-Some-clause-acts c = λ p runs (o, k). c.run_many.ensures.acts p runs (rw c.in-Some.is at o, k)

pub returns-in-Some-clause-still : goal.returns-in-Some-clause-still
returns-in-Some-clause-still c = λ e p runs (o, k). c.run_many.ensures.still e p runs (rw c.in-Some.is at o, k)

pub returns-in-Some-clause-permitted : goal.returns-in-Some-clause-permitted
returns-in-Some-clause-permitted c = λ e p runs (o, k). c.run_many.ensures.permitted e p runs (rw c.in-Some.is at o, k)

pub returns-in-None : goal.returns-in-None
returns-in-None c = let (p, (runs, (o, k))) = c.requires.out in absurd (rw c.in-None.is at o)
