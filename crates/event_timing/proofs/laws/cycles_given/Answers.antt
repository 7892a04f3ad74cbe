use Rattle.event_timing.proofs.{Cost.cycles_given, Cost.edit_cost, Editing.edit_agrees, Editing.edit_design, Touched.untouched}
use Rattle.event_timing.proofs.laws.cycles_given.Goals as goal

pub returns-clause-given : goal.returns-clause-given
returns-clause-given g c = λ d limit x actions y s m. cycles_given d limit x actions y s m

pub returns-clause-edited : goal.returns-clause-edited
returns-clause-edited g c = λ d h i y one limit x a f fifo depth t l u b z actions w s m.
    edit_cost d b fifo depth t limit x (edit_design d fifo depth i) z
    (edit_agrees d h b i y fifo depth t z one (untouched d h i y limit x a f fifo depth t l u) limit x a) actions w s m
    (a.time.within m)
