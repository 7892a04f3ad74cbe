use Rattle.event_timing.proofs.{Editing.edit_agrees, Editing.edit_design, Editing.same_depth, Touched.untouched}
use Rattle.event_timing.proofs.laws.edited_cores.Goals as goal

pub returns-clause-same_depth : goal.returns-clause-same_depth
returns-clause-same_depth g c = λ d fifo. same_depth d fifo

pub returns-clause-design : goal.returns-clause-design
returns-clause-design g c = λ d i fifo depth. edit_design d fifo depth i

pub returns-clause-cut : goal.returns-clause-cut
returns-clause-cut g c =
    λ d h i y one limit x a f fifo depth t l u b z. edit_agrees d h b i y fifo depth t z one
    (untouched d h i y limit x a f fifo depth t l u) limit x a
