-- Opens the definitions, so that a small design's report is computed.
use Rattle.flow_design.specs.declared.expr.Expr.TheBlock.{shape-the_row-Expr-0, hidden-the_row-Expr-0}
use Rattle.lockstep_defs.specs.{value, ages, due_at, due, requests, entered, ticked, decided, finished, move, opened, is_over, reply}
use Rattle.lockstep_defs.specs.{moved_by, moved, report, own_next, own_run, marks, is_settled, first_settled, verdict, moves, steps_in}
use Rattle.lockstep_defs.specs.{clock_step, opening, moment}

-- naming this on an `unfolding` line opens every definition
unfoldable pub all_open : Unit {0}
unfolding shape-the_row-Expr-0 hidden-the_row-Expr-0 denote.Hole.Carrier.hidden report verdict first_settled is_settled moment opening
    clock_step steps_in moves reply moved moved_by is_over opened move finished decided ticked entered requests due due_at ages value
    own_next own_run marks
all_open = tt
