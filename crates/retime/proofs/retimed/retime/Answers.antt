use Rattle.std.proofs.Common.{ap, ◌∙◌}
use Rattle.retime.specs.{only_steps}
use Rattle.retime.proofs.{Counts.steps_below, Cutting.some_cut, Cutting.retimed, Cutting.room_retimed}
use Rattle.retime.proofs.retimed.retime.Goals as goal

pub time_all-requires-clause-core : goal.time_all-requires-clause-core
time_all-requires-clause-core g c =
    some_cut c.args.engine.now c.cut_back.new.engine c.args.edit.now _ c.cut_back.ensures c.requires.edit c.requires.core

pub returns-clause-retimed : goal.returns-clause-retimed
returns-clause-retimed g c =
    rw (← c.unwrap_or.ensures) (retimed c.args.engine.now c.cut_back.new.engine c.args.edit.now _ c.cut_back.ensures c.requires.edit
    c.time_all.new.engine c.time_all.result c.args.limit c.time_all.ensures.acts c.time_all.ensures.ended)

pub returns-clause-room : goal.returns-clause-room
returns-clause-room g c =
    room_retimed c.args.engine.now c.cut_back.new.engine c.args.edit.now _ c.cut_back.ensures c.requires.edit c.time_all.new.engine
    c.time_all.ensures.room

pub returns-clause-steps_stay : goal.returns-clause-steps_stay
returns-clause-steps_stay g c =
    c.time_all.ensures.steps_stay ∙ (ap only_steps c.cut_back.ensures.lanes ∙ steps_below c.unwrap_or.result c.args.engine.now.graph.lanes)
