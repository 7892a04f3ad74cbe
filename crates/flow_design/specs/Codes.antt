-- The code of a plan as a value, for models whose values must have a code.
use Rattle.std.specs.Coded.{Coded}
use Rattle.flow_design.specs.{declared.plan.Plan.Plan, contracts.plan.Plan.the_row}

abbrev pub plan_code : Coded Plan
plan_code = the_row.coded
