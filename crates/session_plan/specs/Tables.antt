-- The names that a body may use, from the tables of its module.
use Rattle.std.specs.Prelude.{List}
use Rattle.session_plan.specs.{Names.Scope, declared.scope.ModuleNames.ModuleNames}
use Rattle.flow_design.specs.{Name}

abbrev pub scope_at : List Name → ModuleNames → List Name → Scope
scope_at channels own temps = record {
  channels = channels;
  registers = own.registers;
  memories = own.memories;
  blocks = own.blocks;
  temps = temps;
}
