-- The tables of the statements before a line, at a scale, and what each statement does to them.
use Rattle.std.specs.Prelude.{◌≡◌, ℕ, ◌+◌, List, [], ◌∷◌, length}
use Rattle.flow_design.specs.{Scale, Statement, limits_at}
use Rattle.flow_design.specs.declared.session.Statement.TheVariants.{Flow, Source, Sink, Fifo, Module, Reg, Mem, Block, Loop, Temp, At}
use Rattle.flow_design.specs.declared.session.Statement.TheVariants.{Goto, Branch, Stop, Input, Limits, Depth, End}
use Rattle.flow_grammar.specs.{SessionPlace, place_reached}
use Rattle.flow_grammar.specs.declared.place.SessionPlace.TheVariants.{AmongChannels, AmongRegisters, AmongTemps, AmongOperations}
use Rattle.flow_grammar.specs.declared.place.SessionPlace.TheVariants.{AfterBody, AmongInputs, AmongEdits, AtEnd}
use Rattle.flow_text.specs.declared.tables.Tables.{Tables}
use Rattle.flow_grammar.specs.Before as before

abbrev Name : Type 0
Name = List ℕ

-- the tables of some statements, the latest first
unfoldable pub tables_of : Scale → List Statement → Tables
tables_of scale earlier = record {
  place = place_reached earlier;
  version = before.version earlier;
  limits = limits_at scale;
  channels = before.channels earlier;
  sources = before.sources earlier;
  fifos = before.declared_fifos earlier;
  modules = before.modules earlier;
  registers = before.registers earlier;
  memories = before.memories earlier;
  blocks = before.blocks earlier;
  temps = before.temps earlier;
  inputs = before.inputs earlier;
  memory_words = before.memory_words earlier;
  operations = before.operations earlier;
  input_values = before.input_values earlier;
  edits = before.edits earlier;
}

abbrev pub with_flow : Tables → ℕ → Tables
with_flow t v = record t { place = AmongChannels; version = v }

abbrev pub with_channel : Tables → Name → Tables
with_channel t n = record t { channels = n ∷ t.channels }

abbrev pub with_source : Tables → Name → Tables
with_source t n = record t { place = AmongChannels; channels = n ∷ t.channels; sources = n ∷ t.sources }

abbrev pub with_sink : Tables → Name → Tables
with_sink t n = record t { place = AmongChannels; channels = n ∷ t.channels }

abbrev pub with_fifo : Tables → Name → Tables
with_fifo t n = record t { place = AmongChannels; channels = n ∷ t.channels; fifos = n ∷ t.fifos }

-- the tables after a `module`: it has no register, memory or block yet
abbrev pub with_module : Tables → Name → Tables
with_module t n = record t { place = AmongRegisters; modules = n ∷ t.modules; registers = []; memories = []; blocks = [] }

abbrev pub with_register : Tables → Name → Tables
with_register t n = record t { place = AmongRegisters; registers = n ∷ t.registers }

abbrev pub with_memory : Tables → Name → ℕ → Tables
with_memory t n words = record t { place = AmongRegisters; memories = n ∷ t.memories; memory_words = t.memory_words + words }

-- the tables after a `block` or `loop`: its body has no temp or operation yet
abbrev pub with_block : Tables → Name → Tables
with_block t n = record t { place = AmongTemps; blocks = n ∷ t.blocks; temps = []; operations = 0 }

abbrev pub with_temp : Tables → Name → Tables
with_temp t n = record t { place = AmongTemps; temps = n ∷ t.temps }

abbrev pub with_operation : Tables → Tables
with_operation t = record t { place = AmongOperations; operations = t.operations + 1 }

abbrev pub with_input : Tables → Name → ℕ → Tables
with_input t n count = record t { place = AmongInputs; inputs = n ∷ t.inputs; input_values = t.input_values + count }

abbrev pub with_edit_line : Tables → Tables
with_edit_line t = record t { place = AmongEdits; edits = t.edits + 1 }

abbrev pub with_place : Tables → SessionPlace → Tables
with_place t p = record t { place = p }

-- the tables after one more statement
abbrev pub tables_with : Tables → Statement → Tables
tables_with t (Flow v) = with_flow t v
tables_with t (Source n w) = with_source t n
tables_with t (Sink n w) = with_sink t n
tables_with t (Fifo n w depth delay) = with_fifo t n
tables_with t (Module n) = with_module t n
tables_with t (Reg n w) = with_register t n
tables_with t (Mem n w l) = with_memory t n l
tables_with t (Block n l) = with_block t n
tables_with t (Loop n ii l r) = with_block t n
tables_with t (Temp n w) = with_temp t n
tables_with t (At off guard o) = with_operation t
tables_with t (Goto b) = with_place t AfterBody
tables_with t (Branch r b c) = with_place t AfterBody
tables_with t Stop = with_place t AfterBody
tables_with t (Input n values) = with_input t n (length values)
tables_with t (Limits c o) = with_place t AmongEdits
tables_with t (Depth n d) = with_edit_line t
tables_with t End = with_place t AtEnd

-- the tables are those of some statements at some scale
abbrev pub IsOfStatements : Tables → Type 0
IsOfStatements t = (scale : Scale) × (earlier : List Statement) × (t ≡ tables_of scale earlier)
