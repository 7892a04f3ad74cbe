-- Which statements may stand at which place.
use Rattle.std.specs.Prelude.{Bool, true, false, List, [], ◌∷◌}
use Rattle.flow_design.specs.{Statement}
use Rattle.flow_design.specs.declared.session.Statement.TheVariants.{Flow, Source, Sink, Fifo, Module, Reg, Mem, Block, Loop, Temp, At}
use Rattle.flow_design.specs.declared.session.Statement.TheVariants.{Goto, Branch, Stop, Input, Limits, Depth, End}
use Rattle.flow_grammar.specs.declared.place.SessionPlace.{SessionPlace}
use Rattle.flow_grammar.specs.declared.place.SessionPlace.TheVariants.{AtStart, AmongChannels, AmongRegisters, AmongTemps, AmongOperations}
use Rattle.flow_grammar.specs.declared.place.SessionPlace.TheVariants.{AfterBody, AmongInputs, AmongEdits, AtEnd}

-- the place after a statement
abbrev pub place_after : Statement → SessionPlace
place_after (Flow n) = AmongChannels
place_after (Source n w) = AmongChannels
place_after (Sink n w) = AmongChannels
place_after (Fifo n w depth delay) = AmongChannels
place_after (Module n) = AmongRegisters
place_after (Reg n w) = AmongRegisters
place_after (Mem n w l) = AmongRegisters
place_after (Block n l) = AmongTemps
place_after (Loop n ii l r) = AmongTemps
place_after (Temp n w) = AmongTemps
place_after (At off guard o) = AmongOperations
place_after (Goto b) = AfterBody
place_after (Branch r b c) = AfterBody
place_after Stop = AfterBody
place_after (Input n values) = AmongInputs
place_after (Limits c o) = AmongEdits
place_after (Depth n d) = AmongEdits
place_after End = AtEnd

-- the place after these statements, the latest first
abbrev pub place_reached : List Statement → SessionPlace
place_reached [] = AtStart
place_reached (s ∷ earlier) = place_after s

-- `flow` may stand at this place
abbrev pub takes_flow : SessionPlace → Bool
takes_flow AtStart = true
takes_flow p = false

-- a source, a sink or a FIFO may stand at this place
abbrev pub takes_channels : SessionPlace → Bool
takes_channels AmongChannels = true
takes_channels p = false

abbrev pub takes_modules : SessionPlace → Bool
takes_modules AmongChannels = true
takes_modules AfterBody = true
takes_modules p = false

-- a register or a memory may stand at this place
abbrev pub takes_registers : SessionPlace → Bool
takes_registers AmongRegisters = true
takes_registers p = false

-- a block or a loop may stand at this place
abbrev pub takes_blocks : SessionPlace → Bool
takes_blocks AmongRegisters = true
takes_blocks AfterBody = true
takes_blocks p = false

abbrev pub takes_temps : SessionPlace → Bool
takes_temps AmongTemps = true
takes_temps p = false

-- an operation or a terminator may stand at this place
abbrev pub takes_operations : SessionPlace → Bool
takes_operations AmongTemps = true
takes_operations AmongOperations = true
takes_operations p = false

-- `input` or `limits` may stand at this place
abbrev pub takes_inputs : SessionPlace → Bool
takes_inputs AmongChannels = true
takes_inputs AfterBody = true
takes_inputs AmongInputs = true
takes_inputs p = false

-- `depth` or `end` may stand at this place
abbrev pub takes_edits : SessionPlace → Bool
takes_edits AmongChannels = true
takes_edits AfterBody = true
takes_edits AmongInputs = true
takes_edits AmongEdits = true
takes_edits p = false

-- this is the place after `end`, where nothing may stand
abbrev pub is_end : SessionPlace → Bool
is_end AtEnd = true
is_end p = false

-- the statement may stand at this place
abbrev pub may_stand : Statement → SessionPlace → Bool
may_stand (Flow n) p = takes_flow p
may_stand (Source n w) p = takes_channels p
may_stand (Sink n w) p = takes_channels p
may_stand (Fifo n w depth delay) p = takes_channels p
may_stand (Module n) p = takes_modules p
may_stand (Reg n w) p = takes_registers p
may_stand (Mem n w l) p = takes_registers p
may_stand (Block n l) p = takes_blocks p
may_stand (Loop n ii l r) p = takes_blocks p
may_stand (Temp n w) p = takes_temps p
may_stand (At off guard o) p = takes_operations p
may_stand (Goto b) p = takes_operations p
may_stand (Branch r b c) p = takes_operations p
may_stand Stop p = takes_operations p
may_stand (Input n values) p = takes_inputs p
may_stand (Limits c o) p = takes_inputs p
may_stand (Depth n d) p = takes_edits p
may_stand End p = takes_edits p

-- the statement may stand after these, the latest first
unfoldable pub may_follow : List Statement → Statement → Bool
may_follow earlier s = may_stand s (place_reached earlier)
