-- What must hold of a module's state for its requests and its move to be computed.
use Rattle.std.specs.Prelude.{◌≡◌, ◌<◌, ◌^◌, false, List, length}
use Rattle.flow_design.specs.{Channel, ModuleState, Due, IsModuleSound, block_of, declared.design.Module.Module}
use Rattle.lockstep_defs.specs.{IsStateOf}
use Rattle.module_code.specs.{declared.action.OpCode.OpCode, declared.code.BlockCode.BlockCode, declared.noted.Notes.Notes}
use Rattle.module_code.specs.{Codes.IsBlockCodeOf, Notes.noted_for, Notes.listed, Notes.AreNotesIn, Moves.notes_of}
use Rattle.module_code.specs.Actions.{action_value, action_address, IsActionReady}

-- the state is one that the module can have, and the module is not ended in it
pub record IsStateSound (m : Module) (s : ModuleState) : Type 0 where
  pub state : IsStateOf m s
  pub running : s.ended ≡ false

-- the state is sound, unless the module is ended
abbrev pub IsRunnable : Module → ModuleState → Type 0
IsRunnable m s = s.ended ≡ false → IsStateSound m s

-- a due operation of a sound state names a live iteration and an operation of the block
pub record IsDueSound (m : Module) (s : ModuleState) (d : Due) : Type 0 where
  pub iteration : d.iteration < length s.temps
  pub op : d.op < length (block_of m s).ops

-- the action has the value, address and request of the due operation, and finds what it looks up
pub record IsActionAt (m : Module) (s : ModuleState) (d : Due) (action : OpCode) : Type 0 where
  pub value : action_value s d.iteration action ≡ (noted_for (block_of m s) s d).value
  pub address : action_address s d.iteration action ≡ (noted_for (block_of m s) s d).address
  pub ready : IsActionReady s d.iteration action

-- the due operations can be looked up: this is the code of the block in which the module stands
pub record HasCode (channels : List Channel) (m : Module) (s : ModuleState) (code : BlockCode) : Type 0 where
  pub of : IsModuleSound (length channels) m
  pub code_is : IsBlockCodeOf channels m (block_of m s) code

-- these are notes of this code, and of what is due
pub record AreNotesOf (m : Module) (s : ModuleState) (code : BlockCode) (notes : Notes) : Type 0 where
  pub in_code : AreNotesIn code notes
  pub are : listed code notes ≡ notes_of m s

-- the due operations can commit: the state is sound, and these are the code of its block and the notes of all that is due
pub record CanCommit (channels : List Channel) (m : Module) (s : ModuleState) (code : BlockCode) (notes : Notes) : Type 0 where
  pub of : IsModuleSound (length channels) m
  pub state : IsStateSound m s
  pub code_is : IsBlockCodeOf channels m (block_of m s) code
  pub noted : AreNotesOf m s code notes
  pub few : s.count < 2 ^ 60
