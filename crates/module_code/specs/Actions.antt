-- What an action takes from the state before the replies, what it writes on its reply, and that it does what its operation does.
use Rattle.std.specs.Prelude.{ℕ, ◌≡◌, ◌<◌, Bool, true, false, List, fold, max, length, Option, Some, None, slice_index, if◌then◌else◌}
use Rattle.std.specs.{Int.from_bool, Int.Bits.bit_and}
use Rattle.flow_design.specs.{Block, Channel, Op, Reply, Request, temps_of, ModuleState, declared.design.Module.Module}
use Rattle.lockstep_defs.specs.{memory_of, address_in, value_in, is_yes, request_of, is_fifo_operation, stored}
use Rattle.module_code.specs.{declared.noted.Noted.Noted, declared.operand.Operand.Operand, declared.action.OpCode.OpCode}
use Rattle.module_code.specs.{Notes.noted_value, Notes.noted_address, Notes.effects_from, Ready.places_in, Ready.IsOperationReady}
use Rattle.module_code.specs.{Targets.put_value, Targets.put_word, Operands.operand_value, Operands.IsOperandSound, Operands.operand_room}
use Rattle.module_code.specs.declared.action.OpCode.TheVariants.{Set, Load, Store, Read, Write, TryRead, TryWrite, Empty, Full}
use Rattle.flow_word.specs.declared.access.Kind.TheVariants as kind

-- ---- before the replies

-- the value of an operand in a live iteration
abbrev pub live_value : ModuleState → ℕ → Operand → ℕ
live_value s i o = operand_value s.registers (temps_of s i) o

-- the value that an action writes, where no reply decides it
abbrev pub action_value : ModuleState → ℕ → OpCode → ℕ
action_value s i (Set t o) = live_value s i o
action_value s i (Load t n o) = slice_index (memory_of s n) (address_in s n (live_value s i o))
action_value s i (Store n mask o a) = live_value s i a
action_value s i (Read f t) = 0
action_value s i (Write f mask o) = 0
action_value s i (TryRead f t ok) = 0
action_value s i (TryWrite f mask ok o) = 0
action_value s i (Empty f t) = 0
action_value s i (Full f t) = 0

abbrev pub action_address : ModuleState → ℕ → OpCode → ℕ
action_address s i (Set t o) = 0
action_address s i (Load t n o) = 0
action_address s i (Store n mask o a) = address_in s n (live_value s i o)
action_address s i (Read f t) = 0
action_address s i (Write f mask o) = 0
action_address s i (TryRead f t ok) = 0
action_address s i (TryWrite f mask ok o) = 0
action_address s i (Empty f t) = 0
action_address s i (Full f t) = 0

-- the request of an action; none where it takes no reply
abbrev pub action_request : ModuleState → ℕ → OpCode → Option Request
action_request s i (Set t o) = None
action_request s i (Load t n o) = None
action_request s i (Store n mask o a) = None
action_request s i (Read f t) = Some (record { kind = kind.Read; channel = f; value = 0 })
action_request s i (Write f mask o) = Some (record { kind = kind.Write; channel = f; value = bit_and (live_value s i o) mask })
action_request s i (TryRead f t ok) = Some (record { kind = kind.TryRead; channel = f; value = 0 })
action_request s i (TryWrite f mask ok o) = Some (record { kind = kind.TryWrite; channel = f; value = bit_and (live_value s i o) mask })
action_request s i (Empty f t) = Some (record { kind = kind.Empty; channel = f; value = 0 })
action_request s i (Full f t) = Some (record { kind = kind.Full; channel = f; value = 0 })

abbrev pub takes_reply : OpCode → Bool
takes_reply (Set t o) = false
takes_reply (Load t n o) = false
takes_reply (Store n mask o a) = false
takes_reply (Read f t) = true
takes_reply (Write f mask o) = true
takes_reply (TryRead f t ok) = true
takes_reply (TryWrite f mask ok o) = true
takes_reply (Empty f t) = true
takes_reply (Full f t) = true

-- ---- on the reply

-- the state after an action has written what its note and its reply give
abbrev pub carried_out : ModuleState → Noted → Reply → OpCode → ModuleState
carried_out s n r (Set t o) = put_value s n.iteration t n.value
carried_out s n r (Load t m o) = put_value s n.iteration t n.value
carried_out s n r (Store m mask o a) = put_word s m n.address (bit_and n.value mask)
carried_out s n r (Read f t) = put_value s n.iteration t (value_in r)
carried_out s n r (Write f mask o) = s
carried_out s n r (TryRead f t ok) =
    put_value (if is_yes r then put_value s n.iteration t (value_in r) else s) n.iteration ok (from_bool (is_yes r))
carried_out s n r (TryWrite f mask ok o) = put_value s n.iteration ok (from_bool (is_yes r))
carried_out s n r (Empty f t) = put_value s n.iteration t (from_bool (is_yes r))
carried_out s n r (Full f t) = put_value s n.iteration t (from_bool (is_yes r))

-- ---- what an action needs

-- all that an action looks up is there
abbrev pub IsActionReady : ModuleState → ℕ → OpCode → Type 0
IsActionReady s i (Set t o) = IsOperandSound (places_in s i) o
IsActionReady s i (Load t n o) = IsOperandSound (places_in s i) o × (0 < length (memory_of s n))
IsActionReady s i (Store n mask o a) =
    IsOperandSound (places_in s i) o × (IsOperandSound (places_in s i) a × (0 < length (memory_of s n)))
IsActionReady s i (Read f t) = Unit {0}
IsActionReady s i (Write f mask o) = IsOperandSound (places_in s i) o
IsActionReady s i (TryRead f t ok) = Unit {0}
IsActionReady s i (TryWrite f mask ok o) = IsOperandSound (places_in s i) o
IsActionReady s i (Empty f t) = Unit {0}
IsActionReady s i (Full f t) = Unit {0}

-- how many results of instructions an action needs room for
abbrev pub action_room : OpCode → ℕ
action_room (Set t o) = operand_room o
action_room (Load t n o) = operand_room o
action_room (Store n mask o a) = max (operand_room o) (operand_room a)
action_room (Read f t) = 0
action_room (Write f mask o) = operand_room o
action_room (TryRead f t ok) = 0
action_room (TryWrite f mask ok o) = operand_room o
action_room (Empty f t) = 0
action_room (Full f t) = 0

-- ---- the code of an operation

-- the action does what the operation of this block does, in each state
pub record IsActionOf (channels : List Channel) (m : Module) (b : Block) (c : OpCode) (op : Op ℕ) : Type 0 where
  pub values : (s : ModuleState) (i : ℕ) → action_value s i c ≡ noted_value s i op
  pub addresses : (s : ModuleState) (i : ℕ) → action_address s i c ≡ noted_address s i op
  pub requests : (s : ModuleState) (i : ℕ) → action_request s i c ≡ request_of channels s i op
  pub replies : takes_reply c ≡ is_fifo_operation op
  pub written : (s : ModuleState) (n : Noted) (r : Reply) → carried_out s n r c ≡ fold (stored m b) s (effects_from n op r)
  pub ready : (s : ModuleState) (i : ℕ) → IsOperationReady s i op → IsActionReady s i c
