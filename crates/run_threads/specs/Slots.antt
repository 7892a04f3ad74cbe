-- Where the passes of the modules are.
use Rattle.std.specs.Prelude.{◌≡◌, ◌≤◌, ℕ, List, [], map, Some, slice_get, vec_capacity}
use Rattle.sim_hub.specs.{Hub, ModulePass}
use Rattle.run_threads.specs.{Driving.IsHere, declared.drive.Driver.Driver, declared.room.Room.Room, declared.start.PassHolder.PassHolder}
use Rattle.run_threads.specs.declared.start.PassHolder.TheVariants as slot

-- these are the passes of this hub's modules, in order, with no desk out
abbrev pub AreHere : Hub → List ModulePass → Type 0
AreHere hub passes = (k : ℕ) (p : ModulePass) → slice_get passes k ≡ Some p → IsHere hub k p

-- the passes of the drivers, in order
abbrev pub passes_in : List Driver → List ModulePass
passes_in drivers = map (λ (s : Driver). s.pass) drivers

-- module m's pass is here, with no desk out, or comes back from its thread so
abbrev pub SlotIs : Hub → ℕ → PassHolder → Type 0
SlotIs hub m (slot.There child) = (child.promise.hub.value ≡ hub) × (child.promise.which ≡ m)
SlotIs hub m (slot.Here pass) = IsHere hub m pass
SlotIs hub m slot.Gone = ⊥

-- the caller has the pass, and no thread drives its module
abbrev pub KeepsPass : PassHolder → Type 0
KeepsPass (slot.There child) = ⊥
KeepsPass (slot.Here pass) = Unit {0}
KeepsPass slot.Gone = ⊥

-- these are the slots of the modules, in order
abbrev pub AreSlots : Hub → List PassHolder → Type 0
AreSlots hub slots = (k : ℕ) (s : PassHolder) → slice_get slots k ≡ Some s → SlotIs hub k s

-- the lists are empty, and have room for so many modules
pub record IsRoomFor (modules : ℕ) (room : Room) : Type 0 where
  pub no_slots : room.slots.items ≡ []
  pub no_passes : room.passes.items ≡ []
  pub slots : modules ≤ vec_capacity room.slots
  pub passes : modules ≤ vec_capacity room.passes
