-- What a set of ports, or a set of slots, has.
use Rattle.std.specs.Prelude.{◌≡◌, Bool, false, List, map, Option, None, Some}
use Rattle.std.specs.List.{list_any}
use Rattle.indexmap.specs.IndexSet.{IndexSet, keys}
use Rattle.flow_word.specs.{Port}
use Rattle.flow_design.specs.{declared.design.Module.Module, same_port, uses}
use Rattle.flow_check.specs.Rules.{PortSlot, same_slot}

abbrev pub has : {S : Type 0} → IndexSet Port S → Port → Bool
has ports a = list_any (same_port a) (keys ports)

abbrev pub has_slot : {S : Type 0} → IndexSet PortSlot S → PortSlot → Bool
has_slot slots s = list_any (same_slot s) (keys slots)

-- the set has the slot, if there is one
abbrev pub has_this : {S : Type 0} → IndexSet PortSlot S → Option PortSlot → Bool
has_this slots None = false
has_this slots (Some s) = has_slot slots s

-- the set has exactly the ports that a module uses
abbrev pub HasPorts : {S : Type 0} → IndexSet Port S → Module → Type 0
HasPorts ports m = (a : Port) → has ports a ≡ uses a m

-- each of the sets has exactly the ports that its module uses
abbrev pub HavePorts : {S : Type 0} → List (IndexSet Port S) → List Module → Type 0
HavePorts all modules = (a : Port) → map (λ ports. has ports a) all ≡ map (uses a) modules
