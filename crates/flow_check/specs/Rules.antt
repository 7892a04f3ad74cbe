-- The rules of checking at a scale, tested on a session's plan: for each rule the first item that breaks it, in the order of the
-- text.
use Rattle.std.specs.Prelude.{ℕ, ◌*◌, ◌%◌, ◌==◌, ◌&&◌, not, nat_lt, nat_le, Bool, false, List, [], ◌∷◌, length, count_by, Option, None}
use Rattle.std.specs.Prelude.{Some, option_map, if◌then◌else◌}
use Rattle.std.specs.List.{list_any, enumerate_from}
use Rattle.flow_word.specs.{Side, Port, declared.access.Side.TheVariants.Pop, declared.access.Side.TheVariants.Push}
use Rattle.flow_design.specs.{declared.limits.TheConstants.CYCLES, Scale, ChannelKind, Channel, BlockKind, Next, Timed, Block, Plan}
use Rattle.flow_design.specs.{limits_at, port_of, used_port, same_port, uses, users_wanted, declared.design.Module.Module}
use Rattle.flow_design.specs.{declared.design.BlockKind.TheVariants.Plain, declared.design.BlockKind.TheVariants.Loop}
use Rattle.flow_design.specs.declared.design.Next.TheVariants.{Goto, Branch, Stop}
use Rattle.flow_grammar.specs.{Code}
use Rattle.flow_check.specs.{declared.item.Spot.Spot, declared.item.Item.Item}
use Rattle.flow_check.specs.declared.item.Spot.TheVariants.{Head, Operation, Terminator}
use Rattle.flow_check.specs.First.{first_in, place_where, first_after, first_for}
use Rattle.flow_grammar.specs.declared.fault.Code.TheVariants as code
use Rattle.flow_check.specs.declared.item.Item.TheVariants as item

-- ---- a `goto` or `branch` names a block that its module has: the number of an unknown name is the number of blocks

abbrev pub leads_out : ℕ → Next → Bool
leads_out blocks (Goto b) = not (nat_lt b blocks)
leads_out blocks (Branch r b c) = not (nat_lt b blocks && nat_lt c blocks)
leads_out blocks Stop = false

-- ---- the cycle limit and the operation limit are at least 1, and within the limits of the language and of the scale

abbrev pub breaks_limits : Scale → ℕ → ℕ → Bool
breaks_limits scale cycles ops =
    not ((nat_le 1 cycles && nat_le cycles CYCLES) && (nat_le 1 ops && nat_le ops (limits_at scale).counted_operations))

-- ---- each channel has the readers and writers that its kind must have

abbrev pub has_users : List Module → ℕ → ChannelKind → Side → Bool
has_users modules f kind side = count_by (uses (record { side = side; channel = f })) modules == users_wanted kind side

abbrev pub is_served : List Module → ℕ → ChannelKind → Bool
is_served modules f kind = has_users modules f kind Pop && has_users modules f kind Push

abbrev pub lacks_users : List Module → ℕ × Channel → Bool
lacks_users modules (f, c) = not (is_served modules f c.kind)

-- ---- no two operations of a body pop the same channel, or push it, at equal offsets; in a loop at offsets that are equal modulo
-- II

-- the offset of an operation; in a loop the offset modulo II
abbrev pub phase : BlockKind → ℕ → ℕ
phase Plain offset = offset
phase (Loop ii again) offset = offset % ii

-- the port that an operation uses, and its offset; in a loop the offset modulo II
abbrev pub PortSlot : Type 0
PortSlot = Port × ℕ

abbrev pub slot : BlockKind → Timed → Option PortSlot
slot kind t = option_map (λ a. (a, phase kind t.offset)) (used_port t.op)

abbrev pub same_slot : PortSlot → PortSlot → Bool
same_slot (a, at) (b, by) = same_port a b && (at == by)

abbrev pub is_slot : PortSlot → Option PortSlot → Bool
is_slot s None = false
is_slot s (Some other) = same_slot s other

-- one of these earlier operations takes the slot, if there is one
abbrev pub takes_again : BlockKind → List Timed → Option PortSlot → Bool
takes_again kind before None = false
takes_again kind before (Some s) = list_any (λ t. is_slot s (slot kind t)) before

abbrev pub clashes : BlockKind → List Timed → Timed → Bool
clashes kind before t = takes_again kind before (slot kind t)

-- ---- a loop's LEN is at least II, and at most II times the number of iterations that may be live at once

abbrev pub is_bad_loop : Scale → ℕ → BlockKind → Bool
is_bad_loop scale len Plain = false
is_bad_loop scale len (Loop ii again) = not (nat_le ii len && nat_le len ((limits_at scale).live_iterations * ii))

-- ---- an operation's offset is below its block's LEN

abbrev pub is_too_late : ℕ → Timed → Bool
is_too_late len t = not (nat_lt t.offset len)

-- ---- an operation is at a port that its module uses: `empty` in the module that pops the channel, and `full` in the one that
-- pushes it

abbrev pub lacks_port : Module → Option Port → Bool
lacks_port m None = false
lacks_port m (Some a) = not (uses a m)

abbrev pub is_on_wrong_side : Module → Timed → Bool
is_on_wrong_side m t = lacks_port m (port_of t.op)

-- ---- the rules in blocks

-- the first spot of a block that breaks a rule, if one does
abbrev pub spot : Scale → Code → Module → Block → Option Spot
spot scale code.UnknownName m b = if leads_out (length m.blocks) b.next then Some Terminator else None
spot scale code.PortClash m b = option_map Operation (first_after (clashes b.kind) [] b.ops)
spot scale code.BadLoop m b = if is_bad_loop scale b.len b.kind then Some Head else None
spot scale code.BadOffset m b = option_map Operation (place_where (is_too_late b.len) b.ops)
spot scale code.WrongSide m b = option_map Operation (place_where (is_on_wrong_side m) b.ops)
spot scale rule m b = None

abbrev pub spot_in : Scale → Code → Module → Option (ℕ × Spot)
spot_in scale rule m = first_in (spot scale rule m) m.blocks

abbrev pub in_module : ℕ × (ℕ × Spot) → Item
in_module (m, place) = item.InModule m place

-- ---- all rules

-- the first item of a plan that breaks a rule, if one does
abbrev pub broken_by : Scale → Plan → Code → Option Item
broken_by scale plan code.BadLimit = if breaks_limits scale plan.cycles plan.ops then Some item.Limits else None
broken_by scale plan code.Ends =
    option_map item.Channel (place_where (lacks_users plan.design.modules) (enumerate_from 0 plan.design.channels))
broken_by scale plan rule = option_map in_module (first_in (spot_in scale rule) plan.design.modules)

-- the rules in their order: each is tested on the whole plan before the next one
abbrev pub rules : List Code
rules = code.UnknownName ∷ code.BadLimit ∷ code.Ends ∷ code.PortClash ∷ code.BadLoop ∷ code.BadOffset ∷ code.WrongSide ∷ []

-- the first rule that a plan breaks, with the first item that breaks it; none where it breaks no rule
unfoldable pub checking_fault : Scale → Plan → Option (Code × Item)
checking_fault scale plan = first_for (broken_by scale plan) rules
