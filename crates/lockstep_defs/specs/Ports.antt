-- The ports of channels, and which module has accesses there.
use Rattle.std.specs.Prelude.{ℕ, ◌≡◌, ◌<◌, Bool, true, false, List, length, filter}
use Rattle.std.specs.List.{position_or_len}
use Rattle.flow_word.specs.{Port, Side, side_of, declared.access.Side.TheVariants.Pop, declared.access.Side.TheVariants.Push}
use Rattle.flow_design.specs.{Op, ChannelKind, Plan, Request, kind_at, is_port, uses, port, taken_port, used_port}
use Rattle.flow_design.specs.declared.design.ChannelKind.TheVariants.{Source, Sink, Fifo}

-- the operation pops or pushes at this port
abbrev pub takes : Port → Op ℕ → Bool
takes a op = is_port a (used_port op)

-- the first module that pops or pushes at a port; the number of modules where none does
unfoldable pub owner : Plan → Port → ℕ
owner p a = position_or_len (uses a) p.design.modules

-- the request pops or pushes at this port when it is done
abbrev pub is_taker : Port → Request → Bool
is_taker a r = is_port a (taken_port r.kind r.channel)

-- the requests that pop or push at this port when they are done
abbrev pub taking_requests : Port → List Request → List Request
taking_requests a requests = filter (is_taker a) requests

-- a channel of this kind has this side: a source is never pushed, and a sink never popped
abbrev pub has_port : ChannelKind → Side → Bool
has_port Source Pop = true
has_port Source Push = false
has_port Sink Pop = false
has_port Sink Push = true
has_port (Fifo depth delay) side = true

-- the request of module i is at a port that its channel has and that belongs to module i
pub record StandsAtPort (p : Plan) (i : ℕ) (r : Request) : Type 0 where
  pub in_range : r.channel < length p.design.channels
  pub is_there : has_port (kind_at p r.channel) (side_of r.kind) ≡ true
  pub owned : owner p (port r.kind r.channel) ≡ i
