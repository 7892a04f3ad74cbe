-- The kinds of all channels stay sound.
use Rattle.std.proofs.Common.{◌≡◌, ℕ, ◌<◌, ◌≤◌, List, length, map, get_or, arith}
use Rattle.std.proofs.{Math.ListN.set, lemmas.List.Elements.All-set, lemmas.List.Elements.All-map}
use Rattle.std.proofs.lemmas.List.{map-set, get_or-map, length-map, length-set}
use Rattle.std.specs.Prelude.{◌^◌, All}
use Rattle.fifo_table.specs.{Side, TableChannel, channel_of, bare_channels, RoomyChannel, Channel, IsSoundKind, deepened, lag_of, unused}
use Rattle.fifo_table.specs.declared.channel.TableChannel.TheVariants.{Source, Sink, Fifo}
use Rattle.flow_word.specs.declared.access.Side.TheVariants.{Pop, Push}
use Rattle.flow_design.specs.declared.limits.TheConstants.{FIFO_DEPTH, FIFO_DELAY}

-- the kinds are sound, and a channel's number fits
abbrev pub AreSound : List RoomyChannel → Type 0
AreSound items = All (λ (a : Channel). IsSoundKind a.kind) (bare_channels items) × (length items < 2 ^ 32)

-- where one channel is replaced by one of a sound kind
pub replaced : (items : List RoomyChannel) (c : ℕ) (new : RoomyChannel) → AreSound items → IsSoundKind new.kind → AreSound (set items c new)
replaced items c new sound here = (
  rw (map-set channel_of items c new) (All-set (λ (a : Channel). IsSoundKind a.kind) (bare_channels items) c (channel_of new) here sound.0),
  rw (length-set items c new) sound.1,
)

-- the kind of a channel that was read
pub read_kind : (items : List RoomyChannel) (c : ℕ) (old : RoomyChannel) → c < length items → old ≡ get_or items c old → AreSound items
    → IsSoundKind old.kind
read_kind items c old there is sound =
    let shown = get_or-map channel_of items c old (channel_of old) there in
    let here = sound.0 c (channel_of old) (rw (length-map items channel_of) there) in
    rw (shown, ← is) at here

-- a FIFO of another depth
pub deepened_sound : (kind : TableChannel) (depth : ℕ) → IsSoundKind kind → 1 ≤ depth → depth ≤ FIFO_DEPTH
    → IsSoundKind (deepened kind depth)
deepened_sound (Source inputs) depth sound least most = sound
deepened_sound Sink depth sound least most = sound
deepened_sound (Fifo old delay) depth sound least most = (least, most, sound.2, sound.3)

-- an event comes strictly before what it enables
pub lag_least : (kind : TableChannel) (side : Side) → IsSoundKind kind → 1 ≤ lag_of kind side
lag_least (Source inputs) side sound = omega arith
lag_least Sink side sound = omega arith
lag_least (Fifo depth delay) Pop sound = sound.2
lag_least (Fifo depth delay) Push sound = omega arith

pub lag_most : (kind : TableChannel) (side : Side) → IsSoundKind kind → lag_of kind side ≤ FIFO_DELAY
lag_most (Source inputs) side sound = omega arith
lag_most Sink side sound = omega arith
lag_most (Fifo depth delay) Pop sound = sound.3
lag_most (Fifo depth delay) Push sound = omega arith

-- channels that were made of sound kinds
pub made_sound : (kinds : List TableChannel) → All IsSoundKind kinds → All (λ (a : Channel). IsSoundKind a.kind) (map unused kinds)
made_sound kinds sound = All-map (λ (a : Channel). IsSoundKind a.kind) unused kinds sound
