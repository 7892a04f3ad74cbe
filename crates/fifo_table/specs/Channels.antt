-- Channels with the pushes and pops that were emitted so far.
use Rattle.std.specs.Prelude.{ℕ, ◌≡◌, ◌-◌, ◌≤◌, List, [], ◌∷◌, ◌++◌, length, map, slice_get, slice_set, slice_index_or, Option, option_map}
use Rattle.std.specs.Prelude.{All}
use Rattle.flow_word.specs.{Place, Side, declared.access.Side.TheVariants.Pop, declared.access.Side.TheVariants.Push}
use Rattle.flow_design.specs.declared.limits.TheConstants.{FIFO_DEPTH, FIFO_DELAY}
use Rattle.fifo_table.specs.{declared.channel.Pushed.Pushed, declared.channel.TableChannel.TableChannel}
use Rattle.fifo_table.specs.declared.channel.TableChannel.TheVariants.{Source, Sink, Fifo}

-- ---- what a channel is

-- a FIFO's depth and delay are within the limits of the language
abbrev pub IsSoundKind : TableChannel → Type 0
IsSoundKind (Source inputs) = Unit {0}
IsSoundKind Sink = Unit {0}
IsSoundKind (Fifo depth delay) = (1 ≤ depth) × (depth ≤ FIFO_DEPTH) × (1 ≤ delay) × (delay ≤ FIFO_DELAY)

-- the channel is a source
abbrev pub IsSource : TableChannel → Type 0
IsSource (Source inputs) = Unit {0}
IsSource Sink = ⊥
IsSource (Fifo depth delay) = ⊥

-- the channel is a sink
abbrev pub IsSink : TableChannel → Type 0
IsSink (Source inputs) = ⊥
IsSink Sink = Unit {0}
IsSink (Fifo depth delay) = ⊥

-- the channel is a FIFO
abbrev pub IsFifo : TableChannel → Type 0
IsFifo (Source inputs) = ⊥
IsFifo Sink = ⊥
IsFifo (Fifo depth delay) = Unit {0}

-- a channel of this kind has this side: nobody pops a sink, and nobody pushes a source
abbrev pub HasSide : TableChannel → Side → Type 0
HasSide kind Pop = ¬ IsSink kind
HasSide kind Push = ¬ IsSource kind

-- the depth of a FIFO; 0 for any other channel
abbrev pub depth_of : TableChannel → ℕ
depth_of (Source inputs) = 0
depth_of Sink = 0
depth_of (Fifo depth delay) = depth

-- how many pops, or pushes, of a channel wait for no event: the pops of a source's inputs, and the pushes on a FIFO's first places
abbrev pub free_of : TableChannel → Side → ℕ
free_of (Source inputs) Pop = length inputs
free_of (Source inputs) Push = 0
free_of Sink side = 0
free_of (Fifo depth delay) Pop = 0
free_of (Fifo depth delay) Push = depth

-- the channel with another depth, if it is a FIFO
abbrev pub deepened : TableChannel → ℕ → TableChannel
deepened (Source inputs) depth = Source inputs
deepened Sink depth = Sink
deepened (Fifo old delay) depth = Fifo depth delay

-- the lag of a side: after how many clocks an access sees the event that it waits for; the delay for a pop of a FIFO, else 1
abbrev pub lag_of : TableChannel → Side → ℕ
lag_of (Source inputs) side = 1
lag_of Sink side = 1
lag_of (Fifo depth delay) Pop = delay
lag_of (Fifo depth delay) Push = 1

-- ---- channels

-- the kind of a channel, and its pushes and pops in order
pub record Channel : Type 0 where
  pub kind : TableChannel
  pub pushes : List Pushed
  pub pops : List Place

-- a channel without any push or pop
abbrev pub unused : TableChannel → Channel
unused kind = record { kind = kind; pushes = []; pops = [] }

-- the channel with this number
abbrev pub channel_at : List Channel → ℕ → Channel
channel_at channels c = slice_index_or channels c (unused Sink)

-- the n-th item of a list, counted from 1
abbrev pub nth : {X : Type 0} → List X → ℕ → Option X
nth items n = slice_get items (n - 1)

-- the steps of a channel's pops, or of its pushes, in order
abbrev pub places_of : Side → Channel → List Place
places_of Pop channel = channel.pops
places_of Push channel = map (λ p. p.at) channel.pushes

-- the module of the first of these steps, if there is one
abbrev pub first_module : List Place → Option ℕ
first_module places = option_map (λ place. place.module) (slice_get places 0)

-- all of these steps are of module m
abbrev pub AreAllOf : ℕ → List Place → Type 0
AreAllOf m places = All (λ place. place.module ≡ m) places

-- the values that a channel's pops give, in order: a source's inputs, else what was pushed
abbrev pub values_of : TableChannel → List Pushed → List ℕ
values_of (Source inputs) pushes = inputs
values_of Sink pushes = map (λ p. p.value) pushes
values_of (Fifo depth delay) pushes = map (λ p. p.value) pushes

-- ---- changes

-- a push and its value
abbrev pub push_of : Place → ℕ → Pushed
push_of at value = record { at = at; value = value }

-- the channels with one more push on one of them
abbrev pub with_push : List Channel → ℕ → Place → ℕ → List Channel
with_push channels c at value =
    slice_set channels c (record (channel_at channels c) { pushes = (channel_at channels c).pushes ++ push_of at value ∷ [] })

-- the channels with one more pop of one of them
abbrev pub with_pop : List Channel → ℕ → Place → List Channel
with_pop channels c at = slice_set channels c (record (channel_at channels c) { pops = (channel_at channels c).pops ++ at ∷ [] })

-- the channels with another depth of one of them
abbrev pub deepened_channels : List Channel → ℕ → ℕ → List Channel
deepened_channels channels c depth =
    slice_set channels c (record (channel_at channels c) { kind = deepened (channel_at channels c).kind depth })
