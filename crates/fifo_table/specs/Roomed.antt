-- A table as contracts see it: its channels, and the room that was reserved beside them.
use Rattle.std.specs.Prelude.{ℕ, List, map}
use Rattle.fifo_table.specs.{declared.channel.RoomyChannel.RoomyChannel, Channels.Channel}

-- the channels, and how many further pushes and pops each takes without asking for memory
pub record RoomedChannels : Type 0 where
  pub channels : List Channel
  pub push_rooms : List ℕ
  pub pop_rooms : List ℕ

-- a channel without its rooms
abbrev pub channel_of : RoomyChannel → Channel
channel_of roomy = record {
  kind = roomy.kind;
  pushes = roomy.pushes.items;
  pops = roomy.pops.items;
}

-- the channels without their rooms
abbrev pub bare_channels : List RoomyChannel → List Channel
bare_channels channels = map channel_of channels

-- the rooms for further pushes
abbrev pub push_rooms_of : List RoomyChannel → List ℕ
push_rooms_of channels = map (λ c. c.pushes.room) channels

-- the rooms for further pops
abbrev pub pop_rooms_of : List RoomyChannel → List ℕ
pop_rooms_of channels = map (λ c. c.pops.room) channels
