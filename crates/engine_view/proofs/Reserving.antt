-- The loop that makes room at a module's ports.
use Rattle.std.proofs.Common.{◌≡◌, refl, ◌∙◌, ℕ, ◌+◌, ◌<◌, ◌≤◌, List, length, take, Some, arith}
use Rattle.std.proofs.{lemmas.List.take_more, lemmas.List.take_all, Math.ListN.get_or}
use Rattle.std.proofs.lemmas.List.Elements.{All-push, All-weaker}
use Rattle.std.specs.Prelude.{All, slice_get}
use Rattle.engine_view.specs.{Port, Side, RoomedChannels, room_of}

-- so much room is at the port
abbrev pub IsRoomyPort : ℕ → RoomedChannels → Port → Type 0
IsRoomyPort places t port = places + 1 ≤ room_of t port.side port.channel

-- room was made at the ports before this index
pub record ReservesOn (places : ℕ) (ports : List Port) (old now : RoomedChannels) (index : ℕ) : Type 0 where
  pub channels : now.channels ≡ old.channels
  pub kept : (side : Side) (c : ℕ) → room_of old side c ≤ room_of now side c
  pub room : All (IsRoomyPort places now) (take index ports)

pub reserves_init : (places : ℕ) (ports : List Port) (old : RoomedChannels) → ReservesOn places ports old old 0
reserves_init places ports old = record { channels = refl; kept = λ side c. omega arith; room = λ k d l. absurd (omega arith) }

pub reserves_more : (places : ℕ) (ports : List Port) (old now next : RoomedChannels) (index : ℕ) (d : Port)
    → ReservesOn places ports old now index
    → index < length ports
    → next.channels ≡ now.channels → ((side : Side) (c : ℕ) → room_of now side c ≤ room_of next side c)
    → IsRoomyPort places next (get_or ports index d)
    → ReservesOn places ports old next (index + 1)
reserves_more places ports old now next index d r inside same kept here = record {
  channels = same ∙ r.channels;
  kept = λ side c. let a = r.kept side c in let b = kept side c in omega arith;
  room = rw (take_more ports index d inside) (All-push (IsRoomyPort places next) (take index ports) (get_or ports index d)
      (All-weaker (IsRoomyPort places now) (IsRoomyPort places next) (λ port a. let b = kept port.side port.channel in omega arith)
      (take index ports)
      r.room) here);
}

pub reserves_all : (places : ℕ) (ports : List Port) (old now : RoomedChannels) (index : ℕ) → ReservesOn places ports old now index
    → length ports ≤ index
    → All (IsRoomyPort places now) ports
reserves_all places ports old now index r all = let room = r.room in rw (take_all index ports all) at room

-- ---- as many places at each port as are told of it

-- so much room is at the ports before this index
pub record ReservesEachOn (ports : List Port) (places : List ℕ) (old now : RoomedChannels) (index : ℕ) : Type 0 where
  pub channels : now.channels ≡ old.channels
  pub kept : (side : Side) (c : ℕ) → room_of old side c ≤ room_of now side c
  pub room : (i : ℕ) (port : Port) → i < index → slice_get ports i ≡ Some port → IsRoomyPort (get_or places i 0) now port
