-- Which operations are possible on the contents of the channels, and what is done there.
use Rattle.std.specs.Prelude.{ℕ, Bool, true, not, ◌&&◌, ◌==◌, nat_le, nat_lt, if◌then◌else◌, List, [], ◌∷◌, length, flat_map, map}
use Rattle.std.specs.Prelude.{slice_index, slice_index_or}
use Rattle.flow_word.specs.{Side, Kind, side_of, is_blocking, declared.access.Side.TheVariants.Pop, declared.access.Side.TheVariants.Push}
use Rattle.flow_word.specs.declared.access.Kind.TheVariants.{Read, Write, TryRead, TryWrite, Empty, Full}
use Rattle.flow_design.specs.{Plan, Element, Request, Reply, is_fifo, kind_at}
use Rattle.flow_design.specs.declared.state.Reply.TheVariants.{Done, Value, Flag, Took, Missed}
use Rattle.lockstep_defs.specs.Machine.{is_yes, value_in}

-- ---- what is possible

-- a value as an element that can be popped from clock `since` on
abbrev pub element_from : ℕ → ℕ → Element
element_from since v = record { value = v; since = since }

abbrev pub values : List Element → List ℕ
values held = map (λ e. e.value) held

abbrev pub contents_of : List (List Element) → ℕ → List Element
contents_of contents f = slice_index_or contents f []

-- a channel is empty in a clock where it holds no element, or its first element cannot be popped yet
abbrev pub is_empty : ℕ → List Element → Bool
is_empty clock [] = true
is_empty clock (e ∷ es) = nat_lt clock e.since

-- the value of a channel's first element, or 0 where there is none
abbrev pub front : List Element → ℕ
front [] = 0
front (e ∷ es) = e.value

-- the contents as they would be if every element could be popped
abbrev pub all_ready : List (List Element) → List (List Element)
all_ready contents = map (λ held. map (λ e. element_from 0 e.value) held) contents

-- a FIFO is full where it holds as many elements as its depth, those in flight included; a source or a sink is never full
abbrev pub is_full : Plan → ℕ → List Element → Bool
is_full p f held = is_fifo (kind_at p f) && nat_le (slice_index p.depths f) (length held)

-- in this clock the channel has an element to pop, or a place for a push
abbrev pub can_take : Plan → ℕ → List (List Element) → Side → ℕ → Bool
can_take p clock contents Pop f = not (is_empty clock (contents_of contents f))
can_take p clock contents Push f = not (is_full p f (contents_of contents f))

-- the request is a blocking operation that cannot be done in this clock
abbrev pub stalls : Plan → ℕ → List (List Element) → Request → Bool
stalls p clock contents r = is_blocking r.kind && not (can_take p clock contents (side_of r.kind) r.channel)

-- ---- replies

-- the reply to an operation, by whether it is possible and by the channel's front
abbrev pub reply_by : Kind → Bool → ℕ → Reply
reply_by Read possible front = Value front
reply_by Write possible front = Done
reply_by TryRead possible front = if possible then Took front else Missed
reply_by TryWrite possible front = Flag possible
reply_by Empty possible front = Flag (not possible)
reply_by Full possible front = Flag (not possible)

unfoldable pub reply : Plan → ℕ → List (List Element) → Request → Reply
reply p clock contents r =
    reply_by r.kind (can_take p clock contents (side_of r.kind) r.channel)
    (front (contents_of contents r.channel))

-- ---- what is done

-- a FIFO operation that was done: what was asked, and the reply
pub record Exchange : Type 0 where
  pub request : Request
  pub reply : Reply

-- the FIFO operations that a module did in one clock, in commit order
pub record HistoryStep : Type 0 where
  pub clock : ℕ
  pub «module» : ℕ
  pub exchanges : List Exchange

-- the value that an operation of this kind popped, by whether it was done
abbrev pub popped_value : Kind → Bool → ℕ → List ℕ
popped_value Read was_done v = v ∷ []
popped_value Write was_done v = []
popped_value TryRead was_done v = if was_done then v ∷ [] else []
popped_value TryWrite was_done v = []
popped_value Empty was_done v = []
popped_value Full was_done v = []

-- the value that an operation of this kind pushed, by whether it was done
abbrev pub pushed_value : Kind → Bool → ℕ → List ℕ
pushed_value Read was_done v = []
pushed_value Write was_done v = v ∷ []
pushed_value TryRead was_done v = []
pushed_value TryWrite was_done v = if was_done then v ∷ [] else []
pushed_value Empty was_done v = []
pushed_value Full was_done v = []

-- the value that an operation popped, which its reply has, or the value that it pushed, which its request has
abbrev pub moved_value : Side → Exchange → List ℕ
moved_value Pop x = popped_value x.request.kind (is_yes x.reply) (value_in x.reply)
moved_value Push x = pushed_value x.request.kind (is_yes x.reply) x.request.value

-- the values that these operations popped off a channel, or pushed on it, in order
unfoldable pub moved_by : Side → ℕ → List Exchange → List ℕ
moved_by side f xs = flat_map (λ x. if x.request.channel == f then moved_value side x else []) xs

unfoldable pub moved : Side → ℕ → List HistoryStep → List ℕ
moved side f steps = flat_map (λ s. moved_by side f s.exchanges) steps
