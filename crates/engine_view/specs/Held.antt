-- What an engine holds, as contracts see it, and the theory's core that is read off it.
use Rattle.std.specs.Prelude.{ℕ, zero, suc, ◌+◌, ◌-◌, Bool, true, false, cond, not, ◌&&◌, ◌||◌, eqb, leb, ltb, List, [], ◌∷◌, length, drop}
use Rattle.std.specs.Prelude.{filter, get_or, slice_get, slice_index_or, Option, None, Some}
use Rattle.flow_word.specs.{side_of, is_blocking, is_taking, Access, Kind, Step}
use Rattle.event_graph.specs.{Lane, lane_at}
use Rattle.fifo_table.specs.{Channel, channel_at, values_of}
use Rattle.query_log.specs.{Log, log_at}
use Rattle.query_resolve.specs.{late_outcome}
use Rattle.event_timing.specs.{Design, ready, own, pops_now, Core.Core}
use Rattle.event_timing.specs.Machines as theory

-- ---- what is held

-- the lanes, the channels with their pushes and pops, the logs, and for each module whether its end (ended or spent) was emitted
pub record Held : Type 0 where
  pub lanes : List Lane
  pub channels : List Channel
  pub logs : List Log
  pub over : List Bool

abbrev pub held_parts : List Lane → List Channel → List Log → List Bool → Held
held_parts lanes channels logs over = record { lanes = lanes; channels = channels; logs = logs; over = over }

abbrev pub no_step : Step
no_step = record { gap = 0; accesses = []; first_query = 0 }

-- step k of module m
abbrev pub step_of : Held → ℕ → ℕ → Step
step_of h m k = slice_index_or (lane_at h.lanes m).steps k no_step

abbrev pub emitted_of : Held → ℕ → ℕ
emitted_of h m = length (lane_at h.lanes m).steps

-- ---- accesses

-- an access as one of the theory
abbrev pub seen : Access → theory.Access
seen a = record {
  side = side_of a.kind;
  blocks = is_blocking a.kind;
  takes = is_taking a.kind;
  channel = a.channel;
  value = a.value;
}

-- ---- outcomes

-- how many of these accesses are queries
abbrev pub queries_in : List Access → ℕ
queries_in accesses = length (filter (λ a. not (is_blocking a.kind)) accesses)

-- a query was possible, by its outcome; without an outcome it counts as not possible
abbrev pub possible_by : Kind → Option Bool → Bool
possible_by kind None = false
possible_by kind (Some outcome) = cond (late_outcome kind) (not outcome) outcome

-- the flag of an access: true where it blocks, else whether its query was possible by this outcome
abbrev pub flag_now : Kind → Option Bool → Bool
flag_now kind outcome = cond (is_blocking kind) true (possible_by kind outcome)

-- the flags of a step's accesses, where the outcomes begin with that of the step's first query
abbrev pub flags_by : List Access → List Bool → List Bool
flags_by [] outcomes = []
flags_by (a ∷ as') outcomes =
    cond (is_blocking a.kind) (true ∷ flags_by as' outcomes)
    (possible_by a.kind (slice_get outcomes 0) ∷ flags_by as' (drop 1 outcomes))

abbrev pub flags_of : Held → ℕ → ℕ → List Bool
flags_of h m k = flags_by (step_of h m k).accesses (drop (step_of h m k).first_query (log_at h.logs m).outcomes)

-- all queries of the step are among its module's first n
abbrev pub are_among : Step → ℕ → Bool
are_among step n = eqb (queries_in step.accesses) 0 || leb (step.first_query + queries_in step.accesses) n

-- module m has step k, and all queries of the step are among the module's first n
abbrev pub has_all : Held → ℕ → ℕ → ℕ → Bool
has_all h m k n = ltb k (emitted_of h m) && are_among (step_of h m k) n

-- ---- replies

-- the values that the pops of a channel give, in order
abbrev pub values_at : List Channel → ℕ → List ℕ
values_at channels c = values_of (channel_at channels c).kind (channel_at channels c).pushes

-- the replies to accesses with these flags: the n-th pop takes the n-th value
abbrev pub replies_by : List Channel → List Access → List Bool → List theory.Reply
replies_by channels [] flags = []
replies_by channels (a ∷ as') [] = []
replies_by channels (a ∷ as') (b ∷ bs) =
    record { possible = b; front = cond (pops_now (seen a) b) (get_or (values_at channels a.channel) (a.ordinal - 1) 0) 0 }
    ∷ replies_by channels as' bs

abbrev pub replies_at : Held → ℕ → ℕ → List theory.Reply
replies_at h m k = replies_by h.channels (step_of h m k).accesses (flags_of h m k)

-- ---- the core

-- the quiet clocks before step k, by its gap, of which the local clock of the step before is one
abbrev pub waited : ℕ → ℕ → ℕ
waited zero gap = gap
waited (suc k) gap = gap - 1

-- the theory's core that is read off: a module's states are those of its own run on the replies
abbrev pub core_of : {S : Type 0} → Design S → Held → Core S
core_of {S} d h = record {
  emitted = λ m. emitted_of h m;
  over = λ m. slice_index_or h.over m false;
  state = λ m k. cond (ltb k (emitted_of h m)) (ready d m (own d m (replies_at h m) k)) (d.opening m);
  wait = λ m k. waited k (step_of h m k).gap;
  flags = λ m k. flags_of h m k;
  answered = λ m k. has_all h m k (length (log_at h.logs m).outcomes);
  verified = λ m k. has_all h m k (log_at h.logs m).verified;
  timed = λ m. length (lane_at h.lanes m).cycles;
  cycle = λ m k. slice_index_or (lane_at h.lanes m).cycles k 0;
}
