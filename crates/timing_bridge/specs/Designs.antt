-- The modules of a plan as machines of the theory, and the lockstep run as their history.
use Rattle.std.specs.Prelude.{ℕ, Bool, true, false, not, ◌&&◌, List, [], ◌∷◌, map, length, slice_index, slice_index_or}
use Rattle.flow_word.specs.{Side, same_side, side_of, is_blocking, is_taking}
use Rattle.flow_word.specs.declared.access.Side.TheVariants.{Pop, Push}
use Rattle.flow_design.specs.{ChannelKind, Plan, ModuleState, Request, Reply, is_fifo, kind_at, delay_at}
use Rattle.flow_design.specs.declared.design.ChannelKind.TheVariants.{Source, Sink, Fifo}
use Rattle.lockstep_defs.specs.{opened, move, nobody, is_over, quiet, all_in, reply_by, moved, values, contents_of, module_at, requests_of}
use Rattle.lockstep_defs.specs.{state, state_at, history}
use Rattle.event_timing.specs.{Design, Trace}
use Rattle.lockstep_defs.specs.Ports as ports
use Rattle.event_timing.specs.Machines as theory

-- ---- requests and replies

-- a request as an access of the theory
abbrev pub seen_request : Request → theory.Access
seen_request r = record {
  side = side_of r.kind;
  blocks = is_blocking r.kind;
  takes = is_taking r.kind;
  channel = r.channel;
  value = r.value;
}

-- a reply of the theory as the machine gives it; `empty` and `full` answer the negation
abbrev pub told : Request → theory.Reply → Reply
told r a = reply_by r.kind a.possible a.front

abbrev pub told_all : List Request → List theory.Reply → List Reply
told_all [] replies = []
told_all (r ∷ rs) [] = []
told_all (r ∷ rs) (a ∷ replies) = told r a ∷ told_all rs replies

-- ---- the design

abbrev pub due_accesses : Plan → ℕ → ModuleState → List theory.Access
due_accesses p i s = map seen_request (requests_of p (i, s))

abbrev pub move_in : Plan → ℕ → ModuleState → List theory.Reply → ModuleState
move_in p i s replies = move (module_at p i) s (told_all (requests_of p (i, s)) replies)

abbrev pub is_source : ChannelKind → Bool
is_source Source = true
is_source Sink = false
is_source (Fifo depth delay) = false

-- how many pops of a channel are possible before any push, and how many pushes before any pop
abbrev pub start_in : Plan → Side → ℕ → ℕ
start_in p Pop f = length (values (contents_of (state p 0).contents f))
start_in p Push f = slice_index p.depths f

-- the lag of a side: a pop sees a push after the channel's delay, and a push sees a pop one clock later
abbrev pub lag_in : Plan → Side → ℕ → ℕ
lag_in p Pop f = delay_at p f
lag_in p Push f = 1

abbrev pub design : Plan → Design ModuleState
design p = record {
  modules = length p.design.modules;
  opening = λ i. slice_index_or (map opened p.design.modules) i nobody;
  accesses = due_accesses p;
  move = move_in p;
  is_over = λ i s. is_over p.ops s;
  quiet = quiet p;
  owner = λ side f. ports.owner p (record { side = side; channel = f });
  start = start_in p;
  unlimited = λ side f. same_side side Push && not (is_fifo (kind_at p f));
  closed = λ side f. same_side side Pop && is_source (kind_at p f);
  inputs = λ f. values (contents_of (state p 0).contents f);
  lag = lag_in p;
}

-- ---- the run

abbrev pub lockstep_run : Plan → Trace ModuleState
lockstep_run p = record {
  state = λ c i. state_at p c i;
  taken = λ c side f. length (moved side f (history p c));
  pushed = λ c f. all_in p c f;
}
