-- All modules, one clock at a time.
use Rattle.std.specs.Prelude.{ℕ, zero, suc, Bool, not, ◌&&◌, if◌then◌else◌, ◌+◌, List, [], ◌∷◌, ◌++◌, map, length, drop, flat_map}
use Rattle.std.specs.Prelude.{slice_index_or}
use Rattle.std.specs.List.{list_any, enumerate_from, range_with_len}
use Rattle.flow_word.specs.declared.access.Side.TheVariants.{Pop, Push}
use Rattle.flow_design.specs.{declared.design.Module.Module, Plan, ClockState, Element, Request, cut_to, delay_at, ModuleState}
use Rattle.lockstep_defs.specs.Machine.{requests, move, opened, is_over, nobody, width_of}
use Rattle.lockstep_defs.specs.Channels.{HistoryStep, Exchange, element_from, stalls, reply, moved}

-- ---- one module

-- the default where a number names no module
abbrev pub no_module : Module
no_module = record { name = []; registers = []; memories = []; blocks = [] }

abbrev pub module_at : Plan → ℕ → Module
module_at p i = slice_index_or p.design.modules i no_module

-- each module's state beside its number
abbrev pub numbered : ClockState → List (ℕ × ModuleState)
numbered st = enumerate_from 0 st.modules

-- the requests of a module, which is given by its number and its state
abbrev pub requests_of : Plan → ℕ × ModuleState → List Request
requests_of p m = requests p.design.channels (module_at p m.0) m.1

-- a module moves unless it is ended, spent or has a blocking operation that cannot be done
unfoldable pub moves : Plan → ℕ → List (List Element) → ℕ × ModuleState → Bool
moves p clock contents m = not (is_over p.ops m.1) && not (list_any (stalls p clock contents) (requests_of p m))

abbrev pub next_state : Plan → ℕ → List (List Element) → ℕ × ModuleState → ModuleState
next_state p clock contents m =
    if moves p clock contents m then move (module_at p m.0) m.1 (map (reply p clock contents) (requests_of p m)) else m.1

abbrev pub answered : Plan → ℕ → List (List Element) → Request → Exchange
answered p clock contents r = record { request = r; reply = reply p clock contents r }

-- the step of module i in a clock; none where it did no FIFO operation
abbrev pub step_with : ℕ → ℕ → List Exchange → List HistoryStep
step_with clock i [] = []
step_with clock i (x ∷ xs) = record { clock = clock; «module» = i; exchanges = x ∷ xs } ∷ []

abbrev pub module_step : Plan → ℕ → List (List Element) → ℕ × ModuleState → List HistoryStep
module_step p clock contents m =
    if moves p clock contents m then step_with clock m.0 (map (answered p clock contents) (requests_of p m)) else []

-- ---- the clock step

-- the steps of a clock, in order of modules
unfoldable pub steps_in : Plan → ℕ → ClockState → List HistoryStep
steps_in p clock st = flat_map (module_step p clock st.contents) (numbered st)

-- a channel's contents after the steps of a clock: the popped elements are gone from its front, and the pushed values are at its
-- back, to be popped after the channel's delay
abbrev pub contents_after : Plan → ℕ → List HistoryStep → ℕ × List Element → List Element
contents_after p clock steps f =
    drop (length (moved Pop f.0 steps)) f.1 ++ map (element_from (clock + delay_at p f.0)) (moved Push f.0 steps)

unfoldable pub clock_step : Plan → ℕ → ClockState → ClockState
clock_step p clock st = record {
  modules = map (next_state p clock st.contents) (numbered st);
  contents = map (contents_after p clock (steps_in p clock st)) (enumerate_from 0 st.contents);
}

-- ---- the state at a clock, and the history before it

-- the input values of a channel, each cut to its width, which can be popped from clock 0 on
abbrev pub inputs_of : Plan → ℕ → List Element
inputs_of p f = map (λ v. element_from 0 (cut_to (width_of p.design.channels f) v)) (slice_index_or p.inputs f [])

-- how everything stands at clock 0
unfoldable pub opening : Plan → ClockState
opening p = record {
  modules = map opened p.design.modules;
  contents = map (inputs_of p) (range_with_len 0 (length p.design.channels));
}

-- the state at a clock, and the steps done before it, in order of clocks and modules
pub record Moment : Type 0 where
  pub state : ClockState
  pub history : List HistoryStep

abbrev pub next_moment : Plan → ℕ → Moment → Moment
next_moment p clock now = record {
  state = clock_step p clock now.state;
  history = now.history ++ steps_in p clock now.state;
}

-- the state at a clock and the history before it, by one recursion
unfoldable pub moment : Plan → ℕ → Moment
moment p zero = record { state = opening p; history = [] }
moment p (suc clock) = next_moment p clock (moment p clock)

abbrev pub state : Plan → ℕ → ClockState
state p clock = (moment p clock).state

abbrev pub history : Plan → ℕ → List HistoryStep
history p clock = (moment p clock).history

-- the state of module i at a clock
abbrev pub state_at : Plan → ℕ → ℕ → ModuleState
state_at p clock i = slice_index_or (state p clock).modules i nobody
