-- What the modules do in a clock, as the program holds it.
use Rattle.std.specs.Prelude.{◌+◌, ◌≡◌, ℕ, ◌≤◌, ◌<◌, Bool, if◌then◌else◌, List, [], ◌++◌, map, filter, flat_map, drop, ◌==◌, length}
use Rattle.std.specs.Prelude.{slice_index_or}
use Rattle.flow_design.specs.{Plan, Element, delay_at, EventLine, Report, Verdict, ClockState, ModuleState, Request}
use Rattle.lockstep_defs.specs.{is_yes, nobody, module_at, held, queries, outputs_in, element_from, HistoryStep, Exchange, moved_value}
use Rattle.flow_word.specs.declared.access.Side.TheVariants.{Pop, Push}
use Rattle.module_code.specs.{IsRunnable, BlockCode, AreCodesOf}
use Rattle.clock_machine.specs.declared.memo.PushedValue.{PushedValue}

-- ---- what a clock adds

-- the operations of these steps, in order
abbrev pub exchanges_in : List HistoryStep → List Exchange
exchanges_in steps = flat_map (λ s. s.exchanges) steps

-- the outcomes of the queries among these operations
abbrev pub outcomes_in : List Exchange → List Bool
outcomes_in xs = map (λ x. is_yes x.reply) (queries xs)

-- the event of an operation that module i does in a clock
abbrev pub event_by : ℕ → ℕ → Request → EventLine
event_by clock i r = record { «module» = i; kind = r.kind; channel = r.channel; cycle = clock }

-- these events where events are kept, else none
abbrev pub events_kept : Bool → List EventLine → List EventLine
events_kept keep events = if keep then events else []

-- ---- what the operations leave in the channels

-- the channels that these operations pop, each once for each pop
abbrev pub popped : List Exchange → List ℕ
popped xs = flat_map (λ x. map (λ v. x.request.channel) (moved_value Pop x)) xs

-- the values that these operations push, with their channels
abbrev pub pushed : List Exchange → List PushedValue
pushed xs = flat_map (λ x. map (λ v. record { channel = x.request.channel; value = v }) (moved_value Push x)) xs

-- a channel's contents after these channels were popped
abbrev pub after_pops : List ℕ → ℕ × List Element → List Element
after_pops channels f = drop (length (filter (λ channel. channel == f.0) channels)) f.1

-- a channel's contents after these values were pushed in a clock
abbrev pub after_pushes : Plan → ℕ → List PushedValue → ℕ × List Element → List Element
after_pushes p clock pushes f =
    f.1 ++ map (λ q. element_from (clock + delay_at p f.0) q.value) (filter (λ q. q.channel == f.0) pushes)

-- ---- states that can come up

-- a module's state in a clock: it can run, and its local clock is not ahead of the clock
pub record IsFit (p : Plan) (clock : ℕ) (m : ℕ × ModuleState) : Type 0 where
  pub runnable : IsRunnable (module_at p m.0) m.1
  pub young : m.1.control.clock ≤ clock

-- the states of all modules in a clock: each can run, and its local clock is not ahead of the clock
pub record AreFit (p : Plan) (clock : ℕ) (states : List ModuleState) : Type 0 where
  pub count : length states ≡ length p.design.modules
  pub each : (i : ℕ) → i < length states → IsFit p clock (i, slice_index_or states i nobody)

-- the states of all modules are those of some clock up to the cycle limit, as far as they must be to run
pub record AreFitInTime (p : Plan) (states : List ModuleState) : Type 0 where
  pub clock : ℕ
  pub early : clock ≤ p.cycles
  pub fit : AreFit p clock states

-- this is the code of all blocks, module by module
pub record AreCodes (p : Plan) (codes : List (List BlockCode)) : Type 0 where
  pub count : length codes ≡ length p.design.modules
  pub each : (i : ℕ) (d : List BlockCode) → i < length p.design.modules
      → AreCodesOf p.design.channels (module_at p i) (slice_index_or codes i d)

-- ---- the report

-- the report with a verdict, from the last state, and the events and answers that were collected
abbrev pub report_from : Plan → Verdict → ClockState → List EventLine → List (List Bool) → Report
report_from p v st events answers =
    record { verdict = v; outputs = outputs_in p st; held = held p v st; events = events; answers = answers }
