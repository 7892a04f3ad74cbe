-- A core at the beginning.
use Rattle.std.specs.Prelude.{◌≡◌, ℕ, ◌<◌, Bool, true, false, eqb, List, [], ◌∷◌, ◌++◌, flat_map, length, map, slice_index, slice_index_or}
use Rattle.std.specs.Prelude.{Option, None, Some, is_none}
use Rattle.std.specs.List.{range_with_len}
use Rattle.flow_word.specs.{Port, Side, declared.access.Side.TheVariants.Pop, declared.access.Side.TheVariants.Push}
use Rattle.flow_design.specs.{ChannelKind, Plan, kind_at, cut_to}
use Rattle.fifo_table.specs.{TableChannel}
use Rattle.fifo_table.specs.declared.channel.TableChannel.TheVariants.{Source, Sink, Fifo}
use Rattle.lockstep_defs.specs.{width_of, Own}
use Rattle.timing_bridge.specs.{design}
use Rattle.module_interp.specs.{ModuleRun, first_rest, StandsAt, waits}
use Rattle.flow_design.specs.declared.design.ChannelKind.TheVariants as plan

-- the kind of a plan's channel, in the form that the table needs: with the inputs of a source, or the present depth of a FIFO
abbrev pub kind_by : ChannelKind → List ℕ → ℕ → TableChannel
kind_by plan.Source inputs depth = Source inputs
kind_by plan.Sink inputs depth = Sink
kind_by (plan.Fifo declared delay) inputs depth = Fifo depth delay

-- the inputs of a channel, each cut to its width
abbrev pub source_values : Plan → ℕ → List ℕ
source_values p c = map (cut_to (width_of p.design.channels c)) (slice_index_or p.inputs c [])

abbrev pub kind_in : Plan → ℕ → TableChannel
kind_in p c = kind_by (kind_at p c) (source_values p c) (slice_index p.depths c)

abbrev pub kinds_of : Plan → List TableChannel
kinds_of p = map (kind_in p) (range_with_len 0 (length p.design.channels))

-- there are `many` runs, each at its module's first rest
pub record AreFirstRuns (p : Plan) (runs : List (Option ModuleRun)) (many : ℕ) : Type 0 where
  pub count : length runs ≡ many
  pub some : (m : ℕ) → m < many → is_none (slice_index_or runs m None) ≡ false
  pub each : (m : ℕ) (run : ModuleRun) → slice_index_or runs m None ≡ Some run → StandsAt p m (first_rest p m) run × (waits run ≡ false)

-- each run that is there stands at some rest of its module's own run
abbrev pub AreOlderRuns : Plan → List (Option ModuleRun) → Type 0
AreOlderRuns p runs = (m : ℕ) (run : ModuleRun) → slice_index_or runs m None ≡ Some run → (o : Own) × StandsAt p m o run

-- the runs that are left are in the places where they were
pub record AreLeft (runs left : List (Option ModuleRun)) : Type 0 where
  pub count : length left ≡ length runs
  pub each : (m : ℕ) (run : ModuleRun) → slice_index_or left m None ≡ Some run → slice_index_or runs m None ≡ Some run

-- the port, if the condition holds, else none
abbrev pub port_where : Bool → Side → ℕ → List Port
port_where true side c = record { side = side; channel = c } ∷ []
port_where false side c = []

-- the ports that module m has at channel c
abbrev pub ports_at : Plan → ℕ → ℕ → List Port
ports_at p m c = port_where (eqb ((design p).owner Pop c) m) Pop c ++ port_where (eqb ((design p).owner Push c) m) Push c

-- the ports that module m has at the first `channels` channels
abbrev pub ports_to : Plan → ℕ → ℕ → List Port
ports_to p m channels = flat_map (ports_at p m) (range_with_len 0 channels)

-- each of the first `many` modules has its own ports in the list
pub record AreOwnPorts (p : Plan) (many : ℕ) (ports : List (List Port)) : Type 0 where
  pub count : length ports ≡ many
  pub each : (m : ℕ) → m < many → slice_index_or ports m [] ≡ ports_to p m (length p.design.channels)
