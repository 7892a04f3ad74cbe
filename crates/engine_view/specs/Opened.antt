-- What is held at the beginning.
use Rattle.std.specs.Prelude.{◌≡◌, ℕ, ◌<◌, false, List, [], length, map, get_or, replicate}
use Rattle.flow_word.specs.{Side}
use Rattle.event_graph.specs.{no_lane}
use Rattle.fifo_table.specs.{TableChannel, unused, values_of, lag_of, declared.channel.TableChannel.TheVariants.Sink}
use Rattle.query_log.specs.{no_log}
use Rattle.event_timing.specs.{Design}
use Rattle.engine_view.specs.{Held.Held, Shown.IsKind}

-- what is held of n modules before anything is emitted
abbrev pub opening_held : ℕ → List TableChannel → Held
opening_held n kinds = record {
  lanes = replicate n no_lane;
  channels = map unused kinds;
  logs = replicate n no_log;
  over =
      replicate n false;
}

-- these kinds are those of the design's channels
pub record AreKinds {S : Type 0} (d : Design S) (kinds : List TableChannel) : Type 0 where
  pub each : (c : ℕ) → c < length kinds → IsKind d c (get_or kinds c Sink)
  pub values : (c : ℕ) → c < length kinds → values_of (get_or kinds c Sink) [] ≡ d.inputs c
  pub lags : (side : Side) (c : ℕ) → c < length kinds → d.lag side c ≡ lag_of (get_or kinds c Sink) side
