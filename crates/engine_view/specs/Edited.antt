-- What is held after an edit, from which a retiming begins.
use Rattle.std.specs.Prelude.{◌≡◌, ℕ, min, map, length, All}
use Rattle.event_graph.specs.{IsSoundLane, timed_below}
use Rattle.fifo_table.specs.{deepened_channels}
use Rattle.query_log.specs.{IsSoundLog, log_at}
use Rattle.event_timing.specs.{Design, kept}
use Rattle.engine_view.specs.{Held.Held, Held.core_of, Shown.queries_before}

-- g is what is held of h after the cut: cycles from clock t on are forgotten, the FIFO has the new depth, and the outcomes of all
-- steps without a cycle are assumed
pub record IsCut {S : Type 0} (d : Design S) (h g : Held) (fifo depth t : ℕ) : Type 0 where
  pub lanes : g.lanes ≡ map (timed_below t) h.lanes
  pub sound : All IsSoundLane g.lanes
  pub channels : g.channels ≡ deepened_channels h.channels fifo depth
  pub over : g.over ≡ h.over
  pub count : length g.logs ≡ length h.logs
  pub sound_logs : All IsSoundLog g.logs
  pub outcomes : (m : ℕ) → (log_at g.logs m).outcomes ≡ (log_at h.logs m).outcomes
  pub verified : (m : ℕ) → (log_at g.logs m).verified ≡ min (queries_before h m (kept ((core_of d h).cycle m) t ((core_of d h).timed m)))
      (log_at h.logs m).verified
