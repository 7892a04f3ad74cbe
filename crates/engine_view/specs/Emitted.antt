-- What a Run adds to what is held.
use Rattle.std.specs.Prelude.{◌≡◌, ℕ, suc, ◌<◌, ◌≤◌, Bool, true, List, map, slice_set, All}
use Rattle.flow_word.specs.{is_blocking, side_of, Step, Place, Access}
use Rattle.event_graph.specs.{IsSoundStep, with_step}
use Rattle.time_engine.specs.{IsAccess}
use Rattle.event_timing.specs.{Design, ready, core_tally, newest}
use Rattle.engine_view.specs.{Held.Held, Held.emitted_of, Held.seen, Held.waited, Held.core_of, Shown.queries_before, Taking.taken_all}

-- which of these accesses are done as soon as their step is emitted: those that block
abbrev pub done_at_once : List Access → List Bool
done_at_once accesses = map (λ a. is_blocking a.kind) accesses

abbrev pub place_of : ℕ → ℕ → Place
place_of m k = record { «module» = m; step = k }

-- what is held after a Run: the step is in its module's lane, and the pushes and pops of its blocking accesses are in the table
abbrev pub with_emitted : Held → ℕ → Step → Held
with_emitted h m step = record h {
  lanes = with_step h.lanes m step;
  channels = taken_all (place_of m (emitted_of h m)) h.channels step.accesses (done_at_once step.accesses);
}

-- what is held after a Run that found module m over
abbrev pub with_over : Held → ℕ → Held
with_over h m = record h { over = slice_set h.over m true }

-- the step is the next one of module m's own run, with the ordinals and the number of queries that its earlier steps give
pub record IsNextStep {S : Type 0} (d : Design S) (h : Held) (m : ℕ) (step : Step) : Type 0 where
  pub sound : IsSoundStep step
  pub inside : All (IsAccess h.channels) step.accesses
  pub accesses : d.accesses m (ready d m (newest d (core_of d h) m)) ≡ map seen step.accesses
  pub gap : waited (emitted_of h m) step.gap ≡ d.quiet m (newest d (core_of d h) m)
  pub apart : 0 < emitted_of h m → 1 ≤ step.gap
  pub ordinals : All (λ (a : Access). a.ordinal ≡ suc (core_tally d (core_of d h) m (side_of a.kind) a.channel (emitted_of h m)))
      step.accesses
  pub first_query : step.first_query ≡ queries_before h m (emitted_of h m)
