-- What an Answer changes in what is held: it adds outcomes, or, where they are recorded, verifies them.
use Rattle.std.specs.Prelude.{ℕ, Bool, cond, not, ◌&&◌, List, [], ◌∷◌}
use Rattle.flow_word.specs.{is_blocking, Access, Kind}
use Rattle.query_log.specs.{with_outcomes, with_verified}
use Rattle.query_resolve.specs.{late_outcome}
use Rattle.engine_view.specs.{Held.Held, Held.step_of, Taking.taken_all, Emitted.place_of}

-- the outcome of a query, by whether it is possible
abbrev pub outcome_by : Kind → Bool → Bool
outcome_by kind possible = cond (late_outcome kind) (not possible) possible

-- the outcomes of the queries among these accesses, by whether each access is possible
abbrev pub outcomes_of : List Access → List Bool → List Bool
outcomes_of [] flags = []
outcomes_of (a ∷ as') [] = []
outcomes_of (a ∷ as') (b ∷ bs) = cond (is_blocking a.kind) (outcomes_of as' bs) (outcome_by a.kind b ∷ outcomes_of as' bs)

-- which of these accesses are done by an Answer: the queries that are possible
abbrev pub done_late : List Access → List Bool → List Bool
done_late [] flags = []
done_late (a ∷ as') [] = []
done_late (a ∷ as') (b ∷ bs) = (not (is_blocking a.kind) && b) ∷ done_late as' bs

-- what is held after an Answer has added the outcomes of module m's step k, with the pushes and pops that they decide
abbrev pub with_answered : Held → ℕ → ℕ → List Bool → Held
with_answered h m k flags = record h {
  channels = taken_all (place_of m k) h.channels (step_of h m k).accesses (done_late (step_of h m k).accesses flags);
  logs = with_outcomes h.logs m (outcomes_of (step_of h m k).accesses flags);
}

-- what is held after an Answer has verified this many of module m's outcomes
abbrev pub with_confirmed : Held → ℕ → ℕ → Held
with_confirmed h m verified = record h { logs = with_verified h.logs m verified }
