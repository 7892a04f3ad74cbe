-- Legal histories of turns, computed: where a history leads is a function of it.
use Rattle.std.specs.Prelude.{ℕ, not, ◌&&◌, cond, eqb, ltb, List, [], ◌∷◌, Option, None, Some, is_none}
use Rattle.std.specs.Option.{option_or, option_map}
use Rattle.event_timing.specs.{Design, may_run}
use Rattle.timing_bridge.specs.{declared.turn.HubTurn.HubTurn, Rounds.then_on, Rounds.timings, Rounds.earliest_of, Rounds.runs_of}
use Rattle.timing_bridge.specs.declared.turn.HubTurn.TheVariants.{Lent, Ran, Timed, Short}
use Rattle.timing_bridge.specs.Turned.{Turned, lent_at, is_lent_to, after_lent, after_ran, after_timed, after_short}

-- where one more turn leads; none where it is not legal
abbrev pub turn_on : {S : Type 0} → Design S → ℕ → Turned S → HubTurn → Option (Turned S)
turn_on {S} d limit v (Lent q m) = cond (not v.short && (may_run d v.core m && is_none (lent_at v m))) (Some (after_lent v q m)) None
turn_on {S} d limit v (Ran q m n) =
    cond (is_lent_to (lent_at v m) q && ltb 0 n) (option_map (after_ran v m) (runs_of d m n v.core)) None
turn_on {S} d limit v (Timed q n) =
    cond (not v.short && ltb 0 n)
    (option_map (after_timed v) (option_or (timings d limit n 0 v.core) (cond (eqb n 1) (earliest_of d limit v.core) None))) None
turn_on {S} d limit v (Short q) = Some (after_short v q)

-- where these turns lead; none where one of them is not legal
abbrev pub turns_on : {S : Type 0} → Design S → ℕ → Turned S → List HubTurn → Option (Turned S)
turns_on {S} d limit v [] = Some v
turns_on {S} d limit v (turn ∷ more) = then_on (turn_on d limit v turn) (λ w. turns_on d limit w more)
