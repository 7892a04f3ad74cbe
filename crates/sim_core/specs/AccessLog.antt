-- What each access of a plan's simulation gave.
use Rattle.std.specs.Prelude.{ℕ, List, [], flat_map, map, slice_get, unwrap_or}
use Rattle.flow_design.specs.{Plan, Reply, Request, clock_of}
use Rattle.flow_word.specs.{side_of, Access}
use Rattle.lockstep_defs.specs.{HistoryStep, Exchange, moved_value, history, is_yes, paired, event_of, verdict}
use Rattle.engine_view.specs.{Held.Held, step_of}
use Rattle.engine_report.specs.{TimedStep}
use Rattle.sim_core.specs.{Found.replies_now, declared.access_log.LoggedAccess.LoggedAccess}

-- ---- by a history

-- what an operation that was done gave: its event, its outcome, and the value that it moved, if it moved one
abbrev pub logged : HistoryStep → Exchange → LoggedAccess
logged s x = record { event = event_of s x; outcome = is_yes x.reply; value = slice_get (moved_value (side_of x.request.kind) x) 0 }

abbrev pub logged_in : List HistoryStep → List LoggedAccess
logged_in steps = flat_map (λ s. map (logged s) s.exchanges) steps

-- what all accesses of a plan gave, in the order of the report's events
unfoldable pub log_of : Plan → List LoggedAccess
log_of p = logged_in (history p (clock_of (verdict p)))

-- ---- by what is held

-- an access as a request
abbrev pub access_request : Access → Request
access_request a = record { kind = a.kind; channel = a.channel; value = a.value }

-- an access with its reply
abbrev pub exchange_of : Access → Reply → Exchange
exchange_of a r = record { request = access_request a; reply = r }

-- the replies to module m's step k; none where some of them are not there
abbrev pub logged_replies : Held → ℕ → ℕ → List Reply
logged_replies h m k = unwrap_or (replies_now h m (step_of h m k)) []

-- a step with a cycle, and what was done in it
abbrev pub step_doing : TimedStep → List Exchange → HistoryStep
step_doing key xs = record { clock = key.cycle; «module» = key.module; exchanges = xs }

-- what the accesses of a step with a cycle gave, by what is held
abbrev pub logged_at : Held → TimedStep → List LoggedAccess
logged_at h key =
    map (logged (step_doing key []))
    (paired (map access_request (step_of h key.module key.step).accesses) (logged_replies h key.module key.step))
