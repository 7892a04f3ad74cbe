-- A report with its events, or without them.
use Rattle.std.proofs.Common.{◌≡◌, ◌++◌, List, Bool, true, false, refl, sym, ap}
use Rattle.clock_machine.specs.{Plan, EventLine, Report, Verdict, ClockState, report, events_kept, report_from}

pub kept-append : (keep : Bool) (xs ys : List EventLine) → events_kept keep (xs ++ ys) ≡ events_kept keep xs ++ events_kept keep ys
kept-append true xs ys = refl
kept-append false xs ys = refl

-- a report from the kept events is the plan's with these
pub kept_report : (keep : Bool) (p : Plan) (v : Verdict) (st : ClockState) (events : List EventLine) (answers : List (List Bool))
    → report p ≡ report_from p v st events answers
    → report_from p v st (events_kept keep events) answers ≡ record (report p) { events = events_kept keep (report p).events }
kept_report keep p v st events answers e = ap (λ (r : Report). record r { events = events_kept keep r.events }) (sym e)
