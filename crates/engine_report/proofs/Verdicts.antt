-- The verdict that is read off is the plan's.
use Rattle.std.proofs.Common.{◌≡◌, sym, ap, ◌∙◌, List, map, Option}
use Rattle.engine_report.specs.{Plan, Report, Advance, Verdict, HistoryStep, history, report, verdict, design, core_report, core_verdict}
use Rattle.engine_report.specs.{AreInOrder, core_of, standing_at, verdict_by, owners, IsFinished}
use Rattle.engine_view.specs.Held.{Held}
use Rattle.engine_report.proofs.Ending.{verdict_is}

pub verdict_read : (p : Plan) (h : Held) (ends : List (Option Advance)) → IsFinished p h ends
    → ((steps : List HistoryStep) → AreInOrder p (core_of (design p) h) steps
    → report p ≡ core_report p (core_of (design p) h) steps (core_verdict p (core_of (design p) h)))
    → AreInOrder p (core_of (design p) h) (history p p.cycles)
    → (v : Verdict) → v ≡ verdict_by p.cycles (map (standing_at h.lanes h.channels ends) (owners h.lanes)) → v ≡ verdict p
unfolding report
verdict_read p h ends f law order v e =
    e ∙ (verdict_is p h ends f ∙ sym (ap (λ (r : Report). r.verdict) (law (history p p.cycles) order)))
