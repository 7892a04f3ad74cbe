use Rattle.std.proofs.Common.{◌≡◌, ◌+◌, ◌≤◌, ℕ, List, Bool, true, false, sym, ap, subst, refl, ◌∙◌, arith}
use Rattle.clock_machine.specs.{Plan, EventLine, Report, Verdict, ClockState, HistoryStep, NoneBefore, state, history, events_of, report}
use Rattle.clock_machine.specs.{settled_verdict, is_settled, Run, events_kept, report_from, HasCome}
use Rattle.flow_design.specs.declared.report.Verdict.TheVariants.{Cycles}
use Rattle.lockstep_defs.proofs.Exits.{IsAt, settled_exit, cycles_exit}
use Rattle.clock_machine.proofs.Kept.{kept_report}
use Rattle.clock_machine.proofs.Coming.{come_at, none_next, settled_state, settled_fit, same_later, told_at}
use Rattle.clock_machine.proofs.run.clock_run_by.Goals as goal

-- a report from the kept events, where the run ends
kept_exit : (keep : Bool) (p : Plan) (v : Verdict) (st : ClockState) (all events : List EventLine) (answers : List (List Bool)) (r : Report)
    → r ≡ report_from p v st events answers → events ≡ events_kept keep all → report p ≡ report_from p v st all answers
    → r ≡ record (report p) { events = events_kept keep (report p).events }
kept_exit keep p v st all events answers r made are is =
    made ∙ (ap (λ (es : List EventLine). report_from p v st es answers) are ∙ kept_report keep p v st all answers is)

-- a run that is told up to a settled clock, and holds its state
settled_end : (p : Plan) (keep : Bool) (clock : ℕ) (run : Run) (r : Report)
    → IsAt p clock (state p clock) (events_of (history p clock)) run.answers → clock ≤ p.cycles → is_settled p clock (state p clock) ≡ true
    → run.state ≡ state p clock → run.round.events ≡ events_kept keep (events_of (history p clock))
    → r ≡ report_from p (settled_verdict p clock run.state) run.state run.round.events run.answers
    → r ≡ record (report p) { events = events_kept keep (report p).events }
settled_end p keep clock run r at early settled same events made =
    kept_exit keep p (settled_verdict p clock (state p clock)) (state p clock) (events_of (history p clock)) run.round.events run.answers r
    (made ∙ ap (λ (st : ClockState). report_from p (settled_verdict p clock st) st run.round.events run.answers) same) events
    (settled_exit p clock (state p clock) (events_of (history p clock)) run.answers (settled_verdict p clock (state p clock)) at early
    settled refl)

pub loop-clock-init : goal.loop-clock-init
loop-clock-init c = record { come = c.in_ok-run.ensures c.args.codes.now c.args.keep; none = λ b l. absurd (omega arith) }

pub loop-clock-preserved : goal.loop-clock-preserved
loop-clock-preserved c = record {
  come = c.in_ok-run_clock.ensures.come;
  none = none_next c.args.plan.now c.loop-clock.clock c.loop-clock.invariant.none
      (sym c.in_ok-run_clock.ensures.settled ∙ c.if-branch.false);
}

pub settle-requires : goal.settle-requires
settle-requires c =
    let p = c.args.plan.now in
    let clock = c.loop-clock.clock in
    let same = same_later p clock (sym c.in_ok-run_clock.ensures.settled ∙ c.if-branch.true) in
    record {
      fits = c.fits.ensures;
      made = c.requires.codes;
      fit = settled_fit p c.fits.ensures c.args.keep (clock + 1) c.run_clock.new.run c.in_ok-run_clock.ensures.come
          (omega arith) same.settled;
    }

pub returns-then-branch : goal.returns-then-branch
returns-then-branch c =
    let p = c.args.plan.now in
    let clock = c.loop-clock.clock in
    let run = c.run_clock.new.run in
    let come = c.in_ok-run_clock.ensures.come in
    let settled = sym c.in_ok-run_clock.ensures.settled ∙ c.if-branch.true in
    let same = same_later p clock settled in
    settled_end p c.args.keep clock run _ (told_at p c.args.keep clock run come c.loop-clock.invariant.none same) (omega arith) settled
    (settled_state p c.args.keep (clock + 1) run come same.settled ∙ same.state_is)
    (come.events ∙ ap (λ (steps : List HistoryStep). events_kept c.args.keep (events_of steps)) same.history_is) c.in_ok-report.ensures

pub settle-requires-then-branch-2 : goal.settle-requires-then-branch-2
settle-requires-then-branch-2 c =
    let p = c.args.plan.now in
    let settled = sym c.in_ok-settles.ensures.settled ∙ c.if-branch-2.true in
    record {
      fits = c.fits.ensures;
      made = c.requires.codes;
      fit = settled_fit p c.fits.ensures c.args.keep c.cycles-cycles.result c.settles.new.run c.in_ok-settles.ensures.come (omega arith)
          settled;
    }

-- the loop is over at the cycle limit
at_limit : (p : Plan) (clock limit : ℕ) → clock ≡ limit → NoneBefore p clock → NoneBefore p limit
at_limit p clock limit e none = subst (NoneBefore p) e none

pub returns-then-branch-2 : goal.returns-then-branch-2
returns-then-branch-2 c =
    let p = c.args.plan.now in
    let limit = c.cycles-cycles.result in
    let run = c.settles.new.run in
    let come = c.in_ok-settles.ensures.come in
    let settled = sym c.in_ok-settles.ensures.settled ∙ c.if-branch-2.true in
    let none = at_limit p c.loop-clock.clock limit (omega arith) c.loop-clock.invariant.none in
    settled_end p c.args.keep limit run _ (come_at p c.args.keep limit run come none) (omega arith) settled
    (settled_state p c.args.keep limit run come settled) come.events c.in_ok-report-2.ensures

pub returns : goal.returns
returns c =
    let p = c.args.plan.now in
    let limit = c.cycles-cycles.ensures in
    let st = state p p.cycles in
    let run = c.settles.new.run in
    let come = subst (λ (n : ℕ). HasCome p c.args.codes.now c.args.keep n run) limit c.in_ok-settles.ensures.come in
    let none = at_limit p c.loop-clock.clock p.cycles (omega arith) c.loop-clock.invariant.none in
    kept_exit c.args.keep p (Cycles p.cycles) st (events_of (history p p.cycles)) run.round.events run.answers _
    (c.in_ok-report-3.ensures st (sym come.holding)) come.events
    (cycles_exit p st (events_of (history p p.cycles)) run.answers (come_at p c.args.keep p.cycles run come none)
    (subst (λ (n : ℕ). is_settled p n (state p n) ≡ false) limit (sym c.in_ok-settles.ensures.settled ∙ c.if-branch-2.false)))
