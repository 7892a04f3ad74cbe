-- What a run clock by clock knows when it ends.
use Rattle.std.proofs.Common.{◌≡◌, ℕ, suc, ◌+◌, ◌≤◌, ◌<◌, List, [], ◌++◌, length, get_or, Bool, true, false, cond, refl, sym, ◌∙◌, ap}
use Rattle.std.proofs.Common.{arith, below_more}
use Rattle.std.proofs.{lemmas.List.Concat.flat_map-append, lemmas.List.Elements.filter-append, lemmas.List.FromFn.fill_by_all}
use Rattle.lockstep_defs.specs.{Plan, EventLine, ClockState, clock_of, HistoryStep, NoneBefore, steps_in, state, history, is_settled}
use Rattle.lockstep_defs.specs.{settled_verdict, verdict, held, steps_of, outcomes, events_of, outputs_in, answers_in, report_in_state}
use Rattle.lockstep_defs.specs.{report_at, report}
use Rattle.flow_design.specs.{Report, Verdict}
use Rattle.flow_design.specs.declared.report.Verdict.TheVariants.{Done, Deadlock, Cycles, Ops}
use Rattle.lockstep_defs.proofs.{Settled.history-suc, Found.verdict_found, Found.verdict_none}

-- ---- how far a run has come

-- each module's answers are the query outcomes of its steps
pub record AreAnswers (p : Plan) (steps : List HistoryStep) (answers : List (List Bool)) : Type 0 where
  pub count : length answers ≡ length p.design.modules
  pub each : (i : ℕ) → i < length p.design.modules → get_or answers i [] ≡ outcomes (steps_of i steps)

-- at clock c: the clock's state, the events and answers of the clocks before it, and none of these is settled
pub record IsAt (p : Plan) (c : ℕ) (st : ClockState) (events : List EventLine) (answers : List (List Bool)) : Type 0 where
  pub is_state : st ≡ state p c
  pub are_events : events ≡ events_of (history p c)
  pub are_answers : AreAnswers p (history p c) answers
  pub none_settled : NoneBefore p c

-- what a clock adds to the answers
pub record AnswersGrow (p : Plan) (steps : List HistoryStep) (answers more : List (List Bool)) : Type 0 where
  pub count : length more ≡ length answers
  pub each : (i : ℕ) → i < length p.design.modules → get_or more i [] ≡ get_or answers i [] ++ outcomes (steps_of i steps)

-- the report that a run gives
abbrev pub run_report : Plan → Verdict → ClockState → List EventLine → List (List Bool) → Report
run_report p v st events answers =
    record { verdict = v; outputs = outputs_in p st; held = held p v st; events = events; answers = answers }

-- ---- beginning and going on

outcomes-append : (i : ℕ) (steps more : List HistoryStep)
    → outcomes (steps_of i (steps ++ more)) ≡ outcomes (steps_of i steps) ++ outcomes (steps_of i more)
outcomes-append i steps more = rw filter-append (flat_map-append _ (steps_of i steps) (steps_of i more))

-- in a clock the run knows whether it is settled
now_settled : (p : Plan) (c : ℕ) (st : ClockState) (b : Bool) → st ≡ state p c → is_settled p c st ≡ b → is_settled p c (state p c) ≡ b
now_settled p c st b h e = ap (is_settled p c) (sym h) ∙ e

none_up_to : (p : Plan) (c : ℕ) → NoneBefore p c → is_settled p c (state p c) ≡ false → NoneBefore p (suc c)
none_up_to p c h e b l = below_more (λ n. is_settled p n (state p n) ≡ false) c h e b (omega arith)

events_grow : (p : Plan) (c : ℕ) (st : ClockState) (events : List EventLine) → st ≡ state p c → events ≡ events_of (history p c)
    → events ++ events_of (steps_in p c st) ≡ events_of (history p (suc c))
events_grow p c st events h e = rw (history-suc, e, h) (sym (flat_map-append _ (history p c) (steps_in p c (state p c))))

answers_grow : (p : Plan) (c : ℕ) (st : ClockState) (answers more : List (List Bool)) → st ≡ state p c → AreAnswers p (history p c) answers
    → AnswersGrow p (steps_in p c st) answers more → AreAnswers p (history p (suc c)) more
answers_grow p c st answers more e h grow = record {
  count = grow.count ∙ h.count;
  each = λ i l. grow.each i l
      ∙ (ap (λ (l : List Bool). l ++ outcomes (steps_of i (steps_in p c st))) (h.each i l)
      ∙ (ap (λ (now : ClockState). outcomes (steps_of i (history p c)) ++ outcomes (steps_of i (steps_in p c now))) e
      ∙ (sym (outcomes-append i (history p c) (steps_in p c (state p c)))
      ∙ ap (λ steps. outcomes (steps_of i steps)) (sym (history-suc p c)))));
}

-- ---- ending

pub clock_settled : (p : Plan) (c : ℕ) (st : ClockState) → clock_of (settled_verdict p c st) ≡ c
clock_settled p c st = by_tests _ _
  where
    by_tests : (a b : Bool) → clock_of (cond a (Done c) (cond b (Ops c) (Deadlock c))) ≡ c
    by_tests true b = refl
    by_tests false true = refl
    by_tests false false = refl

all_answers : (p : Plan) (steps : List HistoryStep) (answers : List (List Bool)) → AreAnswers p steps answers → answers_in p steps ≡ answers
all_answers p steps answers h = sym (fill_by_all (λ i. outcomes (steps_of i steps)) answers (length p.design.modules) [] h.count h.each)

-- where the run stands at the verdict's clock
ends_at : (p : Plan) (c : ℕ) (v : Verdict) (st : ClockState) (events : List EventLine) (answers : List (List Bool))
    → IsAt p c st events answers
    → clock_of v ≡ c → verdict p ≡ v → report p ≡ run_report p v st events answers
unfolding report
ends_at p c v st events answers h clock e =
    ap (report_at p) e
    ∙ (ap (λ (n : ℕ). report_in_state p v (state p n) (history p n)) clock
    ∙ (ap (λ (now : ClockState). report_in_state p v now (history p c)) (sym h.is_state)
    ∙ (ap (λ (es : List EventLine). run_report p v st es (answers_in p (history p c))) (sym h.are_events)
    ∙ ap (run_report p v st events) (all_answers p (history p c) answers h.are_answers))))

pub settled_exit : (p : Plan) (c : ℕ) (st : ClockState) (events : List EventLine) (answers : List (List Bool)) (v : Verdict)
    → IsAt p c st events answers → c ≤ p.cycles → is_settled p c st ≡ true → v ≡ settled_verdict p c st
    → report p ≡ run_report p v st events answers
settled_exit p c st events answers v h l settled e =
    let found = verdict_found p c l h.none_settled (now_settled p c st true h.is_state settled) in
    ends_at p c v st events answers h (ap clock_of e ∙ clock_settled p c st)
    (found ∙ (ap (settled_verdict p c) (sym h.is_state) ∙ sym e))

pub cycles_exit : (p : Plan) (st : ClockState) (events : List EventLine) (answers : List (List Bool)) → IsAt p p.cycles st events answers
    → is_settled p p.cycles st ≡ false → report p ≡ run_report p (Cycles p.cycles) st events answers
cycles_exit p st events answers h moves =
    ends_at p p.cycles (Cycles p.cycles) st events answers h refl
    (verdict_none p (none_up_to p p.cycles h.none_settled (now_settled p p.cycles st false h.is_state moves)))
