-- A run at its clock, and at its end.
use Rattle.std.proofs.Common.{◌≡◌, ℕ, ◌+◌, ◌<◌, ◌≤◌, ◌++◌, List, [], Bool, true, false, length, map, get_or, refl, sym, ◌∙◌, ap, subst}
use Rattle.std.proofs.Common.{arith, add-one, below_more, inl, inr}
use Rattle.std.proofs.{lemmas.Bool.cases_lt, lemmas.Bool.false≢true, lemmas.List.Concat.flat_map-append}
use Rattle.std.proofs.lemmas.List.{ext_get_or, get_or-replicate, length-replicate}
use Rattle.std.specs.{Prelude.replicate, List.enumerate_from}
use Rattle.clock_machine.specs.{Plan, EventLine, FitsEngine, ClockState, HistoryStep, NoneBefore, nobody, some_moves, is_settled, moves}
use Rattle.clock_machine.specs.{steps_in, contents_after, clock_step, opening, moment, state, history, steps_of, outcomes, events_of}
use Rattle.clock_machine.specs.{BlockCode, Run, Memo, Traffic, step_at, does_move, HasCome, IsRemembered, no_memo, events_kept, AreFit}
use Rattle.clock_machine.specs.{AreFitInTime}
use Rattle.lockstep_defs.proofs.{Agrees.all_modules, Agrees.steps_of-suc, Exits.IsAt}
use Rattle.lockstep_defs.proofs.Settled.{state-suc, history-zero, history-suc, still_step, settled_at, settled_none, settled_stays}
use Rattle.lockstep_defs.proofs.Settled.{history_stays}
use Rattle.clock_machine.proofs.{Fronts.some_at, Kept.kept-append, Sleeping.awake, Sleeping.sleeping, Sleeping.remembered_state}

-- ---- the next clock

pub events_next : (p : Plan) (keep : Bool) (clock : ℕ) (before now : List EventLine)
    → before ≡ events_kept keep (events_of (history p clock))
    → now ≡ before ++ events_kept keep (events_of (steps_in p clock (state p clock)))
    → now ≡ events_kept keep (events_of (history p (clock + 1)))
events_next p keep clock before now e f = rw (add-one, history-suc)
    (f ∙ (ap (λ (es : List EventLine). es ++ events_kept keep (events_of (steps_in p clock (state p clock)))) e
    ∙ (sym (kept-append keep (events_of (history p clock)) (events_of (steps_in p clock (state p clock))))
    ∙ ap (events_kept keep) (sym (flat_map-append _ (history p clock) (steps_in p clock (state p clock)))))))

pub answers_next : (p : Plan) (clock i : ℕ) (before now : List Bool) → i < length p.design.modules
    → before ≡ outcomes (steps_of i (history p clock)) → now ≡ before ++ outcomes (step_at p clock i)
    → now ≡ outcomes (steps_of i (history p (clock + 1)))
answers_next p clock i before now h e f = rw add-one
    (f ∙ (ap (λ (bs : List Bool). bs ++ outcomes (step_at p clock i)) e
    ∙ (sym (flat_map-append _ (steps_of i (history p clock)) (step_at p clock i))
    ∙ ap outcomes (sym (steps_of-suc p clock i h)))))

pub contents_come : (p : Plan) (clock : ℕ)
    → (state p (clock + 1)).contents
    ≡ map (contents_after p clock (steps_in p clock (state p clock))) (enumerate_from 0 (state p clock).contents)
unfolding clock_step
contents_come p clock = rw (add-one, state-suc) refl

-- where no module moves, a clock is settled if the next one is
pub still_settled : (p : Plan) (clock : ℕ) (b : Bool) → some_moves p clock (state p clock).contents (state p clock) ≡ false
    → is_settled p (clock + 1) (state p (clock + 1)) ≡ b → is_settled p clock (state p clock) ≡ b
still_settled p clock b still e =
    let st = state p clock in
    let same : state p (clock + 1) ≡ st = rw add-one (state-suc p clock ∙ still_step p clock st still) in
    let next : is_settled p (clock + 1) st ≡ b = ap (is_settled p (clock + 1)) (sym same) ∙ e in
    by_test (is_settled p clock st) refl b next
  where
    by_test : (now : Bool) → is_settled p clock (state p clock) ≡ now → (b : Bool) → is_settled p (clock + 1) (state p clock) ≡ b
        → is_settled p clock (state p clock) ≡ b
    by_test true is true next = is
    by_test true is false next = absurd (false≢true (sym next ∙ settled_at p clock (clock + 1) (state p clock) is))
    by_test false is false next = is
    by_test false is true next = absurd (false≢true (sym is ∙ settled_at p (clock + 1) clock (state p clock) next))

-- and it is not settled where one moves
pub moving_unsettled : (p : Plan) (clock : ℕ) (st : ClockState) → some_moves p clock st.contents st ≡ true → is_settled p clock st ≡ false
moving_unsettled p clock st moving = by_test (is_settled p clock st) refl
  where
    by_test : (b : Bool) → is_settled p clock st ≡ b → b ≡ false
    by_test true is = absurd (false≢true (sym (settled_none p clock st is) ∙ moving))
    by_test false is = refl

-- ---- where a run stands

pub come_at : (p : Plan) {codes : List (List BlockCode)} (keep : Bool) (clock : ℕ) (run : Run) → HasCome p codes keep clock run
    → NoneBefore p clock
    → IsAt p clock (state p clock) (events_of (history p clock)) run.answers
come_at p keep clock run h none = record {
  is_state = refl;
  are_events = refl;
  are_answers = record { count = h.answer_count; each = h.answers };
  none_settled = none;
}

pub none_next : (p : Plan) (clock : ℕ) → NoneBefore p clock → is_settled p clock (state p clock) ≡ false → NoneBefore p (clock + 1)
none_next p clock none e b l = below_more (λ n. is_settled p n (state p n) ≡ false) clock none e b (omega arith)

-- ---- in a settled clock

-- no module sleeps
all_awake : (p : Plan) {codes : List (List BlockCode)} (keep : Bool) (clock : ℕ) (run : Run) → HasCome p codes keep clock run
    → is_settled p clock (state p clock) ≡ true
    → (i : ℕ) → i < length p.design.modules → (get_or run.memos i no_memo).wakes ≤ clock
all_awake p keep clock run h settled i l = elim (cases_lt clock (get_or run.memos i no_memo).wakes) [
  | inl sleeps ↦
      let st = state p clock in
      let moving : does_move p clock i ≡ true =
      (sleeping p clock i (get_or run.state.modules i nobody) (get_or run.memos i no_memo) l (h.remembered.each i l) sleeps).moving in
      let some : some_moves p clock st.contents st ≡ true =
      some_at (moves p clock st.contents) st.modules i nobody (omega (arith, all_modules p clock)) moving in
      absurd (false≢true (sym (settled_none p clock st settled) ∙ some))
  | inr up ↦ up
]

-- so the run holds the clock's state
pub settled_state : (p : Plan) {codes : List (List BlockCode)} (keep : Bool) (clock : ℕ) (run : Run) → HasCome p codes keep clock run
    → is_settled p clock (state p clock) ≡ true
    → run.state ≡ state p clock
settled_state p keep clock run h settled =
    let modules : run.state.modules ≡ (state p clock).modules =
    ext_get_or nobody run.state.modules (state p clock).modules (h.remembered.state_count ∙ sym (all_modules p clock))
    (λ i l. awake p clock i (get_or run.state.modules i nobody) (get_or run.memos i no_memo)
    (h.remembered.each i (omega (arith, h.remembered.state_count)))
    (all_awake p keep clock run h settled i (omega (arith, h.remembered.state_count)))) in
    λ i. record { modules = modules i; contents = h.holding i }

pub settled_fit : (p : Plan) {codes : List (List BlockCode)} → FitsEngine p → (keep : Bool) (clock : ℕ) (run : Run)
    → HasCome p codes keep clock run → clock ≤ p.cycles
    → is_settled p clock (state p clock) ≡ true → AreFitInTime p run.state.modules
settled_fit p f keep clock run h early settled = record {
  clock = clock;
  early = early;
  fit = record {
    count = h.remembered.state_count;
    each = λ i l.
        let inside : i < length p.design.modules = omega (arith, h.remembered.state_count) in
        let memo = get_or run.memos i no_memo in
        let is = h.remembered.each i inside in
        let up = all_awake p keep clock run h settled i inside in
        let young = is.young in record {
          runnable = λ e. record { state = remembered_state p f clock i (get_or run.state.modules i nobody) memo inside is; running = e };
          young = omega arith;
        };
  };
}

-- ---- back from the clock after a settled one

-- a settled clock is settled one clock later, with the same state and the same history
pub record IsSame (p : Plan) (clock : ℕ) : Type 0 where
  pub settled : is_settled p (clock + 1) (state p (clock + 1)) ≡ true
  pub state_is : state p (clock + 1) ≡ state p clock
  pub history_is : history p (clock + 1) ≡ history p clock

pub same_later : (p : Plan) (clock : ℕ) → is_settled p clock (state p clock) ≡ true → IsSame p clock
same_later p clock settled =
    let one : 1 + clock ≡ clock + 1 = omega arith in
    let same : state p (clock + 1) ≡ state p clock =
    subst (λ (n : ℕ). state p n ≡ state p clock) one (settled_stays p clock 1 settled) in record {
      settled = ap (is_settled p (clock + 1)) same ∙ settled_at p clock (clock + 1) (state p clock) settled;
      state_is = same;
      history_is = subst (λ (n : ℕ). history p n ≡ history p clock) one (history_stays p clock 1 settled);
    }

-- what a run told up to then
pub told_at : (p : Plan) {codes : List (List BlockCode)} (keep : Bool) (clock : ℕ) (run : Run) → HasCome p codes keep (clock + 1) run
    → NoneBefore p clock → IsSame p clock
    → IsAt p clock (state p clock) (events_of (history p clock)) run.answers
told_at p keep clock run h none same = record {
  is_state = refl;
  are_events = refl;
  are_answers = record {
    count = h.answer_count;
    each = λ i l. h.answers i l ∙ ap (λ (steps : List HistoryStep). outcomes (steps_of i steps)) same.history_is;
  };
  none_settled = none;
}

-- ---- the first clock

first_state : (p : Plan) → state p 0 ≡ opening p
unfolding moment
first_state p = refl

no_events : (keep : Bool) (p : Plan) → [] ≡ events_kept keep (events_of (history p 0))
no_events true p = ap events_of (sym (history-zero p))
no_events false p = refl

pub first_come : (p : Plan) {codes : List (List BlockCode)} (keep : Bool) (run : Run) → run.state ≡ opening p → AreFit p 0 run.state.modules
    → run.memos ≡ replicate (length p.design.modules) no_memo → run.answers ≡ replicate (length p.design.modules) []
    → run.round.traffic ≡ record { pops = []; pushes = [] } → run.round.events ≡ [] → HasCome p codes keep 0 run
first_come p {codes} keep run is fit memos answers none quiet =
    let st : run.state ≡ state p 0 = is ∙ sym (first_state p) in
    let count = length p.design.modules in record {
      remembered = record {
        state_count = fit.count;
        memo_count = ap length memos ∙ length-replicate count no_memo;
        each = λ i l. subst (IsRemembered p codes 0 i (get_or run.state.modules i nobody))
            (sym (ap (λ (all : List Memo). get_or all i no_memo) memos ∙ get_or-replicate count i no_memo no_memo l)) (record {
              standing = ap (λ (s : ClockState). get_or s.modules i nobody) st;
              quiet = λ n less. absurd (omega arith);
              young = (fit.each i (omega (arith, fit.count))).young;
              known = record { noted = λ e d. cc; requests = λ e. cc };
            });
      };
      holding = ap (λ (s : ClockState). s.contents) st;
      no_pops = ap (λ (t : Traffic). t.pops) none;
      no_pushes = ap (λ (t : Traffic). t.pushes) none;
      events = quiet ∙ no_events keep p;
      answer_count = ap length answers ∙ length-replicate {A = List Bool} count [];
      answers = λ i l. ap (λ (all : List (List Bool)). get_or all i []) answers
          ∙ (get_or-replicate count i [] [] l ∙ ap (λ (steps : List HistoryStep). outcomes (steps_of i steps)) (sym (history-zero p)));
    }
