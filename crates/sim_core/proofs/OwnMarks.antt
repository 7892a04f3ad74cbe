-- The steps that a core has emitted are the marks of its modules' own runs.
use Rattle.std.proofs.Common.{◌≡◌, refl, sym, ap, ap₂, subst, ◌∙◌, ℕ, zero, suc, ◌+◌, ◌<◌, ◌≤◌, Bool, true, false, cond, ◌||◌, List, []}
use Rattle.std.proofs.Common.{◌∷◌, ◌++◌, length, map, take, get_or, arith}
use Rattle.std.proofs.{Math.Seq.take-suc, lemmas.List.FromFn.length-map-range_with_len}
use Rattle.std.proofs.lemmas.List.{get_or-map, length-map, take_all}
use Rattle.sim_core.specs.{Step as StepOf, Plan, Advance, Reply, FitsEngine, ModuleState, Exchange, requests_of, access_of, marks, quiet}
use Rattle.sim_core.specs.{queries, is_over, is_spent, rest_at, rest_clock, marks_before, GoesTo, done_in, accesses_at, mark_at, is_step}
use Rattle.sim_core.specs.{own, core_reply, core_tally, IsAgreed, design, lockstep_run, clocks_of_steps, core_replies, lane_at, no_step}
use Rattle.sim_core.specs.{step_of, emitted_of, waited, IsSound, TellsOwnRun, held_marks, CoreView, theory_of}
use Rattle.flow_design.specs.declared.state.Advance.TheVariants.{Step, Ended, Spent}
use Rattle.module_interp.proofs.Chains.{marks_are_own}
use Rattle.event_timing.specs.Core.{Core}
use Rattle.engine_view.proofs.Bounds.{lane_apart}
use Rattle.engine_report.proofs.Ending.{waited_is}
use Rattle.sim_core.proofs.{Fed.same_accesses, Fed.seen_same, Marking.ordinal_is, Marking.queries_done, Resting.rest_is}

-- ---- marks

step_mark : (a b : Bool) (n : ℕ) (s : StepOf) → (a || b) ≡ false → cond a (Ended n) (cond b (Spent n) (Step s)) ≡ Step s
step_mark true b n s h = cc
step_mark false true n s h = cc
step_mark false false n s h = refl

end_mark : (a b : Bool) (n : ℕ) (s : StepOf) → (a || b) ≡ true → is_step (cond a (Ended n) (cond b (Spent n) (Step s))) ≡ false
end_mark true b n s h = refl
end_mark false true n s h = refl
end_mark false false n s h = cc

alike : (s t : StepOf) → s.gap ≡ t.gap → s.accesses ≡ t.accesses → s.first_query ≡ t.first_query → s ≡ t
alike s t gap accesses first = λ j. record { gap = gap j; accesses = accesses j; first_query = first j }

-- no mark, and one mark more
no_marks : (p : Plan) (i : ℕ) (replies : List (List Reply)) → marks_before p i replies zero ≡ []
unfolding marks_before
no_marks p i replies = refl

more_marks : (p : Plan) (i : ℕ) (replies : List (List Reply)) (k : ℕ)
    → marks_before p i replies (suc k) ≡ marks_before p i replies k ++ mark_at p i (rest_at p i replies k) ∷ []
unfolding marks_before
more_marks p i replies k = refl

-- ---- the own run of one module, on the replies of a core to its first n steps

module _ (v : CoreView) (fits : FitsEngine v.plan) (sound : IsSound (design v.plan) v.held)
    (agreed : IsAgreed (design v.plan) (lockstep_run v.plan) v.plan.cycles (theory_of v)) (i : ℕ)
    (inside : i < length v.plan.design.modules) where
  abbrev p : Plan
  p = v.plan

  abbrev x : Core ModuleState
  x = theory_of v

  abbrev replies : ℕ → List (List Reply)
  replies n = core_replies p x i n

  so_many : (n : ℕ) → length (replies n) ≡ n
  so_many n = length-map-range_with_len _ 0 n

  -- the mark of a rest that is an emitted step
  held_step : (n k : ℕ) → n ≤ emitted_of v.held i → k ≤ n → k < emitted_of v.held i
      → mark_at p i (rest_at p i (replies n) k) ≡ Step (step_of v.held i k)
  unfolding is_over
  held_step n k within le less =
      let d = design p in
      let b = agreed.marks in
      let o = rest_at p i (replies n) k in
      let step = step_of v.held i k in
      let rest = rest_is p fits x b i inside k n le within in
      let state : o.state ≡ x.state i k = rest.state ∙ sym (b.own_step i k less) in
      let lives = ap (λ (s : ModuleState). is_over p.ops s) state ∙ b.lives i k less in
      let gap : clocks_of_steps k + waited k step.gap ≡ step.gap =
      waited_is k step.gap (lane_apart v.held.lanes sound.sound_lanes i k less) in
      let wait : waited k step.gap ≡ quiet p i (own d i (core_reply d x i) k) = b.own_wait i k less in
      let since : o.since ≡ step.gap = rest.since ∙ (ap (λ (c : ℕ). clocks_of_steps k + c) (sym wait) ∙ gap) in
      let asked : accesses_at p i o ≡ map (access_of (done_in o.steps)) (requests_of p (i, x.state i k)) =
      ap (λ (s : ModuleState). map (access_of (done_in o.steps)) (requests_of p (i, s))) state in
      let accesses : accesses_at p i o ≡ step.accesses =
      asked ∙ same_accesses (done_in o.steps) (λ side c. core_tally d x i side c k) (requests_of p (i, x.state i k)) step.accesses
      (seen_same p sound b i k less) (ordinal_is p v.held b i k (omega arith) (done_in o.steps) rest.done) (sound.ordinals i k less) in
      let first : length (queries (done_in o.steps)) ≡ step.first_query =
      ap (λ (xs : List Exchange). length (queries xs)) rest.done
      ∙ (queries_done p v.held sound i k (omega arith) ∙ sym (sound.first_query i k less)) in
      step_mark o.state.ended (is_spent p.ops o.state) o.since _ lives
      ∙ ap (λ (s : StepOf). Step s) (alike _ step since accesses first)

  -- each rest before the k-th is a step
  goes : (n k : ℕ) → n ≤ emitted_of v.held i → k ≤ n → GoesTo p i (replies n) k
  goes n k within le j less = ap is_step (held_step n j within (omega arith) (omega arith))

  -- the marks of the first k rests
  held_first : (n k : ℕ) → n ≤ emitted_of v.held i → k ≤ suc n → k ≤ emitted_of v.held i
      → marks_before p i (replies n) k ≡ take k (held_marks v i)
  held_first n zero within le enough = no_marks p i (replies n)
  held_first n (suc k) within le enough =
      let steps = (lane_at v.held.lanes i).steps in
      let count = length-map steps (λ (s : StepOf). Step s) in
      let last : get_or (held_marks v i) k (Step no_step) ≡ Step (step_of v.held i k) =
      get_or-map (λ (s : StepOf). Step s) steps k no_step (Step no_step) (omega arith) in
      more_marks p i (replies n) k
      ∙ (ap₂ (λ (ms : List Advance) (m : Advance). ms ++ m ∷ []) (held_first n k within (omega arith) (omega arith))
      (held_step n k within (omega arith) (omega arith) ∙ sym last)
      ∙ sym (take-suc (held_marks v i) k (Step no_step) (omega arith)))

  -- past the last rest these are all its marks
  own_marks : (n : ℕ) → n ≤ emitted_of v.held i → (clocks : ℕ) → rest_clock p i (replies n) n < clocks
      → marks p i (replies n) clocks ≡ marks_before p i (replies n) (suc n)
  own_marks n within clocks later =
      let same = so_many n in
      let there = subst (λ (k : ℕ). GoesTo p i (replies n) k) (sym same) (goes n n within (omega arith)) in
      let past = subst (λ (k : ℕ). rest_clock p i (replies n) k < clocks) (sym same) later in
      marks_are_own p fits i (replies n) there clocks past ∙ ap (λ (k : ℕ). marks_before p i (replies n) (suc k)) same

  -- the rest after all steps, where the module is over
  last_mark : x.over i ≡ true → is_step (mark_at p i (rest_at p i (replies (emitted_of v.held i)) (emitted_of v.held i))) ≡ false
  unfolding is_over
  last_mark over =
      let e = emitted_of v.held i in
      let o = rest_at p i (replies e) e in
      let rest = rest_is p fits x agreed.marks i inside e e (omega arith) (omega arith) in
      end_mark o.state.ended (is_spent p.ops o.state) o.since _
      (ap (λ (s : ModuleState). is_over p.ops s) rest.state ∙ agreed.marks.ended i over)

  pub own_run_told : TellsOwnRun v i
  own_run_told = record {
    steps = λ k less. (
      rest_clock p i (replies k) k,
      λ n later. own_marks k (omega arith) n later ∙ held_first k (suc k) (omega arith) (omega arith) (omega arith),
    );
    ended = λ over.
        let e = emitted_of v.held i in
        let count = length-map (lane_at v.held.lanes i).steps (λ (s : StepOf). Step s) in
        let last = mark_at p i (rest_at p i (replies e) e) in (
          last,
          last_mark over,
          (
            rest_clock p i (replies e) e,
            λ n later. own_marks e (omega arith) n later
                ∙ (more_marks p i (replies e) e
                ∙ ap (λ (ms : List Advance). ms ++ last ∷ []) (held_first e e (omega arith) (omega arith) (omega arith)
                ∙ take_all e (held_marks v i) (omega arith))),
          ),
        );
  }
