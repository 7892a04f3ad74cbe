-- What is done at one module changes nothing for another that shares no channel with it.
use Rattle.std.proofs.Common.{◌≡◌, refl, sym, ap, ap₂, subst, ◌∙◌, ℕ, zero, suc, ◌+◌, ◌-◌, ◌<◌, ◌≤◌, arith, Bool, true, cond, ◌||◌, inl}
use Rattle.std.proofs.Common.{inr, List, [], ◌∷◌, Option, Some, None}
use Rattle.std.proofs.lemmas.Bool.{cases_Bool, cond-true, cond-false}
use Rattle.std.specs.Prelude.{ltb}
use Rattle.timing_bridge.specs.{Side, other_side, Access, Design, IsDesign, Each, takes_in, Trace, IsHistory, tally, place, from}
use Rattle.timing_bridge.specs.{first_accesses, IsAgreed, bare_replies, core_accesses, core_reply, view, Known, known, known_of, candidate}
use Rattle.timing_bridge.specs.{bound, to_clock, unblocked_clock, from_step, timed_place, all_decided, ActsAll, IsDetermined, MayAssign}
use Rattle.timing_bridge.specs.{after_run, after_assign, after_answer, emit_over, runs, may_assign, may_answer, is_determined, is_before}
use Rattle.timing_bridge.specs.{decides, AreApart, cycle_found, may_time, after_timing}
use Rattle.event_timing.specs.{Reply, Enablers.Known.From, Enablers.Known.Never, Actions.Action.Run, Core.Core}
use Rattle.event_timing.proofs.{Agreement.acts_agree, Assigning.put_other, Assigning.put_at_other, Assigning.put_at_same, Fronts.tally_same}
use Rattle.event_timing.proofs.{Fronts.core_tally_is, Running.emit, Running.old_at, Running.run_cases}

-- ---- lists of accesses

bound_same : (f g : Access → Known) (xs : List Access) → Each (λ a. f a ≡ g a) xs → bound f xs ≡ bound g xs
bound_same f g [] e = refl
bound_same f g (a ∷ xs) (here, more) = rw (here, bound_same f g xs more) refl

decided_same : (f g : Access → Known) (xs : List Access) → Each (λ a. f a ≡ g a) xs → all_decided f xs ≡ all_decided g xs
decided_same f g [] e = refl
decided_same f g (a ∷ xs) (here, more) = rw (here, decided_same f g xs more) refl

each_of : (P Q : Access → Type 0) (xs : List Access) → ((a : Access) → P a → Q a) → Each P xs → Each Q xs
each_of P Q [] f e = tt
each_of P Q (a ∷ xs) f (here, more) = (f a here, each_of P Q xs f more)

each_all : (P : Access → Type 0) (xs : List Access) → ((a : Access) → P a) → Each P xs
each_all P [] f = tt
each_all P (a ∷ xs) f = (f a, each_all P xs f)

place_same : (a b : ℕ → List Access) (r s : ℕ → List Reply) (side : Side) (ch n i : ℕ)
    → ((k : ℕ) → k ≤ n → tally a r side ch k ≡ tally b s side ch k) → place a r side ch n i ≡ place b s side ch n i
unfolding place
place_same a b r s side ch zero i f = refl
place_same a b r s side ch (suc n) i f =
    rw (f n (omega arith), f (suc n) (omega arith), place_same a b r s side ch n i (λ k l. f k (omega arith))) refl

from_step_same : (f g : ℕ → ℕ) (lag : ℕ) (o : Option ℕ) → ((k : ℕ) → f k ≡ g k) → from_step f lag o ≡ from_step g lag o
from_step_same f g lag None e = refl
from_step_same f g lag (Some j) e = ap (λ c. From (c + lag)) (e j)

from_same : (f g : ℕ → ℕ) (n : ℕ) → ((k : ℕ) → f k ≡ g k) → from f n ≡ from g n
from_same f g zero e = refl
from_same f g (suc n) e = ap suc (e n)

-- ---- two cores

module _ {S : Type 0} (d : Design S) (x y : Core S) where
  -- the steps of a module that have a cycle are the same
  pub record SameSteps (w : ℕ) : Type 0 where
    pub timed : y.timed w ≡ x.timed w
    pub state : (k : ℕ) → k < x.timed w → y.state w k ≡ x.state w k
    pub flags : (k : ℕ) → k < x.timed w → y.flags w k ≡ x.flags w k
    pub cycle : (k : ℕ) → y.cycle w k ≡ x.cycle w k

  -- and the first one without a cycle, but for its outcomes
  pub record SameFirst (n : ℕ) : Type 0 where
    pub steps : SameSteps n
    pub emitted : y.emitted n ≡ x.emitted n
    pub state : y.state n (x.timed n) ≡ x.state n (x.timed n)
    pub wait : y.wait n (x.timed n) ≡ x.wait n (x.timed n)

  tally_at : (w : ℕ) → SameSteps w → (side : Side) (ch n : ℕ) → n ≤ x.timed w
      → tally (core_accesses d y w) (core_reply d y w) side ch n ≡ tally (core_accesses d x w) (core_reply d x w) side ch n
  tally_at w s side ch n u =
      core_tally_is d y w side ch n
      ∙ tally_same (core_accesses d y w) (core_accesses d x w) (λ j. bare_replies (y.flags w j)) (λ j. bare_replies (x.flags w j)) side ch n
      (λ k l. ap₂ (λ (p : S) (b : List Bool). takes_in side ch (d.accesses w p) (bare_replies b)) (s.state k (omega arith))
      (s.flags k (omega arith)))
      ∙ sym (core_tally_is d x w side ch n)

  event_at : (w : ℕ) → SameSteps w → (side : Side) (ch i : ℕ) → timed_place (view d y) w side ch i ≡ timed_place (view d x) w side ch i
  event_at w s side ch i =
      ap (λ (n : ℕ). place (core_accesses d y w) (core_reply d y w) side ch n i) s.timed
      ∙ place_same (core_accesses d y w) (core_accesses d x w) (core_reply d y w) (core_reply d x w) side ch (x.timed w) i
      (λ k l. tally_at w s side ch k l)

  known_same : (side : Side) (ch i : ℕ) → SameSteps (d.owner (other_side side) ch)
      → known d (view d y) side ch i ≡ known d (view d x) side ch i
  unfolding known
  known_same side ch i s =
      let w : ℕ = d.owner (other_side side) ch in
      ap (λ (k : Known). cond (d.unlimited side ch || ltb i (d.start side ch)) (From 0) (cond (d.closed side ch) Never k))
      (ap (from_step (y.cycle w) (d.lag side ch)) (event_at w s (other_side side) ch (i - d.start side ch))
      ∙ from_step_same (y.cycle w) (x.cycle w) (d.lag side ch) (timed_place (view d x) w (other_side side) ch (i - d.start side ch))
      s.cycle)

  module _ (n : ℕ) (f : SameFirst n)
      (others : Each (λ a. SameSteps (d.owner (other_side a.side) a.channel)) (d.accesses n (x.state n (x.timed n)))) where
    accesses_are : first_accesses (view d y) n ≡ first_accesses (view d x) n
    accesses_are = ap (λ (k : ℕ). d.accesses n (y.state n k)) f.steps.timed ∙ ap (d.accesses n) f.state

    known_here : (a : Access) → SameSteps (d.owner (other_side a.side) a.channel)
        → known_of d (view d y) n a ≡ known_of d (view d x) n a
    known_here a s =
        ap (λ (k : ℕ). known d (view d y) a.side a.channel (tally (core_accesses d y n) (core_reply d y n) a.side a.channel k))
        f.steps.timed
        ∙ ap (known d (view d y) a.side a.channel) (tally_at n f.steps a.side a.channel (x.timed n) (omega arith))
        ∙ known_same a.side a.channel (tally (core_accesses d x n) (core_reply d x n) a.side a.channel (x.timed n)) s

    all_known : Each (λ a. known_of d (view d y) n a ≡ known_of d (view d x) n a) (first_accesses (view d x) n)
    all_known = each_of _ _ (first_accesses (view d x) n) known_here others

    reach_same : unblocked_clock (view d y) n ≡ unblocked_clock (view d x) n
    reach_same =
        ap₂ (λ (p q : ℕ). p + q)
        (ap (from (y.cycle n)) f.steps.timed ∙ from_same (y.cycle n) (x.cycle n) (x.timed n) f.steps.cycle)
        (ap (y.wait n) f.steps.timed ∙ f.wait)

    bound_is : bound (known_of d (view d y) n) (first_accesses (view d y) n) ≡ bound (known_of d (view d x) n) (first_accesses (view d x) n)
    bound_is =
        ap (bound (known_of d (view d y) n)) accesses_are
        ∙ bound_same (known_of d (view d y) n) (known_of d (view d x) n) (first_accesses (view d x) n) all_known

    candidate_same : candidate d (view d y) n ≡ candidate d (view d x) n
    unfolding candidate
    candidate_same =
        ap₂ (λ (b : Bool) (o : Option ℕ). cond b o None) (ap₂ ltb f.steps.timed f.emitted)
        (ap₂ to_clock reach_same bound_is)

    determined_same : (limit : ℕ) → is_determined d limit y n ≡ is_determined d limit x n
    unfolding is_determined
    determined_same limit = ap (is_before limit) candidate_same

    verified_same : y.verified n (x.timed n) ≡ x.verified n (x.timed n) → y.verified n (y.timed n) ≡ x.verified n (x.timed n)
    verified_same same = ap (y.verified n) f.steps.timed ∙ same

    decides_same : decides d y n ≡ decides d x n
    unfolding decides
    decides_same =
        ap (all_decided (known_of d (view d y) n)) accesses_are
        ∙ decided_same (known_of d (view d y) n) (known_of d (view d x) n) (first_accesses (view d x) n) all_known

    pub timing_same : y.verified n (x.timed n) ≡ x.verified n (x.timed n) → (limit : ℕ) → may_time d limit y n ≡ may_time d limit x n
    unfolding may_time may_assign may_answer
    timing_same same limit = rw (determined_same limit, verified_same same, decides_same) refl

-- ---- what an Assign, an Answer or Runs leave

module _ {S : Type 0} (d : Design S) (x : Core S) (m : ℕ) where
  assign_steps : (c w : ℕ) → (w ≡ m → ⊥) → SameSteps d x (after_assign x m c) w
  assign_steps c w other = record {
    timed = put_other x.timed m (suc (x.timed m)) w other;
    state = λ k l. refl;
    flags = λ k l. refl;
    cycle = λ k. put_at_other x.cycle m (x.timed m) c w k (λ e f. other e);
  }

  assign_first : (c n : ℕ) → (n ≡ m → ⊥) → SameFirst d x (after_assign x m c) n
  assign_first c n other = record {
    steps = assign_steps c n other;
    emitted = refl;
    state = refl;
    wait = refl;
  }

  -- an Answer is of a step without a cycle
  answer_steps : (c w : ℕ) → SameSteps d x (after_answer d x m c) w
  answer_steps c w = record {
    timed = refl;
    state = λ k l. refl;
    flags = λ k l. put_at_other x.flags m (x.timed m) _ w k (λ e f. let same = ap x.timed e in omega arith);
    cycle = λ k. refl;
  }

  answer_first : (c n : ℕ) → SameFirst d x (after_answer d x m c) n
  answer_first c n = record { steps = answer_steps c n; emitted = refl; state = refl; wait = refl }

  over_steps : (w : ℕ) → SameSteps d x (emit_over x m) w
  over_steps w = record { timed = refl; state = λ k l. refl; flags = λ k l. refl; cycle = λ k. refl }

  over_first : (n : ℕ) → SameFirst d x (emit_over x m) n
  over_first n = record { steps = over_steps n; emitted = refl; state = refl; wait = refl }

  module _ (within : (w : ℕ) → x.timed w ≤ x.emitted w) where
    emit_steps : (w : ℕ) → SameSteps d x (emit d x m) w
    emit_steps w = record {
      timed = refl;
      state = λ k l. let u = within w in old_at x.state x m _ w k (omega arith);
      flags = λ k l. let u = within w in old_at x.flags x m _ w k (omega arith);
      cycle = λ k. refl;
    }

    emit_first : (n : ℕ) → (n ≡ m → ⊥) → SameFirst d x (emit d x m) n
    emit_first n other = record {
      steps = emit_steps n;
      emitted = put_other x.emitted m _ n other;
      state = put_at_other x.state m (x.emitted m) _ n (x.timed n) (λ e f. other e);
      wait = put_at_other x.wait m (x.emitted m) _ n (x.timed n) (λ e f. other e);
    }

    run_steps : (w : ℕ) → SameSteps d x (after_run d x m) w
    run_steps w = run_cases d x m (λ y. SameSteps d x y w) (λ e. over_steps w) (λ e. emit_steps w)

    run_first : (n : ℕ) → (n ≡ m → ⊥) → SameFirst d x (after_run d x m) n
    run_first n other = run_cases d x m (λ y. SameFirst d x y n) (λ e. over_first n) (λ e. emit_first n other)

  run_verified : (n k : ℕ) → (n ≡ m → ⊥) → (after_run d x m).verified n k ≡ x.verified n k
  run_verified n k other =
      run_cases d x m (λ y. y.verified n k ≡ x.verified n k) (λ e. refl)
      (λ e. put_at_other x.verified m (x.emitted m) _ n k (λ e f. other e))

-- the step that was answered may be given its cycle
pub answered_assigns : {S : Type 0} (d : Design S) (limit : ℕ) (x : Core S) (m c : ℕ) → IsDetermined d limit x m c
    → MayAssign d limit (after_answer d x m c) m c
answered_assigns {S} d limit x m c there = record {
  determined = record {
    at = candidate_same d x (after_answer d x m c) m (answer_first d x m c m)
        (each_all _ (d.accesses m (x.state m (x.timed m))) (λ a. answer_steps d x m c (d.owner (other_side a.side) a.channel)))
        ∙ there.at;
    below = there.below;
  };
  verified = put_at_same x.verified m (x.timed m) true;
}

-- ---- what another module may do

module _ {S : Type 0} (d : Design S) (limit : ℕ) (x : Core S) (m n : ℕ) (other : n ≡ m → ⊥) where
  -- what is said of a core with the same first step of another module, and the same steps at the other ends of its channels
  IsAlike : (Core S → Type 0) → Type 0
  IsAlike P = (y : Core S) → SameFirst d x y n
      → Each (λ a. SameSteps d x y (d.owner (other_side a.side) a.channel)) (d.accesses n (x.state n (x.timed n)))
      → y.verified n (x.timed n) ≡ x.verified n (x.timed n) → P y

  after_apart : (P : Core S → Type 0) → IsAlike P → AreApart d m n → P (after_timing d limit x m)
  unfolding after_timing IsAlike
  after_apart P alike apart =
      elim (cases_Bool (may_assign d limit x m)) [
        | inl t ↦ subst P (sym (cond-true (may_assign d limit x m) _ _ t))
            (alike (after_assign x m (cycle_found d x m)) (assign_first d x m (cycle_found d x m) n other)
            (opposite (after_assign x m (cycle_found d x m)) (assign_steps d x m (cycle_found d x m))) refl)
        | inr f ↦ subst P (sym (cond-false (may_assign d limit x m) _ _ f))
            (alike (after_answer d x m (cycle_found d x m)) (answer_first d x m (cycle_found d x m) n)
            (opposite (after_answer d x m (cycle_found d x m)) (λ w o. answer_steps d x m (cycle_found d x m) w))
            (put_at_other x.verified m (x.timed m) true n (x.timed n) (λ e f. other e)))
      ]
    where
      opposite : (y : Core S) → ((w : ℕ) → (w ≡ m → ⊥) → SameSteps d x y w)
          → Each (λ a. SameSteps d x y (d.owner (other_side a.side) a.channel)) (d.accesses n (x.state n (x.timed n)))
      opposite y same =
          each_of _ _ (d.accesses n (x.state n (x.timed n)))
          (λ a other. same (d.owner (other_side a.side) a.channel) other) (apart (x.state n (x.timed n)))

  after_run_alike : (P : Core S → Type 0) → IsAlike P → ((w : ℕ) → x.timed w ≤ x.emitted w) → P (after_run d x m)
  unfolding IsAlike
  after_run_alike P alike within =
      alike (after_run d x m) (run_first d x m within n other)
      (each_all _ (d.accesses n (x.state n (x.timed n)))
      (λ a. run_steps d x m within (d.owner (other_side a.side) a.channel))) (run_verified d x m n (x.timed n) other)

  same_timing : IsAlike (λ y. may_time d limit y n ≡ may_time d limit x n)
  unfolding IsAlike
  same_timing y f others same = timing_same d x y n f others same limit

  same_candidate : IsAlike (λ y. candidate d (view d y) n ≡ candidate d (view d x) n)
  unfolding IsAlike
  same_candidate y f others same = candidate_same d x y n f others

  -- an Assign or an Answer of the one changes nothing for another with which it shares no channel
  pub timing_apart : AreApart d m n → may_time d limit (after_timing d limit x m) n ≡ may_time d limit x n
  timing_apart apart = after_apart (λ y. may_time d limit y n ≡ may_time d limit x n) same_timing apart

  pub candidate_apart : AreApart d m n → candidate d (view d (after_timing d limit x m)) n ≡ candidate d (view d x) n
  candidate_apart apart = after_apart (λ y. candidate d (view d y) n ≡ candidate d (view d x) n) same_candidate apart

  -- nor does its Run, whatever they share
  run_apart : ((w : ℕ) → x.timed w ≤ x.emitted w) → may_time d limit (after_run d x m) n ≡ may_time d limit x n
  run_apart within = after_run_alike (λ y. may_time d limit y n ≡ may_time d limit x n) same_timing within

  candidate_run_apart : ((w : ℕ) → x.timed w ≤ x.emitted w) → candidate d (view d (after_run d x m)) n ≡ candidate d (view d x) n
  candidate_run_apart within = after_run_alike (λ y. candidate d (view d y) n ≡ candidate d (view d x) n) same_candidate within

module _ {S : Type 0} (d : Design S) (h : Trace S) (i : IsDesign d) (history : IsHistory d h) (limit m n : ℕ) (other : n ≡ m → ⊥) where
  -- nor do any number of them
  pub runs_apart : (x : Core S) → IsAgreed d h limit x → (count : ℕ) (y : Core S) → ActsAll d limit x (runs count m) y
      → may_time d limit y n ≡ may_time d limit x n
  runs_apart x agreed zero y is = ap (λ (z : Core S). may_time d limit z n) is
  runs_apart x agreed (suc count) y (z, (may, is), more) =
      let there = acts_agree d h i history limit x agreed (Run m) z (may, is) in
      runs_apart z there count y more
      ∙ ap (λ (q : Core S). may_time d limit q n) is ∙ run_apart d limit x m n other agreed.time.within

  pub candidates_apart : (x : Core S) → IsAgreed d h limit x → (count : ℕ) (y : Core S) → ActsAll d limit x (runs count m) y
      → candidate d (view d y) n ≡ candidate d (view d x) n
  candidates_apart x agreed zero y is = ap (λ (z : Core S). candidate d (view d z) n) is
  candidates_apart x agreed (suc count) y (z, (may, is), more) =
      let there = acts_agree d h i history limit x agreed (Run m) z (may, is) in
      candidates_apart z there count y more
      ∙ ap (λ (q : Core S). candidate d (view d q) n) is ∙ candidate_run_apart d limit x m n other agreed.time.within
