-- A Run's next mark, emitted.
use Rattle.std.proofs.Common.{◌≡◌, refl, sym, subst, ◌∙◌, ℕ, inl, false, List, length, Option, arith}
use Rattle.std.proofs.lemmas.Bool.{both_ways}
use Rattle.sim_core.specs.{Access, Step as StepOf, Plan, ModuleState, Advance, IsFewStep, Own, ModuleRun, mark_at, StandsAt, waits, is_step}
use Rattle.sim_core.specs.{listed_step, IsFew, IsSoundMark, Design, Acts, MayRun, design, emitted_of, core_of, Engine, held_in, with_over}
use Rattle.sim_core.specs.{IsRunOf, rest_after, CanGoOn, IsNextMark}
use Rattle.flow_design.specs.declared.state.Advance.TheVariants.{Step, Ended, Spent}
use Rattle.event_timing.specs.{Core.Core, Actions.Action.Run}
use Rattle.engine_view.specs.Held.{Held}
use Rattle.sim_core.proofs.{Staying.after_same, Emission.IsReady}
use Rattle.sim_core.proofs.Returning as returning
use Rattle.sim_core.proofs.Emission as emission

pub not_a_step : (a : Advance) → ((t : StepOf) → a ≡ Step t → ⊥) → is_step a ≡ false
not_a_step (Step t) f = absurd (f t refl)
not_a_step (Ended n) f = refl
not_a_step (Spent n) f = refl

-- ---- the step that was listed

pub as_listed : (run : ModuleRun) {gap : ℕ} {accesses : List Access} {first : ℕ} → gap ≡ (listed_step run).gap
    → accesses ≡ (listed_step run).accesses → first ≡ (listed_step run).first_query
    → Step (record { gap = gap; accesses = accesses; first_query = first }) ≡ Step (listed_step run)
as_listed run e f g = rw (e, f, g) refl

pub few_is : {step : StepOf} → IsFew step → IsFewStep step
few_is few = record {
  some = few.some;
  few = omega (arith, few.most);
  gap = few.gap;
  first_query = few.first_query;
  fits = λ k d inside. let small = few.small k d inside in record { channel = small.channel; ordinal = small.ordinal };
}

pub as_few : (run : ModuleRun) {gap : ℕ} {accesses : List Access} {first : ℕ} → gap ≡ (listed_step run).gap
    → accesses ≡ (listed_step run).accesses → first ≡ (listed_step run).first_query → IsFew (listed_step run)
    → IsFewStep (record { gap = gap; accesses = accesses; first_query = first })
as_few run e f g few = rw (e, f, g) (few_is few)

module _ {p : Plan} {s : Engine} {runs : List (Option ModuleRun)} {m : ℕ}
    {run : ModuleRun} (r : CanGoOn p s runs m run) where
  abbrev d : Design ModuleState
  d = design p

  abbrev h : Held
  h = held_in s

  abbrev x : Core ModuleState
  x = core_of d h

  abbrev rest : Own
  rest = rest_after p x m (emitted_of h m)

  pub stands : StandsAt p m rest run
  stands = (r.run_is.going r.answered).1

  pub may : MayRun d x m
  may = emission.may_go p x m run r.inside r.run_is r.answered r.lives

  may_run : IsReady p s runs m
  may_run = record {
    core = r.room.core;
    inside = let n = r.room.core.sound.lanes in let i = r.inside in omega arith;
    lent = r.room.lent;
    may = may;
  }

  -- ---- the run after the mark

  module _ {new : ModuleRun} (go : (q : Plan) (j : ℕ) (o : Own) → StandsAt q j o run → StandsAt q j o new) where
    -- the run stays where it stands, where there is no memory
    pub run_kept : waits new ≡ false → IsRunOf p x m new
    run_kept w = record {
      waiting = λ q. absurd (both_ways _ w q);
      going = λ q. ((r.run_is.going r.answered).0, go p m rest stands);
      over = λ q. w;
    }

    pub still_goes : waits new ≡ false → CanGoOn p s runs m new
    still_goes w = record { room = r.room; inside = r.inside; run_is = run_kept w; answered = w; lives = r.lives }

    run_ended : waits new ≡ false → IsRunOf p (core_of d (with_over h m)) m new
    run_ended w = record {
      waiting = λ q. absurd (both_ways _ w q);
      going = λ q. ((r.run_is.going r.answered).0, go p m rest stands);
      over = λ q. w;
    }

    -- where the core has done the Run, the run is there
    pub run_after : {mark : Advance} → IsNextMark p s runs m mark → waits new ≡ is_step mark
        → {y : Core ModuleState} → Acts d p.cycles x (Run m) y → IsRunOf p y m new
    run_after {mark = Step t} n w {y} (there, to) =
        let is = returning.mark_step n refl in
        let short = returning.short_rest n in
        let small = returning.small_step n refl in
        subst (λ (z : Core ModuleState). IsRunOf p z m new) ((emission.step_acts may_run is short small).1 ∙ sym to) (record {
          waiting = λ q. (
            emitted_of h m,
            sym (emission.emitted_more may_run is short small),
            subst (λ (o : Own). StandsAt p m o new) (sym (after_same p x _ (emission.grows may_run is short small) m (emitted_of h m)
                (emission.settled may_run))) (go p m rest stands),
          );
          going = λ q. absurd (both_ways _ q w);
          over = λ q. absurd (both_ways _ r.lives q);
        })
    run_after {mark = Ended e} n w {y} (there, to) =
        subst (λ (z : Core ModuleState). IsRunOf p z m new) (returning.over_ended n may_run.inside refl ∙ sym to) (run_ended w)
    run_after {mark = Spent e} n w {y} (there, to) =
        subst (λ (z : Core ModuleState). IsRunOf p z m new) (returning.over_ended n may_run.inside refl ∙ sym to) (run_ended w)

  -- the mark to which the run comes is the module's next
  pub is_next : {mark : Advance} → mark ≡ mark_at p m rest → IsSoundMark (length rest.steps) mark → IsNextMark p s runs m mark
  is_next is sound = record {
    room = record { core = r.room.core; lent = r.room.lent; places = inl r.room.places; outcomes = r.room.outcomes };
    may = may;
    is = is;
    sound = sound;
  }
