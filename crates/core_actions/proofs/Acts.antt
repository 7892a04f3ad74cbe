-- A single action that is permitted.
use Rattle.std.proofs.{Common.◌≡◌, Common.refl, Common.ℕ, Common.Bool, Common.true, Common.false, Common.arith, lemmas.Bool.both_ways}
use Rattle.std.specs.{Prelude.Result, Prelude.is_ok, Result.result_err}
use Rattle.core_actions.specs.{Acts, MayRun, MayAssign, MayEarliest, IsDetermined, is_open, design, Timing, ticks_of, Cause, HasActed}
use Rattle.core_actions.specs.{guard_of, cycle_causes, first_some, HasTurned, CoreView, theory_of}
use Rattle.core_actions.specs.declared.actions.Action.TheVariants.{Run, Assign}
use Rattle.event_timing.proofs.Deciding.{open_decided}
use Rattle.outcome_guard.specs.declared.guard.Guard.TheVariants as guard
use Rattle.event_timing.specs.Actions as theory
use Rattle.engine_view.specs.declared.turn.Timing.TheVariants as turn
use Rattle.core_actions.proofs.Causing as causing
use Rattle.core_actions.proofs.Permissions as permissions
use Rattle.sim_core.proofs.Rounds as rounds

module _ (v w : CoreView) (m : ℕ) where
  pub ran_acted : (ran : Bool) → MayRun (design v.plan) (theory_of v) m
      → (ran ≡ true → Acts (design v.plan) v.plan.cycles (theory_of v) (theory.Action.Run m) (theory_of w))
      → (ran ≡ false → MayRun (design v.plan) (theory_of v) m → ⊥) → HasActed guard.Same v (Run m) w
  ran_acted true may acts none =
      let (may', is) = acts refl in
      ((may', is), rounds.run_changes (design v.plan) (theory_of v) (theory_of w) m may' is)
  ran_acted false may acts none = absurd (none refl may)

  pub assigned_acted : (r : Timing) (c : ℕ) → MayAssign (design v.plan) v.plan.cycles (theory_of v) m c → HasTurned r v m w
      → HasActed (guard_of r) v (Assign m) w × (ticks_of r ≡ 1)
  assigned_acted (turn.Assigned e) c may acts =
      ((acts, rounds.assign_changes (design v.plan) v.plan.cycles (theory_of v) (theory_of w) m acts), refl)
  assigned_acted (turn.Answered e) c may ((f, may', is), changed, next) = absurd (both_ways _ may'.open_query may.verified)
  assigned_acted (turn.Differs q) c may (same, other) = absurd (both_ways _ other.may.open_query may.verified)
  assigned_acted turn.Nothing c may (same, idle) = absurd (idle.no_assign c may)

  pub cycle_there : (c : ℕ) → MayEarliest (design v.plan) v.plan.cycles (theory_of v) m c → (r : Result ℕ Cause)
      → result_err r ≡ first_some (cycle_causes (design v.plan) v.plan.cycles (theory_of v) m) → is_ok r ≡ true
  unfolding is_open
  cycle_there c may r e =
      let opens = (open_decided (design v.plan) v.plan.cycles (theory_of v) m).1 (c, may.open_step) in
      let none = causing.cycle_none (design v.plan) v.plan.cycles (theory_of v) m in
      let ok = permissions.ok_is r _ e in grind arith

  pub earliest_at : (c e : ℕ) → MayEarliest (design v.plan) v.plan.cycles (theory_of v) m c
      → IsDetermined (design v.plan) v.plan.cycles (theory_of v) m e → MayEarliest (design v.plan) v.plan.cycles (theory_of v) m e
  earliest_at c e may at =
      let is = may.open_step.determined.at in
      let is_too = at.at in
      let same : e ≡ c = cc in rw same may
