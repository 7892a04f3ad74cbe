-- An edit and the actions after it set few cycles.
use Rattle.std.proofs.Common.{◌≡◌, refl, ap, subst, ◌∙◌, ℕ, suc, ◌+◌, ◌≤◌, inl, inr, List, [], ◌∷◌, length, map, not, arith}
use Rattle.std.proofs.{lemmas.List.Filters.length-filter_both, lemmas.List.Sums.sum_by-cons}
use Rattle.std.specs.Prelude.{nat_lt}
use Rattle.sim_core.specs.{Edit, Plan, ModuleState, Step, Lane, lane_at, timed_below, Design, Action, ActsAll, IsFinal, design, cycles_in}
use Rattle.sim_core.specs.{steps_in_lanes, CoreView, theory_of, Goes, given, IsEditedOn, HasSetFew, IsAsBefore, IsRetimed, IsChanged}
use Rattle.event_timing.specs.{Core.Core, Actions.Action.Run, Actions.Action.Assign, Actions.Action.Answer, Actions.Action.Earliest}
use Rattle.retime.proofs.Counts.{cycles_within, same_steps}
use Rattle.sim_core.proofs.Given.{goes_cycles}

fewer_below : (t : ℕ) (lanes : List Lane) → cycles_in (map (timed_below t) lanes) ≤ cycles_in lanes
fewer_below t [] = omega arith
fewer_below t (l ∷ lanes) =
    let a = sum_by-cons (λ (q : Lane). length q.cycles) (timed_below t l) (map (timed_below t) lanes) in
    let b = sum_by-cons (λ (q : Lane). length q.cycles) l lanes in
    let here = length-filter_both (λ (c : ℕ). nat_lt c t) (λ c. not (nat_lt c t)) (λ c. refl) l.cycles in
    let rest = fewer_below t lanes in
    omega arith

sums_same : (old new : List Lane) → length old ≡ length new
    → ((m : ℕ) → length (lane_at old m).steps ≡ length (lane_at new m).steps) → steps_in_lanes old ≡ steps_in_lanes new
sums_same [] [] e f = refl
sums_same [] (l ∷ new) e f = absurd (omega arith)
sums_same (k ∷ old) [] e f = absurd (omega arith)
sums_same (k ∷ old) (l ∷ new) e f =
    let a = sum_by-cons (λ (q : Lane). length q.steps) k old in
    let b = sum_by-cons (λ (q : Lane). length q.steps) l new in
    let here = f 0 in
    let rest = sums_same old new (omega arith) (λ m. f (suc m)) in
    omega arith

-- from a final core nothing is done
final_still : {S : Type 0} → (d : Design S) (limit : ℕ) (x : Core S) (actions : List Action) (y : Core S) → IsFinal d limit x
    → ActsAll d limit x actions y → actions ≡ []
final_still {S} d limit x [] y f a = refl
final_still {S} d limit x (Run m ∷ rest) y f (z, (may, e), a) = absurd (f.quiet.no_run m may)
final_still {S} d limit x (Assign m ∷ rest) y f (z, (c, may, e), a) = absurd (f.quiet.no_assign m c may)
final_still {S} d limit x (Answer m ∷ rest) y f (z, (c, may, e), a) = absurd (f.quiet.no_answer m c may)
final_still {S} d limit x (Earliest m ∷ rest) y f (z, (c, may, e), a) = absurd (f.no_earliest m c may)

module _ (v : CoreView) (e : Edit) (w : CoreView) (t : IsEditedOn v e w) (set : ℕ) (is : t.now + t.after ≡ t.before + t.later + set) where
  same_count : w.plan.design ≡ v.plan.design
  same_count = ap (λ (p : Plan). p.design) (t.goes.plan ∙ t.plan)

  within : cycles_in w.held.lanes ≤ steps_in_lanes w.held.lanes
  within = cycles_within w.held.lanes t.to.sound.sound_lanes

  as_before : IsAsBefore v t.middle e t.guard t.before t.now → HasSetFew v e w set
  as_before same =
      let goes = subst (λ (u : CoreView). Goes u t.later w t.after) same.core t.goes in
      let a = t.from.sound.lanes in
      let b = t.to.sound.lanes in
      let modules : length w.plan.design.modules ≡ length v.plan.design.modules = ap (λ d. length d.modules) same_count in
      let led = goes_cycles v w t.later t.after goes (omega arith) in
      let few = fewer_below v.plan.cycles v.held.lanes in
      let most = within in
      let none = same.no_tick in
      record { clock = v.plan.cycles; felt = inr (inl same.stands, refl); few = omega arith }

  retimed : IsRetimed v t.middle e t.guard t.before t.now → HasSetFew v e w set
  retimed r =
      let a = r.leads.kept.sound.lanes in
      let b = t.to.sound.lanes in
      let modules : length w.plan.design.modules ≡ length t.middle.plan.design.modules =
      ap (λ (p : Plan). length p.design.modules) t.goes.plan in
      let led = goes_cycles t.middle w t.later t.after t.goes (omega arith) in
      let ticked = r.ticked in
      let most = within in
      record { clock = r.clock; felt = r.from.from; few = omega arith }

  -- nothing is left to do
  changed : IsChanged v t.middle e t.guard t.before t.now → HasSetFew v e w set
  changed c =
      let none = final_still (design t.middle.plan) t.middle.plan.cycles (theory_of t.middle) t.goes.actions (theory_of w) c.final
      t.goes.all in
      let stays = subst (λ (actions : List Action). ActsAll (design t.middle.plan) t.middle.plan.cycles (theory_of t.middle) actions
      (theory_of w)) none t.goes.all in
      let no_tick : t.after ≡ t.later + 0 = t.goes.ticked ∙ ap (λ (actions : List Action). t.later + given actions) none in
      let a = t.from.sound.lanes in
      let b = t.to.sound.lanes in
      let modules : length w.plan.design.modules ≡ length v.plan.design.modules =
      ap (λ (p : Plan). length p.design.modules) (t.goes.plan ∙ t.plan) in
      let steps : steps_in_lanes w.held.lanes ≡ steps_in_lanes v.held.lanes = sums_same w.held.lanes v.held.lanes (omega arith)
      (λ m. ap (λ (x : Core ModuleState). x.emitted m) stays
      ∙ ap (λ (ss : List Step). length ss) (same_steps v.held.lanes t.middle.held.lanes c.steps m)) in
      let few = c.few in
      record { clock = c.clock; felt = c.from.from; few = omega arith }

  pub set_few : HasSetFew v e w set
  set_few = elim t.edited [
    | inl same ↦ as_before same
    | inr r ↦ elim r [ inl anew ↦ retimed anew | inr few ↦ changed few ]
  ]
