use Rattle.std.proofs.Common.{◌≡◌, ◌≢◌, refl, sym, ap, subst, ◌∙◌, ℕ, List, get_or, Option, Some, None, unwrap_or}
use Rattle.cycle_changes.specs.{lane_at, Put, HasCycle, AreDrafted, IsFitting, drafted}
use Rattle.cycle_changes.proofs.{Moving.drafted_more, Putting.fitting_rises}
use Rattle.cycle_changes.proofs.puts.put_drafted.Goals as goal

-- what is not the default was given
given : (o : Option ℕ) (old : ℕ) → (unwrap_or o old ≡ old → ⊥) → o ≡ Some (unwrap_or o old)
given None old other = absurd (other refl)
given (Some c) old other = refl

pub put-requires-clause-rising : goal.put-requires-clause-rising
put-requires-clause-rising g c =
    let sound = c.has_cycle.ensures.sound c.if-not-has_cycle.false in
    let fits = c.is_fitting.ensures c.if-not-is_fitting.false in
    fitting_rises _ c.args.place.step c.unwrap_or-cycle.result (c.has_cycle.ensures.timed c.if-not-has_cycle.false) sound.rising
    (subst (λ (cs : List ℕ). IsFitting cs c.args.place.step c.unwrap_or-cycle.result) c.cycles-2.ensures fits)

pub returns-in-Ok-clause-puts : goal.returns-in-Ok-clause-puts
returns-in-Ok-clause-puts g c = λ first are.
    let step = c.has_cycle.ensures.there c.if-not-has_cycle.false in
    let has : HasCycle c.args.graph.now.lanes c.args.place = record {
      owner = step.owner;
      there = c.has_cycle.ensures.timed c.if-not-has_cycle.false;
    } in
    let old = get_or c.cycles.result.now c.args.place.step 0 in
    let was = ap (λ (cs : List ℕ). get_or cs c.args.place.step 0) c.cycles.ensures in
    let other : c.unwrap_or-cycle.result ≢ get_or (lane_at c.args.graph.now.lanes c.args.place.module).cycles c.args.place.step 0 =
    λ e. c.if-cycle-old.false (e ∙ sym was) in
    let to = given c.cycle.result old (λ e. c.if-cycle-old.false (c.unwrap_or-cycle.ensures ∙ e)) in
    let drafts : drafted c.args.draft.now c.args.place ≡ Some c.unwrap_or-cycle.result =
    sym c.cycle.ensures ∙ (to ∙ ap Some (sym c.unwrap_or-cycle.ensures)) in
    let put : Put = record { place = c.args.place; old = old } in
    let more = drafted_more c.args.draft.now first c.args.puts.now.items c.args.graph.now.lanes are c.args.place
    c.unwrap_or-cycle.result drafts has other c.put.new.self.lanes c.put.ensures.lanes c.put.ensures.sound put refl was in
    subst (λ (ps : List Put). AreDrafted c.args.draft.now first ps c.put.new.self.lanes) (sym c.in-Ok.ensures.items) more
