use Rattle.std.proofs.Common.{◌≡◌, refl, sym, subst, ◌∙◌, ℕ, ◌<◌, ◌⊎◌, List, [], ◌∷◌, arith, inl, inr, Some, slice_get}
use Rattle.std.proofs.lemmas.Bool.{cases_eq}
use Rattle.std.specs.Prelude.{Contains}
use Rattle.cycle_changes.specs.{Place, channel_at, first_module, places_of, place_of, step_of, held_in, first_of, IsLooked, HasAccessAt}
use Rattle.flow_word.specs.declared.access.Side.TheVariants.{Push}
use Rattle.cycle_changes.proofs.Reaching.{as_owner, has_owner}
use Rattle.cycle_changes.proofs.seeds.find_seeds.Goals as goal

first_is : (places : List Place) (o : ℕ) → first_module places ≡ Some o → (p : Place) × (slice_get places 0 ≡ Some p) × (p.module ≡ o)
first_is [] o e = cc
first_is (p ∷ ps) o e = (p, refl, cc)

pub frontier-step-end-requires : goal.frontier-step-end-requires
frontier-step-end-requires c =
    let (p, there, is) = first_is (places_of Push (channel_at c.args.engine.now.fifos.channels c.args.channel)) c.in-Some.owner
    (sym c.pusher.ensures ∙ c.in-Some.is) in
    let own = has_owner c.args.engine.now c.requires.core Push c.args.channel c.requires.channel 0 p there in
    omega arith

pub loop-step-preserved : goal.loop-step-preserved
loop-step-preserved c = λ k l s.
    let h = held_in c.args.engine.now in
    elim (cases_eq k c.loop-step.step) [
      | inl e ↦
          let s' = subst (λ (n : ℕ). HasAccessAt Push c.args.channel (step_of h c.in-Some.owner n)) e s in
          subst (λ (n : ℕ). IsLooked h c.in-Some.owner n ⊎ Contains c.keep_felt.new.seeds.items (place_of c.in-Some.owner n)) (sym e)
          (c.keep_felt.ensures.felt c.if-not-keep_felt.false s')
      | inr e ↦
          elim (c.loop-step.invariant k (omega arith) s) [
            | inl w ↦ inl w
            | inr w ↦ inr (c.keep_felt.ensures.kept (place_of c.in-Some.owner k) w)
          ]
    ]

pub returns : goal.returns
returns c = λ e m k l s.
    let h = held_in c.args.engine.now in
    let (p, there, is) = first_is (places_of Push (channel_at h.channels c.args.channel)) c.in-Some.owner
    (sym c.pusher.ensures ∙ c.in-Some.is) in
    let (j, a, u, at, st) = s in
    let owner : m ≡ c.in-Some.owner =
    sym (as_owner c.args.engine.now c.requires.core Push c.args.channel a.ordinal m k l (j, a, u, at, (st, refl)) 0 p there) ∙ is in
    let count = c.frontier-step-end.ensures.count in
    let l' = subst (λ (v : ℕ). k < first_of h v) owner l in
    let s' = subst (λ (v : ℕ). HasAccessAt Push c.args.channel (step_of h v k)) owner s in
    subst (λ (v : ℕ). IsLooked h v k ⊎ Contains c.loop-step.seeds.items (place_of v k)) (sym owner)
    (c.loop-step.invariant k (omega (arith, c.loop-step-test.false)) s')
