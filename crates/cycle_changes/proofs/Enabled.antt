-- What a step enables.
use Rattle.std.proofs.Common.{◌≡◌, ℕ, zero, suc, ◌-◌, ◌<◌, ◌≤◌, ◌⊎◌, inl, inr, Option, Some, None, sym, subst, arith, refl, ◌∙◌, Bool}
use Rattle.std.proofs.Common.{false, List, [], ◌∷◌}
use Rattle.std.proofs.lemmas.Bool.{cases_Bool}
use Rattle.cycle_changes.specs.{other_side, Design, Each, from, core_accesses, core_reply, IsAmong, IsBetween, IsSaidAround, IsUnmoved}
use Rattle.cycle_changes.specs.{KeepsEnabler, is_free_at, IsTaking, count_before, enabling_step, partner}
use Rattle.event_timing.specs.{Access, Core.Core}
use Rattle.event_timing.proofs.OwnRuns.{place_says, tally_mono}

module _ {S : Type 0} (d : Design S) (x : Core S) (m k : ℕ) (a : Access) where
  pub enabled : (e : ℕ) → enabling_step d x m k a ≡ Some e
      → IsTaking d x (partner d a) (other_side a.side) a.channel (count_before d x m k a - d.start a.side a.channel) e
  enabled e f =
      let w : ℕ = partner d a in
      let n : ℕ = count_before d x m k a - d.start a.side a.channel in
      let (p, q, r) = rw f at (place_says (core_accesses d x w) (core_reply d x w) (other_side a.side) a.channel (x.timed w) n) in
      record { before = q; now = r }

  -- the step that takes with as many before it comes not earlier
  pub not_after : (q : ℕ) → IsTaking d x m a.side a.channel (count_before d x m k a) q → k ≤ q
  not_after q t = grind (arith, t.now, tally_mono (core_accesses d x m) (core_reply d x m) a.side a.channel (suc q) k)

  -- and the one that takes next before comes earlier
  pub after_last : (p i : ℕ) → suc i ≡ count_before d x m k a → IsTaking d x m a.side a.channel i p → p < k
  after_last p i e t = grind (arith, t.before, tally_mono (core_accesses d x m) (core_reply d x m) a.side a.channel k p)

  pub is_between : IsBetween d x m a.side a.channel (count_before d x m k a) k
  is_between = record { last = after_last; next = not_after }

-- ---- what is said around the steps whose cycles are others

module _ {S : Type 0} (d : Design S) (x : Core S) (cycles : ℕ → ℕ → ℕ) (changed : ℕ → ℕ → Bool) (P : ℕ → ℕ → Type 0)
    (r : IsSaidAround d x cycles changed P) where
  module _ (m k : ℕ) (l : k < x.timed m) where
    from_enabler : (a : Access) → IsAmong a (core_accesses d x m k) → is_free_at d x m k a ≡ false → (o : Option ℕ)
        → enabling_step d x m k a ≡ o → KeepsEnabler d x cycles m k a ⊎ P m k
    from_enabler a at waits None f = inl (λ w e g. let z = sym f ∙ g in cc)
    from_enabler a at waits (Some e) f =
        elim (cases_Bool (changed (partner d a) e)) [
          | inr n ↦ inl (λ w e' g. let z : Some e ≡ Some e' = sym f ∙ g in let z' : e ≡ e' = cc in
              subst (λ (j : ℕ). cycles (partner d a) j ≡ x.cycle (partner d a) j) z' (r.same (partner d a) e n))
          | inl y ↦ inr (r.enabled m k a l at waits e f y)
        ]

    one : (a : Access) → IsAmong a (core_accesses d x m k) → KeepsEnabler d x cycles m k a ⊎ P m k
    one a at = grind (arith, from_enabler a at)

    each : (xs : List Access) → ((b : Access) → IsAmong b xs → IsAmong b (core_accesses d x m k))
        → Each (KeepsEnabler d x cycles m k) xs ⊎ P m k
    each [] within = inl tt
    each (a ∷ xs) within = grind (arith, one a (within a (inl refl)), each xs (λ b w. within b (inr w)))

    still_or : cycles m k ≡ x.cycle m k → from (cycles m) k ≡ from (x.cycle m) k → IsUnmoved d x cycles m k ⊎ P m k
    still_or e f = grind (arith, each (core_accesses d x m k) (λ b w. w))

  before : (m k : ℕ) → k < x.timed m → (from (cycles m) k ≡ from (x.cycle m) k) ⊎ P m k
  before m zero l = inl refl
  before m (suc k) l = grind (arith, r.following m k, r.same m k)

  pub around : (m k : ℕ) → k < x.timed m → IsUnmoved d x cycles m k ⊎ P m k
  around m k l = grind (arith, r.own m k, r.same m k, before m k l, still_or m k l)
