-- What a step's rightness depends on.
use Rattle.std.proofs.{lemmas.Bool.Decides.nat_tests, lemmas.Bool.cases_Bool, lemmas.Bool.cases_eq}
use Rattle.std.proofs.Common.{◌≡◌, ℕ, ◌+◌, ◌≤◌, max, arith, Bool, ◌||◌, inl, inr, List, [], ◌∷◌, sym, refl, ap, ap₂, ◌∙◌, ltb, Option, Some}
use Rattle.std.proofs.Common.{None}
use Rattle.cycle_changes.specs.{Side, Design, Each, from, tally, edited, Known, known, from_step, bound, flags_at, both, to_clock}
use Rattle.cycle_changes.specs.{core_accesses, core_reply, view, KeepsEnabler, IsRight, IsUnmoved, IsBeside, IsSlack, HasSlack, known_at}
use Rattle.cycle_changes.specs.{with_cycles, enabling_step, partner}
use Rattle.flow_word.specs.declared.access.Side.TheVariants.{Push}
use Rattle.event_timing.specs.{Access, Enablers.Known.From, Core.Core}
use Rattle.event_timing.proofs.{OwnRuns.same_side_is, Candidate.bound_blocks, Candidate.bound_free, Candidate.both_parts}
use Rattle.event_timing.proofs.Threshold.{known_free, known_never, known_event, enabler}

-- ---- accesses of which the same is known

abbrev AreSame : (Access → Known) → (Access → Known) → List Access → Type 0
AreSame one other xs = Each (λ a. one a ≡ other a) xs

bound_same : (one other : Access → Known) (xs : List Access) → AreSame one other xs → bound one xs ≡ bound other xs
bound_same one other [] e = refl
bound_same one other (a ∷ xs) (e, es) = grind (arith, bound_same one other xs es)

flags_same : (one other : Access → Known) (c : ℕ) (xs : List Access) → AreSame one other xs → flags_at one c xs ≡ flags_at other c xs
flags_same one other c [] e = refl
flags_same one other c (a ∷ xs) (e, es) = rw (e, flags_same one other c xs es) refl

-- ---- cycles that stay

step_same : (f g : ℕ → ℕ) (lag : ℕ) (o : Option ℕ) → ((e : ℕ) → o ≡ Some e → f e ≡ g e) → from_step f lag o ≡ from_step g lag o
step_same f g lag None s = refl
step_same f g lag (Some e) s = ap (λ (c : ℕ). From (c + lag)) (s e refl)

module _ {S : Type 0} (d : Design S) (x : Core S) (cycles : ℕ → ℕ → ℕ) where
  known_still : (m k : ℕ) (a : Access)
      → KeepsEnabler d x cycles m k a
      → known_at d (with_cycles x cycles) m k a ≡ known_at d x m k a
  unfolding enabler
  known_still m k a s =
      let n : ℕ = tally (core_accesses d x m) (core_reply d x m) a.side a.channel k in
      let side : Side = a.side in
      let ch : ℕ = a.channel in
      let v = view d (with_cycles x cycles) in
      let same = step_same (cycles (partner d a)) (x.cycle (partner d a)) (d.lag side ch) (enabling_step d x m k a) in
      elim (cases_Bool (d.unlimited side ch || ltb n (d.start side ch))) [
        | inl free ↦ rw (known_free d v side ch n free, known_free d (view d x) side ch n free) refl
        | inr waits ↦
            elim (cases_Bool (d.closed side ch)) [
              | inl shut ↦ rw (known_never d v side ch n waits shut, known_never d (view d x) side ch n waits shut) refl
              | inr flows ↦
                  rw (known_event d v side ch n waits flows, known_event d (view d x) side ch n waits flows)
                  (same (s (ap₂ (λ (p q : Bool). p || q) flows waits)))
            ]
      ]

  each_still : (m k : ℕ) (xs : List Access) → Each (KeepsEnabler d x cycles m k) xs
      → AreSame (known_at d (with_cycles x cycles) m k) (known_at d x m k) xs
  each_still m k [] s = tt
  each_still m k (a ∷ xs) (s, ss) = (known_still m k a s, each_still m k xs ss)

  pub still_right : (m k : ℕ) → IsUnmoved d x cycles m k → IsRight d x m k → IsRight d (with_cycles x cycles) m k
  still_right m k s r =
      let asked : List Access = core_accesses d x m k in
      let e = each_still m k asked s.enablers in
      let one = known_at d (with_cycles x cycles) m k in
      let other = known_at d x m k in
      record {
        cycle = rw (s.before, bound_same one other asked e, s.own) r.cycle;
        outcomes = rw (s.own, flags_same one other (x.cycle m k) asked e) r.outcomes;
      }

-- ---- a depth that changes

module _ {S : Type 0} (d : Design S) (x : Core S) (fifo depth : ℕ) where
  start_same : (side : Side) (ch : ℕ) → (side ≡ Push → ch ≡ fifo → ⊥) → (edited d fifo depth).start side ch ≡ d.start side ch
  start_same side ch n = grind (arith, nat_tests, same_side_is side Push)

  known_beside : (m k : ℕ) (a : Access) → (a.side ≡ Push → a.channel ≡ fifo → ⊥)
      → known_at (edited d fifo depth) x m k a ≡ known_at d x m k a
  unfolding known
  known_beside m k a n = rw (start_same a.side a.channel n) refl

  each_beside : (m k : ℕ) (xs : List Access) → Each (λ a. a.side ≡ Push → a.channel ≡ fifo → ⊥) xs
      → AreSame (known_at (edited d fifo depth) x m k) (known_at d x m k) xs
  each_beside m k [] s = tt
  each_beside m k (a ∷ xs) (s, ss) = (known_beside m k a s, each_beside m k xs ss)

  pub beside_right : (m k : ℕ) → IsBeside d x fifo m k → IsRight d x m k → IsRight (edited d fifo depth) x m k
  beside_right m k s r =
      let asked : List Access = core_accesses d x m k in
      let e = each_beside m k asked s in
      let one = known_at (edited d fifo depth) x m k in
      let other = known_at d x m k in
      record {
        cycle = rw (bound_same one other asked e) r.cycle;
        outcomes = rw (flags_same one other (x.cycle m k) asked e) r.outcomes;
      }

-- ---- a depth that is not felt

module _ (c : ℕ) (old new : Access → Known) where
  abbrev EachSlack : List Access → Type 0
  EachSlack xs = Each (λ a. IsSlack c a (old a) (new a)) xs

  bound_slack : (xs : List Access) → EachSlack xs → (p : ℕ) → bound old xs ≡ From p → p ≤ c
      → (q : ℕ) × (bound new xs ≡ From q) × (q ≤ c) × (p ≡ c → q ≡ c)
  bound_slack [] s p e l = (0, refl, omega arith, λ z. let k : p ≡ 0 = cc in sym k ∙ z)
  bound_slack (a ∷ xs) (s, ss) p e l =
      elim (cases_Bool a.blocks) [
        | inr b ↦
            let (q, f, m, n) = bound_slack xs ss p (sym (bound_free old a xs b) ∙ e) l in
            (q, bound_free new a xs b ∙ f, m, n)
        | inl b ↦
            let (u, w, k1, k2, k3) = both_parts (old a) (bound old xs) p (sym (bound_blocks old a xs b) ∙ e) in
            let (v, f1, l1, n1) = s.blocking b u k1 (omega arith) in
            let (q, f2, l2, n2) = bound_slack xs ss w k2 (omega arith) in
            (max v q, bound_blocks new a xs b ∙ ap₂ both f1 f2, omega arith, λ z. reached u w v q (k3 ∙ z) l1 l2 n1 n2)
      ]
    where
      reached : (u w v q : ℕ) → max u w ≡ c → v ≤ c → q ≤ c → (u ≡ c → v ≡ c) → (w ≡ c → q ≡ c) → max v q ≡ c
      reached u w v q e l1 l2 n1 n2 =
          elim (cases_eq u c) [
            | inl k ↦ let k' = n1 k in omega arith
            | inr k ↦ let k' = n2 (omega arith) in omega arith
          ]

  flags_slack : (xs : List Access) → EachSlack xs → flags_at new c xs ≡ flags_at old c xs
  flags_slack [] s = refl
  flags_slack (a ∷ xs) (s, ss) = grind (arith, s.query, flags_slack xs ss)

pub clock_parts : (k : Known) (r c : ℕ) → to_clock r k ≡ Some c → (u : ℕ) × (k ≡ From u) × (max r u ≡ c)
clock_parts k r c e = grind arith

module _ {S : Type 0} (d : Design S) (x : Core S) (fifo depth m k : ℕ) where
  pub slack_right : HasSlack d x fifo depth m k → IsRight d x m k → IsRight (edited d fifo depth) x m k
  slack_right s r =
      let c : ℕ = x.cycle m k in
      let asked : List Access = core_accesses d x m k in
      let reach : ℕ = from (x.cycle m) k + x.wait m k in
      let (u, f, e) = clock_parts (bound (known_at d x m k) asked) reach c r.cycle in
      let (v, g, l, n) = bound_slack c (known_at d x m k) (known_at (edited d fifo depth) x m k) asked s u f (omega arith) in
      let still : max reach v ≡ c = grind arith in
      record {
        cycle = ap (to_clock reach) g ∙ ap (λ (z : ℕ). Some z) still;
        outcomes = flags_slack c (known_at d x m k) (known_at (edited d fifo depth) x m k) asked s ∙ r.outcomes;
      }
