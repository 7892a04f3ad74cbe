-- What a record that is cut at a clock tells of that clock: the same as the whole one.
use Rattle.std.proofs.{lemmas.Bool.Decides.nat_tests, lemmas.Bool.cases_Bool}
use Rattle.std.proofs.Common.{◌≡◌, ℕ, suc, ◌-◌, ◌<◌, ◌≤◌, false, ◌||◌, ◌⊎◌, inl, inr, List, [], ◌∷◌, sym, refl, ◌∙◌, arith, ltb, Option}
use Rattle.std.proofs.Common.{Some, None}
use Rattle.cycle_changes.specs.{Side, other_side, Design, IsDesign, Reply, Known, known, from_step, bound, answer, flags_at, kept}
use Rattle.cycle_changes.specs.{kept_cycle, after_edit, core_accesses, core_reply, view}
use Rattle.event_timing.specs.{Access, Enablers.Known.From, Enablers.Known.Unknown, Core.Core}
use Rattle.event_timing.proofs.{OwnRuns.IsPlace, OwnRuns.place_says, OwnRuns.tally_mono, Editing.kept_le, Editing.kept_same}
use Rattle.event_timing.proofs.Threshold.{known_free, known_never, known_event, enabler}
use Rattle.event_timing.proofs.Candidate.{both_parts, bound_blocks, bound_free}
use Rattle.cycle_changes.proofs.Keeping.{kept_beyond}

-- the one is the other, or is not known, and by the other the access is not possible in clock t
abbrev pub IsCut : ℕ → Known → Known → Type 0
IsCut t cut whole = (cut ≡ whole) ⊎ ((cut ≡ Unknown) × (answer whole t ≡ false))

-- ---- one access

cut_place : (cycle : ℕ → ℕ) (lag t n : ℕ) (a : ℕ → List Access) (r : ℕ → List Reply) (side : Side) (ch j : ℕ) → 0 < lag
    → (o w : Option ℕ) → IsPlace a r side ch (kept cycle t n) j o → IsPlace a r side ch n j w
    → IsCut t (from_step (kept_cycle cycle t n) lag o) (from_step cycle lag w)
cut_place cycle lag t n a r side ch j l None None p q = inl refl
cut_place cycle lag t n a r side ch j l None (Some k) p (q1, q2, q3) =
    grind (arith, nat_tests, tally_mono a r side ch (suc k) (kept cycle t n), kept_beyond cycle t n k)
cut_place cycle lag t n a r side ch j l (Some k) None (p1, p2, p3) q =
    absurd (omega (arith, kept_le cycle t n, tally_mono a r side ch (suc k) n (omega (arith, kept_le cycle t n))))
cut_place cycle lag t n a r side ch j l (Some k) (Some e) (p1, p2, p3) (q1, q2, q3) =
    grind (arith, tally_mono a r side ch (suc k) e, tally_mono a r side ch (suc e) k, kept_same cycle t n k p1)

module _ {S : Type 0} (d : Design S) (i : IsDesign d) (x : Core S) (t : ℕ) where
  pub cut_known : (side : Side) (ch n : ℕ) → IsCut t (known d (view d (after_edit d x t)) side ch n) (known d (view d x) side ch n)
  unfolding enabler
  cut_known side ch n =
      let v = view d (after_edit d x t) in
      let w : ℕ = d.owner (other_side side) ch in
      elim (cases_Bool (d.unlimited side ch || ltb n (d.start side ch))) [
        | inl free ↦ inl (known_free d v side ch n free ∙ sym (known_free d (view d x) side ch n free))
        | inr waits ↦
            elim (cases_Bool (d.closed side ch)) [
              | inl shut ↦ inl (known_never d v side ch n waits shut ∙ sym (known_never d (view d x) side ch n waits shut))
              | inr open_side ↦
                  let a = core_accesses d x w in
                  let r = core_reply d x w in
                  let j : ℕ = n - d.start side ch in
                  rw (known_event d v side ch n waits open_side, known_event d (view d x) side ch n waits open_side)
                  (cut_place (x.cycle w) (d.lag side ch) t (x.timed w) a r (other_side side) ch j (i.lag_positive side ch)
                  (enabler d v side ch n) (enabler d (view d x) side ch n)
                  (place_says a r (other_side side) ch (kept (x.cycle w) t (x.timed w)) j)
                  (place_says a r (other_side side) ch (x.timed w) j))
            ]
      ]

-- ---- all accesses of a step

module _ (t : ℕ) (cut whole : Access → Known) (each : (a : Access) → IsCut t (cut a) (whole a)) where
  down : (k w : Known) → IsCut t k w → (u : ℕ) → w ≡ From u → u ≤ t → k ≡ From u
  down k w c u f l = grind (arith, nat_tests)

  up : (k w : Known) → IsCut t k w → (u : ℕ) → k ≡ From u → w ≡ From u
  up k w c u f = grind arith

  same_answer : (k w : Known) → IsCut t k w → answer k t ≡ answer w t
  same_answer k w c = grind arith

  pub bound_down : (xs : List Access) (u : ℕ) → bound whole xs ≡ From u → u ≤ t → bound cut xs ≡ From u
  bound_down [] u e l = e
  bound_down (a ∷ xs) u e l =
      elim (cases_Bool a.blocks) [
        | inl b ↦
            let (p, q, k1, k2, k3) = both_parts (whole a) (bound whole xs) u (sym (bound_blocks whole a xs b) ∙ e) in
            let first = down (cut a) (whole a) (each a) p k1 (omega arith) in
            grind (arith, bound_down xs q k2 (omega arith))
        | inr b ↦ bound_free cut a xs b ∙ bound_down xs u (sym (bound_free whole a xs b) ∙ e) l
      ]

  pub bound_up : (xs : List Access) (u : ℕ) → bound cut xs ≡ From u → bound whole xs ≡ From u
  bound_up [] u e = e
  bound_up (a ∷ xs) u e =
      elim (cases_Bool a.blocks) [
        | inl b ↦
            let (p, q, k1, k2, k3) = both_parts (cut a) (bound cut xs) u (sym (bound_blocks cut a xs b) ∙ e) in
            let first = up (cut a) (whole a) (each a) p k1 in
            grind (arith, bound_up xs q k2)
        | inr b ↦ bound_free whole a xs b ∙ bound_up xs u (sym (bound_free cut a xs b) ∙ e)
      ]

  pub flags_cut : (xs : List Access) → flags_at cut t xs ≡ flags_at whole t xs
  flags_cut [] = refl
  flags_cut (a ∷ xs) = rw (same_answer (cut a) (whole a) (each a), flags_cut xs) refl
