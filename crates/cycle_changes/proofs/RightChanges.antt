-- New cycles that the check finds right are a right record of the edited design.
use Rattle.std.proofs.Common.{◌≡◌, refl, sym, ap, subst, ◌∙◌, ℕ, suc, ◌<◌, ◌≤◌, Bool, true, false, not, ◌&&◌, ◌⊎◌, eqb, List, [], ◌∷◌}
use Rattle.std.proofs.Common.{length, map, get_or, arith, inl, inr, Some}
use Rattle.std.proofs.lemmas.Bool.{cases_Bool, and_parts, both_ways, eqb-true, eq-eqb, and_from, not-true}
use Rattle.std.proofs.lemmas.List.{get_or_default}
use Rattle.std.specs.Prelude.{Any, Contains}
use Rattle.cycle_changes.specs.{Edit, ModuleState, side_of, same_side, Access, Place, Side, IsFifo, channel_at, deepened_channels, Design}
use Rattle.cycle_changes.specs.{IsDesign, Each, core_accesses, view, candidate, edited, IsRightRecord, IsRight, IsUnmoved, IsChecked}
use Rattle.cycle_changes.specs.{IsAmong, IsSaidAround, with_cycles, partner, IsLooked, cycle_held, AreRightChanges, IsLookedAround}
use Rattle.cycle_changes.specs.{IsAccessAt, WaitsForStep, place_of, IsKept, IsNow, Engine, held_in, step_of, emitted_of, seen, core_of}
use Rattle.flow_word.specs.declared.access.Side.TheVariants.{Push}
use Rattle.fifo_table.specs.declared.enabler.Enabler.TheVariants.{Event}
use Rattle.event_timing.specs.Core.{Core}
use Rattle.event_timing.proofs.{Editing.edit_design, OwnRuns.same_side_is}
use Rattle.cycle_changes.proofs.{Enabled.around, Onward.record_on, OtherHeld.other_now, RightLooks.look_is}
use Rattle.cycle_changes.proofs.Waiting.{event_found, no_access}
use Rattle.engine_view.specs.Held.{Held}
use Rattle.engine_view.proofs.{Bounds.candidate_is, Knowing.timed_within}
use Rattle.event_timing.specs.Machines as theory
use Rattle.cycle_changes.specs.Records as records

-- ---- lists of accesses

-- an access that the theory sees among them is one of them
in_at : (b : theory.Access) (xs : List Access) → IsAmong b (map seen xs)
    → (j : ℕ) × (j < length xs) × (b ≡ seen (get_or xs j no_access))
in_at b [] q = absurd q
in_at b (a ∷ xs) (inl e) = (0, omega arith, e)
in_at b (a ∷ xs) (inr q) = let (j, l, e) = in_at b xs q in (suc j, omega arith, e)

-- none of them stands at the FIFO's pushing side, or one does
beside_or : (fifo : ℕ) (xs : List Access)
    → Each (λ a. a.side ≡ Push → a.channel ≡ fifo → ⊥) (map seen xs) ⊎ Any (IsAccessAt Push fifo) xs
beside_or fifo [] = inl tt
beside_or fifo (a ∷ xs) =
    elim (cases_Bool (same_side (side_of a.kind) Push && eqb a.channel fifo)) [
      | inl e ↦
          let (p, q) = and_parts (same_side (side_of a.kind) Push) (eqb a.channel fifo) e in
          inr (0, a, omega arith, refl, (same_side_is (side_of a.kind) Push p, eqb-true a.channel fifo q))
      | inr e ↦
          elim (beside_or fifo xs) [
            | inl f ↦ inl (
              λ p q. both_ways _ e (and_from (same_side (side_of a.kind) Push) (eqb a.channel fifo)
                  (ap (λ (v : Side). same_side v Push) p) (eq-eqb a.channel fifo q)),
              f,
            )
            | inr (j, b, l, is, s) ↦ inr (suc j, b, omega arith, is, s)
          ]
    ]

module _ (s t : Engine) (edit : Edit) (limit : ℕ) (seeds puts : List Place) (inside : edit.channel < length s.fifos.channels)
    (is_fifo : IsFifo (channel_at s.fifos.channels edit.channel).kind) (c : AreRightChanges s t edit limit seeds puts)
    (d : Design ModuleState) (i : IsDesign d) (k : IsKept d (held_in s)) where
  abbrev h : Held
  h = held_in s

  abbrev g : Held
  g = held_in t

  abbrev x : Core ModuleState
  x = core_of d h

  abbrev y : Core ModuleState
  y = with_cycles x (cycle_held g)

  abbrev e : Design ModuleState
  e = edited d edit.channel edit.depth

  i_edited : IsDesign e
  i_edited = edit_design d edit.channel edit.depth i

  now : IsNow e g y
  now = other_now d h g edit k inside is_fifo c.other

  -- the old cycles under the new depth
  abbrev felt : Held
  felt = record h { channels = deepened_channels s.fifos.channels edit.channel edit.depth }

  felt_now : IsNow e felt x
  felt_now = other_now d h felt edit k inside is_fifo (record {
    lanes = refl;
    steps = λ m. refl;
    counts = λ m. refl;
    sound = k.sound.sound_lanes;
    channels = refl;
    logs = refl;
    over = refl;
  })

  -- ---- looks

  right_of : (m j : ℕ) → j < x.timed m → IsLooked (held_in t) m j → IsRight e y m j
  right_of m j l looked =
      subst (λ (z : Core ModuleState). IsRight e z m j) now.core
      ((look_is e i_edited g now.kept.sound m j (omega (arith, c.other.counts m))).0
      (record { cycle = looked.cycle; outcomes = looked.outcomes }))

  felt_right : (m j : ℕ) → j < x.timed m → IsLooked felt m j → IsRight e x m j
  felt_right m j l looked =
      subst (λ (z : Core ModuleState). IsRight e z m j) felt_now.core
      ((look_is e i_edited felt felt_now.kept.sound m j l).0 (record { cycle = looked.cycle; outcomes = looked.outcomes }))

  changed : ℕ → ℕ → Bool
  changed m j = not (eqb (cycle_held g m j) (x.cycle m j))

  put_in : (m j : ℕ) → Contains puts (place_of m j) → IsLookedAround (held_in t) limit (place_of m j)
  put_in m j (n, l, is) = subst (IsLookedAround (held_in t) limit) is (c.around n (place_of m j) l)

  put_of : (m j : ℕ) → changed m j ≡ true → IsLookedAround (held_in t) limit (place_of m j)
  unfolding changed
  put_of m j q =
      elim (c.same m j) [
        | inl w ↦ absurd (both_ways _ (not-true (eqb (cycle_held g m j) (x.cycle m j)) q) (eq-eqb (cycle_held g m j) (x.cycle m j) w))
        | inr w ↦ put_in m j w
      ]

  same_of : (m j : ℕ) → changed m j ≡ false → cycle_held g m j ≡ x.cycle m j
  unfolding changed
  same_of m j q = eqb-true (cycle_held g m j) (x.cycle m j) (not_false (eqb (cycle_held g m j) (x.cycle m j)) q)
    where
      not_false : (b : Bool) → not b ≡ false → b ≡ true
      not_false true q = refl
      not_false false q = cc

  emitted : (m j : ℕ) → j < x.timed m → j < emitted_of g m
  emitted m j l = omega (arith, timed_within d h k.sound m, ap (λ (ss : List _). length ss) (c.other.steps m))

  waits : (m j : ℕ) (a : theory.Access) → j < x.timed m → IsAmong a (core_accesses e x m j) → records.is_free_at e x m j a ≡ false → (n : ℕ)
      → records.enabling_step e x m j a ≡ Some n → WaitsForStep t.fifos.channels (step_of (held_in t) m j) (place_of (partner e a) n)
  waits m j a l at free n f =
      let l' = emitted m j l in
      let xs = (step_of g m j).accesses in
      let asked : core_accesses e y m j ≡ map seen xs =
      subst (λ (z : Core ModuleState). core_accesses e z m j ≡ map seen xs) now.core (now.kept.sound.accesses m j l') in
      let (p, u, is) = in_at a xs (subst (IsAmong a) asked at) in
      let free' = subst (λ (z : Core ModuleState). records.is_free_at e z m j (seen (get_or xs p no_access)) ≡ false) (sym now.core)
      (subst (λ (b : theory.Access). records.is_free_at e y m j b ≡ false) is free) in
      let f' = subst (λ (z : Core ModuleState). records.enabling_step e z m j (seen (get_or xs p no_access)) ≡ Some n) (sym now.core)
      (subst (λ (b : theory.Access). records.enabling_step e y m j b ≡ Some n) is f) in
      let found = event_found e i_edited g now.kept.sound m j l' p u free' n f' in (
        p,
        get_or xs p no_access,
        u,
        get_or_default xs p (get_or xs p no_access) no_access u,
        found ∙ ap (λ (b : theory.Access). Event (place_of (partner e b) n)) (sym is),
      )

  said : IsSaidAround e x (cycle_held g) changed (λ m j. IsRight e y m j)
  said = record {
    same = same_of;
    own = λ m j q l. right_of m j l (put_of m j q).own;
    following = λ m j q l. right_of m (suc j) l ((put_of m j q).following (omega (arith, c.other.counts m)));
    enabled = λ m j a l at free n f q. right_of m j l ((put_of (partner e a) n q).waiting m j (omega (arith, c.other.counts m))
        (waits m j a l at free n f));
  }

  -- ---- each step

  stays : (m j : ℕ) → j < x.timed m → IsUnmoved e x (cycle_held g) m j → IsChecked d x (cycle_held g) edit.channel edit.depth 0 m j
  stays m j l still =
      let l' : j < emitted_of h m = omega (arith, timed_within d h k.sound m) in
      elim (beside_or edit.channel (step_of h m j).accesses) [
        | inl b ↦ inl (still, inl (subst (Each (λ a. a.side ≡ Push → a.channel ≡ edit.channel → ⊥)) (sym (k.sound.accesses m j l')) b))
        | inr b ↦
            elim (c.felt m j l b) [
              | inl looked ↦ inl (still, inr (inr (felt_right m j l looked)))
              | inr (n, w, is) ↦ inr (right_of m j l (subst (λ (p : Place). IsLooked (held_in t) p.module p.step) is
                  (c.looked n (place_of m j) w)))
            ]
      ]

  checked : (m j : ℕ) → j < x.timed m → IsChecked d x (cycle_held g) edit.channel edit.depth 0 m j
  checked m j l =
      elim (around e x (cycle_held g) changed (λ m j. IsRight e y m j) said m j l) [ inr p ↦ inr p | inl still ↦ stays m j l still ]

  beyond : (m n : ℕ) → candidate e (view e y) m ≡ Some n → limit ≤ n
  beyond m n q =
      c.late m n (candidate_is e i_edited g now.kept.sound m ∙ (ap (λ (z : Core ModuleState). candidate e (view e z) m) now.core ∙ q))

  pub right_changes : IsRightRecord d limit x → IsRightRecord e limit (core_of e g) × IsKept e g
  right_changes r = (
    subst (IsRightRecord e limit) (sym now.core)
        (record_on d limit x r edit.channel edit.depth (cycle_held g) checked below beyond),
    now.kept,
  )
    where
      below : (m j : ℕ) → j < x.timed m → cycle_held g m j < limit
      below m j l =
          elim (c.same m j) [ inl w ↦ subst (λ (n : ℕ). n < limit) (sym w) (r.below m j l) | inr w ↦ (put_in m j w).below ]
