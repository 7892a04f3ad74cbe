-- Where an access stands among the steps that take at its side of its channel.
use Rattle.std.proofs.Common.{◌≡◌, sym, subst, ◌∙◌, ℕ, suc, ◌<◌, ◌≤◌, length, get_or, arith, inl, inr, Some, slice_get}
use Rattle.std.proofs.{lemmas.Bool.cases_lt, lemmas.Option.get_or_from_slice_get, lemmas.Option.slice_get_within}
use Rattle.cycle_changes.specs.{side_of, Access, Place, Side, channel_at, places_of, IsAccess, Design, IsDesign, Each, core_accesses}
use Rattle.cycle_changes.specs.{core_tally, step_of, emitted_of, core_of, IsSound, IsTakenAt}
use Rattle.event_timing.specs.Core.{Core}
use Rattle.event_timing.proofs.OwnRuns.{tally_mono}
use Rattle.engine_view.specs.Held.{Held}
use Rattle.engine_view.proofs.{Knowing.shown_inside, Roomy.each_at}

module _ {S : Type 0} (d : Design S) (i : IsDesign d) (h : Held) (y : IsSound d h) where
  abbrev x : Core S
  x = core_of d h

  -- how many are taken only grows with the steps
  pub grows : (m : ℕ) (side : Side) (c k n : ℕ) → k ≤ n → core_tally d x m side c k ≤ core_tally d x m side c n
  grows m side c k n l = tally_mono (core_accesses d x m) _ side c k n l

  -- the step of the push, or the pop, of this number
  pub taker_at : (side : Side) (c : ℕ) → c < length h.channels → (n : ℕ) (p : Place)
      → slice_get (places_of side (channel_at h.channels c)) n ≡ Some p → IsTakenAt d x side c n p
  taker_at side c l n p e =
      let places = places_of side (channel_at h.channels c) in
      subst (IsTakenAt d x side c n) (get_or_from_slice_get places n p p e) ((y.taken side c l).each n p (slice_get_within places n p e))

  module _ (m k : ℕ) (l : k < emitted_of h m) (j : ℕ) (e : Access) (u : j < length (step_of h m k).accesses) where
    abbrev a : Access
    a = get_or (step_of h m k).accesses j e

    pub inside : IsAccess h.channels a
    inside = shown_inside d h x y m k l j e u

    pub owned : d.owner (side_of a.kind) a.channel ≡ m
    owned =
        each_at (λ b. d.owner b.side b.channel ≡ m) (step_of h m k).accesses
        (subst (Each (λ b. d.owner b.side b.channel ≡ m)) (y.accesses m k l) (i.owned m (x.state m k))) j e u

    pub ordinal : a.ordinal ≡ suc (core_tally d x (d.owner (side_of a.kind) a.channel) (side_of a.kind) a.channel k)
    ordinal = subst (λ (o : ℕ). a.ordinal ≡ suc (core_tally d x o (side_of a.kind) a.channel k)) (sym owned) (y.ordinals m k l j e u)

    module _ (n : ℕ) (p : Place) (there : slice_get (places_of (side_of a.kind) (channel_at h.channels a.channel)) n ≡ Some p) where
      taken : IsTakenAt d x (side_of a.kind) a.channel n p
      taken = taker_at (side_of a.kind) a.channel inside.channel n p there

      -- it takes in the same module
      pub taker_owner : p.module ≡ m
      taker_owner = taken.owner ∙ owned

      -- before the access, where it takes with a lesser ordinal
      pub taker_before : suc n < a.ordinal → p.step < k
      taker_before q =
          elim (cases_lt p.step k) [
            | inl w ↦ w
            | inr w ↦
                let g = grows (d.owner (side_of a.kind) a.channel) (side_of a.kind) a.channel k p.step w in
                absurd (omega (arith, ordinal, taken.from))
          ]

      -- and not before it, where it takes with no lesser one
      pub taker_after : a.ordinal ≤ suc n → k ≤ p.step
      taker_after q =
          elim (cases_lt p.step k) [
            | inr w ↦ w
            | inl w ↦
                let g = grows (d.owner (side_of a.kind) a.channel) (side_of a.kind) a.channel (suc p.step) k w in
                absurd (omega (arith, ordinal, taken.to))
          ]

    -- all that take with a lesser ordinal are there
    pub takers_there : a.ordinal ≤ suc (length (places_of (side_of a.kind) (channel_at h.channels a.channel)))
    takers_there =
        let o : ℕ = d.owner (side_of a.kind) a.channel in
        let t = (y.taken (side_of a.kind) a.channel inside.channel).count in
        let g = grows o (side_of a.kind) a.channel k (emitted_of h o)
        (subst (λ (v : ℕ). k ≤ emitted_of h v) (sym owned) (omega arith)) in
        omega (arith, ordinal)
