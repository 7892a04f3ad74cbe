-- What the table holds by the cycles that were given is what the theory says.
use Rattle.std.proofs.Common.{refl, ◌≡◌, sym, ap, ap₂, ◌∙◌, ℕ, zero, suc, ◌-◌, ◌<◌, ◌≤◌, min, inl, inr, Bool, true, false, List, [], ◌∷◌}
use Rattle.std.proofs.Common.{length, filter, get_or, arith}
use Rattle.std.proofs.{lemmas.Bool.cases_lt, lemmas.Bool.lt-ltb, lemmas.Bool.le-ltb, lemmas.List.Kept.AllPairs-from_increasing}
use Rattle.std.proofs.lemmas.Option.{slice_get-get_or, slice_get_past}
use Rattle.std.specs.Prelude.{slice_get}
use Rattle.retime.specs.{Place, Side, lane_at, cycle_of, TableChannel, IsFifo, channel_at, depth_of, places_of, Design, IsDesign, kept}
use Rattle.retime.specs.{by_cycles, held_by_cycles, core_accesses, core_tally, bare_replies, core_of, IsSound, IsKind, AreTaken}
use Rattle.retime.specs.{is_cycle_before, timed_before, held_elements, ArePlacesInOrder, IsFirstTouched, IsNeverTouched}
use Rattle.flow_word.specs.declared.access.Side.TheVariants.{Pop, Push}
use Rattle.fifo_table.specs.declared.channel.TableChannel.TheVariants.{Fifo}
use Rattle.event_timing.specs.Core.{Core}
use Rattle.event_timing.proofs.{Editing.kept_le, Editing.kept_below, Touched.kept_ge, Values.takes_takers}
use Rattle.event_timing.proofs.OwnRuns.{tally_mono, tally_more}
use Rattle.engine_view.specs.Held.{Held}
use Rattle.engine_view.proofs.Knowing.{timed_within}
use Rattle.retime.proofs.Filling.{rising_of}

-- ---- counts

-- a prefix that passes, and a rest that doesn't
front_counts : {X : Type 0} (p : X → Bool) (xs : List X) (n : ℕ) → n ≤ length xs → ((i : ℕ) (e : X) → i < n → p (get_or xs i e) ≡ true)
    → ((i : ℕ) (e : X) → n ≤ i → i < length xs → p (get_or xs i e) ≡ false)
    → length (filter p xs) ≡ n
front_counts p [] n l on off = omega arith
front_counts p (x ∷ xs) zero l on off = rw (off 0 x (omega arith) (omega arith))
    (front_counts p xs zero (omega arith) (λ i e u. absurd (omega arith)) (λ i e u v. off (suc i) e (omega arith) (omega arith)))
front_counts p (x ∷ xs) (suc n) l on off =
    let rest = front_counts p xs n (omega arith) (λ i e u. on (suc i) e (omega arith))
    (λ i e u v. off (suc i) e (omega arith) (omega arith)) in
    rw (on 0 x (omega arith), rest) refl

module _ {S : Type 0} (d : Design S) (h : Held) (shown : IsSound d h) where
  abbrev x : Core S
  x = core_of d h

  rises : (m j k : ℕ) → j < k → k < x.timed m → x.cycle m j < x.cycle m k
  rises m j k l u = AllPairs-from_increasing (lane_at h.lanes m).cycles (rising_of h.lanes shown.sound_lanes m) j k 0 l u

  -- a step is before a clock where it is among the cycles that stay
  stays : (m s c : ℕ) → s < kept (x.cycle m) c (x.timed m) → is_cycle_before c (slice_get (lane_at h.lanes m).cycles s) ≡ true
  stays m s c l =
      let n = kept_le (x.cycle m) c (x.timed m) in
      let below = kept_below (x.cycle m) c (x.timed m) (rises m) s l in
      rw (slice_get-get_or (lane_at h.lanes m).cycles s 0 (omega arith)) (lt-ltb (x.cycle m s) c below)

  goes : (m s c : ℕ) → kept (x.cycle m) c (x.timed m) ≤ s → is_cycle_before c (slice_get (lane_at h.lanes m).cycles s) ≡ false
  goes m s c l =
      elim (cases_lt s (x.timed m)) [
        | inl u ↦
            let least = kept_ge (x.cycle m) c (suc s) (x.timed m) u in
            let rise = λ (k : ℕ). rises m k s in
            let late : c ≤ x.cycle m s = elim (cases_lt (x.cycle m s) c) [
              | inl b ↦ let all = least (λ k w. let less = rise k in grind arith) in absurd (omega arith)
              | inr b ↦ b
            ] in
            rw (slice_get-get_or (lane_at h.lanes m).cycles s 0 u) (le-ltb (x.cycle m s) c late)
        | inr u ↦ rw (slice_get_past (lane_at h.lanes m).cycles s u) refl
      ]

  most : (side : Side) (c : ℕ) (places : List Place) → AreTaken d x side c places → (t : ℕ)
      → core_tally d x (d.owner side c) side c (kept (x.cycle (d.owner side c)) t (x.timed (d.owner side c))) ≤ length places
  most side c places taken t =
      let m = d.owner side c in
      let all = taken.count in
      let w = timed_within d h shown m in
      let n = kept_le (x.cycle m) t (x.timed m) in
      let up = tally_mono (core_accesses d x m) (λ j. bare_replies (x.flags m j)) side c (kept (x.cycle m) t (x.timed m)) (x.emitted m)
      (omega arith) in
      omega arith

  pub counts_are : (side : Side) (c : ℕ) (places : List Place) → AreTaken d x side c places → (t : ℕ)
      → timed_before h.lanes places t ≡ by_cycles d x side c t
  counts_are side c places taken t =
      let m = d.owner side c in
      let k = kept (x.cycle m) t (x.timed m) in
      let up = tally_mono (core_accesses d x m) (λ j. bare_replies (x.flags m j)) side c in
      front_counts (λ (p : Place). is_cycle_before t (cycle_of h.lanes p)) places (core_tally d x m side c k) (most side c places taken t)
      (λ i e l.
      let at = taken.each i e (let w = most side c places taken t in omega arith) in
      let from = at.from in
      let beyond = up k (get_or places i e).step in
      let less : (get_or places i e).step < k = grind arith in
      rw at.owner (stays m (get_or places i e).step t less))
      (λ i e l u.
      let at = taken.each i e u in
      let to = at.to in
      let within = up (suc (get_or places i e).step) k in
      let past : k ≤ (get_or places i e).step = grind arith in
      rw at.owner (goes m (get_or places i e).step t past))

  -- their steps rise, since a step takes at most one
  pub in_order : IsDesign d → (side : Side) (c : ℕ) (places : List Place) → AreTaken d x side c places → ArePlacesInOrder places
  in_order y side c places taken i j e l u =
      let m = d.owner side c in
      let a = taken.each i e (omega arith) in
      let b = taken.each j e u in
      let from = a.from in
      let to = b.to in
      let s = (get_or places i e).step in
      let r = (get_or places j e).step in
      let one = y.single side m (x.state m s) c in
      let few = takes_takers side c (core_accesses d x m s) (bare_replies (x.flags m s)) in
      let step = tally_more (core_accesses d x m) (λ k. bare_replies (x.flags m k)) side c s in
      let up = tally_mono (core_accesses d x m) (λ k. bare_replies (x.flags m k)) side c (suc r) (suc s) in
      (a.owner ∙ sym b.owner, grind arith)

module _ {S : Type 0} (d : Design S) (h : Held) (s : IsSound d h) (c : ℕ) (inside : c < length h.channels) where
  pub places_in_order : IsDesign d → (side : Side) → ArePlacesInOrder (places_of side (channel_at h.channels c))
  places_in_order y side = in_order d h s y side c (places_of side (channel_at h.channels c)) (s.taken side c inside)

  count_is : (side : Side) (t : ℕ) → by_cycles d (core_of d h) side c t ≡ timed_before h.lanes (places_of side (channel_at h.channels c)) t
  count_is side t = sym (counts_are d h s side c (places_of side (channel_at h.channels c)) (s.taken side c inside) t)

  -- by the cycles that were given, the channel holds as much as the theory says
  pub held_is : (t : ℕ) → held_by_cycles d (core_of d h) c t ≡ held_elements h.lanes (channel_at h.channels c) t
  held_is t = ap₂ (λ (a b : ℕ). a - b) (count_is Push t) (count_is Pop t)

  start_of : (kind : TableChannel) → IsFifo kind → IsKind d c kind → d.start Push c ≡ depth_of kind
  start_of (Fifo depth delay) f (unlimited, start, none, open_sides) = start
  start_of kind f k = absurd f

  pub start_is : IsFifo (channel_at h.channels c).kind → d.start Push c ≡ depth_of (channel_at h.channels c).kind
  start_is f = start_of (channel_at h.channels c).kind f (s.kinds c inside)

  full_then : (depth t : ℕ) → IsFifo (channel_at h.channels c).kind → held_by_cycles d (core_of d h) c t ≡ min (d.start Push c) depth
      → held_elements h.lanes (channel_at h.channels c) t ≡ min (depth_of (channel_at h.channels c).kind) depth
  full_then depth t f e = sym (held_is t) ∙ (e ∙ ap (λ (n : ℕ). min n depth) (start_is f))

  -- before the first touched clock the theory's FIFO never holds so many
  pub never_before : (depth t : ℕ) → IsFifo (channel_at h.channels c).kind → IsFirstTouched h.lanes (channel_at h.channels c) depth t
      → (e : ℕ) → e < t → held_by_cycles d (core_of d h) c e ≡ min (d.start Push c) depth → ⊥
  never_before depth t f first e l full = first.first e l (full_then depth e f full)

  -- and where there is none, in no clock
  pub never_at_all : (depth : ℕ) → IsFifo (channel_at h.channels c).kind → (depth_of (channel_at h.channels c).kind ≡ depth → ⊥)
      → IsNeverTouched h.lanes (channel_at h.channels c) depth → (e : ℕ) → held_by_cycles d (core_of d h) c e ≡ min (d.start Push c) depth
      → ⊥
  never_at_all depth f apart never e full = elim never [ inl same ↦ apart same | inr none ↦ none e (full_then depth e f full) ]
