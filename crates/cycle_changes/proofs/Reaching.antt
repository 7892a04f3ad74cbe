-- The accesses of an ordinal at a port stand between two steps that take there.
use Rattle.std.proofs.Common.{◌≡◌, refl, sym, ap, ap₂, subst, ◌∙◌, ℕ, suc, ◌+◌, ◌-◌, ◌<◌, ◌≤◌, List, length, get_or, arith, Some, slice_get}
use Rattle.std.proofs.{lemmas.List.get_or_default, lemmas.Option.get_or_from_slice_get, lemmas.Option.slice_get_within}
use Rattle.std.specs.Prelude.{Contains}
use Rattle.cycle_changes.specs.{ModuleState, side_of, other_side, Access, Place, Side, Step, HasStep, IsFifo, channel_at, places_of}
use Rattle.cycle_changes.specs.{free_of, unused, Design, IsDesign, step_of, emitted_of, Engine, held_in, IsSound, IsSomeCore, first_of}
use Rattle.cycle_changes.specs.{IsLooked, AreLooked, HasAccessAt, StandsAs, WaitsAt, WaitsForStep}
use Rattle.flow_word.specs.declared.access.Side.TheVariants.{Pop, Push}
use Rattle.fifo_table.specs.declared.channel.TableChannel.TheVariants.{Sink}
use Rattle.engine_view.specs.Held.{Held}
use Rattle.engine_view.proofs.Knowing.{timed_within}
use Rattle.cycle_changes.proofs.InTurn.{inside, taker_owner, taker_before, taker_after, takers_there}
use Rattle.cycle_changes.proofs.Waiting.{IsFreedBy, no_access, numbered, taking, waits_freed}

other_twice : (side : Side) → other_side (other_side side) ≡ side
other_twice Pop = refl
other_twice Push = refl

-- a place of the table is of a module with a lane
pub has_owner : (e : Engine) → IsSomeCore e → (side : Side) (c : ℕ) → c < length e.fifos.channels → (n : ℕ) (p : Place)
    → slice_get (places_of side (channel_at e.fifos.channels c)) n ≡ Some p → p.module < length e.graph.lanes
has_owner e (d, i, k, r) side c l n p at =
    let places = places_of side (channel_at e.fifos.channels c) in
    let all = k.sound.places.each c (unused Sink) l side in
    (subst (HasStep e.graph.lanes) (get_or_from_slice_get places n p p at) (all n p (slice_get_within places n p at))).owner

-- an access of an ordinal is an access
pub somewhere : (side : Side) (c n : ℕ) (step : Step) → StandsAs side c n step → HasAccessAt side c step
somewhere side c n step (j, a, u, is, (st, o)) = (j, a, u, is, st)

-- where each step of a module was looked at that may have such an access, all were
pub looked_between : (h : Held) (side : Side) (c n owner first last : ℕ)
    → ((k : ℕ) → first ≤ k → k ≤ last → k < first_of h owner → HasAccessAt side c (step_of h owner k) → IsLooked h owner k)
    → ((m k : ℕ) → k < first_of h m → StandsAs side c n (step_of h m k) → (owner ≡ m) × (first ≤ k) × (k ≤ last))
    → AreLooked h (StandsAs side c n)
looked_between h side c n owner first last f g = λ m k l q.
    let (is, low, high) = g m k l q in
    subst (λ (v : ℕ). IsLooked h v k) is
    (f k low high (subst (λ (v : ℕ). k < first_of h v) (sym is) l)
    (subst (λ (v : ℕ). HasAccessAt side c (step_of h v k)) (sym is) (somewhere side c n (step_of h m k) q)))

module _ (e : Engine) (core : IsSomeCore e) where
  abbrev d : Design ModuleState
  d = core.0

  abbrev h : Held
  h = held_in e

  abbrev i : IsDesign d
  i = core.1

  abbrev y : IsSound d h
  y = core.2.sound

  module _ (side : Side) (c n m k : ℕ) (l : k < first_of h m) (q : StandsAs side c n (step_of h m k)) where
    emitted : k < emitted_of h m
    emitted = omega (arith, timed_within d h y m)

    abbrev j : ℕ
    j = q.0

    abbrev b : Access
    b = get_or (step_of h m k).accesses q.0 q.1

    b_side : side_of b.kind ≡ side
    b_side = ap (λ (a : Access). side_of a.kind) q.3 ∙ q.4.0.0

    b_channel : b.channel ≡ c
    b_channel = ap (λ (a : Access). a.channel) q.3 ∙ q.4.0.1

    b_ordinal : b.ordinal ≡ n
    b_ordinal = ap (λ (a : Access). a.ordinal) q.3 ∙ q.4.1

    places_are : places_of (side_of b.kind) (channel_at h.channels b.channel) ≡ places_of side (channel_at h.channels c)
    places_are = ap₂ (λ (s : Side) (v : ℕ). places_of s (channel_at h.channels v)) b_side b_channel

    module _ (t : ℕ) (p : Place) (there : slice_get (places_of side (channel_at h.channels c)) t ≡ Some p) where
      there_b : slice_get (places_of (side_of b.kind) (channel_at h.channels b.channel)) t ≡ Some p
      there_b = ap (λ (ps : List Place). slice_get ps t) places_are ∙ there

      pub as_owner : p.module ≡ m
      as_owner = taker_owner d i h y m k emitted q.0 q.1 q.2 t p there_b

      pub as_before : suc t < n → suc p.step ≤ k
      as_before w = taker_before d i h y m k emitted q.0 q.1 q.2 t p there_b (omega (arith, b_ordinal))

      pub as_after : n ≤ suc t → k ≤ p.step
      as_after w = taker_after d i h y m k emitted q.0 q.1 q.2 t p there_b (omega (arith, b_ordinal))

    pub as_there : n ≤ suc (length (places_of side (channel_at h.channels c)))
    as_there = let e = ap (λ (ps : List Place). length ps) places_are in
        omega (arith, takers_there d i h y m k emitted q.0 q.1 q.2, b_ordinal)

  -- ---- what waits for a step

  -- the channel is a FIFO, the access takes with its ordinal, and what waits there for it has the ordinal that it frees
  pub record WaitsSo (at : Place) (a : Access) (m k : ℕ) : Type 0 where
    pub fifo : IsFifo (channel_at h.channels a.channel).kind
    pub taken : slice_get (places_of (side_of a.kind) (channel_at h.channels a.channel)) (a.ordinal - 1) ≡ Some at
    pub stands : StandsAs (other_side (side_of a.kind)) a.channel
        (a.ordinal + free_of (channel_at h.channels a.channel).kind (other_side (side_of a.kind))) (step_of h m k)

  module _ (at : Place) (a : Access) (has : Contains (step_of h at.module at.step).accesses a) (m k : ℕ) (l : k < first_of h m) where
    own_ordinal : (n : ℕ) → a.channel < length h.channels
        → slice_get (places_of (side_of a.kind) (channel_at h.channels a.channel)) n ≡ Some at → a.ordinal ≡ suc n
    own_ordinal n w there =
        let (j, u, is) = has in
        let xs = (step_of h at.module at.step).accesses in
        let is' : get_or xs j no_access ≡ a = get_or_default xs j no_access a u ∙ is in
        sym (ap (λ (b : Access). b.ordinal) is')
        ∙ numbered d i h y at (side_of a.kind) a.channel w n there j u (ap (λ (b : Access). side_of b.kind) is')
        (ap (λ (b : Access). b.channel) is')

    pub waits_so : WaitsAt h.channels (other_side (side_of a.kind)) a.channel at (step_of h m k) → WaitsSo at a m k
    waits_so (j, b, u, is, (st, e)) =
        let k' : k < emitted_of h m = omega (arith, timed_within d h y m) in
        let in_b = inside d i h y m k k' j b u in
        let from_one : 1 ≤ b.ordinal = subst (λ (v : Access). 1 ≤ v.ordinal) is in_b.ordinal in
        let here : a.channel < length h.channels = subst (λ (v : ℕ). v < length h.channels) (ap (λ (v : Access). v.channel) is ∙ st.1)
        in_b.channel in
        let f = waits_freed h.channels b at from_one e in
        let f' = subst (λ (v : ℕ). IsFreedBy (channel_at h.channels v).kind (side_of b.kind) (channel_at h.channels v) b.ordinal at) st.1
        f in
        let g = subst (λ (s : Side). IsFreedBy (channel_at h.channels a.channel).kind s (channel_at h.channels a.channel) b.ordinal at)
        st.0 f' in
        let free : ℕ = free_of (channel_at h.channels a.channel).kind (other_side (side_of a.kind)) in
        let there : slice_get (places_of (side_of a.kind) (channel_at h.channels a.channel)) (b.ordinal - free - 1) ≡ Some at =
        subst (λ (s : Side). slice_get (places_of s (channel_at h.channels a.channel)) (b.ordinal - free - 1) ≡ Some at)
        (other_twice (side_of a.kind)) g.there in
        let o = own_ordinal (b.ordinal - free - 1) here there in
        let z : b.ordinal - free - 1 ≡ a.ordinal - 1 = omega arith in
        record {
          fifo = g.fifo;
          taken = subst (λ (n : ℕ). slice_get (places_of (side_of a.kind) (channel_at h.channels a.channel)) n ≡ Some at) z there;
          stands = (j, b, u, is, (st, let more = g.more in omega arith));
        }

  -- what waits for a step waits for one of its accesses, at the other side of its channel
  pub waits_some : (at : Place) (m k : ℕ) → k < first_of h m → WaitsForStep h.channels (step_of h m k) at
      → (j : ℕ) × (j < length (step_of h at.module at.step).accesses)
      × WaitsAt h.channels (other_side (side_of (get_or (step_of h at.module at.step).accesses j no_access).kind))
      (get_or (step_of h at.module at.step).accesses j no_access).channel at (step_of h m k)
  waits_some at m k l (j, b, u, is, e) =
      let k' : k < emitted_of h m = omega (arith, timed_within d h y m) in
      let in_b = inside d i h y m k k' j b u in
      let from_one : 1 ≤ b.ordinal = subst (λ (v : Access). 1 ≤ v.ordinal) is in_b.ordinal in
      let here : b.channel < length h.channels = subst (λ (v : Access). v.channel < length h.channels) is in_b.channel in
      let f = waits_freed h.channels b at from_one e in
      let (n, w, s, c) = taking d i h y at (other_side (side_of b.kind)) b.channel here _ f.there in
      (n, w, (j, b, u, is, ((sym (other_twice (side_of b.kind)) ∙ ap other_side (sym s), sym c), e)))
