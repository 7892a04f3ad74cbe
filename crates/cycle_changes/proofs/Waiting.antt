-- Which accesses wait for a step, by the table and by the theory.
use Rattle.std.proofs.Common.{◌≡◌, refl, sym, ap, ap₂, subst, ◌∙◌, ℕ, suc, ◌+◌, ◌-◌, ◌<◌, ◌≤◌, true, false, List, [], ◌∷◌, length, map}
use Rattle.std.proofs.Common.{get_or, arith, inl, inr, Option, Some, None, slice_get, nat_le}
use Rattle.std.proofs.lemmas.Bool.{cases_Bool, cases_lt, and_parts, or_parts, both_ways, eqb-true, ltb-false, le-leb, lt-leb, cond-false}
use Rattle.std.proofs.lemmas.Option.{slice_get-get_or}
use Rattle.cycle_changes.specs.{side_of, other_side, Access, Place, Side, TableChannel, enabler_by, event_at, Channel, IsFifo, HasSide}
use Rattle.cycle_changes.specs.{channel_at, places_of, free_of, enabler_at, Design, IsDesign, takers, takes_at, place, core_accesses}
use Rattle.cycle_changes.specs.{core_reply, core_tally, bare_replies, place_of, IsSound, IsKind, IsTakenAt, step_of, emitted_of, seen}
use Rattle.cycle_changes.specs.{core_of}
use Rattle.flow_word.specs.declared.access.Kind.TheVariants.{Read}
use Rattle.flow_word.specs.declared.access.Side.TheVariants.{Pop, Push}
use Rattle.fifo_table.specs.declared.channel.TableChannel.TheVariants.{Source, Sink, Fifo}
use Rattle.fifo_table.specs.declared.enabler.Enabler.TheVariants.{Event}
use Rattle.event_timing.specs.Core.{Core}
use Rattle.event_timing.proofs.{Fronts.core_tally_is, Values.takes_takers}
use Rattle.event_timing.proofs.OwnRuns.{IsPlace, place_says, same_side_is, tally_more}
use Rattle.engine_view.specs.Held.{Held}
use Rattle.engine_view.proofs.Knowing.{timed_within}
use Rattle.cycle_changes.proofs.InTurn.{grows, inside, ordinal, taker_at}
use Rattle.cycle_changes.specs.Records as records

abbrev pub no_access : Access
no_access = record { kind = Read; channel = 0; ordinal = 0; value = 0 }

-- ---- by the table

event_some : (o : Option Place) (at : Place) → event_at o ≡ Event at → o ≡ Some at
event_some None at e = cc
event_some (Some p) at e = let z : p ≡ at = cc in ap (λ (q : Place). Some q) z

-- the channel is a FIFO, and the place is that of the event so many before the access at the other side
pub record IsFreedBy (kind : TableChannel) (side : Side) (channel : Channel) (n : ℕ) (at : Place) : Type 0 where
  pub fifo : IsFifo kind
  pub more : free_of kind side < n
  pub there : slice_get (places_of (other_side side) channel) (n - free_of kind side - 1) ≡ Some at

freed_by : (kind : TableChannel) (side : Side) (channel : Channel) (n : ℕ) (at : Place) → 1 ≤ n → enabler_by kind side channel n ≡ Event at
    → IsFreedBy kind side channel n at
freed_by (Source inputs) Pop channel n at l e =
    elim (cases_Bool (nat_le n (length inputs))) [ inl w ↦ let z = rw w at e in cc | inr w ↦ let z = rw w at e in cc ]
freed_by (Source inputs) Push channel n at l e = cc
freed_by Sink Pop channel n at l e = cc
freed_by Sink Push channel n at l e = cc
freed_by (Fifo depth delay) Pop channel n at l e = record {
  fifo = tt;
  more = omega arith;
  there = let z : n - 0 - 1 ≡ n - 1 = omega arith in rw z (event_some (slice_get (places_of Push channel) (n - 1)) at e);
}
freed_by (Fifo depth delay) Push channel n at l e =
    elim (cases_lt depth n) [
      | inl w ↦
          let e' = rw (lt-leb n depth w) at e in
          record { fifo = tt; more = w; there = event_some (slice_get channel.pops (n - depth - 1)) at e' }
      | inr w ↦ let z = rw (le-leb n depth w) at e in cc
    ]

pub waits_freed : (channels : List Channel) (a : Access) (at : Place) → 1 ≤ a.ordinal → enabler_at channels a ≡ Event at
    → IsFreedBy (channel_at channels a.channel).kind (side_of a.kind) (channel_at channels a.channel) a.ordinal at
unfolding enabler_at
waits_freed channels a at l e =
    freed_by (channel_at channels a.channel).kind (side_of a.kind) (channel_at channels a.channel) a.ordinal at l e

-- ---- who takes

-- one of the accesses takes there, where one is counted
find_taker : (side : Side) (c : ℕ) (xs : List Access) → 1 ≤ takers side c (map seen xs)
    → (j : ℕ) × (j < length xs) × (takes_at side c (seen (get_or xs j no_access)) ≡ true)
find_taker side c [] l = absurd (omega arith)
find_taker side c (a ∷ xs) l =
    elim (cases_Bool (takes_at side c (seen a))) [
      | inl e ↦ (0, omega arith, e)
      | inr e ↦
          let l' : 1 ≤ 0 + takers side c (map seen xs) = rw (cond-false {A = ℕ} (takes_at side c (seen a)) 1 0 e) at l in
          let (j, w, f) = find_taker side c xs (omega arith) in
          (suc j, omega arith, f)
    ]

module _ {S : Type 0} (d : Design S) (i : IsDesign d) (h : Held) (y : IsSound d h) where
  abbrev x : Core S
  x = core_of d h

  -- a step takes at one side of a channel once at most
  once : (m k : ℕ) (side : Side) (c : ℕ) → core_tally d x m side c (suc k) ≤ suc (core_tally d x m side c k)
  once m k side c =
      omega (
        arith,
        tally_more (core_accesses d x m) (λ n. bare_replies (x.flags m n)) side c k,
        takes_takers side c (core_accesses d x m k) (bare_replies (x.flags m k)),
        i.single side m (x.state m k) c,
      )

  module _ (at : Place) (side : Side) (c : ℕ) (l : c < length h.channels) (n : ℕ)
      (there : slice_get (places_of side (channel_at h.channels c)) n ≡ Some at) where
    taken : IsTakenAt d x side c n at
    taken = taker_at d i h y side c l n at there

    here : at.step < emitted_of h at.module
    here = subst (λ (v : ℕ). at.step < emitted_of h v) (sym taken.owner) taken.emitted

    -- the step of the push, or the pop, of this number has an access there
    pub taking : (j : ℕ) × (j < length (step_of h at.module at.step).accesses)
        × (side_of (get_or (step_of h at.module at.step).accesses j no_access).kind ≡ side)
        × ((get_or (step_of h at.module at.step).accesses j no_access).channel ≡ c)
    taking =
        let o : ℕ = d.owner side c in
        let xs = (step_of h o at.step).accesses in
        let more = tally_more (core_accesses d x o) (λ n. bare_replies (x.flags o n)) side c at.step in
        let some = takes_takers side c (core_accesses d x o at.step) (bare_replies (x.flags o at.step)) in
        let same = ap (takers side c) (y.accesses o at.step taken.emitted) in
        let (j, u, e) = find_taker side c xs (omega (arith, taken.from, taken.to)) in
        let (e1, e2) = and_parts _ _ e in
        let (e3, e4) = and_parts _ _ e2 in
        subst (λ (v : ℕ). (j : ℕ) × (j < length (step_of h v at.step).accesses)
        × (side_of (get_or (step_of h v at.step).accesses j no_access).kind ≡ side)
        × ((get_or (step_of h v at.step).accesses j no_access).channel ≡ c)) (sym taken.owner)
        (j, u, same_side_is _ side e3, eqb-true _ c e4)

    -- and each access of the step there has this ordinal
    pub numbered : (j : ℕ) → j < length (step_of h at.module at.step).accesses
        → side_of (get_or (step_of h at.module at.step).accesses j no_access).kind ≡ side
        → (get_or (step_of h at.module at.step).accesses j no_access).channel ≡ c
        → (get_or (step_of h at.module at.step).accesses j no_access).ordinal ≡ suc n
    numbered j u s e =
        let b = get_or (step_of h at.module at.step).accesses j no_access in
        let o = ordinal d i h y at.module at.step here j no_access u in
        let o' = subst (λ (q : Side). b.ordinal ≡ suc (core_tally d x (d.owner q b.channel) q b.channel at.step)) s o in
        let o'' = subst (λ (q : ℕ). b.ordinal ≡ suc (core_tally d x (d.owner side q) side q at.step)) e o' in
        omega (arith, taken.from, taken.to, once (d.owner side c) at.step side c)

  -- ---- by the theory

  -- the step that the theory finds has this place in the table
  place_found : (side : Side) (c : ℕ) → c < length h.channels → (q e : ℕ)
      → place (core_accesses d x (d.owner side c)) (core_reply d x (d.owner side c)) side c (x.timed (d.owner side c)) q ≡ Some e
      → slice_get (places_of side (channel_at h.channels c)) q ≡ Some (place_of (d.owner side c) e)
  place_found side c l q e f =
      let o : ℕ = d.owner side c in
      let places = places_of side (channel_at h.channels c) in
      let t = y.taken side c l in
      let (p1, p2, p3) = subst (IsPlace (core_accesses d x o) (core_reply d x o) side c (x.timed o) q) f
      (place_says (core_accesses d x o) (core_reply d x o) side c (x.timed o) q) in
      let same = λ (n : ℕ). core_tally_is d x o side c n in
      let within = grows d i h y o side c (suc e) (emitted_of h o) (omega (arith, timed_within d h y o)) in
      let inside_q : q < length places = omega (arith, t.count, same (suc e)) in
      let p = get_or places q (place_of 0 0) in
      let at = t.each q (place_of 0 0) inside_q in
      let step : p.step ≡ e =
      elim (cases_lt p.step e) [
        | inl w ↦ let g = grows d i h y o side c (suc p.step) e w in absurd (omega (arith, at.to, same e))
        | inr w ↦
            elim (cases_lt e p.step) [
              | inl v ↦ let g = grows d i h y o side c (suc e) p.step v in absurd (omega (arith, at.from, same (suc e)))
              | inr v ↦ omega arith
            ]
      ] in
      slice_get-get_or places q (place_of 0 0) inside_q ∙ ap₂ (λ (u v : ℕ). Some (place_of u v)) at.owner step

  kind_event : (kind : TableChannel) (side : Side) (c : ℕ) (channel : Channel) (n : ℕ) → IsKind d c kind → HasSide kind side
      → d.closed side c ≡ false → d.unlimited side c ≡ false → d.start side c ≤ n → (p : Place)
      → slice_get (places_of (other_side side) channel) (n - d.start side c) ≡ Some p → enabler_by kind side channel (suc n) ≡ Event p
  kind_event (Source inputs) Pop c channel n (k1, k2) s f g w p there = absurd (both_ways _ f k2)
  kind_event (Source inputs) Push c channel n k s f g w p there = absurd (s tt)
  kind_event Sink Pop c channel n k s f g w p there = absurd (s tt)
  kind_event Sink Push c channel n k s f g w p there = absurd (both_ways _ g k)
  kind_event (Fifo depth delay) Pop c channel n (k1, k2, k3, k4) s f g w p there =
      let z : suc n - 1 ≡ n - d.start Pop c = omega arith in
      rw (z, there) refl
  kind_event (Fifo depth delay) Push c channel n (k1, k2, k3, k4) s f g w p there =
      let z : suc n - depth - 1 ≡ n - d.start Push c = omega arith in
      rw (lt-leb (suc n) depth (omega arith), z, there) refl

  module _ (m k : ℕ) (l : k < emitted_of h m) (j : ℕ) (u : j < length (step_of h m k).accesses) where
    abbrev a : Access
    a = get_or (step_of h m k).accesses j no_access

    -- what the theory says that an access waits for, it waits for by the table
    pub event_found : records.is_free_at d x m k (seen a) ≡ false → (e : ℕ) → records.enabling_step d x m k (seen a) ≡ Some e
        → enabler_at h.channels a ≡ Event (place_of (records.partner d (seen a)) e)
    unfolding enabler_at
    event_found free e f =
        let side = side_of a.kind in
        let c = a.channel in
        let channel = channel_at h.channels c in
        let i' = inside d i h y m k l j no_access u in
        let o = y.ordinals m k l j no_access u in
        let same = core_tally_is d x m side c k in
        let (shut, rest) = or_parts (d.closed side c) _ free in
        let (many, few) = or_parts (d.unlimited side c) _ rest in
        let start = ltb-false _ (d.start side c) few in
        let n : ℕ = records.count_before d x m k (seen a) in
        let n' : a.ordinal ≡ suc n = o ∙ ap suc (sym same) in
        let there = place_found (other_side side) c i'.channel (n - d.start side c) e f in
        ap (enabler_by channel.kind side channel) n'
        ∙ kind_event channel.kind side c channel n (y.kinds c i'.channel) i'.side shut many start
        (place_of (records.partner d (seen a)) e) there
