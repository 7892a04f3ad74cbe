-- The places of what is taken are those of steps.
use Rattle.std.proofs.Common.{◌≡◌, refl, sym, ap, ◌∙◌, suc, subst, ℕ, ◌<◌, List, length, get_or, arith, inl, inr}
use Rattle.std.proofs.{lemmas.Bool.cases_lt, lemmas.List.get_or_past, lemmas.List.get_or_default}
use Rattle.std.specs.Prelude.{All}
use Rattle.engine_view.specs.{Side, Place, Channel, channel_at, unused, places_of, Lane, HasStep, no_lane, lane_at, HasPlaces, Design}
use Rattle.engine_view.specs.{core_tally, emitted_of, AreTaken, Held.Held}
use Rattle.fifo_table.specs.declared.channel.TableChannel.TheVariants.{Sink}
use Rattle.event_timing.specs.Core.{Core}

place_has : (lanes : List Lane) (p : Place) → p.step < length (lane_at lanes p.module).steps → HasStep lanes p
place_has lanes p l = record {
  owner =
      elim (cases_lt p.module (length lanes)) [
        | inl inside ↦ inside
        | inr past ↦ let none : length (lane_at lanes p.module).steps ≡ 0 = rw (get_or_past lanes p.module no_lane past) refl in
            absurd (omega arith)
      ];
  step = l;
}

taken_has : {S : Type 0} → (d : Design S) (g : Held) (z : Core S) → ((n : ℕ) → emitted_of g n ≡ z.emitted n)
    → (side : Side) (c : ℕ) (places : List Place) → AreTaken d z side c places
    → (j : ℕ) (y : Place) → j < length places → HasStep g.lanes (get_or places j y)
taken_has {S} d g z e side c places t j y l =
    let a = t.each j y l in
    let at = a.emitted in
    let same = e (d.owner side c) in
    place_has g.lanes (get_or places j y) (subst (λ (v : ℕ). (get_or places j y).step < emitted_of g v) (sym a.owner) (omega arith))

pub places_from : {S : Type 0} → (d : Design S) (g : Held) (z : Core S) → ((n : ℕ) → emitted_of g n ≡ z.emitted n)
    → ((side : Side) (c : ℕ) → c < length g.channels → AreTaken d z side c (places_of side (channel_at g.channels c)))
    → HasPlaces g.lanes g.channels
places_from {S} d g z e taken = record {
  each = λ c y l side. subst (λ (q : Channel). All (HasStep g.lanes) (places_of side q)) (get_or_default g.channels c (unused Sink) y l)
      (λ j p r. taken_has d g z e side c (places_of side (channel_at g.channels c)) (taken side c l) j p r);
}

-- where as many are taken in the same steps, their places stay
pub taken_stays : {S : Type 0} → (d : Design S) (x z : Core S)
    → ((w : ℕ) (side : Side) (c k : ℕ) → core_tally d z w side c k ≡ core_tally d x w side c k)
    → ((w : ℕ) → z.emitted w ≡ x.emitted w) → (side : Side) (c : ℕ) (places : List Place) → AreTaken d x side c places
    → AreTaken d z side c places
taken_stays {S} d x z same still side c places t = record {
  count = t.count ∙ sym (ap (core_tally d z (d.owner side c) side c) (still (d.owner side c))
      ∙ same (d.owner side c) side c (x.emitted (d.owner side c)));
  each = λ j y l. let a = t.each j y l in let here = get_or places j y in record {
    owner = a.owner;
    emitted = let e = still (d.owner side c) in let f = a.emitted in omega arith;
    from = let e = same (d.owner side c) side c here.step in let f = a.from in omega arith;
    to = let e = same (d.owner side c) side c (suc here.step) in let f = a.to in omega arith;
  };
}
