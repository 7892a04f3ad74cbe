-- Demands that all depths meet with which a plan is done by a clock.
use Rattle.std.proofs.Common.{◌≡◌, ℕ, ◌≤◌, inl, inr, false, List, length, sym, ◌∙◌, ap, arith}
use Rattle.std.proofs.{lemmas.Bool.cases_Bool, lemmas.Bool.cases_lt, lemmas.List.get_or_past, lemmas.List.length-map}
use Rattle.std.specs.Prelude.{slice_index}
use Rattle.least_memory.specs.{Channel, Plan, is_fifo, kind_at, FitsEngine, verdict, with_depths, AreDepths, IsDoneBy, Demands, AreDemands}
use Rattle.least_memory.specs.{Covers, IsCheapest, AreNeeded}
use Rattle.flow_design.specs.declared.limits.TheConstants.{FIFO_DEPTH}
use Rattle.depth_order.proofs.Plans.{fifo_inside}
use Rattle.path_check.proofs.Depths.{own_depths}
use Rattle.least_memory.proofs.Lowered.{cheapest_within}

module _ (p : Plan) (fits : FitsEngine p) (clock : ℕ) (demands : Demands) (h : AreNeeded p clock demands) where
  count : length demands.floors ≡ length p.design.channels
  count = h.floors.count

  floor_most : (f : ℕ) → slice_index demands.floors f ≤ FIFO_DEPTH
  floor_most f = elim (cases_lt f (length p.design.channels)) [
    | inl l ↦ elim (cases_Bool (is_fifo (kind_at p f))) [
      | inl e ↦ (h.floors.each f l).most e
      | inr e ↦ let none = (h.floors.each f l).other e in omega arith
    ]
    | inr l ↦ let none = get_or_past demands.floors f 0 (omega (arith, count)) in omega arith
  ]

  pub are_demands : AreDemands demands
  are_demands = record {
    count = ap length h.widths ∙ (length-map p.design.channels (λ (c : Channel). c.width) ∙ sym count);
    few = omega (arith, count, fits.channel_count);
    narrow = h.narrow;
    most = floor_most;
    needs = λ k cut l j need m. record {
      channel = omega (arith, count, fifo_inside p _ ((h.cuts k cut l).needs j need m).fifo);
      most = ((h.cuts k cut l).needs j need m).most;
    };
  }

  -- ---- depths that are in time

  pub timely_covers : (es : List ℕ) → AreDepths p es → IsDoneBy clock (verdict (with_depths p es)) → Covers demands es
  timely_covers es a done = record {
    above = record {
      count = a.count ∙ sym count;
      least = λ f. elim (cases_lt f (length p.design.channels)) [
        | inl l ↦ (h.floors.each f l).needed es a done
        | inr l ↦ let none = get_or_past demands.floors f 0 (omega (arith, count)) in omega arith
      ];
    };
    met = λ k cut l. (h.cuts k cut l).needed es a done;
  }

  pub own_covers : IsDoneBy clock (verdict p) → Covers demands p.depths
  own_covers done = timely_covers p.depths (own_depths p fits) done

  -- ---- the cheapest

  pub cheapest_depths : (ds : List ℕ) → IsCheapest demands ds → AreDepths p ds
  cheapest_depths ds c = record {
    count = c.covers.above.count ∙ count;
    least = λ f e.
        let floor = (h.floors.each f (fifo_inside p f e)).least e in
        let above = c.covers.above.least f in
        omega arith;
    most = λ f e. cheapest_within demands ds c f FIFO_DEPTH (floor_most f) (λ k cut l j need m same. ((h.cuts k cut l).needs j need
        m).most);
    others = others;
  }
    where
      no_floor : (f : ℕ) → is_fifo (kind_at p f) ≡ false → slice_index demands.floors f ≤ 0
      no_floor f e = elim (cases_lt f (length p.design.channels)) [
        | inl l ↦ let none = (h.floors.each f l).other e in omega arith
        | inr l ↦ let none = get_or_past demands.floors f 0 (omega (arith, count)) in omega arith
      ]

      others : (f : ℕ) → is_fifo (kind_at p f) ≡ false → slice_index ds f ≡ 0
      others f e =
          let none = cheapest_within demands ds c f 0 (no_floor f e) (λ k cut l j need m same.
          let fifo = ((h.cuts k cut l).needs j need m).fifo in
          let here = ap (λ (g : ℕ). is_fifo (kind_at p g)) same in
          absurd (cc)) in
          omega arith
