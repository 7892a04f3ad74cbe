-- The depths with the fewest bits: that there are some, and which they are.
use Rattle.std.proofs.Common.{◌≡◌, ℕ, ◌+◌, ◌≤◌, inl, inr, Some, Option, List, length, refl, sym, ◌∙◌, ap, subst, arith}
use Rattle.std.proofs.{lemmas.Bool.cases_Bool, lemmas.Bool.cases_lt, lemmas.List.get_or_past}
use Rattle.std.specs.Prelude.{◌≢◌, slice_index, unwrap_or}
use Rattle.flow_design.specs.declared.limits.TheConstants.{FIFO_DEPTH}
use Rattle.flow_design.specs.declared.report.Verdict.TheVariants.{Done, Deadlock, Cycles, Ops}
use Rattle.least_memory.specs.{Plan, Verdict, is_fifo, kind_at, FitsEngine, report, verdict, with_depths, AreDepths, IsDoneBy, advised}
use Rattle.least_memory.specs.{wide, IsNoLater, Demands, IsNoWorse, IsCheapest, AreDeepest, choices, memory_bits, widths_of, AreNeeded}
use Rattle.least_memory.specs.{is_timely, least_by, least_after, leasts, leasts_of, IsLeastMemory}
use Rattle.depth_order.proofs.Plans.{fifo_inside}
use Rattle.depth_advice.proofs.{Depths.advised_depths, Depths.never_blocks, Depths.fifo_entry, Finding.verdict_told}
use Rattle.least_depths.proofs.{Depths.test_done_by, Depths.done_by_test, Sessions.report_told}
use Rattle.least_memory.proofs.{Among.Among, Among.IsLeast, Among.least_found, Choices.among_choices, Choices.choices_among}
use Rattle.least_memory.proofs.{Choices.rises_choices, Lowered.no_worse_both, Needed.timely_covers, Needed.cheapest_depths}

-- ---- choices

pub depths_among : (p : Plan) (ds : List ℕ) → AreDepths p ds → Among (choices FIFO_DEPTH p.design.channels) ds
depths_among p ds a = among_choices FIFO_DEPTH p.design.channels ds (record {
  count = a.count;
  each = λ f l. record { least = a.least f; within = a.most f; other = a.others f };
})

pub among_depths : (p : Plan) (ds : List ℕ) → Among (choices FIFO_DEPTH p.design.channels) ds → AreDepths p ds
among_depths p ds m =
    let h = choices_among FIFO_DEPTH p.design.channels ds m in
    record {
      count = h.count;
      least = λ f e. (h.each f (fifo_inside p f e)).least e;
      most = λ f e. (h.each f (fifo_inside p f e)).within e;
      others = λ f e. elim (cases_lt f (length p.design.channels)) [
        | inl l ↦ (h.each f l).other e
        | inr l ↦ get_or_past ds f 0 (omega (arith, h.count))
      ];
    }

-- ---- the least

-- these depths are in time, and none that are in time come before them
pub record IsLeastBy (p : Plan) (clock : ℕ) (found : List ℕ) : Type 0 where
  pub depths : AreDepths p found
  pub done : IsDoneBy clock (verdict (with_depths p found))
  pub first : (es : List ℕ) → AreDepths p es → IsDoneBy clock (verdict (with_depths p es)) → IsNoWorse (widths_of p.design.channels) found
      es

-- where some are in time
pub least_is : (p : Plan) (clock : ℕ) (ds : List ℕ) → AreDepths p ds → IsDoneBy clock (verdict (with_depths p ds))
    → (found : List ℕ) × (least_by p clock ≡ Some found) × IsLeastBy p clock found
least_is p clock ds a done =
    let all = choices FIFO_DEPTH p.design.channels in
    let bits = memory_bits p.design.channels in
    let (found, is, least, earlier) = least_found (is_timely p clock) bits all (rises_choices FIFO_DEPTH p.design.channels) ds
    (depths_among p ds a) (done_by_test clock (verdict (with_depths p ds)) done) in (
      found,
      is,
      record {
        depths = among_depths p found least.among;
        done = test_done_by clock (verdict (with_depths p found)) least.passes;
        first = λ es b in_time.
            let m = depths_among p es b in
            let t = done_by_test clock (verdict (with_depths p es)) in_time in
            let few = least.fewest es m t in
            elim (cases_lt (bits found) (bits es)) [
              | inl fewer ↦ inr (inl fewer)
              | inr as_many ↦
                  let same : bits found ≡ bits es = omega arith in
                  let too : IsLeast (is_timely p clock) bits all es = record {
                    among = m;
                    passes = t;
                    fewest = λ fs k u. let others = least.fewest fs k u in omega arith;
                  } in
                  elim (earlier es too) [ inl e ↦ inl e | inr first ↦ inr (inr (same, first)) ]
            ];
      },
    )

-- the cheapest depths that meet what all in time do, where they are in time
pub cheapest_least : (p : Plan) → FitsEngine p → (clock : ℕ) (demands : Demands) → AreNeeded p clock demands → (ds : List ℕ)
    → IsCheapest demands ds → IsDoneBy clock (verdict (with_depths p ds)) → least_by p clock ≡ Some ds
cheapest_least p fits clock demands h ds c done =
    let a = cheapest_depths p fits clock demands h ds c in
    let (found, is, least) = least_is p clock ds a done in
    let widths = widths_of p.design.channels in
    let no_later : IsNoWorse widths ds found =
    subst (λ (ws : List ℕ). IsNoWorse ws ds found) h.widths
    (c.first found (timely_covers p fits clock demands h found least.depths least.done)) in
    is ∙ ap Some (no_worse_both widths found ds (least.first ds a done) no_later)

-- ---- the answer

-- what is found by a verdict
record IsLeastAfter (p : Plan) (slack : ℕ) (v : Verdict) (ds : List ℕ) : Type 0 where
  pub depths : AreDepths p ds
  pub in_time : IsNoLater slack v (verdict (with_depths p ds))
  pub least : IsLeastMemory p slack v ds

after : (p : Plan) → FitsEngine p → (slack : ℕ) (v : Verdict) → verdict (with_depths p (advised p)) ≡ v
    → IsLeastAfter p slack v (least_after slack p v)
after p fits slack (Done clock) e =
    let done : IsDoneBy (clock + slack) (verdict (with_depths p (advised p))) = subst (IsDoneBy (clock + slack)) (sym e) (omega arith) in
    let (found, is, least) = least_is p (clock + slack) (advised p) (advised_depths p fits) done in
    let same : found ≡ least_after slack p (Done clock) = sym (ap (λ (o : Option (List ℕ)). unwrap_or o (advised p)) is) in
    subst (IsLeastAfter p slack (Done clock)) same (record {
      depths = least.depths;
      in_time = least.done;
      least = λ c ends es a b.
          let clocks : clock ≡ c = cc in
          least.first es a (subst (λ (k : ℕ). IsDoneBy (k + slack) (verdict (with_depths p es))) (sym clocks) b);
    })
after p fits slack (Deadlock clock) e = record { depths = advised_depths p fits; in_time = tt; least = λ c ends. absurd (cc) }
after p fits slack (Cycles clock) e = record { depths = advised_depths p fits; in_time = tt; least = λ c ends. absurd (cc) }
after p fits slack (Ops clock) e = record { depths = advised_depths p fits; in_time = tt; least = λ c ends. absurd (cc) }

pub leasts_within : (slack : ℕ) (p : Plan) → FitsEngine p → AreDepths p (leasts slack p).depths
unfolding leasts
leasts_within slack p fits = (after p fits slack (verdict (with_depths p (advised p))) refl).depths

pub leasts_told : (slack : ℕ) (p : Plan) → (leasts slack p).verdict ≡ verdict (with_depths p (leasts slack p).depths)
unfolding leasts
leasts_told slack p = refl

pub leasts_in_time : (slack : ℕ) (p : Plan) → FitsEngine p → IsNoLater slack (verdict (with_depths p (advised p))) (leasts slack p).verdict
unfolding leasts
leasts_in_time slack p fits = (after p fits slack (verdict (with_depths p (advised p))) refl).in_time

pub leasts_least : (slack : ℕ) (p : Plan) → FitsEngine p
    → IsLeastMemory p slack (verdict (with_depths p (advised p))) (leasts slack p).depths
unfolding leasts
leasts_least slack p fits = (after p fits slack (verdict (with_depths p (advised p))) refl).least

-- ---- how it is found

-- the verdict with the deepest FIFOs is that with the advised depths
pub advised_verdict : (p q : Plan) → FitsEngine p → q ≡ wide p → (v : Verdict) → v ≡ verdict q → verdict (with_depths p (advised p)) ≡ v
advised_verdict p q fits wide_is v told =
    report_told (with_depths p (advised p)) (report (wide p)) (never_blocks p fits)
    ∙ (sym (verdict_told (wide p)) ∙ sym (told ∙ ap verdict wide_is))

pub done_leasts : (slack : ℕ) (p q : Plan) (ds : List ℕ) (v : Verdict) (clock : ℕ) → q ≡ wide p
    → verdict (with_depths p (advised p)) ≡ Done clock → least_by q (clock + slack) ≡ Some ds → v ≡ verdict (with_depths q ds)
    → record { verdict = v; depths = ds } ≡ leasts slack p
unfolding leasts
done_leasts slack p q ds v clock wide_is ends least told =
    let is : least_by p (clock + slack) ≡ Some ds = subst (λ (r : Plan). least_by r (clock + slack) ≡ Some ds) wide_is least in
    let told_there : v ≡ verdict (with_depths p ds) = told ∙ ap (λ (r : Plan). verdict (with_depths r ds)) wide_is in
    (λ i. record { verdict = told_there i; depths = ds })
    ∙ (ap (λ (o : Option (List ℕ)). leasts_of p (unwrap_or o (advised p))) (sym is)
    ∙ sym (ap (λ (w : Verdict). leasts_of p (least_after slack p w)) ends))

pub left_leasts : (slack : ℕ) (p : Plan) (ds : List ℕ) (v : Verdict) → ((clock : ℕ) → v ≢ Done clock) → ds ≡ advised p
    → verdict (with_depths p (advised p)) ≡ v → record { verdict = v; depths = ds } ≡ leasts slack p
unfolding leasts
left_leasts slack p ds v other e told =
    (λ i. record { verdict = sym told i; depths = e i })
    ∙ (ap (leasts_of p) (by_verdict v other) ∙ sym (ap (λ (w : Verdict). leasts_of p (least_after slack p w)) told))
  where
    by_verdict : (w : Verdict) → ((clock : ℕ) → w ≢ Done clock) → advised p ≡ least_after slack p w
    by_verdict (Done clock) h = absurd (h clock refl)
    by_verdict (Deadlock clock) h = refl
    by_verdict (Cycles clock) h = refl
    by_verdict (Ops clock) h = refl

-- ---- the deepest

pub wide_deepest : (p q : Plan) → q ≡ wide p → AreDeepest q
wide_deepest p q e = subst AreDeepest (sym e) (λ f fifo. fifo_entry p (λ g. FIFO_DEPTH) f fifo)

-- ---- numbers

pub depths_most : (p : Plan) (ds : List ℕ) → AreDepths p ds → (f : ℕ) → slice_index ds f ≤ FIFO_DEPTH
depths_most p ds a f = elim (cases_Bool (is_fifo (kind_at p f))) [
  | inl e ↦ a.most f e
  | inr e ↦ let none = a.others f e in omega arith
]
