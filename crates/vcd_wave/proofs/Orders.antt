-- Lines in order are those of waves.
use Rattle.std.proofs.Common.{◌≡◌, ◌≢◌, ℕ, zero, suc, ◌+◌, ◌^◌, ◌<◌, ◌≤◌, Bool, true, false, cond, eqb, leb, List, [], ◌∷◌, ◌++◌, map}
use Rattle.std.proofs.Common.{length, Some, inl, inr, refl, sym, ◌∙◌, ap, arith, subst, get_or, eq-eqb}
use Rattle.std.proofs.{lemmas.List.Kept.AllPairs-cons, lemmas.Bool.cases_eq, lemmas.Bool.ne_eqb, lemmas.Bool.Decides.leb_tells}
use Rattle.std.proofs.lemmas.List.Elements.{recursion_from_All, All-from_recursion}
use Rattle.std.specs.List.{filter, All, AllByRecursion, AllPairs}
use Rattle.vcd_wave.specs.{Change, Instant, last_or, told_in, Varies, IsChange, change_step, time_step, ChangesLead, InstantsLead, Probe}
use Rattle.vcd_wave.specs.{Scan}
use Rattle.timelines.proofs.Acts.{all_map as each}

-- ---- one change

pub record ChangeStep (a : Probe) (s : Scan) (i v : ℕ) (n : Scan) : Type 0 where
  low : s.next ≤ i
  declared : i < a.count
  other : i ≡ a.fifo → v ≡ s.fill → ⊥
  clock : n.clock ≡ s.clock
  next : n.next ≡ i + 1
  some : n.some ≡ true
  own_fill : i ≡ a.fifo → n.fill ≡ v
  same_fill : (i ≡ a.fifo → ⊥) → n.fill ≡ s.fill
  own_told : i ≡ a.fifo → s.clock ≤ a.clock → n.told ≡ v
  same_told : (i ≡ a.fifo → ⊥) → n.told ≡ s.told
  late_told : a.clock < s.clock → n.told ≡ s.told

pub change_is : (a : Probe) (s : Scan) (i v : ℕ) (n : Scan) → change_step a s i v ≡ Some n → ChangeStep a s i v n
change_is a s i v n e = record {
  low = grind arith;
  declared = grind arith;
  other = λ p q. grind arith;
  clock = grind arith;
  next = grind arith;
  some = grind arith;
  own_fill = λ p. grind arith;
  same_fill = λ p. grind arith;
  own_told = λ p q. grind arith;
  same_told = λ p. grind arith;
  late_told = λ p. grind arith;
}

pub record Stepped (a : Probe) (s : Scan) (i v : ℕ) : Type 0 where
  n : Scan
  is : change_step a s i v ≡ Some n

change_goes : (a : Probe) (s : Scan) (i v : ℕ) → s.next ≤ i → i < a.count → (i ≡ a.fifo → v ≡ s.fill → ⊥) → Stepped a s i v
change_goes a s i v low declared other = record {
  n = record {
    clock = s.clock;
    next = i + 1;
    some = true;
    fill = cond (eqb i a.fifo) v s.fill;
    told = cond (eqb i a.fifo) (cond (leb s.clock a.clock) v s.told) s.told;
  };
  is = grind arith;
}

pub record TimeStep (s : Scan) (clock : ℕ) (n : Scan) : Type 0 where
  some : s.some ≡ true
  later : s.clock < clock
  is : n ≡ record { clock = clock; next = 0; some = false; fill = s.fill; told = s.told }

pub time_is : (s : Scan) (clock : ℕ) (n : Scan) → time_step s clock ≡ Some n → TimeStep s clock n
time_is s clock n e = record { some = grind arith; later = grind arith; is = grind arith }

-- ---- the changes of a clock

abbrev pub told_by : ℕ → List Change → List ℕ
told_by fifo cs = map (λ c. c.fill) (filter (λ c. eqb c.fifo fifo) cs)

own_by : (fifo : ℕ) (c : Change) (cs : List Change) → c.fifo ≡ fifo → told_by fifo (c ∷ cs) ≡ c.fill ∷ told_by fifo cs
own_by fifo c cs e =
    ap (λ (b : Bool). map (λ (c : Change). c.fill) (cond b (c ∷ filter (λ c. eqb c.fifo fifo) cs) (filter (λ c. eqb c.fifo fifo) cs)))
    (eq-eqb c.fifo fifo e)

other_by : (fifo : ℕ) (c : Change) (cs : List Change) → (c.fifo ≡ fifo → ⊥) → told_by fifo (c ∷ cs) ≡ told_by fifo cs
other_by fifo c cs e =
    ap (λ (b : Bool). map (λ (c : Change). c.fill) (cond b (c ∷ filter (λ c. eqb c.fifo fifo) cs) (filter (λ c. eqb c.fifo fifo) cs)))
    (ne_eqb c.fifo fifo e)

pub record ChangesTold (a : Probe) (s : Scan) (cs : List Change) (r : Scan) : Type 0 where
  pub clock : r.clock ≡ s.clock
  pub is : AllByRecursion (IsChange a.count) cs
  pub low : AllByRecursion (λ c. s.next ≤ c.fifo) cs
  pub pairs : AllPairs (λ x y. x.fifo < y.fifo) cs
  pub none : length cs ≡ 0 → r.some ≡ s.some
  pub some : (length cs ≡ 0 → ⊥) → r.some ≡ true
  pub varies : (l : List ℕ) → Varies r.fill l → Varies s.fill (told_by a.fifo cs ++ l)
  pub told : s.clock ≤ a.clock → (l : List ℕ) → last_or s.told (told_by a.fifo cs ++ l) ≡ last_or r.told l
  pub late : a.clock < s.clock → r.told ≡ s.told

pub changes_told : (a : Probe) (s : Scan) (cs : List Change) (r : Scan) → ChangesLead a s cs r → ChangesTold a s cs r
changes_told a s [] r e = record {
  clock = ap (λ (t : Scan). t.clock) (sym e);
  is = tt;
  low = tt;
  pairs = λ i j d l m. absurd (omega arith);
  none = λ z. ap (λ (t : Scan). t.some) (sym e);
  some = λ n. absurd (n refl);
  varies = λ l v. subst (λ (t : Scan). Varies t.fill l) (sym e) v;
  told = λ h l. ap (λ (t : Scan). last_or t.told l) e;
  late = λ h. ap (λ (t : Scan). t.told) (sym e);
}
changes_told a s (c ∷ cs) r h =
    let st = change_is a s c.fifo c.fill h.0 h.1 in
    let t = changes_told a h.0 cs r h.4 in
    record {
      clock = t.clock ∙ st.clock;
      is = (record { declared = st.declared; fits = h.3 }, t.is);
      low = (st.low, each (λ (x : Change). h.0.next ≤ x.fifo) (λ x. s.next ≤ x.fifo) (λ x g. omega (arith, g, st.next, st.low)) cs t.low);
      pairs = AllPairs-cons (λ (x y : Change). x.fifo < y.fifo) c cs
          (All-from_recursion (λ (y : Change). c.fifo < y.fifo) cs
          (each (λ (x : Change). h.0.next ≤ x.fifo) (λ x. c.fifo < x.fifo) (λ x g. omega (arith, g, st.next)) cs t.low)) t.pairs;
      none = λ e. absurd (omega (arith, e));
      some = λ n. elim (cases_eq (length cs) 0) [ inl z ↦ t.none z ∙ st.some | inr m ↦ t.some m ];
      varies = λ l v. elim (cases_eq c.fifo a.fifo) [
        | inl p ↦ subst (λ (f : List ℕ). Varies s.fill (f ++ l)) (sym (own_by a.fifo c cs p))
            (st.other p, subst (λ (n : ℕ). Varies n (told_by a.fifo cs ++ l)) (st.own_fill p) (t.varies l v))
        | inr n ↦ subst (λ (f : List ℕ). Varies s.fill (f ++ l)) (sym (other_by a.fifo c cs n))
            (subst (λ (m : ℕ). Varies m (told_by a.fifo cs ++ l)) (st.same_fill n) (t.varies l v))
      ];
      told = λ le l. elim (cases_eq c.fifo a.fifo) [
        | inl p ↦ ap (λ (f : List ℕ). last_or s.told (f ++ l)) (own_by a.fifo c cs p)
            ∙ (ap (λ (n : ℕ). last_or n (told_by a.fifo cs ++ l)) (sym (st.own_told p le)) ∙ t.told (omega (arith, le, st.clock)) l)
        | inr n ↦ ap (λ (f : List ℕ). last_or s.told (f ++ l)) (other_by a.fifo c cs n)
            ∙ (ap (λ (m : ℕ). last_or m (told_by a.fifo cs ++ l)) (sym (st.same_told n)) ∙ t.told (omega (arith, le, st.clock)) l)
      ];
      late = λ lt. t.late (omega (arith, lt, st.clock)) ∙ st.late_told lt;
    }

-- ---- clock after clock

abbrev up_to : ℕ → List Instant → List Instant
up_to clock is = filter (λ i. leb i.clock clock) is

pub record InstantsTold (a : Probe) (s : Scan) (is : List Instant) (r : Scan) : Type 0 where
  pub clocks : AllByRecursion (λ i. i.clock < 2 ^ 64) is
  pub after : AllByRecursion (λ i. s.clock < i.clock) is
  pub rising : AllPairs (λ x y. x.clock < y.clock) is
  pub changes : AllByRecursion (λ i. All (IsChange a.count) i.changes) is
  pub in_order : AllByRecursion (λ i. AllPairs (λ x y. x.fifo < y.fifo) i.changes) is
  pub varies : Varies s.fill (told_in a.fifo is)
  pub last : last_or s.clock (map (λ i. i.clock) is) ≡ r.clock
  pub ready : (length is ≡ 0 → ⊥) → s.some ≡ true
  pub some : (k : ℕ) (d : Instant) → k + 1 < length is → length (get_or is k d).changes ≢ 0
  pub told : s.clock ≤ a.clock → last_or s.told (told_in a.fifo (filter (λ i. leb i.clock a.clock) is)) ≡ r.told
  pub late : a.clock < s.clock → r.told ≡ s.told
  pub none : a.clock < s.clock → filter (λ i. leb i.clock a.clock) is ≡ []

some_at : (i : Instant) (is : List Instant) → ((length is ≡ 0 → ⊥) → length i.changes ≢ 0)
    → ((k : ℕ) (d : Instant) → k + 1 < length is → length (get_or is k d).changes ≢ 0)
    → (k : ℕ) (d : Instant) → k + 1 < length (i ∷ is) → length (get_or (i ∷ is) k d).changes ≢ 0
some_at i is f g zero d l = f (λ z. absurd (omega (arith, z, l)))
some_at i is f g (suc k) d l = g k d (omega (arith, l))

kept : (clock : ℕ) (i : Instant) (is : List Instant) → leb i.clock clock ≡ true → up_to clock (i ∷ is) ≡ i ∷ up_to clock is
kept clock i is e = ap (λ (b : Bool). cond b (i ∷ up_to clock is) (up_to clock is)) e

dropped : (clock : ℕ) (i : Instant) (is : List Instant) → leb i.clock clock ≡ false → up_to clock (i ∷ is) ≡ up_to clock is
dropped clock i is e = ap (λ (b : Bool). cond b (i ∷ up_to clock is) (up_to clock is)) e

pub instants_told : (a : Probe) (s : Scan) (is : List Instant) (r : Scan) → InstantsLead a s is r → InstantsTold a s is r
instants_told a s [] r e = record {
  clocks = tt;
  after = tt;
  rising = λ i j d l m. absurd (omega arith);
  changes = tt;
  in_order = tt;
  varies = tt;
  last = ap (λ (t : Scan). t.clock) e;
  ready = λ n. absurd (n refl);
  some = λ k d l. absurd (omega arith);
  told = λ le. ap (λ (t : Scan). t.told) e;
  late = λ lt. ap (λ (t : Scan). t.told) (sym e);
  none = λ lt. refl;
}
instants_told a s (i ∷ is) r h =
    let ts = time_is s i.clock h.0 h.2 in
    let c = changes_told a h.0 i.changes h.1 h.4 in
    let t = instants_told a h.1 is r h.5 in
    let here : h.1.clock ≡ i.clock = c.clock ∙ ap (λ (x : Scan). x.clock) ts.is in
    let start : h.0.clock ≡ i.clock = ap (λ (x : Scan). x.clock) ts.is in
    let held : h.0.told ≡ s.told = ap (λ (x : Scan). x.told) ts.is in
    record {
      clocks = (h.3, t.clocks);
      after = (
        ts.later,
        each (λ (x : Instant). h.1.clock < x.clock) (λ x. s.clock < x.clock)
            (λ x g. omega (arith, g, here, ts.later)) is t.after,
      );
      rising = AllPairs-cons (λ (x y : Instant). x.clock < y.clock) i is
          (All-from_recursion (λ (x : Instant). i.clock < x.clock) is
          (each (λ (x : Instant). h.1.clock < x.clock) (λ x. i.clock < x.clock) (λ x g. omega (arith, g, here)) is t.after)) t.rising;
      changes = (All-from_recursion (IsChange a.count) i.changes c.is, t.changes);
      in_order = (c.pairs, t.in_order);
      varies = subst (λ (n : ℕ). Varies n (told_by a.fifo i.changes ++ told_in a.fifo is)) (ap (λ (x : Scan). x.fill) ts.is)
          (c.varies (told_in a.fifo is) t.varies);
      last = ap (λ (n : ℕ). last_or n (map (λ (x : Instant). x.clock) is)) (sym here) ∙ t.last;
      ready = λ n. ts.some;
      some = some_at i is (λ n z. let wrong : true ≡ false = sym (t.ready n) ∙ (c.none z ∙ ap (λ (x : Scan). x.some) ts.is) in cc) t.some;
      told = λ le. elim (leb_tells i.clock a.clock) [
        | inl y ↦ ap (λ (l : List Instant). last_or s.told (told_in a.fifo l)) (kept a.clock i is y.0)
            ∙ (ap (λ (n : ℕ). last_or n (told_by a.fifo i.changes ++ told_in a.fifo (up_to a.clock is))) (sym held)
            ∙ (c.told (omega (arith, start, y.1)) (told_in a.fifo (up_to a.clock is)) ∙ t.told (omega (arith, here, y.1))))
        | inr y ↦ ap (λ (l : List Instant). last_or s.told (told_in a.fifo l))
            (dropped a.clock i is y.0 ∙ t.none (omega (arith, here, y.1)))
            ∙ (sym held ∙ (sym (c.late (omega (arith, start, y.1))) ∙ sym (t.late (omega (arith, here, y.1)))))
      ];
      late = λ lt. t.late (omega (arith, here, lt, ts.later)) ∙ (c.late (omega (arith, start, lt, ts.later)) ∙ held);
      none = λ lt. elim (leb_tells i.clock a.clock) [
        | inl y ↦ absurd (omega (arith, y.1, lt, ts.later))
        | inr y ↦ dropped a.clock i is y.0 ∙ t.none (omega (arith, here, y.1))
      ];
    }

-- ---- waves give lines in order

heads : {X : Type 0} (R : X → X → Type 0) (x : X) (xs : List X) → AllPairs R (x ∷ xs) → All (R x) xs
heads R x xs p k d l = p 0 (suc k) d (omega arith) (omega (arith, l))

tails : {X : Type 0} (R : X → X → Type 0) (x : X) (xs : List X) → AllPairs R (x ∷ xs) → AllPairs R xs
tails R x xs p i j d l m = p (suc i) (suc j) d (omega (arith, l)) (omega (arith, m))

record ChangesGo (a : Probe) (s : Scan) (cs : List Change) (l : List ℕ) : Type 0 where
  r : Scan
  leads : ChangesLead a s cs r
  varies : Varies r.fill l

changes_go : (a : Probe) (s : Scan) (cs : List Change) (l : List ℕ) → a.count < 2 ^ 64 → AllByRecursion (IsChange a.count) cs
    → AllByRecursion (λ c. s.next ≤ c.fifo) cs → AllPairs (λ x y. x.fifo < y.fifo) cs → Varies s.fill (told_by a.fifo cs ++ l)
    → ChangesGo a s cs l
changes_go a s [] l few is low pairs v = record { r = s; leads = refl; varies = v }
changes_go a s (c ∷ cs) l few is low pairs v =
    let other : c.fifo ≡ a.fifo → c.fill ≡ s.fill → ⊥ =
    λ p q. (subst (λ (f : List ℕ). Varies s.fill (f ++ l)) (own_by a.fifo c cs p) v).0 q in
    let st = change_goes a s c.fifo c.fill low.0 is.0.declared other in
    let cis = change_is a s c.fifo c.fill st.n st.is in
    let on : Varies st.n.fill (told_by a.fifo cs ++ l) = elim (cases_eq c.fifo a.fifo) [
      | inl p ↦ subst (λ (n : ℕ). Varies n (told_by a.fifo cs ++ l)) (sym (cis.own_fill p))
          (subst (λ (f : List ℕ). Varies s.fill (f ++ l)) (own_by a.fifo c cs p) v).1
      | inr n ↦ subst (λ (m : ℕ). Varies m (told_by a.fifo cs ++ l)) (sym (cis.same_fill n))
          (subst (λ (f : List ℕ). Varies s.fill (f ++ l)) (other_by a.fifo c cs n) v)
    ] in
    let rest = changes_go a st.n cs l few is.1
    (each (λ (x : Change). c.fifo < x.fifo) (λ x. st.n.next ≤ x.fifo) (λ x g. omega (arith, g, cis.next)) cs
    (recursion_from_All (λ (x : Change). c.fifo < x.fifo) cs (heads (λ (x y : Change). x.fifo < y.fifo) c cs pairs)))
    (tails (λ (x y : Change). x.fifo < y.fifo) c cs pairs) on in
    record {
      r = rest.r;
      leads = (st.n, st.is, omega (arith, is.0.declared, few), is.0.fits, rest.leads);
      varies = rest.varies;
    }

time_goes : (s : Scan) (clock : ℕ) → s.some ≡ true → s.clock < clock
    → time_step s clock ≡ Some (record { clock = clock; next = 0; some = false; fill = s.fill; told = s.told })
time_goes s clock e l = grind arith

pub instants_go : (a : Probe) (s : Scan) (is : List Instant) → a.count < 2 ^ 64 → AllByRecursion (λ i. i.clock < 2 ^ 64) is
    → AllByRecursion (λ i. s.clock < i.clock) is → AllPairs (λ x y. x.clock < y.clock) is
    → AllByRecursion (λ i. All (IsChange a.count) i.changes) is
    → AllByRecursion (λ i. AllPairs (λ x y. x.fifo < y.fifo) i.changes) is → ((length is ≡ 0 → ⊥) → s.some ≡ true)
    → ((k : ℕ) (d : Instant) → k + 1 < length is → length (get_or is k d).changes ≢ 0) → Varies s.fill (told_in a.fifo is)
    → (r : Scan) × InstantsLead a s is r
instants_go a s [] few clocks after rising changes order ready some v = (s, refl)
instants_go a s (i ∷ is) few clocks after rising changes order ready some v =
    let start : Scan = record { clock = i.clock; next = 0; some = false; fill = s.fill; told = s.told } in
    let by = recursion_from_All (IsChange a.count) i.changes changes.0 in
    let c = changes_go a start i.changes (told_in a.fifo is) few by
    (each (IsChange a.count) (λ (x : Change). 0 ≤ x.fifo) (λ x g. omega arith) i.changes by) order.0 v in
    let t = changes_told a start i.changes c.r c.leads in
    let rest = instants_go a c.r is few clocks.1
    (each (λ (x : Instant). i.clock < x.clock) (λ x. c.r.clock < x.clock) (λ x g. omega (arith, g, t.clock)) is
    (recursion_from_All (λ (x : Instant). i.clock < x.clock) is (heads (λ (x y : Instant). x.clock < y.clock) i is rising)))
    (tails (λ (x y : Instant). x.clock < y.clock) i is rising) changes.1 order.1
    (λ n. t.some (λ z. some 0 i (omega arith) z)) (λ k d l. some (suc k) d (omega (arith, l))) c.varies in
    (rest.0, (start, c.r, time_goes s i.clock (ready (λ z. absurd (omega (arith, z)))) after.0, clocks.0, c.leads, rest.1))
