-- Cycles that are put into lanes, and taken back.
use Rattle.std.proofs.Common.{◌≡◌, refl, sym, ap, subst, ◌∙◌, ℕ, ◌+◌, ◌<◌, ◌≤◌, ◌⊎◌, inl, inr, List, [], ◌∷◌, ◌++◌, length, drop, get_or}
use Rattle.std.proofs.Common.{arith}
use Rattle.std.proofs.{Math.ListN.set, lemmas.Bool.cases_lt, lemmas.Bool.Decides.eqb_tells, lemmas.List.Elements.All-push}
use Rattle.std.proofs.lemmas.List.{length-set, get_or-set_same, get_or-set_other, get_or_past, set-set, set-get_or, length-append}
use Rattle.std.proofs.lemmas.List.{get_or_append_left, drop-append-le, drop_all}
use Rattle.std.proofs.Math.Seq.{get_or-append_seam, drop-length}
use Rattle.std.specs.{Prelude.All, List.Sorted.IsStrictlyIncreasing}
use Rattle.cycle_changes.specs.{Place, Lane, IsSoundLane, lane_at, no_lane, put_in, with_put, cycle_bound, Put, HasCycle, IsFitting, undone}
use Rattle.cycle_changes.specs.{ArePut}

-- ---- one put

-- the lane of a module: as it was, or with the cycle
pub lane_put : (lanes : List Lane) (p : Place) (c m : ℕ) → (lane_at (with_put lanes p c) m ≡ lane_at lanes m)
    ⊎ ((m ≡ p.module) × (lane_at (with_put lanes p c) m ≡ put_in (lane_at lanes m) p.step c))
lane_put lanes p c m =
    elim (eqb_tells m p.module) [
      | inr apart ↦ inl (get_or-set_other lanes p.module m _ no_lane apart.1)
      | inl at ↦ elim (cases_lt p.module (length lanes)) [
        | inl within ↦ inr (at.1, rw at.1 (get_or-set_same lanes p.module _ no_lane within))
        | inr past ↦
            let a = get_or_past lanes m no_lane (omega (arith, at.1)) in
            let same = length-set lanes p.module (put_in (lane_at lanes p.module) p.step c) in
            let b = get_or_past (with_put lanes p c) m no_lane (omega (arith, at.1, same)) in
            inl (b ∙ sym a)
      ]
    ]

pub put_count : (lanes : List Lane) (p : Place) (c m : ℕ)
    → length (lane_at (with_put lanes p c) m).cycles ≡ length (lane_at lanes m).cycles
put_count lanes p c m =
    elim (lane_put lanes p c m) [
      | inl same ↦ ap (λ (l : Lane). length l.cycles) same
      | inr put ↦ ap (λ (l : Lane). length l.cycles) put.1 ∙ length-set (lane_at lanes m).cycles p.step c
    ]

pub put_lanes : (lanes : List Lane) (p : Place) (c : ℕ) → length (with_put lanes p c) ≡ length lanes
put_lanes lanes p c = length-set lanes p.module (put_in (lane_at lanes p.module) p.step c)

-- a step at another place keeps its cycle
pub put_apart : (lanes : List Lane) (p : Place) (c m k : ℕ) → ((m ≡ p.module) × (k ≡ p.step) → ⊥)
    → get_or (lane_at (with_put lanes p c) m).cycles k 0 ≡ get_or (lane_at lanes m).cycles k 0
put_apart lanes p c m k apart =
    elim (lane_put lanes p c m) [
      | inl same ↦ ap (λ (l : Lane). get_or l.cycles k 0) same
      | inr put ↦ ap (λ (l : Lane). get_or l.cycles k 0) put.1
          ∙ get_or-set_other (lane_at lanes m).cycles p.step k c 0 (λ e. apart (put.0, e))
    ]

-- a cycle that is put back
pub put_back : (lanes : List Lane) (p : Place) (c : ℕ) → p.module < length lanes
    → with_put (with_put lanes p c) p (get_or (lane_at lanes p.module).cycles p.step 0) ≡ lanes
put_back lanes p c within =
    let lane = lane_at lanes p.module in
    let here = get_or-set_same lanes p.module (put_in lane p.step c) no_lane within in
    let old = get_or lane.cycles p.step 0 in
    let cycles : set (set lane.cycles p.step c) p.step old ≡ lane.cycles =
    set-set lane.cycles p.step c old ∙ set-get_or lane.cycles p.step 0 in
    let whole : put_in (lane_at (with_put lanes p c) p.module) p.step old ≡ lane =
    ap (λ (l : Lane). put_in l p.step old) here
    ∙ ap (λ (cs : List ℕ). let l : Lane = record { steps = lane.steps; cycles = cs } in l) cycles in
    ap (λ (l : Lane). set (with_put lanes p c) p.module l) whole ∙ (set-set lanes p.module (put_in lane p.step c) lane
    ∙ set-get_or lanes p.module no_lane)

pub has_still : (lanes : List Lane) (p : Place) (c : ℕ) (q : Place) → HasCycle lanes q → HasCycle (with_put lanes p c) q
has_still lanes p c q has = record {
  owner = let n = put_lanes lanes p c in let o = has.owner in omega arith;
  there = let n = put_count lanes p c q.module in let o = has.there in omega arith;
}

-- cycles of which one becomes another that is between its neighbours still rise
pub fitting_rises : (cycles : List ℕ) (step c : ℕ) → step < length cycles → IsStrictlyIncreasing cycles → IsFitting cycles step c
    → IsStrictlyIncreasing (set cycles step c)
fitting_rises cycles step c within rises fits k less =
    let n = length-set cycles step c in
    let up = rises k (omega arith) in
    let here = get_or-set_same cycles step c 0 within in
    let at = get_or-set_other cycles step k c 0 in
    let after = get_or-set_other cycles step (k + 1) c 0 in
    let before = fits.before k in
    let next = fits.next in
    grind arith

-- ---- puts one after the other

pub undone-append : (ps : List Put) (q : Put) (lanes : List Lane)
    → undone (ps ++ q ∷ []) lanes ≡ undone ps (with_put lanes q.place q.old)
undone-append [] q lanes = refl
undone-append (p ∷ ps) q lanes = ap (λ (ls : List Lane). with_put ls p.place p.old) (undone-append ps q lanes)

-- what is left to take back from a put on
undone_from : (ps : List Put) (q : Put) (lanes : List Lane) (k : ℕ) → k ≤ length ps
    → undone (drop k (ps ++ q ∷ [])) lanes ≡ undone (drop k ps) (with_put lanes q.place q.old)
undone_from ps q lanes k le =
    ap (λ (rs : List Put). undone rs lanes) (drop-append-le k ps (q ∷ []) le) ∙ undone-append (drop k ps) q lanes

undone_past : (ps : List Put) (q : Put) (lanes : List Lane) (k : ℕ) → length ps < k → undone (drop k (ps ++ q ∷ [])) lanes ≡ lanes
undone_past ps q lanes k past =
    ap (λ (rs : List Put). undone rs lanes) (drop_all k (ps ++ q ∷ []) (let n = length-append ps (q ∷ []) in omega arith))

-- one put more
pub put_more : (first : List Lane) (ps : List Put) (lanes : List Lane) (place : Place) (c old : ℕ) → ArePut first ps lanes
    → HasCycle lanes place → old ≡ get_or (lane_at lanes place.module).cycles place.step 0
    → (now : List Lane) → now ≡ with_put lanes place c → All IsSoundLane now
    → (q : Put) → q.place ≡ place → q.old ≡ old
    → ArePut first (ps ++ q ∷ []) now
put_more first ps lanes place c old are has is now e sound q at was = record {
  back = undone-append ps q now ∙ (ap (undone ps) back ∙ are.back);
  sound = λ k. elim (cases_lt (length ps) k) [
    | inl past ↦ subst (All IsSoundLane) (sym (undone_past ps q now k past)) sound
    | inr within ↦ subst (All IsSoundLane) (sym (undone_from ps q now k within ∙ ap (undone (drop k ps)) back)) (are.sound k)
  ];
  timed = All-push (λ (p : Put). HasCycle now p.place) ps q (λ k d l. still (get_or ps k d).place (are.timed k d l))
      (subst (HasCycle now) (sym at) (still place has));
}
  where
    back : with_put now q.place q.old ≡ lanes
    back = rw (at, was, e, is) (put_back lanes place c has.owner)

    still : (p : Place) → HasCycle lanes p → HasCycle now p
    still p h = subst (λ (ls : List Lane). HasCycle ls p) (sym e) (has_still lanes place c p h)

-- the last put can be taken back, and then one less is left
pub put_less : (first : List Lane) (ps : List Put) (q : Put) (lanes : List Lane) → ArePut first (ps ++ q ∷ []) lanes
    → ArePut first ps (with_put lanes q.place q.old)
put_less first ps q lanes are = record {
  back = sym (undone-append ps q lanes) ∙ are.back;
  sound = λ k. elim (cases_lt (length ps) k) [
    | inl past ↦ subst (λ (rs : List Put). All IsSoundLane (undone rs (with_put lanes q.place q.old)))
        (drop-length ps ∙ sym (drop_all k ps (omega arith))) (before (length ps) (omega arith))
    | inr within ↦ before k within
  ];
  timed = λ k d l. has_still lanes q.place q.old (get_or ps k d).place (subst (λ (p : Put). HasCycle lanes p.place)
      (get_or_append_left ps (q ∷ []) d k l) (are.timed k d (let n = length-append ps (q ∷ []) in omega arith)));
}
  where
    before : (k : ℕ) → k ≤ length ps → All IsSoundLane (undone (drop k ps) (with_put lanes q.place q.old))
    before k le = subst (All IsSoundLane) (undone_from ps q lanes k le) (are.sound k)

-- what the graph asks where the last put is taken back
pub record IsTakenBack (lanes : List Lane) (q : Put) : Type 0 where
  pub owner : q.place.module < length lanes
  pub there : q.place.step < length (lane_at lanes q.place.module).cycles
  pub below : q.old < cycle_bound
  pub rising : IsStrictlyIncreasing (set (lane_at lanes q.place.module).cycles q.place.step q.old)

pub can_take_back : (first : List Lane) (ps : List Put) (q : Put) (lanes : List Lane) → ArePut first (ps ++ q ∷ []) lanes
    → IsTakenBack lanes q
can_take_back first ps q lanes are =
    let n = length-append ps (q ∷ []) in
    let at = are.timed (length ps) q (omega arith) in
    let has : HasCycle lanes q.place = subst (λ (p : Put). HasCycle lanes p.place) (get_or-append_seam ps q [] q) at in
    let less = put_less first ps q lanes are in
    let sound : All IsSoundLane (with_put lanes q.place q.old) =
    subst (λ (rs : List Put). All IsSoundLane (undone rs (with_put lanes q.place q.old))) (drop-length ps) (less.sound (length ps)) in
    let here : IsSoundLane (put_in (lane_at lanes q.place.module) q.place.step q.old) = subst IsSoundLane
    (get_or-set_same lanes q.place.module _ no_lane has.owner)
    (sound q.place.module no_lane (let o = has.owner in let e = put_lanes lanes q.place q.old in omega arith)) in
    record {
      owner = has.owner;
      there = has.there;
      below = subst (λ (c : ℕ). c < cycle_bound) (get_or-set_same (lane_at lanes q.place.module).cycles q.place.step q.old 0 has.there)
          (here.below q.place.step 0
          (let e = length-set (lane_at lanes q.place.module).cycles q.place.step q.old in let o = has.there in omega arith));
      rising = here.rising;
    }

-- none yet
pub no_puts : (lanes : List Lane) → All IsSoundLane lanes → ArePut lanes [] lanes
no_puts lanes sound = record {
  back = refl;
  sound = λ k. subst (λ (ps : List Put). All IsSoundLane (undone ps lanes)) (sym (drop_all k [] (omega arith))) sound;
  timed = λ k d l. absurd (omega arith);
}
