-- How many steps have another cycle, and puts of a draft.
use Rattle.std.proofs.Common.{◌≡◌, ◌≢◌, refl, sym, ap, ap₂, subst, ◌∙◌, ℕ, zero, suc, ◌+◌, ◌<◌, inl, inr, List, [], ◌∷◌, ◌++◌, length}
use Rattle.std.proofs.Common.{get_or, Some, arith}
use Rattle.std.proofs.{Math.ListN.set, Math.ListN.get_or-map, lemmas.List.Elements.All-push}
use Rattle.std.proofs.lemmas.List.{get_or-set_same, length-append, length-map}
use Rattle.std.specs.Prelude.{All}
use Rattle.cycle_changes.specs.{Place, Lane, IsSoundLane, lane_at, no_lane, put_in, with_put, place_of, Put, Draft, others_in, moved_in}
use Rattle.cycle_changes.specs.{HasCycle, AreDrafted, drafted}
use Rattle.cycle_changes.proofs.{Putting.no_puts, Putting.put_apart, Putting.put_more, Changing.puts_are_other}

-- ---- another cycle of one step

others_same : (cs : List ℕ) → others_in cs cs ≡ 0
others_same [] = refl
others_same (c ∷ cs) = let rest = others_same cs in grind arith

pub moved_same : (lanes : List Lane) → moved_in lanes lanes ≡ 0
moved_same [] = refl
moved_same (l ∷ lanes) = let here = others_same l.cycles in let rest = moved_same lanes in omega arith

others_set : (old new : List ℕ) (k c : ℕ) → k < length old → k < length new → get_or new k 0 ≡ get_or old k 0 → c ≢ get_or old k 0
    → others_in old (set new k c) ≡ suc (others_in old new)
others_set [] new k c lo ln same other = absurd (omega arith)
others_set (o ∷ old) [] k c lo ln same other = absurd (omega arith)
others_set (o ∷ old) (n ∷ new) zero c lo ln same other = grind arith
others_set (o ∷ old) (n ∷ new) (suc k) c lo ln same other =
    let rest = others_set old new k c (omega arith) (omega arith) same other in
    omega arith

-- one lane becomes another
moved_lane : (old new : List Lane) (m : ℕ) (l : Lane) → m < length old → m < length new
    → moved_in old (set new m l) + others_in (lane_at old m).cycles (lane_at new m).cycles
    ≡ moved_in old new + others_in (lane_at old m).cycles l.cycles
moved_lane [] new m l lo ln = absurd (omega arith)
moved_lane (o ∷ old) [] m l lo ln = absurd (omega arith)
moved_lane (o ∷ old) (n ∷ new) zero l lo ln = omega arith
moved_lane (o ∷ old) (n ∷ new) (suc m) l lo ln =
    let rest = moved_lane old new m l (omega arith) (omega arith) in
    omega arith

-- a step that had its cycle still gets another
pub moved_more : (old new : List Lane) (p : Place) (c : ℕ) → HasCycle old p → HasCycle new p
    → get_or (lane_at new p.module).cycles p.step 0 ≡ get_or (lane_at old p.module).cycles p.step 0
    → c ≢ get_or (lane_at old p.module).cycles p.step 0 → moved_in old (with_put new p c) ≡ suc (moved_in old new)
moved_more old new p c o n same other =
    let lane = moved_lane old new p.module (put_in (lane_at new p.module) p.step c) o.owner n.owner in
    let one = others_set (lane_at old p.module).cycles (lane_at new p.module).cycles p.step c o.there n.there same other in
    omega arith

-- the step has it then
put_here : (lanes : List Lane) (p : Place) (c : ℕ) → HasCycle lanes p → get_or (lane_at (with_put lanes p c) p.module).cycles p.step 0 ≡ c
put_here lanes p c has =
    ap (λ (l : Lane). get_or l.cycles p.step 0) (get_or-set_same lanes p.module (put_in (lane_at lanes p.module) p.step c) no_lane
    has.owner)
    ∙ get_or-set_same (lane_at lanes p.module).cycles p.step c 0 has.there

same_place : (p q : Place) → p.module ≡ q.module → p.step ≡ q.step → p ≡ q
same_place p q m k = ap₂ (λ (a b : ℕ). place_of a b) m k

-- ---- puts of a draft

-- no put yet
pub none_drafted : (draft : Draft) (lanes : List Lane) → All IsSoundLane lanes → AreDrafted draft lanes [] lanes
none_drafted draft lanes sound = record {
  put = no_puts lanes sound;
  drafts = λ k d l. absurd (omega arith);
  moved = moved_same lanes;
}

module _ (draft : Draft) (first : List Lane) (ps : List Put) (lanes : List Lane) (are : AreDrafted draft first ps lanes) (place : Place)
    (c : ℕ) (to : drafted draft place ≡ Some c) (has : HasCycle lanes place)
    (other : c ≢ get_or (lane_at lanes place.module).cycles place.step 0) where
  -- a put's step has the draft's cycle, and this one has not
  not_put : (q : Place) → drafted draft q ≡ Some (get_or (lane_at lanes q.module).cycles q.step 0) → q ≡ place → ⊥
  not_put q is e =
      let at = subst (λ (r : Place). drafted draft r ≡ Some (get_or (lane_at lanes r.module).cycles r.step 0)) e is in
      let same : c ≡ get_or (lane_at lanes place.module).cycles place.step 0 = grind (arith, to, at) in
      other same

  -- so it has the cycle that it had at first
  still_first : get_or (lane_at lanes place.module).cycles place.step 0 ≡ get_or (lane_at first place.module).cycles place.step 0
  still_first =
      elim ((puts_are_other first ps lanes are.put).same place.module place.step) [
        | inl same ↦ same
        | inr (i, l, e) ↦
            let none : Put = record { place = place; old = 0 } in
            let is = get_or-map (λ (p : Put). p.place) ps i none in
            let within : i < length ps = rw length-map at l in
            absurd (not_put (get_or ps i none).place (are.drafts i none within) (sym is ∙ e))
      ]

  has_first : HasCycle first place
  has_first =
      let o = puts_are_other first ps lanes are.put in
      record {
        owner = let n = o.lanes in let w = has.owner in omega arith;
        there = let n = o.counts place.module in let w = has.there in omega arith;
      }

  -- the draft's cycle, which is another, is put
  pub drafted_more : (now : List Lane) → now ≡ with_put lanes place c → All IsSoundLane now → (q : Put) → q.place ≡ place
      → q.old ≡ get_or (lane_at lanes place.module).cycles place.step 0 → AreDrafted draft first (ps ++ q ∷ []) now
  drafted_more now is sound q at was = record {
    put = put_more first ps lanes place c _ are.put has refl now is sound q at was;
    drafts = All-push (λ (p : Put). drafted draft p.place ≡ Some (get_or (lane_at now p.place.module).cycles p.place.step 0)) ps q
        (λ k d l. kept (get_or ps k d).place (are.drafts k d l)) here;
    moved =
        let more = moved_more first lanes place c has_first has still_first
        (λ e. other (e ∙ sym still_first)) in
        let n = length-append ps (q ∷ []) in
        let before = are.moved in
        let same = ap (moved_in first) is in
        omega arith;
  }
    where
      here : drafted draft q.place ≡ Some (get_or (lane_at now q.place.module).cycles q.place.step 0)
      here = rw (at, is) (to ∙ ap Some (sym (put_here lanes place c has)))

      kept : (p : Place) → drafted draft p ≡ Some (get_or (lane_at lanes p.module).cycles p.step 0)
          → drafted draft p ≡ Some (get_or (lane_at now p.module).cycles p.step 0)
      kept p drafts =
          let apart = λ (e : (p.module ≡ place.module) × (p.step ≡ place.step)). not_put p drafts (same_place p place e.0 e.1) in
          rw is (drafts ∙ ap Some (sym (put_apart lanes place c p.module p.step apart)))
