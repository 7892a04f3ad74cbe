-- Counting what differs in two lists.
use Rattle.std.proofs.Common.{◌≡◌, refl, ap, ℕ, zero, suc, ◌+◌, ◌-◌, ◌<◌, ◌≤◌, List, [], ◌∷◌, length, drop, map, get_or, max, min, add-one}
use Rattle.std.proofs.Common.{drop-cons, arith, sym, ◌∙◌, inl, inr, ◌++◌, take}
use Rattle.std.proofs.{lemmas.Bool.eq-eqb, lemmas.List.get_or-map, lemmas.List.map-append, lemmas.List.take_more, lemmas.List.take_all}
use Rattle.core_tests.specs.{others_in, moved_in, Edit, Guard, Lane, no_lane, lane_at, channel_at, depth_of, IsEdited, CoreView, others_of}
use Rattle.core_tests.specs.{HasTicked}

-- where one of them is over, the rest of the other counts
pub others_over : (n : ℕ) (old new : List ℕ) → n ≡ min (length old) (length new)
    → others_in (drop n old) (drop n new) ≡ max (length old) (length new) - n
others_over zero [] new e = omega arith
others_over zero (c ∷ old) [] e = omega arith
others_over zero (c ∷ old) (d ∷ new) e = absurd (omega arith)
others_over (suc n) [] new e = absurd (omega arith)
others_over (suc n) (c ∷ old) [] e = absurd (omega arith)
others_over (suc n) (c ∷ old) (d ∷ new) e = let rest = others_over n old new (omega arith) in omega arith

-- one list more
pub others_more : (old new : List (List ℕ)) (k : ℕ) → k < length old → length old ≡ length new
    → others_of (drop k old) (drop k new) ≡ others_in (get_or old k []) (get_or new k []) + others_of (drop (k + 1) old) (drop (k + 1) new)
others_more old new k less same = rw (add-one, drop-cons old k [] less, drop-cons new k [] (omega arith)) refl

-- lanes move as their cycles do
pub lanes_moved : (old new : List Lane) → length old ≡ length new
    → moved_in old new ≡ others_of (map (λ (l : Lane). l.cycles) old) (map (λ (l : Lane). l.cycles) new)
lanes_moved [] [] e = refl
lanes_moved [] (n ∷ new) e = absurd (omega arith)
lanes_moved (l ∷ old) [] e = absurd (omega arith)
lanes_moved (l ∷ old) (n ∷ new) e = ap (λ (k : ℕ). others_in l.cycles n.cycles + k) (lanes_moved old new (omega arith))

-- nothing moves where nothing changed
others_none : (cycles : List ℕ) → others_in cycles cycles ≡ 0
others_none [] = refl
others_none (c ∷ cycles) = let rest = others_none cycles in rw (eq-eqb c c refl) (omega arith)

pub moved_none : (lanes : List Lane) → moved_in lanes lanes ≡ 0
moved_none [] = refl
moved_none (l ∷ lanes) = let here = others_none l.cycles in let rest = moved_none lanes in omega arith

-- the list that stands at a place
pub list_at : {V : Type 0} (f : V → List ℕ) (vs : List V) (k : ℕ) (v : V) → k < length vs → v ≡ get_or vs k v → get_or (map f vs) k [] ≡ f v
list_at f vs k v less is = get_or-map f vs k v [] less ∙ ap f (sym is)

-- the cycles of one lane more
pub cycles_more : (lanes : List Lane) (k : ℕ) → k < length lanes
    → map (λ (l : Lane). l.cycles) (take (k + 1) lanes) ≡ map (λ (l : Lane). l.cycles) (take k lanes) ++ (lane_at lanes k).cycles ∷ []
cycles_more lanes k less =
    ap (map (λ (l : Lane). l.cycles)) (take_more lanes k no_lane less)
    ∙ map-append (λ (l : Lane). l.cycles) (take k lanes) (get_or lanes k no_lane ∷ [])

-- what an edit ticks, by the numbers of which so many differ
pub edit_ticks : (old new : CoreView) (e : Edit) (guard : Guard) (before after : ℕ) → IsEdited old new e guard before after
    → length old.held.lanes ≡ length new.held.lanes → (moved : ℕ)
    → moved ≡ others_of (map (λ (l : Lane). l.cycles) old.held.lanes) (map (λ (l : Lane). l.cycles) new.held.lanes)
    → HasTicked old new e before after moved × (depth_of (channel_at old.held.channels e.channel).kind ≡ e.depth → after ≡ before)
edit_ticks old new e guard before after edited same moved is =
    let all : moved ≡ moved_in old.held.lanes new.held.lanes = is ∙ sym (lanes_moved old.held.lanes new.held.lanes same) in
    elim edited [
      | inl stays ↦
          let lanes = ap (λ (v : CoreView). moved_in old.held.lanes v.held.lanes) stays.core in
          let none = moved_none old.held.lanes in
          let ticked = stays.no_tick in
          (inl (omega (arith, all, lanes, none, ticked)), λ stands. stays.no_tick)
      | inr (inl again) ↦
          (inr (record { clock = again.clock; from = again.from; ticked = again.ticked }), λ stands. absurd (again.from.changes stands))
      | inr (inr few) ↦
          let ticked = few.ticked in
          (inl (omega (arith, all, ticked)), λ stands. absurd (few.from.changes stands))
    ]

-- the cycles of all lanes
pub all_cycles : (lanes : List Lane) (n : ℕ) → length lanes ≤ n → map (λ (l : Lane). l.cycles) (take n lanes) ≡ map (λ (l : Lane).
    l.cycles) lanes
all_cycles lanes n enough = ap (map (λ (l : Lane). l.cycles)) (take_all n lanes enough)
