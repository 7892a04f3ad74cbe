-- How many cycles and steps there are after a turn, and after a cut.
use Rattle.std.proofs.Common.{◌≡◌, refl, sym, ap, ◌∙◌, ℕ, suc, ◌+◌, ◌<◌, ◌≤◌, List, [], ◌∷◌, length, map, get_or, arith}
use Rattle.std.proofs.{Math.Seq.map-set_same, Math.ListN.get_or-map, lemmas.List.length-append, lemmas.List.length-map}
use Rattle.std.proofs.lemmas.List.Sums.{sum_by-set, sum_by-cons}
use Rattle.std.specs.{Prelude.All, List.sum_by}
use Rattle.retime.specs.{Step, Lane, IsSoundLane, no_lane, lane_at, lane_with_cycle, timed_below, Timing, lanes_after, ticks_of, only_steps}
use Rattle.retime.specs.{cycles_in, steps_in_lanes}
use Rattle.engine_view.specs.declared.turn.Timing.TheVariants.{Assigned}

-- ---- lanes with the same steps

pub same_length : (old new : List Lane) → only_steps new ≡ only_steps old → length new ≡ length old
same_length old new e = sym (length-map new (λ (l : Lane). l.steps))
    ∙ (ap (λ q. length q) e ∙ length-map old (λ (l : Lane). l.steps))

pub same_steps : (old new : List Lane) → only_steps new ≡ only_steps old → (m : ℕ) → (lane_at new m).steps ≡ (lane_at old m).steps
same_steps old new e m =
    let at = λ (ls : List Lane). get_or-map (λ (l : Lane). l.steps) ls m no_lane in
    sym (at new) ∙ (ap (λ (q : List (List Step)). get_or q m []) e ∙ at old)

-- ---- after a turn

pub steps_after : (t : Timing) (m : ℕ) (old new : List Lane) → new ≡ lanes_after t m old → only_steps new ≡ only_steps old
steps_after (Assigned c) m old new e = rw e (map-set_same (λ (l : Lane). l.steps) old m (lane_with_cycle (lane_at old m) c) no_lane refl)
steps_after t m old new e = rw e refl

cycles_after : (t : Timing) (m : ℕ) (lanes : List Lane) → m < length lanes
    → cycles_in (lanes_after t m lanes) ≡ cycles_in lanes + ticks_of t
cycles_after (Assigned c) m lanes l =
    let all = sum_by-set (λ (q : Lane). length q.cycles) lanes m (lane_with_cycle (lane_at lanes m) c) no_lane l in
    let one = length-append (lane_at lanes m).cycles (c ∷ []) in
    omega arith
cycles_after t m lanes l = omega arith

-- each tick is a cycle more
pub ticks_after : (t : Timing) (m : ℕ) (old new : List Lane) (before after : ℕ) → m < length old → new ≡ lanes_after t m old
    → after ≡ before + ticks_of t
    → after + cycles_in old ≡ before + cycles_in new
ticks_after t m old new before after l e ticks =
    let all = cycles_after t m old l in
    let same = ap cycles_in e in
    omega arith

-- ---- after a cut

pub steps_below : (t : ℕ) (lanes : List Lane) → only_steps (map (timed_below t) lanes) ≡ only_steps lanes
steps_below t [] = refl
steps_below t (l ∷ lanes) = ap (λ (rest : List (List Step)). l.steps ∷ rest) (steps_below t lanes)

-- ---- no more cycles than steps

pub sum_map : {X Y : Type 0} (f : Y → ℕ) (g : X → Y) (xs : List X) → sum_by f (map g xs) ≡ sum_by (λ x. f (g x)) xs
sum_map f g [] = refl
sum_map f g (x ∷ xs) =
    sum_by-cons f (g x) (map g xs) ∙ (ap (λ (n : ℕ). f (g x) + n) (sum_map f g xs) ∙ sym (sum_by-cons (λ y. f (g y)) x xs))

pub cycles_within : (lanes : List Lane) → All IsSoundLane lanes → cycles_in lanes ≤ steps_in_lanes lanes
cycles_within [] s = omega arith
cycles_within (l ∷ lanes) s =
    let here : IsSoundLane l = s 0 l (omega arith) in
    let p = here.prefix in
    let a = sum_by-cons (λ (q : Lane). length q.cycles) l lanes in
    let b = sum_by-cons (λ (q : Lane). length q.steps) l lanes in
    let rest = cycles_within lanes (λ k d u. s (suc k) d (omega arith)) in
    omega arith

-- where each tick is a cycle more, there are no more ticks than there are steps beside those whose cycles were kept
pub few_cycles : (old new : List Lane) → All IsSoundLane new → only_steps new ≡ only_steps old → (after before kept : ℕ)
    → after + kept ≡ before + cycles_in new → after + kept ≤ before + steps_in_lanes old
few_cycles old new s e after before kept t =
    let within = cycles_within new s in
    let count = λ (q : List Step). length q in
    let steps = λ (l : Lane). l.steps in
    let same = sym (sum_map count steps new) ∙ (ap (sum_by count) e ∙ sum_map count steps old) in
    omega arith
