-- A lane stays sound with a step more, and a cut at a bound keeps what is below the bound.
use Rattle.std.proofs.Common.{◌≡◌, refl, ℕ, ◌+◌, ◌<◌, ◌≤◌, Bool, true, false, List, [], ◌∷◌, ◌++◌, length, take, drop, map, arith}
use Rattle.std.proofs.{Math.ListN.set, lemmas.List.Kept.AllPairs-from_increasing, lemmas.Grind.common_steps}
use Rattle.std.proofs.lemmas.List.{take-append-drop, length-append, map-set}
use Rattle.std.proofs.lemmas.List.Elements.{All-nil, All-head, All-tail, All-push, All-set, filter-append}
use Rattle.std.specs.Prelude.{All, filter}
use Rattle.std.specs.List.Sorted.{IsPartitionPoint, IsStrictlyIncreasing, IsNonDecreasingBy}
use Rattle.event_graph.specs.{Step, Lane, IsSoundStep, IsSoundLane, RoomedLane}

-- what holds of each but the first holds so with one more at the end
rest_push : {X : Type 0} (P : X → Type 0) (xs : List X) (x : X) → All P (drop 1 xs) → (0 < length xs → P x) → All P (drop 1 (xs ++ x ∷ []))
rest_push P [] x h p = All-nil P
rest_push P (y ∷ xs) x h p = All-push P xs x h (p (omega arith))

-- a lane with a step more
pub longer_sound : (lane : Lane) (step : Step) (steps : List Step) (cycles : List ℕ) → IsSoundLane lane → IsSoundStep step
    → (0 < length lane.steps → 1 ≤ step.gap)
    → steps ≡ lane.steps ++ step ∷ [] → cycles ≡ lane.cycles → IsSoundLane (record { steps = steps; cycles = cycles })
longer_sound lane step steps cycles sound small apart more same = rw (more, same) (record {
  steps = All-push IsSoundStep lane.steps step sound.steps small;
  apart = rest_push (λ (s : Step). 1 ≤ s.gap) lane.steps step sound.apart apart;
  prefix = let p = sound.prefix in omega (arith, length-append lane.steps (step ∷ []));
  rising = sound.rising;
  below = sound.below;
})

all_pass : (p : ℕ → Bool) (xs : List ℕ) → All (λ x. p x ≡ true) xs → filter p xs ≡ xs
all_pass p [] h = refl
all_pass p (x ∷ xs) h = rw (All-head (λ y. p y ≡ true) x xs h, all_pass p xs (All-tail (λ y. p y ≡ true) x xs h)) refl

pub none_pass : (p : ℕ → Bool) (xs : List ℕ) → All (λ x. p x ≡ false) xs → filter p xs ≡ []
none_pass p [] h = refl
none_pass p (x ∷ xs) h = rw (All-head (λ y. p y ≡ false) x xs h) (none_pass p xs (All-tail (λ y. p y ≡ false) x xs h))

-- what stands before the point where a test fails is what passes the test
pub before_point : (p : ℕ → Bool) (xs : List ℕ) (i : ℕ) → i ≤ length xs → IsPartitionPoint (λ y. p y ≡ true) (λ y. p y ≡ false) xs i
    → take i xs ≡ filter p xs
before_point p xs i le point =
    let front : All (λ y. p y ≡ true) (take i xs) = λ k d l. grind (arith, common_steps, point.0 k d) in
    let back : All (λ y. p y ≡ false) (drop i xs) = λ k d l. grind (arith, common_steps, point.1 (i + k) d) in
    let parts = filter-append p (take i xs) (drop i xs) in
    let whole = take-append-drop i xs in
    let a = all_pass p (take i xs) front in
    let b = none_pass p (drop i xs) back in
    grind (arith, common_steps)

-- numbers that rise don't fall
pub never_falls : (xs : List ℕ) → IsStrictlyIncreasing xs → IsNonDecreasingBy (λ y. y) xs
never_falls xs rises i j d le lt = let pair = AllPairs-from_increasing xs rises i j d in grind (arith, pair)

-- the lanes of a list in which one became another sound one
pub all_sound : (xs : List RoomedLane) (i : ℕ) (new : RoomedLane) → All IsSoundLane (map (λ (l : RoomedLane). l.lane) xs)
    → IsSoundLane new.lane
    → All IsSoundLane (map (λ (l : RoomedLane). l.lane) (set xs i new))
all_sound xs i new sound here = rw (map-set (λ (l : RoomedLane). l.lane) xs i new)
    (All-set IsSoundLane (map (λ (l : RoomedLane). l.lane) xs) i new.lane here sound)
