-- Which cycles are kept where those from a clock on are forgotten.
use Rattle.std.proofs.Common.{◌≡◌, refl, ℕ, suc, zero, ◌<◌, Bool, true, false, List, [], ◌∷◌, length, map, nat_lt, arith, cond, inl, inr}
use Rattle.std.proofs.{lemmas.Bool.Decides.nat_tests, lemmas.List.get_or_past, lemmas.Bool.cases_lt, Math.ListN.get_or-map}
use Rattle.std.proofs.lemmas.List.Kept.{AllPairs-from_increasing}
use Rattle.std.specs.{Prelude.All, Prelude.AllPairs, Prelude.filter, Prelude.slice_get, List.Sorted.IsStrictlyIncreasing}
use Rattle.event_graph.specs.{Place, Lane, IsSoundLane, no_lane, timed_below, if_below, lane_at, cycle_of}
use Rattle.event_graph.proofs.Growth.{none_pass}

head_kept : (cycle x : ℕ) (xs : List ℕ) → ((k : ℕ) → slice_get (filter (λ c. nat_lt c cycle) xs) k ≡ if_below cycle (slice_get xs k))
    → All (λ y. x < y) xs
    → (b : Bool) → nat_lt x cycle ≡ b → (k : ℕ)
    → slice_get (cond b (x ∷ filter (λ c. nat_lt c cycle) xs) (filter (λ c. nat_lt c cycle) xs)) k ≡ if_below cycle (slice_get (x ∷ xs) k)
head_kept cycle x xs rest later true e zero = rw e refl
head_kept cycle x xs rest later true e (suc k) = rest k
head_kept cycle x xs rest later false e zero =
    let none = none_pass (λ c. nat_lt c cycle) xs (λ j d h. let l = later j d h in grind (arith, nat_tests)) in rw (e, none) refl
head_kept cycle x xs rest later false e (suc k) =
    let none = none_pass (λ c. nat_lt c cycle) xs (λ j d h. let l = later j d h in grind (arith, nat_tests)) in
    let past = rest k in rw none (rw none at past)

-- of numbers that rise those below a bound keep their places
kept_at : (cycle : ℕ) (xs : List ℕ) → AllPairs (λ x y. x < y) xs → (k : ℕ)
    → slice_get (filter (λ c. nat_lt c cycle) xs) k ≡ if_below cycle (slice_get xs k)
kept_at cycle [] rises k = refl
kept_at cycle (x ∷ xs) rises k =
    head_kept cycle x xs (kept_at cycle xs (λ i j d l h. rises (suc i) (suc j) d (omega arith) (omega arith)))
    (λ j d h. rises 0 (suc j) d (omega arith) (omega arith)) (nat_lt x cycle) refl k

-- the cycles of a lane rise, also where there is no such lane
rising_at : (lanes : List Lane) (owner : ℕ) → All IsSoundLane lanes → IsStrictlyIncreasing (lane_at lanes owner).cycles
rising_at lanes owner sound =
    elim (cases_lt owner (length lanes)) [
      | inl there ↦ let here = sound owner no_lane there in here.rising
      | inr past ↦ rw (get_or_past lanes owner no_lane past) (λ k h. absurd (omega arith))
    ]

-- a step keeps its cycle where that is below the clock, and has none otherwise
pub cycle_kept : (cycle : ℕ) (lanes : List Lane) → All IsSoundLane lanes → (place : Place)
    → cycle_of (map (timed_below cycle) lanes) place ≡ if_below cycle (cycle_of lanes place)
cycle_kept cycle lanes sound place =
    rw (get_or-map (timed_below cycle) lanes place.module no_lane)
    (kept_at cycle _ (AllPairs-from_increasing _ (rising_at lanes place.module sound)) place.step)
