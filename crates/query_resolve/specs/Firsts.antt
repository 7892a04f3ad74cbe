-- The first of the least cycles, found by rounds: of two the sooner one goes on to the next round.
use Rattle.std.specs.Prelude.{◌≡◌, ℕ, ◌+◌, ◌*◌, ◌^◌, ◌<◌, ◌≤◌, ◌≢◌, ◌⊎◌, List, Option, None, Some, length, slice_index_or}
use Rattle.event_graph.specs.{Candidate}
use Rattle.event_graph.specs.declared.candidate.Candidate.TheVariants.{At, Waits, Beyond, Nothing}
use Rattle.query_resolve.specs.declared.rounds.First.{First}

-- what module n has, by its candidate
abbrev pub first_by : ℕ → Candidate → Option First
first_by n (At cycle) = Some (record { cycle = cycle; owner = n })
first_by n (Waits i) = None
first_by n Beyond = None
first_by n Nothing = None

-- the first one is no later: its cycle is less, or the same and its module no higher
abbrev pub ComesFirst : First → First → Type 0
ComesFirst a b = (a.cycle < b.cycle) ⊎ ((a.cycle ≡ b.cycle) × (a.owner ≤ b.owner))

-- where there is a first entry, the second one is there too, and comes no later
abbrev pub IsBeaten : Option First → Option First → Type 0
IsBeaten None winner = Unit {0}
IsBeaten (Some b) winner = (a : First) × ((winner ≡ Some a) × ComesFirst a b)

-- the winner is one of the two entries, and neither comes before it
pub record IsWinner (one other winner : Option First) : Type 0 where
  pub is : (winner ≡ one) ⊎ (winner ≡ other)
  pub beats_one : IsBeaten one winner
  pub beats_other : IsBeaten other winner

-- the entry at place j; none where no candidate came there
abbrev pub at_place : List (Option First) → ℕ → Option First
at_place places j = slice_index_or places j None

-- at place j stands the winner of places 2j and 2j + 1
abbrev pub IsWonAt : List (Option First) → ℕ → Type 0
IsWonAt places j = IsWinner (at_place places (2 * j)) (at_place places (2 * j + 1)) (at_place places j)

-- at each place j from 1 on and below a count, except perhaps at one, stands the winner of places 2j and 2j + 1
abbrev pub AreWonBut : List (Option First) → ℕ → ℕ → Type 0
AreWonBut places count but = (j : ℕ) → 1 ≤ j → j < count → j ≢ but → IsWonAt places j

-- the entries of the modules stand at the places from their count on, in order, and the winner of all is at place 1
pub record HasWinners (candidates : List Candidate) (places : List (Option First)) : Type 0 where
  pub few : length candidates < 2 ^ 32
  pub count : length places ≡ 2 * length candidates
  pub begins : (n : ℕ) → n < length candidates
      → at_place places (length candidates + n) ≡ first_by n (slice_index_or candidates n Nothing)
  pub won : AreWonBut places (length candidates) 0
