-- The record of a module's answers, compared with the answers of a report.
use Rattle.std.specs.Prelude.{◌≡◌, ℕ, ◌<◌, ◌⊎◌, Bool, List, [], length, slice_index_or}
use Rattle.outcome_guard.specs.{IsPrefix, RunCount}

-- the answers of module m
abbrev pub answers_of : List (List Bool) → ℕ → List Bool
answers_of all m = slice_index_or all m []

-- the answers that are kept, and how many runs were counted
abbrev pub run_count : List (List Bool) → ℕ → RunCount
run_count kept runs = record { kept = kept; runs = runs }

-- for each module the answers that are found are a prefix of those that are kept
abbrev pub RepeatsAnswers : List (List Bool) → List (List Bool) → Type 0
RepeatsAnswers kept found = (m : ℕ) → m < length kept → IsPrefix (answers_of found m) (answers_of kept m)

-- a module's record goes on: it begins with what was kept and with what is found, and is one of these two
pub record RecordGoesOn (kept found now : List Bool) : Type 0 where
  pub grew : IsPrefix kept now
  pub begins : IsPrefix found now
  pub ends : (now ≡ kept) ⊎ (now ≡ found)
