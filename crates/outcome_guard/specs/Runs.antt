-- How many runs the reports of a design after its edits count: a report begins no run where, in every module, its outcomes and the
-- kept ones are such that one list begins with the other.
use Rattle.std.specs.Prelude.{◌+◌, Bool, true, false, not, ◌&&◌, ◌||◌, if◌then◌else◌, nat_lt, List, [], ◌∷◌, length}
use Rattle.outcome_guard.specs.declared.count.RunCount.{RunCount}

-- ---- one list of outcomes beside another

abbrev pub same_outcome : Bool → Bool → Bool
same_outcome true b = b
same_outcome false b = not b

-- the second list begins with the first
abbrev pub is_prefix_of : List Bool → List Bool → Bool
is_prefix_of [] b = true
is_prefix_of (x ∷ a) [] = false
is_prefix_of (x ∷ a) (y ∷ b) = same_outcome x y && is_prefix_of a b

-- one of the lists is a prefix of the other
abbrev pub agree_so_far : List Bool → List Bool → Bool
agree_so_far a b = is_prefix_of a b || is_prefix_of b a

-- the longer of two lists, or the first where they have the same length
abbrev pub longer : List Bool → List Bool → List Bool
longer a b = if nat_lt (length a) (length b) then b else a

-- ---- the answers of all modules

-- in every module one of the two lists is a prefix of the other
abbrev pub all_go_on : List (List Bool) → List (List Bool) → Bool
all_go_on [] found = true
all_go_on (a ∷ kept) [] = true
all_go_on (a ∷ kept) (b ∷ found) = agree_so_far a b && all_go_on kept found

abbrev pub all_longer : List (List Bool) → List (List Bool) → List (List Bool)
all_longer [] found = []
all_longer (a ∷ kept) [] = a ∷ kept
all_longer (a ∷ kept) (b ∷ found) = longer a b ∷ all_longer kept found

-- ---- the count

-- the count after the first report, with its answers
abbrev pub first_counts : List (List Bool) → RunCount
first_counts answers = record { kept = answers; runs = 1 }

-- the count after one more report, with its answers: where in every module one of the lists is a prefix of the other, every module
-- keeps the longer list; else there is one more run, whose answers are kept
unfoldable pub next_counts : RunCount → List (List Bool) → RunCount
next_counts old found =
    if all_go_on old.kept found
    then record { kept = all_longer old.kept found; runs = old.runs }
    else record { kept = found; runs = old.runs + 1 }

-- the count after all further reports, with their answers
abbrev pub counts_after : RunCount → List (List (List Bool)) → RunCount
counts_after old [] = old
counts_after old (found ∷ more) = counts_after (next_counts old found) more
