-- The chain of rests of a module's own run: each rest is the next one after the replies to the rest before it.
use Rattle.std.specs.Prelude.{ℕ, zero, suc, ◌+◌, ◌<◌, List, [], ◌∷◌, ◌++◌, slice_index_or, IsTrue}
use Rattle.flow_design.specs.{Plan, Advance, Reply}
use Rattle.lockstep_defs.specs.{opened, module_at, Own, own_after, quiet}
use Rattle.module_interp.specs.{OwnRests.first_rest, OwnRests.next_rest, OwnRests.requests_at, OwnRests.mark_at, Runs.is_step}

-- the replies to the k-th rest, counted from 0
abbrev pub replies_to : List (List Reply) → ℕ → List Reply
replies_to replies k = slice_index_or replies k []

-- the k-th rest of module i's own run, counted from 0
unfoldable pub rest_at : Plan → ℕ → List (List Reply) → ℕ → Own
rest_at p i replies zero = first_rest p i
rest_at p i replies (suc k) = next_rest p i (rest_at p i replies k) (replies_to replies k)

-- the local clock of the k-th rest
unfoldable pub rest_clock : Plan → ℕ → List (List Reply) → ℕ → ℕ
rest_clock p i replies zero = quiet p i (opened (module_at p i))
rest_clock p i replies (suc k) =
    let o = rest_at p i replies k in
    quiet p i (own_after (module_at p i) o (requests_at p i o) (replies_to replies k)).state + suc (rest_clock p i replies k)

-- the marks of the first k rests
unfoldable pub marks_before : Plan → ℕ → List (List Reply) → ℕ → List Advance
marks_before p i replies zero = []
marks_before p i replies (suc k) = marks_before p i replies k ++ mark_at p i (rest_at p i replies k) ∷ []

-- each rest before the k-th is a step
abbrev pub GoesTo : Plan → ℕ → List (List Reply) → ℕ → Type 0
GoesTo p i replies k = (j : ℕ) → j < k → IsTrue (is_step (mark_at p i (rest_at p i replies j)))
