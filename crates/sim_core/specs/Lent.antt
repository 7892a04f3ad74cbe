-- What a mail is made of: the run's counts, the log and the table.
use Rattle.std.specs.Prelude.{◌≡◌, ℕ, ◌+◌, ◌-◌, Bool, cond, eqb, List, [], ◌++◌, map, take, drop, slice_index}
use Rattle.flow_word.specs.{Access}
use Rattle.fifo_table.specs.{Channel}
use Rattle.module_interp.specs.{ModuleRun, inlets_of, popped_in}
use Rattle.engine_view.specs.{values_at, queries_in}
use Rattle.run_ahead.specs.{Mail}

-- a loop over outcomes has read those before number `at`
pub record IsReadingOutcomes (all : List Bool) (first count : ℕ) (read : List Bool) (at : ℕ) : Type 0 where
  pub same : read ++ take (count - at) (drop (first + at) all) ≡ take count (drop first all)

-- a loop over the values of a channel has read those before number `at`
pub record IsReadingValues (all : List ℕ) (first : ℕ) (read : List ℕ) (at : ℕ) : Type 0 where
  pub same : read ++ drop at all ≡ drop first all

-- the values that a module's next pops of a channel find, where it popped so many of each; none where another module pops it
abbrev pub mailed : List Channel → List ℕ → ℕ → (ℕ → ℕ) → ℕ → List ℕ
mailed channels readers m popped c = cond (eqb (slice_index readers c) m) (drop (popped c) (values_at channels c)) []

-- the mail of a module that made so many queries, waits for the replies to these accesses, and made its run's pops
pub record IsMade (outcomes : List Bool) (channels : List Channel) (readers : List ℕ) (m first : ℕ) (run : ModuleRun)
    (accesses : List Access) (mail : Mail) : Type 0 where
  pub told : mail.outcomes ≡ take (queries_in accesses) (drop first outcomes)
  pub pops : mail.channels ≡ inlets_of run
  pub values : mail.values ≡ map (mailed channels readers m (popped_in run)) mail.channels
