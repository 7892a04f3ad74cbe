-- The outcomes of each module's queries, of which a prefix is verified.
use Rattle.std.specs.Prelude.{ℕ, ◌+◌, ◌≤◌, Bool, List, [], ◌∷◌, ◌++◌, length, map, slice_get, slice_set, slice_index_or, Option}
use Rattle.query_log.specs.declared.roomy.RoomyLog.{RoomyLog}

-- a module's outcomes in order, and how many of the first are verified
pub record Log : Type 0 where
  pub outcomes : List Bool
  pub verified : ℕ

-- the log of each module, and how many further outcomes each takes without asking for memory
pub record RoomedLogs : Type 0 where
  pub logs : List Log
  pub rooms : List ℕ

-- a log without an outcome
abbrev pub no_log : Log
no_log = record { outcomes = []; verified = 0 }

-- the log of a module
abbrev pub log_at : List Log → ℕ → Log
log_at logs owner = slice_index_or logs owner no_log

-- the outcome of a module's query with this number, if there is one
abbrev pub outcome_of : List Log → ℕ → ℕ → Option Bool
outcome_of logs owner number = slice_get (log_at logs owner).outcomes number

-- the verified outcomes of a log are a prefix
abbrev pub IsSoundLog : Log → Type 0
IsSoundLog log = log.verified ≤ length log.outcomes

-- a log with one more outcome, verified
abbrev pub verified_more : Log → Bool → Log
verified_more log outcome = record { outcomes = log.outcomes ++ outcome ∷ []; verified = log.verified + 1 }

-- the logs with one more outcome of a module, verified
abbrev pub with_outcome : List Log → ℕ → Bool → List Log
with_outcome logs owner outcome = slice_set logs owner (verified_more (log_at logs owner) outcome)

-- a log with these further outcomes, all verified
abbrev pub all_answered : Log → List Bool → Log
all_answered log more = record { outcomes = log.outcomes ++ more; verified = length (log.outcomes ++ more) }

-- the logs with these further outcomes of a module, all verified
abbrev pub with_outcomes : List Log → ℕ → List Bool → List Log
with_outcomes logs owner more = slice_set logs owner (all_answered (log_at logs owner) more)

-- the logs with this many verified outcomes of a module
abbrev pub with_verified : List Log → ℕ → ℕ → List Log
with_verified logs owner verified = slice_set logs owner (record (log_at logs owner) { verified = verified })

-- a log without its room
abbrev pub bare_log : RoomyLog → Log
bare_log roomy = record { outcomes = roomy.outcomes.items; verified = roomy.verified }

-- the logs without their rooms
abbrev pub logs_of : List RoomyLog → List Log
logs_of logs = map bare_log logs

-- the rooms without their logs
abbrev pub rooms_in_logs : List RoomyLog → List ℕ
rooms_in_logs logs = map (λ l. l.outcomes.room) logs
