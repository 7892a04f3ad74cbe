-- What is kept of how modules poll, by the accesses of a log.
use Rattle.std.specs.Prelude.{ℕ, ◌≡◌, ◌<◌, ◌+◌, ◌^◌, ◌==◌, ⊤, Bool, false, ◌&&◌, if◌then◌else◌, Option, Some, None, List, [], ◌∷◌, ◌++◌}
use Rattle.std.specs.Prelude.{count_by, filter, fold, length, slice_index_or}
use Rattle.flow_word.specs.{Kind}
use Rattle.flow_word.specs.declared.access.Kind.TheVariants.{TryRead, TryWrite, Empty, Full}
use Rattle.flow_design.specs.{Design, Plan, Token}
use Rattle.report_text.specs.{module_name, channel_name}
use Rattle.sim_core.specs.{log_of, LoggedAccess}
use Rattle.stall_text.specs.{declared.queries.Queries.Queries, declared.polls.Polling.Polling, declared.polls.Polls.Polls}
use Rattle.stall_text.specs.declared.queries.AllQueries.{AllQueries}
use Rattle.stall_text.specs.Polls.{is_query_on, at_each_query, is_missed, is_of, polls_lines, query_lines}

-- ---- a module

-- what is kept of a module before its first access
abbrev pub unpolled : Polling
unpolled = record { before = 0; last = None; missing = false }

abbrev pub one_if : Bool → ℕ
one_if b = if b then 1 else 0

-- in how many clocks a module polled so far
abbrev pub polled_so_far : Polling → ℕ
polled_so_far m = m.before + one_if m.missing

-- the module's last clock with an access is this one
abbrev pub is_last : Option ℕ → ℕ → Bool
is_last None c = false
is_last (Some l) c = l == c

-- what is kept of a module after one more access
abbrev pub polling_with : Polling → LoggedAccess → Polling
polling_with m a =
    if is_last m.last a.event.cycle then record { before = m.before; last = m.last; missing = m.missing && is_missed a }
    else record { before = polled_so_far m; last = Some a.event.cycle; missing = is_missed a }

-- what is kept of a module after these accesses
abbrev pub polling_of : List LoggedAccess → Polling
polling_of accesses = fold polling_with unpolled accesses

-- ---- the queries of a kind on a channel

-- the module of the last of these accesses, or i where there is none
abbrev pub last_module : ℕ → List LoggedAccess → ℕ
last_module i [] = i
last_module i (a ∷ accesses) = last_module a.event.«module» accesses

-- what is kept of no queries
abbrev pub unasked : Queries
unasked = record { owner = 0; tried = 0; missed = 0 }

-- what is kept of these queries: the module that made the last, how many there are, and how many were missed
abbrev pub tally_of : List LoggedAccess → Queries
tally_of queries = record { owner = last_module 0 queries; tried = length queries; missed = count_by is_missed queries }

-- what is kept after one more query
abbrev pub with_query : LoggedAccess → Queries → Queries
with_query a q = record { owner = a.event.«module»; tried = q.tried + 1; missed = q.missed + one_if (is_missed a) }

-- what is kept of the queries of this kind on channel f in a log
unfoldable pub asked_at : List LoggedAccess → Kind → ℕ → Queries
asked_at log kind f = tally_of (filter (is_query_on kind f) log)

-- the line of these queries, if they are module i's
abbrev pub own_queries : ℕ → Token → Kind → Token → Queries → List (List Token)
own_queries i name kind channel q = if q.owner == i then query_lines name kind channel q.tried q.missed else []

-- this is what is kept of the queries of this kind on each channel in a log
pub record AreAsked (channels : ℕ) (kind : Kind) (log : List LoggedAccess) (queries : List Queries) : Type 0 where
  pub count : length queries ≡ channels
  pub each : (f : ℕ) → f < channels → slice_index_or queries f unasked ≡ asked_at log kind f

-- what is kept of the queries of this kind, channel by channel; nothing for a read or a write
abbrev pub of_kind : AllQueries → Kind → List Queries
of_kind all TryRead = all.tryreads
of_kind all TryWrite = all.trywrites
of_kind all Empty = all.empties
of_kind all Full = all.fulls
of_kind all _ = []

-- the lines of module i's queries of this kind on channel f, from what is kept
abbrev pub all_queries : Design → ℕ → AllQueries → ℕ → Kind → List (List Token)
all_queries design i all f kind =
    own_queries i (module_name design i) kind (channel_name design f) (slice_index_or (of_kind all kind) f unasked)

-- ---- all modules

-- the lines of module i that are printed from what is kept
abbrev pub kept_lines : Design → ℕ → Polls → List (List Token)
kept_lines design i polls =
    polls_lines (module_name design i) (polled_so_far (slice_index_or polls.modules i unpolled))
    ++ at_each_query (length design.channels) (all_queries design i polls.queries)

-- the lines of how module i polls; none where they are not asked for
abbrev pub polling_lines : Design → ℕ → Option Polls → List (List Token)
polling_lines design i None = []
polling_lines design i (Some polls) = kept_lines design i polls

-- what is kept of queries has an entry for each of `channels` channels
pub record HaveChannels (channels : ℕ) (all : AllQueries) : Type 0 where
  pub tryreads : length all.tryreads ≡ channels
  pub trywrites : length all.trywrites ≡ channels
  pub empties : length all.empties ≡ channels
  pub fulls : length all.fulls ≡ channels

-- what is kept has an entry for each module and each channel of the design
pub record HavePolls (design : Design) (polls : Polls) : Type 0 where
  pub modules : length polls.modules ≡ length design.modules
  pub channels : HaveChannels (length design.channels) polls.queries
  pub few : (i : ℕ) → i < length design.modules → polled_so_far (slice_index_or polls.modules i unpolled) < 2 ^ 64

-- this is what is kept of the queries of each kind in a log
pub record AreQueries (channels : ℕ) (log : List LoggedAccess) (all : AllQueries) : Type 0 where
  pub tryreads : AreAsked channels TryRead log all.tryreads
  pub trywrites : AreAsked channels TryWrite log all.trywrites
  pub empties : AreAsked channels Empty log all.empties
  pub fulls : AreAsked channels Full log all.fulls

-- for each of `modules` modules this is what is kept of its accesses in a log
pub record ArePollings (modules : ℕ) (log : List LoggedAccess) (pollings : List Polling) : Type 0 where
  pub count : length pollings ≡ modules
  pub each : (i : ℕ) → i < modules → slice_index_or pollings i unpolled ≡ polling_of (filter (is_of i) log)
  pub few : (i : ℕ) → i < modules → polled_so_far (slice_index_or pollings i unpolled) < 2 ^ 64

-- this is what is kept of the log of a plan, if polls are asked for
abbrev pub ArePollsOf : Plan → Option Polls → Type 0
ArePollsOf p None = ⊤
ArePollsOf p (Some polls) =
    ArePollings (length p.design.modules) (log_of p) polls.modules × AreQueries (length p.design.channels) (log_of p) polls.queries
