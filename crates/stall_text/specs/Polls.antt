-- Modules that poll: they move, and get nothing by it.
use Rattle.std.specs.Prelude.{ℕ, ◌==◌, Bool, true, false, not, ◌&&◌, if◌then◌else◌, List, [], ◌∷◌, ◌++◌, length, codes, decimal, count_by}
use Rattle.std.specs.Prelude.{filter}
use Rattle.std.specs.List.{flat_map, list_any, range_with_len}
use Rattle.flow_word.specs.{Kind}
use Rattle.flow_word.specs.declared.access.Kind.TheVariants.{Read, Write, TryRead, TryWrite, Empty, Full}
use Rattle.flow_design.specs.{Plan, Token}
use Rattle.timelines.specs.{last_clock}
use Rattle.report_text.specs.{module_name, channel_name, kind_token}
use Rattle.sim_core.specs.{log_of, LoggedAccess}

-- ---- missed queries

-- the query is missed: its outcome tells that it moved nothing, or that the channel was empty or full
abbrev pub misses : Kind → Bool → Bool
misses Read outcome = false
misses Write outcome = false
misses TryRead outcome = not outcome
misses TryWrite outcome = not outcome
misses Empty outcome = outcome
misses Full outcome = outcome

abbrev pub is_missed : LoggedAccess → Bool
is_missed a = misses a.event.kind a.outcome

-- ---- one module

abbrev pub is_of : ℕ → LoggedAccess → Bool
is_of i a = a.event.«module» == i

-- what the accesses of module i gave, in order
abbrev pub log_of_module : Plan → ℕ → List LoggedAccess
log_of_module p i = filter (is_of i) (log_of p)

-- there are accesses in clock c among these, and each of them is a missed query
abbrev pub polls_in : List LoggedAccess → ℕ → Bool
polls_in accesses c =
    list_any (λ a. a.event.cycle == c) accesses && not (list_any (λ a. (a.event.cycle == c) && not (is_missed a)) accesses)

-- in how many clocks before the verdict's module i polls
unfoldable pub polled_clocks : Plan → ℕ → ℕ
polled_clocks p i = count_by (polls_in (log_of_module p i)) (range_with_len 0 (last_clock p))

-- ---- queries of a kind on a channel

-- two kinds are the same kind of query
abbrev pub same_query : Kind → Kind → Bool
same_query TryRead TryRead = true
same_query TryWrite TryWrite = true
same_query Empty Empty = true
same_query Full Full = true
same_query _ _ = false

abbrev pub is_query_on : Kind → ℕ → LoggedAccess → Bool
is_query_on kind f a = same_query kind a.event.kind && (f == a.event.channel)

-- the queries of this kind on channel f that module i makes
abbrev pub queries_on : Plan → ℕ → Kind → ℕ → List LoggedAccess
queries_on p i kind f = filter (λ a. is_of i a && is_query_on kind f a) (log_of p)

-- ---- lines

-- the line `polls M N`, if N is not 0
abbrev pub polls_lines : Token → ℕ → List (List Token)
polls_lines name n = if n == 0 then [] else (codes "polls" ∷ name ∷ decimal n ∷ []) ∷ []

-- the line `poll M KIND F TRIED MISSED`, if TRIED is not 0
abbrev pub query_lines : Token → Kind → Token → ℕ → ℕ → List (List Token)
query_lines name kind channel tried missed =
    if tried == 0 then [] else (codes "poll" ∷ name ∷ kind_token kind ∷ channel ∷ decimal tried ∷ decimal missed ∷ []) ∷ []

-- for each channel, in order of declaration, the lines of each kind of query
abbrev pub at_each_query : ℕ → (ℕ → Kind → List (List Token)) → List (List Token)
at_each_query channels lines =
    flat_map (λ f. ((lines f TryRead ++ lines f TryWrite) ++ lines f Empty) ++ lines f Full) (range_with_len 0 channels)

abbrev pub tries_of : Plan → ℕ → ℕ → Kind → List (List Token)
tries_of p i f kind =
    let queries = queries_on p i kind f in
    query_lines (module_name p.design i) kind (channel_name p.design f) (length queries) (count_by is_missed queries)

-- the lines of module i that `--polls` adds
abbrev pub poll_lines : Plan → ℕ → List (List Token)
poll_lines p i = polls_lines (module_name p.design i) (polled_clocks p i) ++ at_each_query (length p.design.channels) (tries_of p i)
