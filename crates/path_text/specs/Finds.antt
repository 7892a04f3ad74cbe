-- What the walk along the chain keeps of the queries in a log.
use Rattle.std.specs.Prelude.{◌≡◌, ℕ, ◌≤◌, ◌<◌, nat_le, nat_lt, Bool, true, false, ◌&&◌, ◌||◌, if◌then◌else◌, Option, Some, None}
use Rattle.std.specs.Prelude.{option_map, List, [], All, AllPairs, filter, fold, length, map, slice_index_or}
use Rattle.flow_word.specs.{Kind, Side, declared.access.Kind.TheVariants.TryRead, declared.access.Kind.TheVariants.Empty}
use Rattle.flow_design.specs.{Plan}
use Rattle.sim_core.specs.{LoggedAccess}
use Rattle.stall_text.specs.{is_query_on, is_missed, is_of}
use Rattle.depth_order.specs.{Link}
use Rattle.path_text.specs.{declared.link.PolledLink.PolledLink, declared.finds.Find.Find, declared.finds.LastMissed.LastMissed}
use Rattle.path_text.specs.Polls.{ends_poll, from_query, front_pushed, passing_clocks}

-- ---- the clocks of moved elements

-- one entry per channel: the clocks of the log in which elements were moved at this side
pub record AreMoved (side : Side) (channels : ℕ) (log : List LoggedAccess) (clocks : List (List ℕ)) : Type 0 where
  pub count : length clocks ≡ channels
  pub each : (f : ℕ) → f < channels → slice_index_or clocks f [] ≡ passing_clocks log side f

-- ---- the last missed query

-- no query was missed
abbrev pub unmissed : LastMissed
unmissed = record { tryread = None; empty = None }

-- the clock of the last missed query of this kind, if one was missed
abbrev pub missed_of : LastMissed → Kind → Option ℕ
missed_of m TryRead = m.tryread
missed_of m Empty = m.empty
missed_of m _ = None

-- the last missed queries after an access of this kind in this clock, which was missed or was not
abbrev pub missed_by : Bool → Kind → ℕ → LastMissed → LastMissed
missed_by false kind c m = m
missed_by true TryRead c m = record { tryread = Some c; empty = m.empty }
missed_by true Empty c m = record { tryread = m.tryread; empty = Some c }
missed_by true kind c m = m

-- the last missed queries after one more access
abbrev pub missed_with : LastMissed → LoggedAccess → LastMissed
missed_with m a = missed_by (is_missed a) a.event.kind a.event.cycle m

-- the last clock of a missed query of this kind on channel f, after one more access; and then, after all accesses of a log
abbrev pub missed_more : Kind → ℕ → Option ℕ → LoggedAccess → Option ℕ
missed_more kind f o a = if is_query_on kind f a && is_missed a then Some a.event.cycle else o

unfoldable pub last_missed : List LoggedAccess → Kind → ℕ → Option ℕ
last_missed log kind f = fold (missed_more kind f) None log

-- one entry per channel: the last missed queries of each kind in the log
pub record AreMissed (channels : ℕ) (log : List LoggedAccess) (missed : List LastMissed) : Type 0 where
  pub count : length missed ≡ channels
  pub tryread : (f : ℕ) → f < channels → (slice_index_or missed f unmissed).tryread ≡ last_missed log TryRead f
  pub empty : (f : ℕ) → f < channels → (slice_index_or missed f unmissed).empty ≡ last_missed log Empty f

-- ---- the queries that found an element

-- the find that the access a is, if it found an element and one like it was missed before
abbrev pub found_by : Bool → Option ℕ → LoggedAccess → ℕ → Option Find
found_by hit missed a pushed = if hit then option_map (λ v. record { access = a; missed = v; pushed = pushed }) missed else None

abbrev pub find_clock : Find → ℕ
find_clock f = f.access.event.cycle

-- the find is of the link's module and in the link's clocks, and so is its missed query
abbrev pub lies_in : Link → Find → Bool
lies_in l f =
    is_of l.«module» f.access && ((nat_le l.first (find_clock f) && nat_le (find_clock f) l.last) && nat_le l.first f.missed)

-- the find comes before the one that was found; and then, before the link or the one that was found
abbrev pub precedes : Find → Option Find → Bool
precedes f None = false
precedes f (Some g) = nat_lt (find_clock f) (find_clock g)

abbrev pub precedes_link : Find → Link → Option Find → Bool
precedes_link f l found = nat_lt (find_clock f) l.first || precedes f found

-- what is found after a look at one more find, which is not later
abbrev pub with_find : Option Find → Find → Link → Option Find
with_find found f l = if lies_in l f then Some f else found

-- the finds are in order of time
abbrev pub AreChronological : List Find → Type 0
AreChronological finds = AllPairs (λ f g. f.access.event.cycle ≤ g.access.event.cycle) finds

-- the list has just the queries that end a poll, for each link, and the clocks in which what they found was pushed
pub record AreFinds (p : Plan) (log : List LoggedAccess) (finds : List Find) : Type 0 where
  pub in_order : AreChronological finds
  pub pushed : All (λ f. f.pushed ≡ front_pushed log f.access.event.channel f.access.event.cycle) finds
  pub each : (l : Link) → map (λ f. f.access) (filter (lies_in l) finds)
      ≡ filter (ends_poll p (filter (is_of l.«module») log) l.first l.last) (filter (is_of l.«module») log)

-- the link from the find on; the whole link where there is none
abbrev pub by_find : Link → Option Find → PolledLink
by_find l None = record { link = l; polled = None }
by_find l (Some f) = from_query l f.access f.pushed
