-- What a module polls for, and the chain that goes back to where that was pushed.
use Rattle.std.specs.Prelude.{◌<◌, ◌≡◌, ℕ, zero, suc, nat_le, nat_lt, Bool, true, false, not, ◌&&◌, ◌⊎◌, if◌then◌else◌, Option, Some, None}
use Rattle.std.specs.Prelude.{List, [], ◌∷◌, ◌++◌, filter, map, slice_index}
use Rattle.std.specs.List.{list_any}
use Rattle.flow_word.specs.{Kind, Side, declared.access.Side.TheVariants.Pop, declared.access.Side.TheVariants.Push}
use Rattle.flow_word.specs.declared.access.Kind.TheVariants.{TryRead, Empty}
use Rattle.flow_design.specs.{Plan, is_fifo, kind_at}
use Rattle.lockstep_defs.specs.{owner}
use Rattle.port_clocks.specs.{before}
use Rattle.sim_core.specs.{log_of, LoggedAccess}
use Rattle.stall_text.specs.{is_query_on, is_missed, is_of, access_clocks, moved_at}
use Rattle.depth_order.specs.{Link, first_mover}
use Rattle.path_text.specs.{declared.walk.At.At, declared.link.Polled.Polled, Walks.before_link, Walks.link_at}
use Rattle.path_text.specs.declared.link.PolledLink.{PolledLink}

-- ---- queries that found what was polled for

-- the access is a query that asks whether an element is there
abbrev pub seeks : Kind → Bool
seeks TryRead = true
seeks Empty = true
seeks _ = false

-- the access asks whether an element is there, and found one on a FIFO
abbrev pub is_hit : Plan → LoggedAccess → Bool
is_hit p a = seeks a.event.kind && (not (is_missed a) && is_fifo (kind_at p a.event.channel))

-- the access b asked the same as a on the same channel, from clock x on and before a's clock, and was missed
abbrev pub missed_before : ℕ → LoggedAccess → LoggedAccess → Bool
missed_before x a b =
    (is_query_on a.event.kind a.event.channel b && is_missed b) && (nat_le x b.event.cycle && nat_lt b.event.cycle a.event.cycle)

-- the access a found, by clock t, an element for which its module had polled from clock x on; these are the accesses of its module
abbrev pub ends_poll : Plan → List LoggedAccess → ℕ → ℕ → LoggedAccess → Bool
ends_poll p accesses x t a = is_hit p a && (nat_le a.event.cycle t && list_any (missed_before x a) accesses)

-- the one with the later clock; the first of the two where their clocks are equal
abbrev pub later_one : {X : Type 0} → (X → ℕ) → X → Option X → Option X
later_one clock a None = Some a
later_one clock a (Some b) = if nat_lt (clock a) (clock b) then Some b else Some a

-- the item with the latest clock; of several with that clock, the first
abbrev pub latest_one : {X : Type 0} → (X → ℕ) → List X → Option X
latest_one clock [] = None
latest_one clock (a ∷ rest) = later_one clock a (latest_one clock rest)

abbrev pub access_clock : LoggedAccess → ℕ
access_clock a = a.event.cycle

-- the query that ended the last poll of the link's module in the link's clocks, if there is one
abbrev pub last_poll : Plan → List LoggedAccess → Link → Option LoggedAccess
last_poll p log l =
    latest_one access_clock (filter (ends_poll p (filter (is_of l.«module») log) l.first l.last) (filter (is_of l.«module») log))

-- the clocks in which elements were moved at a side of channel f
abbrev pub passing_clocks : List LoggedAccess → Side → ℕ → List ℕ
passing_clocks log side f = access_clocks (filter (moved_at (record { side = side; channel = f })) log)

-- the clock in which the first element that FIFO f holds in clock u was pushed: as many were pushed before it as were popped before
-- clock u
abbrev pub front_pushed : List LoggedAccess → ℕ → ℕ → ℕ
front_pushed log f u = slice_index (passing_clocks log Push f) (before (passing_clocks log Pop f) u)

-- ---- the chain

-- the link from the query a on, which found an element pushed in this clock
abbrev pub from_query : Link → LoggedAccess → ℕ → PolledLink
from_query l a pushed = record {
  link = record { «module» = l.«module»; first = a.event.cycle; last = l.last; crossed = None };
  polled = Some (record { channel = a.event.channel; pushed = pushed; found = a.event.cycle });
}

abbrev pub link_by : List LoggedAccess → Link → Option LoggedAccess → PolledLink
link_by log l None = record { link = l; polled = None }
link_by log l (Some a) = from_query l a (front_pushed log a.event.channel a.event.cycle)

-- the link from the query on that ended its module's last poll; the whole link where no poll ended there
abbrev pub polled_link : Plan → List LoggedAccess → Link → PolledLink
polled_link p log l = link_by log l (last_poll p log l)

-- where the chain goes on before a link: at the push of what was polled for, or as it does without polls where nothing was
abbrev pub before_by : Plan → Link → Option Polled → Option At
before_by p l None = before_link p l
before_by p l (Some q) = Some (record { «module» = owner p (record { side = Push; channel = q.channel }); clock = q.pushed })

abbrev pub before_polled : Plan → PolledLink → Option At
before_polled p l = before_by p l.link l.polled

abbrev pub going_on : (At → List PolledLink) → Option At → List PolledLink
going_on rest None = []
going_on rest (Some at) = rest at

-- the chain back from a move of a module, with at most n links, the latest first
unfoldable pub polled_chain : Plan → List LoggedAccess → ℕ → At → List PolledLink
polled_chain p log zero at = []
polled_chain p log (suc n) at =
    polled_link p log (link_at p at.«module» at.clock)
    ∷ going_on (λ before. polled_chain p log n before) (before_polled p (polled_link p log (link_at p at.«module» at.clock)))

-- the whole chain back from a move: each link ends before those later in time begin, so from clock c it has at most c + 1 links
abbrev pub polled_from : Plan → List LoggedAccess → Option At → List PolledLink
polled_from p log o = going_on (λ at. polled_chain p log (suc at.clock) at) o

abbrev pub move_by : ℕ → Option ℕ → Option At → Option At
move_by c None earlier = earlier
move_by c (Some m) earlier = Some (record { «module» = m; clock = c })

-- the last clock below this one in which a module moves, and the first module that moves in it
unfoldable pub last_move : Plan → ℕ → Option At
last_move p zero = None
last_move p (suc c) = move_by c (first_mover p c) (last_move p c)

-- the chain back from the last move below this clock
abbrev pub polled_path : Plan → List LoggedAccess → ℕ → List PolledLink
polled_path p log clock = polled_from p log (last_move p clock)

-- the links of the chain
abbrev pub links_in : List PolledLink → List Link
links_in chain = map (λ l. l.link) chain

abbrev pub if_some : {X : Type 0} → Option X → List X
if_some None = []
if_some (Some x) = x ∷ []

abbrev pub polls_along : List PolledLink → List Polled
polls_along [] = []
polls_along (l ∷ chain) = if_some l.polled ++ polls_along chain

-- the second link ends before the first begins
abbrev pub EndsEarlier : Link → Link → Type 0
EndsEarlier l k = k.last < l.first

-- the log is empty, or it is what each access of the plan gave
abbrev pub AreAccesses : Plan → List LoggedAccess → Type 0
AreAccesses p log = (log ≡ []) ⊎ (log ≡ log_of p)
