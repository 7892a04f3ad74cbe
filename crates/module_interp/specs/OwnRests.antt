-- A module's own run from rest to rest: it rests in a local clock with a due FIFO operation, and once it is over.
use Rattle.std.specs.Prelude.{ℕ, ◌+◌, sum_by, Bool, true, false, not, ◌&&◌, if◌then◌else◌, List, [], ◌∷◌, map, length, flat_map}
use Rattle.std.specs.Int.{from_bool}
use Rattle.flow_word.specs.{Access, Kind, is_blocking}
use Rattle.flow_design.specs.{Plan, Advance, Reply, Request}
use Rattle.flow_design.specs.declared.state.Advance.TheVariants.{Step, Ended, Spent}
use Rattle.flow_design.specs.declared.state.Reply.TheVariants.{Done, Value, Flag, Took, Missed}
use Rattle.lockstep_defs.specs.{opened, is_spent, Exchange, queries, quiet, own_later, module_at, requests_of, OwnStep, Own, own_after}
use Rattle.lockstep_defs.specs.{paired, access_of}
use Rattle.flow_word.specs.declared.access.Kind.TheVariants as kind

-- ---- rests

-- an own run of module i after its quiet clocks, at its next rest
abbrev pub to_rest : Plan → ℕ → Own → Own
to_rest p i o = own_later p i (quiet p i o.state) o

-- the first rest of module i, from local clock 0 on
abbrev pub first_rest : Plan → ℕ → Own
first_rest p i = to_rest p i (record { state = opened (module_at p i); steps = []; since = 0 })

-- the requests of the step at which module i rests
abbrev pub requests_at : Plan → ℕ → Own → List Request
requests_at p i o = requests_of p (i, o.state)

-- the next rest, where the step of this rest has these replies
abbrev pub next_rest : Plan → ℕ → Own → List Reply → Own
next_rest p i o replies = to_rest p i (own_after (module_at p i) o (requests_at p i o) replies)

-- the local clocks up to a rest: the sum of all gaps
abbrev pub clocks_to_rest : Own → ℕ
clocks_to_rest o = sum_by (λ s. s.gap) o.steps + o.since

-- ---- marks

-- all operations that were done in these steps
abbrev pub done_in : List OwnStep → List Exchange
done_in steps = flat_map (λ s. paired s.requests s.replies) steps

-- the accesses of the step at which module i rests
abbrev pub accesses_at : Plan → ℕ → Own → List Access
accesses_at p i o = map (access_of (done_in o.steps)) (requests_at p i o)

-- the mark of a rest: its step, or that the module is ended or spent
abbrev pub mark_at : Plan → ℕ → Own → Advance
mark_at p i o =
    if o.state.ended then Ended o.since
    else (if is_spent p.ops o.state then Spent o.since
    else Step (record { gap = o.since; accesses = accesses_at p i o; first_query = length (queries (done_in o.steps)) }))

-- ---- replies

-- a reply is one that an access of this kind can have
abbrev pub fits_kind : Kind → Reply → Bool
fits_kind kind.Read Done = false
fits_kind kind.Read (Value v) = true
fits_kind kind.Read (Flag b) = false
fits_kind kind.Read (Took v) = false
fits_kind kind.Read Missed = false
fits_kind kind.Write Done = true
fits_kind kind.Write (Value v) = false
fits_kind kind.Write (Flag b) = false
fits_kind kind.Write (Took v) = false
fits_kind kind.Write Missed = false
fits_kind kind.TryRead Done = false
fits_kind kind.TryRead (Value v) = false
fits_kind kind.TryRead (Flag b) = false
fits_kind kind.TryRead (Took v) = true
fits_kind kind.TryRead Missed = true
fits_kind kind.TryWrite Done = false
fits_kind kind.TryWrite (Value v) = false
fits_kind kind.TryWrite (Flag b) = true
fits_kind kind.TryWrite (Took v) = false
fits_kind kind.TryWrite Missed = false
fits_kind kind.Empty Done = false
fits_kind kind.Empty (Value v) = false
fits_kind kind.Empty (Flag b) = true
fits_kind kind.Empty (Took v) = false
fits_kind kind.Empty Missed = false
fits_kind kind.Full Done = false
fits_kind kind.Full (Value v) = false
fits_kind kind.Full (Flag b) = true
fits_kind kind.Full (Took v) = false
fits_kind kind.Full Missed = false

-- there is one reply for each access, and it is one that the access can have
abbrev pub all_fit : List Access → List Reply → Bool
all_fit [] [] = true
all_fit [] (r ∷ rs) = false
all_fit (a ∷ as') [] = false
all_fit (a ∷ as') (r ∷ rs) = fits_kind a.kind r && all_fit as' rs

-- the replies to these accesses, where a reply is told by the place of its access in the step and by how many queries are before it
abbrev pub replies_told : (ℕ → ℕ → Access → Reply) → ℕ → ℕ → List Access → List Reply
replies_told reply place asked [] = []
replies_told reply place asked (a ∷ as') =
    reply place asked a ∷ replies_told reply (place + 1) (asked + from_bool (not (is_blocking a.kind))) as'
