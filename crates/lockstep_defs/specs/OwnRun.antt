-- A module's own run on a list of replies, without waiting, and its marks.
use Rattle.std.specs.Prelude.{ℕ, zero, suc, ◌+◌, if◌then◌else◌, List, [], ◌∷◌, ◌++◌, map, length, take, drop, slice_index_or}
use Rattle.flow_word.specs.{Access, side_of}
use Rattle.flow_design.specs.{declared.design.Module.Module, Plan, Advance, Request, Reply, ModuleState}
use Rattle.flow_design.specs.declared.state.Reply.TheVariants.{Done}
use Rattle.flow_design.specs.declared.state.Advance.TheVariants.{Step, Ended, Spent}
use Rattle.lockstep_defs.specs.Machine.{requests, move, opened, is_spent, is_over}
use Rattle.lockstep_defs.specs.{Channels.Exchange, Channels.moved_by, Lockstep.module_at, Report.queries}

-- ---- the own run

-- a step of an own run: a local clock with due FIFO operations
pub record OwnStep : Type 0 where
  -- the local clocks since the run's previous step, or since local clock 0
  pub gap : ℕ
  pub requests : List Request
  pub replies : List Reply

-- how far a module's own run has come
pub record Own : Type 0 where
  pub state : ModuleState
  pub steps : List OwnStep
  -- the local clocks since the last step, or since local clock 0
  pub since : ℕ

-- an own run one local clock later, in which it had these requests and replies
abbrev pub own_after : Module → Own → List Request → List Reply → Own
own_after m o [] replies = record { state = move m o.state []; steps = o.steps; since = o.since + 1 }
own_after m o (r ∷ rs) replies = record {
  state = move m o.state replies;
  steps = o.steps ++ record { gap = o.since; requests = r ∷ rs; replies = replies } ∷ [];
  since = 1;
}

-- an own run one local clock later: its k-th step takes the k-th list of replies, and a module that is over stays
unfoldable pub own_next : Plan → ℕ → List (List Reply) → Own → Own
own_next p i replies o =
    if is_over p.ops o.state then o
    else own_after (module_at p i) o (requests p.design.channels (module_at p i) o.state) (slice_index_or replies (length o.steps) [])

-- the own run of module i after n local clocks
unfoldable pub own_run : Plan → ℕ → List (List Reply) → ℕ → Own
own_run p i replies zero = record { state = opened (module_at p i); steps = []; since = 0 }
own_run p i replies (suc n) = own_next p i replies (own_run p i replies n)

-- ---- marks

-- the requests of a step beside their replies
abbrev pub paired : List Request → List Reply → List Exchange
paired [] replies = []
paired (r ∷ rs) replies = record { request = r; reply = slice_index_or replies 0 Done } ∷ paired rs (drop 1 replies)

-- the number, from 1, of the element that a request pops or pushes, or would pop or push, after these operations
abbrev pub ordinal : List Exchange → Request → ℕ
ordinal before r = 1 + length (moved_by (side_of r.kind) r.channel before)

-- a request as an access, by what the module did before its step
abbrev pub access_of : List Exchange → Request → Access
access_of before r = record { kind = r.kind; channel = r.channel; ordinal = ordinal before r; value = r.value }

-- the marks of these steps, by what the module did before them
abbrev pub step_marks : List Exchange → List OwnStep → List Advance
step_marks before [] = []
step_marks before (s ∷ ss) =
    Step (record { gap = s.gap; accesses = map (access_of before) s.requests; first_query = length (queries before) })
    ∷ step_marks (before ++ paired s.requests s.replies) ss

-- the mark of an own run's end; none while the module is not over
abbrev pub end_mark : ℕ → Own → List Advance
end_mark limit o =
    if o.state.ended then Ended o.since ∷ [] else (if is_spent limit o.state then Spent o.since ∷ [] else [])

-- the marks of module i's first n local clocks; the last is that of the first step whose replies are not given
unfoldable pub marks : Plan → ℕ → List (List Reply) → ℕ → List Advance
marks p i replies n =
    let o = own_run p i replies n in
    take (suc (length replies)) (step_marks [] o.steps ++ end_mark p.ops o)
