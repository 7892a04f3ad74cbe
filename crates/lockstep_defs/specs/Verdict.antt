-- Settled clocks, the verdict, and the held modules.
use Rattle.std.specs.Prelude.{ℕ, zero, suc, Bool, true, false, not, ◌&&◌, if◌then◌else◌, Option, Some, None, option_map, List, []}
use Rattle.std.specs.Prelude.{filter_map, find}
use Rattle.std.specs.List.{list_any, list_all}
use Rattle.flow_design.specs.{Plan, Held, Verdict, ClockState, Element, Request, ModuleState}
use Rattle.flow_design.specs.declared.report.Verdict.TheVariants.{Done, Deadlock, Cycles, Ops}
use Rattle.lockstep_defs.specs.{Machine.is_spent, Machine.is_over, Channels.stalls, Channels.all_ready}
use Rattle.lockstep_defs.specs.Lockstep.{numbered, requests_of, moves, clock_step, state}
use Rattle.flow_word.specs.{declared.access.Side.TheVariants.Push, side_of, same_side}

-- ---- the first settled clock

-- some module moves, on these contents
abbrev pub some_moves : Plan → ℕ → List (List Element) → ClockState → Bool
some_moves p clock contents st = list_any (moves p clock contents) (numbered st)

-- no module moves, and none would move if every element could be popped
unfoldable pub is_settled : Plan → ℕ → ClockState → Bool
is_settled p clock st = not (some_moves p clock st.contents st) && not (some_moves p clock (all_ready st.contents) st)

-- the first settled clock among the n clocks from this one on, whose state is given
unfoldable pub first_settled : Plan → ℕ → ℕ → ClockState → Option ℕ
first_settled p zero clock st = None
first_settled p (suc n) clock st =
    elim (is_settled p clock st) [ true ↦ Some clock | false ↦ first_settled p n (suc clock) (clock_step p clock st) ]

-- ---- the verdict

-- the verdict in a settled clock: done if all modules are ended, else ops if one is spent, else deadlock
abbrev pub settled_verdict : Plan → ℕ → ClockState → Verdict
settled_verdict p clock st =
    if list_all (λ s. s.ended) st.modules then Done clock
    else (if list_any (is_spent p.ops) st.modules then Ops clock else Deadlock clock)

abbrev pub verdict_at : Plan → Option ℕ → Verdict
verdict_at p None = Cycles p.cycles
verdict_at p (Some clock) = settled_verdict p clock (state p clock)

-- the verdict of a plan: that of its first settled clock up to the cycle limit, or the cycle limit
unfoldable pub verdict : Plan → Verdict
verdict p = verdict_at p (first_settled p (suc p.cycles) 0 (state p 0))

-- ---- held modules

abbrev pub held_at : ℕ → Request → Held
held_at i r = record { «module» = i; full = same_side Push (side_of r.kind); channel = r.channel }

-- the first of a module's due blocking operations, in commit order, that stalls on these contents
abbrev pub stalled_request : Plan → ℕ → List (List Element) → ℕ × ModuleState → Option Request
stalled_request p clock contents m = find (stalls p clock contents) (requests_of p m)

-- a module that is neither ended nor spent is held by its first request that stalls on these contents
abbrev pub held_by : Plan → ℕ → List (List Element) → ℕ × ModuleState → Option Held
held_by p clock contents m = if is_over p.ops m.1 then None else option_map (held_at m.0) (stalled_request p clock contents m)

-- the modules that would stall even if every element could be popped, each with its first request that would
abbrev pub held_modules : Plan → ℕ → ClockState → List Held
held_modules p clock st = filter_map (held_by p clock (all_ready st.contents)) (numbered st)

-- the held modules of a report with this verdict; none where all modules are ended or the cycle limit was reached
abbrev pub held : Plan → Verdict → ClockState → List Held
held p (Done clock) st = []
held p (Deadlock clock) st = held_modules p clock st
held p (Cycles clock) st = []
held p (Ops clock) st = held_modules p clock st
