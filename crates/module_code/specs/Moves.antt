-- The parts of a move: the notes, the commits, the clock, the loop's decision, and the block's end.
use Rattle.std.specs.Prelude.{ℕ, ◌+◌, ◌-◌, List, map, filter, length, drop}
use Rattle.flow_design.specs.{Block, Due, ModuleState, Reply, block_of, operation_at, temps_of, passes, live_count, due}
use Rattle.flow_design.specs.declared.design.Module.{Module}
use Rattle.lockstep_defs.specs.{committed, decided, finished}
use Rattle.block_schedule.specs.{placed}
use Rattle.module_code.specs.{declared.code.Guarded.Guarded, declared.noted.Noted.Noted, Notes.noted_for}

-- those of these operations, each beside the place of its live iteration, that have no guard, or one that is not 0
abbrev pub passing : Block → ModuleState → List (ℕ × ℕ) → List Due
passing b s its = map (λ it. record { iteration = it.0; op = it.1 })
    (filter (λ it. passes s.registers (temps_of s it.0) (operation_at b it.1).guard) its)

-- the notes of the due operations, in commit order
abbrev pub notes_of : Module → ModuleState → List Noted
notes_of m s = map (noted_for (block_of m s) s) (due m s)

-- where an operation stands: the place of its iteration, counted from the oldest rank on, and its number
abbrev pub standing : ℕ → Guarded → ℕ × ℕ
standing oldest g = placed oldest g.slot

-- the state after the due operations have committed and are counted
abbrev pub counted : Module → ModuleState → List Reply → ModuleState
counted m s replies = record (committed m s replies) { count = s.count + length (due m s) }

-- the state at a later local clock, without the temps of the iterations that are no longer live
abbrev pub ticked_to : Module → ℕ → ModuleState → ModuleState
ticked_to m clock s =
    let k = record s.control { clock = clock } in
    record s { control = k; temps = drop (length s.temps - live_count (block_of m s) k) s.temps }

-- the state after the loop has decided and the block may have ended
abbrev pub gone_on : Module → ModuleState → ModuleState
gone_on m s = finished m (block_of m s) (decided (block_of m s) s)
