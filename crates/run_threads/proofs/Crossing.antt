-- What a module's thread is given, and what it answers, may cross to another thread: it owns all that it holds.
use denote.Builtin.{u64}
use denote.Param.Send.{IsSend, IsSync, plain_send, recorded_send, recorded_sync, sendable, struct_send, struct_sync, view_send}
use denote.Struct.Declared.{shape}
use Rattle.std.proofs.Crossing.{crosses}
use Rattle.run_threads.specs.{bearer, entries_under}
use Rattle.flow_word.specs.contracts.list.List as list_of
use Rattle.flow_word.proofs.list.List.TheSendSync as list
use Rattle.flow_word.proofs.boxed.Boxed.TheSendSync as boxed
use Rattle.flow_word.proofs.width.Width.TheSendSync as width
use Rattle.flow_word.proofs.access.Access.TheSendSync as access
use Rattle.flow_design.proofs.name.Name.TheSendSync as name
use Rattle.flow_design.proofs.design.BlockKind.TheSendSync as kind
use Rattle.flow_design.proofs.design.Memory.TheSendSync as memory
use Rattle.flow_design.proofs.design.Channel.TheSendSync as channel
use Rattle.flow_design.proofs.design.Next.TheSendSync as next
use Rattle.flow_design.proofs.expr.BinOp.TheSendSync as binary
use Rattle.flow_design.proofs.expr.UnOp.TheSendSync as unary
use Rattle.flow_design.proofs.expr.Expr.TheLaws.TheKnot as expr
use Rattle.flow_design.proofs.state.ModuleState.TheSendSync as state
use Rattle.flow_design.specs.contracts.design.Module as unit
use Rattle.flow_design.specs.contracts.design.Design as design
use Rattle.flow_design.specs.contracts.plan.Plan as plan
use Rattle.module_code.proofs.code.BlockCode.TheSendSync as code
use Rattle.module_code.proofs.noted.Notes.TheSendSync as notes
use Rattle.module_interp.proofs.path.Stage.TheSendSync as stage
use Rattle.module_interp.proofs.tally.Tally.TheSendSync as tally
use Rattle.module_interp.specs.contracts.path.Path as path
use Rattle.module_interp.specs.contracts.run.ModuleRun as run
use Rattle.query_resolve.proofs.candidates.CandidateList.TheSendSync as candidates
use Rattle.engine_view.proofs.engine.Engine.TheSendSync as held
use Rattle.sim_core.proofs.due.DueModules.TheSendSync as due
use Rattle.sim_core.proofs.machine.Scratch.TheSendSync as scratch
use Rattle.sim_core.proofs.unread.Unread.TheSendSync as unread
use Rattle.sim_core.proofs.wiring.Wiring.TheSendSync as wiring
use Rattle.sim_core.specs.contracts.machine.Core as engine
use Rattle.sim_core.specs.contracts.machine.Core.TheInside as core
use Rattle.timing_bridge.proofs.turn.HubTurn.TheSendSync as turn
use Rattle.timing_bridge.specs.contracts.entry.HubEntry as entry
use Rattle.turn_lock.proofs.pass.TurnLock.TheSendSync as lock
use Rattle.turn_lock.proofs.pass.Pass.TheSendSync as pass
use Rattle.sim_hub.specs.contracts.kept.BoxedLedger as locked
use Rattle.sim_hub.specs.contracts.ledger.HubLedger as ledger
use Rattle.sim_hub.specs.contracts.hub.Hub as hub
use Rattle.sim_hub.specs.contracts.pass.NumberedPass as place
use Rattle.sim_hub.specs.contracts.pass.ModulePass as module_pass
use Rattle.crossbeam_utils.proofs.sync.parker.RuledParker.TheSendSync as parker
use Rattle.run_threads.proofs.drive.DriveEnd.TheSendSync as end
use Rattle.run_threads.specs.contracts.drive.Answered as answered
use Rattle.run_threads.specs.contracts.drive.Driver as driver

module_field : IsSend (unit.the_field).row
module_field =
    search (
      width.the_send,
      name.the_send,
      memory.the_send,
      kind.the_field_send,
      next.the_field_send,
      binary.the_field_send,
      unary.the_field_send,
      list.the_send,
      boxed.the_send,
      crosses,
      expr.crosses,
      sendable,
    ) depth 60 fits 20000

module_send : IsSend unit.the_row
module_send = recorded_send (unit.the_field).row _ _ (unit.the_type).to_one module_field

design_field : IsSend (design.the_field).row
design_field = struct_send (shape design.the_type) (list.the_send _ channel.the_send, (list.the_send _ module_send, tt))

words_send : IsSend (list_of.the_row u64)
words_send = list.the_send u64 (plain_send _ _ _ _ _)

plan_field : IsSend (plan.the_field).row
plan_field =
    struct_send (shape plan.the_type) (
      design_field,
      (list.the_send (list_of.the_row u64) words_send, (plain_send _ _ _ _ _, (plain_send _ _ _ _ _, (words_send, tt)))),
    )

path_field : IsSend (path.the_field).row
path_field =
    struct_send (shape path.the_type) (
      (search (crosses, sendable) depth 20 fits 5000),
      (
        module_field,
        (
          plain_send _ _ _ _ _,
          (
            list.the_send _ code.the_send,
            (
              (search (state.the_field_send, sendable) depth 20 fits 5000),
              (
                (search (stage.the_field_send, sendable) depth 20 fits 5000),
                (
                  plain_send _ _ _ _ _,
                  (
                    notes.the_field_send,
                    (list.the_send _ access.the_send, (words_send, tt)),
                  ),
                ),
              ),
            ),
          ),
        ),
      ),
    )

path_send : IsSend path.the_row
path_send = recorded_send (path.the_field).row _ _ (path.the_type).to_one path_field

run_field : IsSend (run.the_field).row
run_field =
    struct_send (shape run.the_type) (
      (search (path_send, crosses, sendable) depth 30 fits 5000),
      ((search (tally.the_field_send, sendable) depth 20 fits 5000), tt),
    )

run_send : IsSend run.the_row
run_send = recorded_send (run.the_field).row _ _ (run.the_type).to_one run_field

core_field : IsSend (core.the_field).row
core_field =
    struct_send (shape core.the_type) (
      plan_field,
      (
        held.the_field_send,
        (
          (search (run_send, crosses, sendable) depth 30 fits 5000),
          (
            wiring.the_field_send,
            (
              list.the_send _ unread.the_send,
              (due.the_field_send, (candidates.the_send, (scratch.the_field_send, tt))),
            ),
          ),
        ),
      ),
    )

core_send : IsSend engine.the_row
core_send = view_send core.the_row _ _ _ _ (recorded_send (core.the_field).row _ _ (core.the_type).to_one core_field)

ledger_field : IsSend (ledger.the_field).row
ledger_field =
    struct_send (shape ledger.the_type) (
      core_send,
      ((search (turn.the_send, crosses, sendable) depth 30 fits 5000), (plain_send _ _ _ _ _, ((search sendable), tt))),
    )

ledger_send : IsSend ledger.the_row
ledger_send = recorded_send (ledger.the_field).row _ _ (ledger.the_type).to_one ledger_field

locked_field : IsSend (locked.the_field).row
locked_field = struct_send (shape locked.the_type) ((search (ledger_send, crosses, sendable) depth 30 fits 5000), tt)

locked_send : IsSend locked.the_row
locked_send = recorded_send (locked.the_field).row _ _ (locked.the_type).to_one locked_field

hub_field : IsSync (hub.the_field).row
hub_field =
    struct_sync (shape hub.the_type)
    (lock.the_field_sync locked.the_row entry.the_row (record { history = entries_under; bearer = bearer }) locked_send, tt)

pub hub_sync : IsSync hub.the_row
hub_sync = recorded_sync (hub.the_field).row _ _ (hub.the_type).to_one hub_field

place_field : IsSend (place.the_field).row
place_field =
    struct_send (shape place.the_type) (
      pass.the_field_send locked.the_row entry.the_row (record { history = entries_under; bearer = bearer }) locked_send,
      (plain_send _ _ _ _ _, tt),
    )

module_pass_field : IsSend (module_pass.the_field).row
module_pass_field = struct_send (shape module_pass.the_type) (place_field, (plain_send _ _ _ _ _, tt))

answered_field : IsSend (answered.the_field).row
answered_field = struct_send (shape answered.the_type) (module_pass_field, (end.the_field_send, tt))

pub answered_send : IsSend answered.the_row
answered_send = recorded_send (answered.the_field).row _ _ (answered.the_type).to_one answered_field

driver_field : IsSend (driver.the_field).row
driver_field = struct_send (shape driver.the_type)
    (module_pass_field, ((search (parker.the_field_send, crosses, sendable) depth 60 fits 20000), tt))

pub driver_send : IsSend driver.the_row
driver_send = recorded_send (driver.the_field).row _ _ (driver.the_type).to_one driver_field
