-- A plan may be read by several threads: it owns all that it holds.
use denote.Builtin.{u64}
use denote.Param.Send.{IsSync, recorded_sync, sendable, struct_sync}
use denote.Struct.Declared.{shape}
use Rattle.std.proofs.Crossing.{crosses}
use Rattle.flow_word.specs.contracts.list.List as list_of
use Rattle.flow_word.proofs.list.List.TheSendSync as list
use Rattle.flow_word.proofs.boxed.Boxed.TheSendSync as boxed
use Rattle.flow_word.proofs.width.Width.TheSendSync as width
use Rattle.flow_design.proofs.name.Name.TheSendSync as name
use Rattle.flow_design.proofs.design.BlockKind.TheSendSync as kind
use Rattle.flow_design.proofs.design.Memory.TheSendSync as memory
use Rattle.flow_design.proofs.design.Channel.TheSendSync as channel
use Rattle.flow_design.proofs.design.Next.TheSendSync as next
use Rattle.flow_design.proofs.expr.BinOp.TheSendSync as binary
use Rattle.flow_design.proofs.expr.UnOp.TheSendSync as unary
use Rattle.flow_design.proofs.expr.Expr.TheLaws.TheKnot as expr
use Rattle.flow_design.specs.contracts.design.Module as unit
use Rattle.flow_design.specs.contracts.design.Design as design
use Rattle.flow_design.specs.contracts.plan.Plan as plan
use Rattle.flow_design.specs.contracts.checked.CheckedPlan as checked
use Rattle.flow_design.specs.contracts.checked.CheckedPlan.TheInside as inside

module_field : IsSync (unit.the_field).row
module_field =
    search (
      width.the_sync,
      name.the_sync,
      memory.the_sync,
      kind.the_field_sync,
      next.the_field_sync,
      binary.the_field_sync,
      unary.the_field_sync,
      list.the_sync,
      boxed.the_sync,
      crosses,
      expr.crosses,
      sendable,
    ) depth 60 fits 20000

module_sync : IsSync unit.the_row
module_sync = recorded_sync (unit.the_field).row _ _ (unit.the_type).to_one module_field

words_sync : IsSync (list_of.the_row u64)
words_sync = search (list.the_sync, sendable) depth 30 fits 5000

design_field : IsSync (design.the_field).row
design_field =
    struct_sync (shape design.the_type) (
      search (list.the_sync, channel.the_sync, sendable) depth 30 fits 5000,
      (search (list.the_sync, module_sync, sendable) depth 30 fits 5000, tt),
    )

plan_field : IsSync (plan.the_field).row
plan_field =
    struct_sync (shape plan.the_type) (
      design_field,
      (search (list.the_sync, words_sync, sendable) depth 30 fits 5000, (search sendable, (search sendable, (words_sync, tt)))),
    )

checked_field : IsSync (inside.the_field).row
checked_field = struct_sync (shape inside.the_type) (plan_field, tt)

pub plan_sync : IsSync checked.the_row
plan_sync = search (checked_field, sendable) depth 30 fits 5000
