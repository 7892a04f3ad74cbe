use Rattle.std.proofs.Common.{◌≡◌, ℕ, ◌∙◌, ◌+◌, ◌-◌, suc, refl, ap, arith}
use Rattle.flow_design.specs.declared.design.Module.{Module}
use Rattle.clock_machine.specs.{ModuleState, block_of, module_at, ticked_to, gone_on}
use Rattle.lockstep_defs.proofs.Agrees.{below_limit}
use Rattle.clock_machine.proofs.Sleeping.{awake, falls_asleep, remembered_sound, remembered_stands, next_small, idle_till}
use Rattle.clock_machine.proofs.turn.fall_asleep.Goals as goal

pub code_at-requires-clause-block : goal.code_at-requires-clause-block
code_at-requires-clause-block c =
    let p = c.args.at.now.of.now.plan.now in
    let clock = c.args.at.now.clock in
    let i = c.args.i in
    let s = c.args.state.now in
    let r = c.requires in
    (remembered_sound p r.runs.fits clock i s c.args.memo.now r.within r.remembered r.running).state.block

pub next_due-next-requires : goal.next_due-next-requires
next_due-next-requires c =
    let p = c.args.at.now.of.now.plan.now in
    let clock = c.args.at.now.clock in
    let i = c.args.i in
    let s = c.args.state.now in
    let r = c.requires in
    let stands = remembered_stands p r.runs.fits clock i s c.args.memo.now r.within r.remembered r.running r.awake r.runs.early in
    (block_of (module_at p i) s, (c.code_at.ensures.own.schedule, stands))

pub tick_to-requires-clause-started : goal.tick_to-requires-clause-started
tick_to-requires-clause-started c =
    let p = c.args.at.now.of.now.plan.now in
    let clock = c.args.at.now.clock in
    let i = c.args.i in
    let s = c.args.state.now in
    let r = c.requires in
    (remembered_sound p r.runs.fits clock i s c.args.memo.now r.within r.remembered r.running).state.control.has_started

pub tick_to-requires-clause-later : goal.tick_to-requires-clause-later
tick_to-requires-clause-later c =
    let p = c.args.at.now.of.now.plan.now in
    let clock = c.args.at.now.clock in
    let i = c.args.i in
    let s = c.args.state.now in
    let r = c.requires in
    let stands = remembered_stands p r.runs.fits clock i s c.args.memo.now r.within r.remembered r.running r.awake r.runs.early in
    (c.next_due-next.ensures (block_of (module_at p i) s) c.code_at.ensures.own.schedule stands).from

pub tick_to-requires-clause-small : goal.tick_to-requires-clause-small
tick_to-requires-clause-small c =
    let p = c.args.at.now.of.now.plan.now in
    let clock = c.args.at.now.clock in
    let i = c.args.i in
    let s = c.args.state.now in
    let r = c.requires in
    let stands = remembered_stands p r.runs.fits clock i s c.args.memo.now r.within r.remembered r.running r.awake r.runs.early in
    let due = c.next_due-next.ensures (block_of (module_at p i) s) c.code_at.ensures.own.schedule stands in
    let small = next_small p r.runs.fits clock i s c.args.memo.now c.next_due-next.result r.within r.remembered r.running r.awake
    r.runs.early
    c.code_at.ensures.own.schedule.limits due in
    omega arith

pub go_on-requires-clause-started : goal.go_on-requires-clause-started
go_on-requires-clause-started c =
    let p = c.args.at.now.of.now.plan.now in
    let clock = c.args.at.now.clock in
    let i = c.args.i in
    let s = c.args.state.now in
    let r = c.requires in
    let stands = remembered_stands p r.runs.fits clock i s c.args.memo.now r.within r.remembered r.running r.awake r.runs.early in
    let due = c.next_due-next.ensures (block_of (module_at p i) s) c.code_at.ensures.own.schedule stands in
    let from = due.from in
    let started = stands.has_started in
    let now = ap (λ (z : ModuleState). z.control.clock) c.tick_to.ensures.ticked in
    let newest = ap (λ (z : ModuleState). z.control.newest) c.tick_to.ensures.ticked in
    omega arith

pub go_on-requires-clause-few : goal.go_on-requires-clause-few
go_on-requires-clause-few c =
    let p = c.args.at.now.of.now.plan.now in
    let few = below_limit p.ops c.args.state.now c.requires.running in
    let operations = c.requires.runs.fits.operations in
    let same = ap (λ (z : ModuleState). z.count) c.tick_to.ensures.ticked in
    omega arith

pub overflow_sub-memo : goal.overflow_sub-memo
overflow_sub-memo c =
    let p = c.args.at.now.of.now.plan.now in
    let clock = c.args.at.now.clock in
    let i = c.args.i in
    let s = c.args.state.now in
    let r = c.requires in
    let stands = remembered_stands p r.runs.fits clock i s c.args.memo.now r.within r.remembered r.running r.awake r.runs.early in
    (c.next_due-next.ensures (block_of (module_at p i) s) c.code_at.ensures.own.schedule stands).from

pub overflow_add-memo : goal.overflow_add-memo
overflow_add-memo c =
    let p = c.args.at.now.of.now.plan.now in
    let clock = c.args.at.now.clock in
    let i = c.args.i in
    let s = c.args.state.now in
    let r = c.requires in
    let stands = remembered_stands p r.runs.fits clock i s c.args.memo.now r.within r.remembered r.running r.awake r.runs.early in
    let due = c.next_due-next.ensures (block_of (module_at p i) s) c.code_at.ensures.own.schedule stands in
    let small = next_small p r.runs.fits clock i s c.args.memo.now c.next_due-next.result r.within r.remembered r.running r.awake
    r.runs.early
    c.code_at.ensures.own.schedule.limits due in
    omega arith

pub returns-clause-asleep : goal.returns-clause-asleep
returns-clause-asleep c e =
    let p = c.args.at.now.of.now.plan.now in
    let clock = c.args.at.now.clock in
    let i = c.args.i in
    let s = c.args.state.now in
    let r = c.requires in
    let stands = remembered_stands p r.runs.fits clock i s c.args.memo.now r.within r.remembered r.running r.awake r.runs.early in
    let due = c.next_due-next.ensures (block_of (module_at p i) s) c.code_at.ensures.own.schedule stands in
    let next = c.next_due-next.result in
    let young = r.remembered.young in
    let l = r.awake in
    let from = due.from in
    let not_now = c.if-next-now.false in
    let n = next - s.control.clock - 1 in
    let far : next ≡ s.control.clock + suc n = omega arith in
    let wakes : clock + (next - s.control.clock) ≡ clock + suc n = omega arith in
    let now : c.tick_to.new.state.control.clock ≡ next = ap (λ (z : ModuleState). z.control.clock) c.tick_to.ensures.ticked in
    let most = c.in_ok-go_on.ensures.clock in
    let sound = remembered_sound p r.runs.fits clock i s c.args.memo.now r.within r.remembered r.running in
    falls_asleep p clock i n s c.go_on.new.state _ r.within (awake p clock i s c.args.memo.now r.remembered r.awake) r.running
    (idle_till p i n s next c.code_at.ensures.own.schedule.limits sound due far)
    (c.in_ok-go_on.ensures.gone
    ∙ (ap (λ (m : Module). gone_on m c.tick_to.new.state) c.module_at-module.ensures
    ∙ (ap (gone_on (module_at p i)) (c.tick_to.ensures.ticked ∙ ap (λ (m : Module). ticked_to m next s) c.module_at-module.ensures)
    ∙ ap (λ (k : ℕ). gone_on (module_at p i) (ticked_to (module_at p i) k s)) far)))
    wakes refl (omega arith)
