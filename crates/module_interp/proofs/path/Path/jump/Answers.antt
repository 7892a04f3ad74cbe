use Rattle.std.proofs.Common.{◌≡◌, ◌+◌, ◌-◌, suc, sym, subst, arith}
use Rattle.module_interp.specs.{ModuleState, declared.path.Stage.TheVariants.Ticked}
use Rattle.module_interp.proofs.Ways.{Passes, jumps, jump_small, passes_keep, passes_nearer}
use Rattle.module_interp.proofs.path.Path.jump.Goals as goal

pub overflow_add-self : goal.overflow_add-self
overflow_add-self c =
    let x = c.args.self.now in
    let n = c.args.clock - x.state.control.clock - 1 in
    let far : c.args.clock ≡ x.state.control.clock + suc n = let l = c.requires.later in omega arith in
    let small = jump_small x c.args.clock n c.requires.path c.requires.begun c.requires.alive c.requires.next far in
    omega (arith, small.since)

pub tick_to-requires-clause-small : goal.tick_to-requires-clause-small
tick_to-requires-clause-small c =
    let x = c.args.self.now in
    let n = c.args.clock - x.state.control.clock - 1 in
    let far : c.args.clock ≡ x.state.control.clock + suc n = let l = c.requires.later in omega arith in
    let small = jump_small x c.args.clock n c.requires.path c.requires.begun c.requires.alive c.requires.next far in
    omega (arith, small.reached)

pub returns-clause-kept : goal.returns-clause-kept
returns-clause-kept c =
    let x = c.args.self.now in
    let n = c.args.clock - x.state.control.clock - 1 in
    let far : c.args.clock ≡ x.state.control.clock + suc n = let l = c.requires.later in omega arith in
    let j = jumps x c.args.clock n c.requires.path c.requires.begun c.requires.alive c.requires.next far in
    passes_keep x _ n
    (subst (λ (t : ModuleState). Passes x
    (record x { since = x.since + (c.args.clock - x.state.control.clock); state = t; stage = Ticked }) n)
    (sym c.tick_to.ensures.ticked) j)

pub returns-clause-nearer : goal.returns-clause-nearer
returns-clause-nearer c =
    let x = c.args.self.now in
    let n = c.args.clock - x.state.control.clock - 1 in
    let far : c.args.clock ≡ x.state.control.clock + suc n = let l = c.requires.later in omega arith in
    let j = jumps x c.args.clock n c.requires.path c.requires.begun c.requires.alive c.requires.next far in
    passes_nearer x _ n c.requires.path
    (subst (λ (t : ModuleState). Passes x
    (record x { since = x.since + (c.args.clock - x.state.control.clock); state = t; stage = Ticked }) n)
    (sym c.tick_to.ensures.ticked) j)
