use Rattle.std.proofs.Common.{◌≡◌, ap, length, ℕ, subst, List, arith}
use Rattle.flow_design.specs.declared.design.Module.{Module}
use Rattle.sim_core.specs.{owner, IsSearching}
use Rattle.sim_core.proofs.Noting.{searching_all}
use Rattle.sim_core.proofs.readers.find_users.Goals as goal

pub returns : goal.returns
unfolding owner
returns c =
    let modules = c.args.plan.now.design.modules in
    let none = length c.as_slice-modules.result.now in
    let count = ap (λ (ms : List Module). length ms) c.as_slice-modules.ensures in
    let end : c.loop-owner.owner ≡ none =
    let a = c.loop-owner-test.false in
    let b = c.loop-owner.auto.owner-end in
    omega arith in
    record {
      count = c.loop-owner.invariant.count;
      each = λ f l.
          searching_all c.args.side modules none c.loop-owner.users.items count
          (subst (λ (n : ℕ). IsSearching c.args.side modules none c.loop-owner.users.items n) end c.loop-owner.invariant.finding) f l;
    }
