use Rattle.std.proofs.Common.{◌+◌, sym, ap, subst, ◌∙◌, arith, length, length-append, [], ◌∷◌}
use mathlib.Core.Logic.{∥∥₁_map}
use Rattle.turn_lock.specs.Passes.{view_of, pass_lock}
use Rattle.sim_hub.specs.{HasModule, AreFrom}
use Rattle.sim_hub.proofs.Closing.{from_more}
use Rattle.sim_hub.proofs.hub.ends.split_all.Goals as goal

pub module_pass-requires-clause-within : goal.module_pass-requires-clause-within
module_pass-requires-clause-within c =
    let low = c.loop-made-test.true in
    subst (HasModule c.loop-made.made) (sym (ap (λ v. v.seen) c.split-back.ensures.new ∙ c.loop-made.invariant.1.seen_is))
    (∥∥₁_map c.requires.modules (λ (l, same). (l, omega (arith, same, low))))

pub loop-made-preserved : goal.loop-made-preserved
loop-made-preserved c =
    let i = c.loop-made.invariant in
    let first = c.split-back.ensures.first in
    let more = c.in_ok-push.ensures.items in (
      c.split-back.ensures.lock.0 ∙ sym c.requires.own,
      record {
        number = ap (λ v. v.number) first ∙ i.1.number;
        made_is = ap (λ v. v.made) first ∙ ap (λ n. n + 1) i.1.made_is;
        joined = ap (λ v. v.joined) first ∙ i.1.joined;
        own = ap (λ v. v.own) first ∙ i.1.own;
        seen_is = ap (λ v. v.seen) first ∙ i.1.seen_is;
      },
      ap (λ v. v.passes) first ∙ i.2,
      ap length more ∙ length-append c.loop-made.list.items (c.module_pass.result ∷ []) ∙ ap (λ n. n + 1) i.3,
      subst (AreFrom (pass_lock c.args.first) (view_of c.args.first).seen) (sym more)
          (from_more (pass_lock c.args.first) (view_of c.args.first).seen c.loop-made.list.items c.module_pass.result i.4
          (c.module_pass.ensures.0 ∙ sym i.3) (ap pass_lock c.module_pass.ensures.1 ∙ c.split-back.ensures.lock.1 ∙ sym c.requires.own)
          (ap (λ p. (view_of p).seen) c.module_pass.ensures.1 ∙ ap (λ v. v.seen) c.split-back.ensures.new ∙ i.1.seen_is)),
    )
