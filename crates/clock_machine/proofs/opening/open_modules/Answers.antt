use Rattle.std.proofs.Common.{ℕ, ◌∷◌, [], ◌++◌, List, map, take, length, get_or, subst, arith, sym, ap, ◌∙◌}
use Rattle.std.proofs.lemmas.List.{map_more, length_push}
use Rattle.clock_machine.specs.{ModuleState, opened, nobody, no_module, IsFit}
use Rattle.clock_machine.proofs.Fronts.{held_push}
use Rattle.clock_machine.proofs.opening.open_modules.Goals as goal

pub loop-i-preserved : goal.loop-i-preserved
loop-i-preserved c = record {
  states = c.in_ok-push.ensures.ok ∙ (ap (λ (l : List ModuleState). l ++ c.in_ok-open_one.field-0 ∷ []) c.loop-i.invariant.states
      ∙ (ap (λ (s : ModuleState). map opened (take c.loop-i.i c.args.plan.now.design.modules) ++ s ∷ []) c.in_ok-open_one.ensures.state
      ∙ sym (map_more opened c.args.plan.now.design.modules c.loop-i.i no_module (omega (arith, ap length c.modules-count.ensures)))));
  count = omega (arith, ap length c.in_ok-push.ensures.ok, length_push c.loop-i.states c.in_ok-open_one.field-0);
  fit = λ k l. subst (λ (states : List ModuleState). IsFit c.args.plan.now 0 (k, get_or states k nobody)) (sym c.in_ok-push.ensures.ok)
      (held_push (λ (n : ℕ) (s : ModuleState). IsFit c.args.plan.now 0 (n, s)) c.loop-i.states c.loop-i.i c.in_ok-open_one.field-0 nobody
      c.loop-i.invariant.count c.loop-i.invariant.fit c.in_ok-open_one.ensures.fit k l);
}
