use Rattle.std.proofs.Common.{◌++◌, ◌∷◌, ◌∙◌, [], List, Bool, ap, sym, map, take, ℕ, add-one}
use Rattle.std.proofs.{Math.Seq.take-suc, lemmas.List.map-append}
use Rattle.flow_design.specs.declared.design.Module.{Module}
use Rattle.flow_check.specs.{uses, has}
use Rattle.flow_check.proofs.ports.ports_of_each.Goals as goal

pub loop-of-preserved : goal.loop-of-preserved
loop-of-preserved c = λ a. ap (map (λ ports. has ports a)) c.in_ok-push.ensures.ok
    ∙ map-append (λ ports. has ports a) c.loop-of.all (c.in_ok-ports_of.field-0 ∷ [])
    ∙ ap (λ (l : List Bool). l ++ has c.in_ok-ports_of.field-0 a ∷ []) (c.loop-of.invariant a)
    ∙ ap (λ (b : Bool). map (uses a) (take c.loop-of.of-index c.args.modules.now) ++ b ∷ []) (c.in_ok-ports_of.ensures a)
    ∙ sym (map-append (uses a) (take c.loop-of.of-index c.args.modules.now) (c.of-item.result ∷ []))
    ∙ ap (map (uses a)) (sym (ap (λ (n : ℕ). take n c.args.modules.now) (add-one c.loop-of.of-index)
    ∙ take-suc c.args.modules.now c.loop-of.of-index c.of-item.result c.loop-of-test.true
    ∙ ap (λ (m : Module). take c.loop-of.of-index c.args.modules.now ++ m ∷ []) (sym c.of-item.is)))
