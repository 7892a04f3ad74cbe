use Rattle.clock_machine.specs.{Element, inputs_of}
use Rattle.std.proofs.Common.{◌∷◌, [], ◌++◌, List, map, sym, ap, ◌∙◌, zero-add}
use Rattle.std.proofs.lemmas.List.FromFn.{map-range_with_len_more}
use Rattle.std.specs.List.{range_with_len}
use Rattle.clock_machine.proofs.opening.fill_channels.Goals as goal

pub loop-i-preserved : goal.loop-i-preserved
loop-i-preserved c =
    c.in_ok-push.ensures.ok ∙ (ap (λ (l : List (List Element)). l ++ c.in_ok-fill_one.field-0 ∷ []) c.loop-i.invariant
    ∙ (ap (λ (q : List Element). map (inputs_of c.args.plan.now) (range_with_len 0 c.loop-i.i) ++ q ∷ []) c.in_ok-fill_one.ensures
    ∙ sym (map-range_with_len_more (inputs_of c.args.plan.now) 0 c.loop-i.i c.loop-i.i (zero-add c.loop-i.i))))
