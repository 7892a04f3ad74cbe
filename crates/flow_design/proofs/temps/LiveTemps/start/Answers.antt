use Rattle.std.proofs.Common.{◌∙◌, sym, ap, ℕ, List, [], ◌∷◌, ◌++◌}
use Rattle.flow_design.proofs.{Failing.on_err, Rings.not_started, Rings.started_there}
use Rattle.flow_design.proofs.temps.LiveTemps.start.Goals as goal

pub returns-in_err-zero-clause-unchanged : goal.returns-in_err-zero-clause-unchanged
returns-in_err-zero-clause-unchanged c =
    let t = c.self.inside in
    on_err c.from_residual-in_err-zero.result
    (not_started t.rows c.as_mut_slice-2.result.now c.args.self.now t.first t.count c.len-2.result c.slot-place.result c.zero.new.words
    c.self.invariant.0 c.self.invariant.1 (λ e. c.if-self-len.false (e ∙ (c.len-2.ensures ∙ sym c.len.ensures))) c.len-2.ensures
    c.slot-place.ensures c.as_mut_slice-2.ensures.value c.self.view_is)

pub returns-clause-started : goal.returns-clause-started
returns-clause-started c =
    let t = c.self.inside in
    started_there t.rows c.as_mut_slice-2.result.now c.args.self.now t.first t.count c.len-2.result c.slot-place.result c.zero.new.words
    c.self.invariant.0 c.self.invariant.1 (λ e. c.if-self-len.false (e ∙ (c.len-2.ensures ∙ sym c.len.ensures))) c.len-2.ensures
    c.slot-place.ensures c.as_mut_slice-2.ensures.value c.self.view_is
    ∙ ap (λ (y : List ℕ). c.args.self.now ++ y ∷ []) c.in_ok-zero.ensures
