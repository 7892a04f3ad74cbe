use Rattle.std.proofs.Common.{sym, subst}
use Rattle.depth_session.specs.{AsksNothing, SessionView, plan_in}
use Rattle.depth_session.proofs.After.{repeats_in_state}
use Rattle.depth_session.proofs.session.DepthSession.edit.Goals as goal

pub returns-in_err-self-inside-clause-succeeds : goal.returns-in_err-self-inside-clause-succeeds
returns-in_err-self-inside-clause-succeeds g c = λ repeat.
    let i = c.self.inside in
    let no = c.in_err-self-inside.ensures.succeeds
    (repeats_in_state i.state i.runs i.live c.args.self.now c.args.edit.now (plan_in c.follow.new.state) c.self.view_is
    c.follow.ensures.plan repeat) in
    cc

pub returns-in_err-self-inside-clause-quiet : goal.returns-in_err-self-inside-clause-quiet
returns-in_err-self-inside-clause-quiet g c = λ none.
    c.follow.ensures.quiet (subst (λ (s : SessionView). AsksNothing s.plan) (sym c.self.view_is) none)
