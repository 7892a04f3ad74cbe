use Rattle.std.proofs.{Common.refl, Common.◌+◌, Common.◌<◌, Common.inl, Common.inr, Common.arith, lemmas.Bool.cases_lt}
use Rattle.sim_core.proofs.Rounds.{visits_fall, visits_pass}
use Rattle.sim_core.proofs.machine.Core.next_visit.Goals as goal

pub returns-in-Some-clause-less : goal.returns-in-Some-clause-less
returns-in-Some-clause-less c = λ actions.
    visits_fall _ _ c.args.cursor.now.count c.next_hinted.new.cursor.count c.args.from c.args.from c.next_hinted.ensures.count
    (c.in-Some.ensures.less actions)

pub returns-in_err-owner-clause-none : goal.returns-in_err-owner-clause-none
returns-in_err-owner-clause-none c = λ e.
    rw c.next_hinted.ensures.same at (c.in_err-owner.ensures.none refl)

pub returns-clause-less : goal.returns-clause-less
returns-clause-less c = λ actions.
    let inside : c.in_ok-owner.owner < c.args.cursor.now.count =
    let l = rw c.next_hinted.ensures.same at c.in_ok-owner.ensures.inside in let n = c.requires.counted in omega arith in
    let after = c.in_ok-owner.ensures.after in
    visits_pass _ _ c.args.cursor.now.count c.next_hinted.new.cursor.count c.args.from (c.in_ok-owner.owner + 1)
    c.next_hinted.ensures.count (c.next_hinted.ensures.no_more actions) (omega arith) (omega arith)

pub returns-clause-still : goal.returns-clause-still
returns-clause-still c = λ n l.
    elim (cases_lt n c.args.from) [
      | inl u ↦ inl u
      | inr u ↦ elim (cases_lt n c.in_ok-owner.owner) [
        | inl below ↦ inr (inr ((rw c.next_hinted.ensures.same at c.in_ok-owner.ensures.before) n u below))
        | inr above ↦ inr (inl (omega arith))
      ]
    ]
