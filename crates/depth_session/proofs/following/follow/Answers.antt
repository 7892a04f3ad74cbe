use Rattle.std.proofs.Common.{sym, ap, subst, ◌∙◌, ◌+◌, Bool, List, arith}
use Rattle.depth_session.specs.{Plan, report, Guard, RunCount, HasOtherAnswer, recorded_in, RepeatsAnswers, run_count, HasGoneOn, plan_in}
use Rattle.depth_session.specs.{AsksNothing}
use Rattle.depth_order.proofs.Silent.{no_answers}
use Rattle.depth_session.proofs.After.{count_of, none_answered, counts_on, counts_again, no_less, none_added, none_other, same_logs}
use Rattle.depth_session.proofs.following.follow.Goals as goal

pub returns-in_err-edit_on-clause-at_most : goal.returns-in_err-edit_on-clause-at_most
returns-in_err-edit_on-clause-at_most g c = rw c.in-Core.is (λ l.
    let most = no_less (count_of c.in-Core.core c.args.runs) (report c.edit_on.new.core.plan).answers in omega arith)

pub returns-in_err-edit_on-clause-succeeds : goal.returns-in_err-edit_on-clause-succeeds
returns-in_err-edit_on-clause-succeeds g c = rw c.in-Core.is (λ repeat.
    let v = c.in-Core.core in
    let w = c.edit_on.new.core in
    let e = c.args.edit.now in
    let laws = c.records_are_answers.ensures in
    let (on, (m, may)) = c.in_err-edit_on.ensures.no_memory in
    absurd (laws.repeats v e w on (none_added v e w on (laws.grow v e w on) (laws.begins w c.edit_on.ensures.sound) repeat) m may))

pub returns-in-Same-clause-counted : goal.returns-in-Same-clause-counted
returns-in-Same-clause-counted g c = rw c.in-Core.is (
    let v = c.in-Core.core in
    let w = c.edit_on.new.core in
    let e = c.args.edit.now in
    let gone = subst (λ (r : Guard). HasGoneOn r v e w) c.in-Same.is c.in_ok-edit_on.ensures.gone in
    counts_on v e w c.args.runs (same_logs v e w gone.0) (c.records_are_answers.ensures.grow v e w gone.0)
    (c.records_are_answers.ensures.answers w c.edit_on.ensures.sound gone.1.final))

pub returns-in-Same-clause-at_most : goal.returns-in-Same-clause-at_most
returns-in-Same-clause-at_most g c = rw c.in-Core.is (λ l.
    let most = no_less (count_of c.in-Core.core c.args.runs) (report c.edit_on.new.core.plan).answers in omega arith)

pub returns-in_err-run_again-in-Differs-clause-at_most : goal.returns-in_err-run_again-in-Differs-clause-at_most
returns-in_err-run_again-in-Differs-clause-at_most g c = rw c.in-Core.is (λ l.
    let v = c.in-Core.core in
    let w = c.edit_on.new.core in
    let e = c.args.edit.now in
    let gone = subst (λ (r : Guard). HasGoneOn r v e w) c.in-Differs.is c.in_ok-edit_on.ensures.gone in
    let other = subst (λ (p : Plan). HasOtherAnswer v.held.logs p c.in-Differs.field-0) (sym c.run_again.ensures.plan)
    (c.records_are_answers.ensures.differ v e w gone.0 _ gone.1) in
    let more = ap (λ (n : RunCount). n.runs) (counts_again v (plan_in c.run_again.new.state) c.args.runs _ other) in
    let most = c.run_again.ensures.at_most l in
    omega arith)

pub returns-in_err-run_again-in-Differs-clause-succeeds : goal.returns-in_err-run_again-in-Differs-clause-succeeds
returns-in_err-run_again-in-Differs-clause-succeeds g c = rw c.in-Core.is (λ repeat.
    let v = c.in-Core.core in
    let w = c.edit_on.new.core in
    let e = c.args.edit.now in
    let gone = subst (λ (r : Guard). HasGoneOn r v e w) c.in-Differs.is c.in_ok-edit_on.ensures.gone in
    let repeats = subst (λ (p : Plan). RepeatsAnswers (recorded_in v.held.logs) (report p).answers) c.run_again.ensures.plan repeat in
    absurd (none_other v w repeats _ (c.records_are_answers.ensures.differ v e w gone.0 _ gone.1)))

pub returns-in_ok-run_again-in-Differs-clause-counted : goal.returns-in_ok-run_again-in-Differs-clause-counted
returns-in_ok-run_again-in-Differs-clause-counted g c = rw c.in-Core.is (
    let v = c.in-Core.core in
    let w = c.edit_on.new.core in
    let e = c.args.edit.now in
    let gone = subst (λ (r : Guard). HasGoneOn r v e w) c.in-Differs.is c.in_ok-edit_on.ensures.gone in
    let other = subst (λ (p : Plan). HasOtherAnswer v.held.logs p c.in-Differs.field-0) (sym c.run_again.ensures.plan)
    (c.records_are_answers.ensures.differ v e w gone.0 _ gone.1) in
    ap (λ (a : List (List Bool)). run_count a (c.args.runs + 1)) c.in_ok-run_again-in-Differs.ensures.answers
    ∙ sym (counts_again v (plan_in c.run_again.new.state) c.args.runs _ other))

pub returns-in_ok-run_again-in-Differs-clause-at_most : goal.returns-in_ok-run_again-in-Differs-clause-at_most
returns-in_ok-run_again-in-Differs-clause-at_most g c = rw c.in-Core.is (λ l.
    let v = c.in-Core.core in
    let w = c.edit_on.new.core in
    let e = c.args.edit.now in
    let gone = subst (λ (r : Guard). HasGoneOn r v e w) c.in-Differs.is c.in_ok-edit_on.ensures.gone in
    let other = subst (λ (p : Plan). HasOtherAnswer v.held.logs p c.in-Differs.field-0) (sym c.run_again.ensures.plan)
    (c.records_are_answers.ensures.differ v e w gone.0 _ gone.1) in
    let more = ap (λ (n : RunCount). n.runs) (counts_again v (plan_in c.run_again.new.state) c.args.runs _ other) in
    let most = c.run_again.ensures.at_most l in
    omega arith)

pub returns-in_err-run_again-in-Differs-clause-quiet : goal.returns-in_err-run_again-in-Differs-clause-quiet
returns-in_err-run_again-in-Differs-clause-quiet g c = rw c.in-Core.is (λ none.
    let v = c.in-Core.core in
    let w = c.edit_on.new.core in
    let e = c.args.edit.now in
    let gone = subst (λ (r : Guard). HasGoneOn r v e w) c.in-Differs.is c.in_ok-edit_on.ensures.gone in
    let silent = no_answers w.plan c.edit_on.ensures.sound.fits (subst AsksNothing (sym c.edit_on.ensures.plan) none) in
    absurd (none_answered v w _ silent (c.records_are_answers.ensures.differ v e w gone.0 _ gone.1)))

pub returns-in_ok-run_again-in-Differs-clause-quiet : goal.returns-in_ok-run_again-in-Differs-clause-quiet
returns-in_ok-run_again-in-Differs-clause-quiet g c = rw c.in-Core.is (λ none.
    let v = c.in-Core.core in
    let w = c.edit_on.new.core in
    let e = c.args.edit.now in
    let gone = subst (λ (r : Guard). HasGoneOn r v e w) c.in-Differs.is c.in_ok-edit_on.ensures.gone in
    let silent = no_answers w.plan c.edit_on.ensures.sound.fits (subst AsksNothing (sym c.edit_on.ensures.plan) none) in
    absurd (none_answered v w _ silent (c.records_are_answers.ensures.differ v e w gone.0 _ gone.1)))
