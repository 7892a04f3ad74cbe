use Rattle.std.proofs.Common.{sym, ap, ◌∙◌, false}
use Rattle.run_ahead.specs.{next_rest, accesses_at, waits, none_taken, taken_after, task_of}
use Rattle.run_ahead.proofs.{Finding.left_none, Going.begin_waiting, Going.begin_fed, Going.begin_going}
use Rattle.run_ahead.proofs.mail.begin.Goals.{then-is_waiting+else-not-fed, else-is_waiting}
use Rattle.run_ahead.proofs.mail.begin.Goals as goal

pub run_on-requires-clause-stands : goal.run_on-requires-clause-stands
run_on-requires-clause-stands c =
    let (p, (i, (o, s))) = c.requires.stands in
    elim c.if-is_waiting.branch [
      | then-is_waiting+else-not-fed w ↦
          let f = w.answer-fed.ensures.fed w.if-not-fed.false p i o s c.args.mail.now _ (left_none c.args.mail.now) in
          (p, (i, (next_rest p i o f.replies, rw w.run-is f.stands)))
      | else-is_waiting w ↦ (p, (i, (o, rw w.run-is s)))
    ]

pub run_on-requires-clause-goes : goal.run_on-requires-clause-goes
run_on-requires-clause-goes c =
    let (p, (i, (o, s))) = c.requires.stands in
    elim c.if-is_waiting.branch [
      | then-is_waiting+else-not-fed w ↦ ap waits w.run-is ∙ w.answer-fed.ensures.goes w.if-not-fed.false
      | else-is_waiting w ↦ ap waits w.run-is ∙ (sym c.is_waiting.ensures ∙ w.if-is_waiting.false)
    ]

pub returns : goal.returns
returns c = λ p i o s.
    let whole = c.args.mail.now in
    let none = none_taken in
    elim c.if-is_waiting.branch [
      | then-is_waiting+else-not-fed w ↦
          let f = w.answer-fed.ensures.fed w.if-not-fed.false p i o s whole none (left_none whole) in
          let waiting = sym c.is_waiting.ensures ∙ w.if-is_waiting.true in
          let taken = taken_after none (accesses_at p i o) f.replies in
          let on = c.run_on.ensures p i (next_rest p i o f.replies) (rw w.run-is f.stands) whole taken (rw w.mail-is f.left) in
          begin_fed p i o whole c.run_on.result c.args.run.now w.answer-fed.new.run (task_of c.run_on.new.run c.run_on.new.mail)
          w.answer-fed.new.told
          w.answer-fed.new.mail c.run_on.new.marks waiting f
          (rw w.told-is at on)
      | else-is_waiting w ↦
          let going = (sym c.is_waiting.ensures ∙ w.if-is_waiting.false) in
          let on = c.run_on.ensures p i o (rw w.run-is s) whole none (rw w.mail-is (left_none whole)) in
          begin_going p i o whole c.run_on.result c.args.run.now (task_of c.run_on.new.run c.run_on.new.mail) c.run_on.new.marks going
          (rw w.told-is at on)
    ]

pub returns-then-not-fed : goal.returns-then-not-fed
returns-then-not-fed c = λ p i o s.
    let same = c.answer-fed.ensures.waiting c.if-not-fed.true in
    rw c.requires.none
    (begin_waiting p i o c.args.mail.now false c.args.run.now (task_of c.answer-fed.new.run c.answer-fed.new.mail) s
    (sym c.is_waiting.ensures ∙ c.if-is_waiting.true) same.0 same.1
    (λ e. c.answer-fed.ensures.missing c.if-not-fed.true p i o s c.args.mail.now _ (left_none c.args.mail.now)))
