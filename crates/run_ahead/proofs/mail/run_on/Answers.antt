use Rattle.std.proofs.Common.{refl}
use Rattle.run_ahead.specs.{task_of}
use Rattle.run_ahead.proofs.{Finding.left_none, Going.so_far_none, Going.stop_short, Going.stop_over, Going.stop_waiting, Going.go_more}
use Rattle.run_ahead.proofs.mail.run_on.Goals as goal

pub returns-in-Err : goal.returns-in-Err
returns-in-Err c = λ p i o s mail taken k.
    let f = c.loop-left.invariant.so_far p i o s mail taken k in
    stop_short p i mail o c.args.told.now taken c.loop-left.told c.loop-left.mail c.loop-left.marks c.loop-left.run f c.add_next.new.self
    c.add_next.new.run (c.in-Err.ensures.stands p i f.at f.stands) c.in-Err.ensures.goes c.in-Err.ensures.err

pub answer-fed-requires-clause-stands : goal.answer-fed-requires-clause-stands
answer-fed-requires-clause-stands c =
    let (p, (i, (o, s))) = c.requires.stands in
    let f = c.loop-left.invariant.so_far p i o s c.args.mail.now _ (left_none c.args.mail.now) in
    (p, (i, (f.at, c.in-Ok-true.ensures.stands p i f.at f.stands)))

pub loop-left-preserved : goal.loop-left-preserved
loop-left-preserved c = record {
  so_far = λ p i o s mail taken k.
      let f = c.loop-left.invariant.so_far p i o s mail taken k in
      let t = c.in-Ok-true.ensures.stands p i f.at f.stands in
      go_more p i mail o c.args.told.now taken c.loop-left.told c.loop-left.mail c.loop-left.marks c.loop-left.run f c.add_next.new.self
      c.add_next.new.run t _ c.in-Ok-true.ensures.emitted c.in-Ok-true.field-0-test c.answer-fed.new.run
      c.answer-fed.new.told c.answer-fed.new.mail (c.answer-fed.ensures.fed c.if-not-fed.false p i f.at t mail f.taken_now f.is_left);
  goes = c.answer-fed.ensures.goes c.if-not-fed.false;
}

pub returns-then-not-fed : goal.returns-then-not-fed
returns-then-not-fed c = λ p i o s mail taken k.
    let f = c.loop-left.invariant.so_far p i o s mail taken k in
    let t = c.in-Ok-true.ensures.stands p i f.at f.stands in
    let same = c.answer-fed.ensures.waiting c.if-not-fed.true in
    stop_waiting p i mail o c.args.told.now taken c.loop-left.told c.loop-left.mail c.loop-left.marks c.loop-left.run f c.add_next.new.self
    c.add_next.new.run t _ c.in-Ok-true.ensures.emitted c.in-Ok-true.field-0-test _
    (task_of c.answer-fed.new.run c.answer-fed.new.mail) same.0 same.1
    (λ e. c.answer-fed.ensures.missing c.if-not-fed.true p i f.at t mail f.taken_now f.is_left)

pub returns : goal.returns
returns c = λ p i o s mail taken k.
    let f = c.loop-left.invariant.so_far p i o s mail taken k in
    stop_short p i mail o c.args.told.now taken c.loop-left.told c.loop-left.mail c.loop-left.marks c.loop-left.run f c.loop-left.marks
    c.loop-left.run f.stands c.loop-left.invariant.goes refl

pub add_next-requires-clause-stands : goal.add_next-requires-clause-stands
add_next-requires-clause-stands c =
    let (p, (i, (o, s))) = c.requires.stands in
    let f = c.loop-left.invariant.so_far p i o s c.args.mail.now _ (left_none c.args.mail.now) in
    (p, (i, (f.at, f.stands)))

pub returns-in-Ok-false : goal.returns-in-Ok-false
returns-in-Ok-false c = λ p i o s mail taken k.
    let f = c.loop-left.invariant.so_far p i o s mail taken k in
    let t = c.in-Ok-false.ensures.stands p i f.at f.stands in
    stop_over p i mail o c.args.told.now taken c.loop-left.told c.loop-left.mail c.loop-left.marks c.loop-left.run f c.add_next.new.self
    c.add_next.new.run t _ c.in-Ok-false.ensures.emitted c.in-Ok-false.field-0-test

pub loop-left-init : goal.loop-left-init
loop-left-init c = record {
  so_far = λ p i o s mail taken k.
      rw c.requires.none (so_far_none p i mail o c.args.told.now taken c.args.run.now c.args.mail.now s k);
  goes = c.requires.goes;
}
