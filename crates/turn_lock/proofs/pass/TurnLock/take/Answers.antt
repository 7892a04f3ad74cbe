use Rattle.std.proofs.Common.{rules, ◌≡◌, ◌+◌, ℕ, List, Option, ap, ◌∙◌, arith}
use Rattle.turn_lock.specs.{PassView, BeginsTurn, Views.after_lost_tries}
use Rattle.turn_lock.proofs.pass.TurnLock.take.Goals as goal

-- a try that won after others that were lost
after_lost : {E : Type 0} (bearer : E → Option ℕ) (tries : ℕ) (log : List E) (v w : PassView E)
    → BeginsTurn bearer 0 log (after_lost_tries tries v) w → BeginsTurn bearer tries log v w
after_lost bearer tries log v w b = let lost : w.lost ≡ (v.lost + tries) + 0 = b.lost in
    record {
      same = record { number = b.same.number; passes = b.same.passes; made = b.same.made; joined = b.same.joined };
      seen = b.seen;
      own = b.own;
      turns = b.turns;
      lost = omega arith;
      history = b.history;
      continues = record {
        begins = b.continues.begins;
        owns = record { own = b.continues.owns.own; unborn = b.continues.owns.unborn };
        since = b.continues.since;
      };
    }

pub loop-preserved : goal.loop-preserved
loop-preserved g c = let i = c.loop.invariant in let old : PassView g.row.K-Entry.Denot = c.args.pass.seat.me.0 in
    let more : (old.lost + i.1.0) + 1 ≡ old.lost + (i.1.0 + 1) = omega arith in (
      search rules,
      (
        i.1.0 + 1,
        c.in-Lost.ensures.tried ∙ (ap (after_lost_tries 1) i.1.1
            ∙ ap (λ n. let v : PassView g.row.K-Entry.Denot = record old { lost = n } in v) more),
      ),
    )
