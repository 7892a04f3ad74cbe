-- Depths with another one for one FIFO.
use Rattle.std.proofs.Common.{◌≡◌, ℕ, ◌≤◌, true, List, refl, arith}
use Rattle.std.proofs.lemmas.Bool.{leb-true, le-leb}
use Rattle.least_depths.specs.{Plan, Verdict, FitsEngine, verdict, with_depths, AreDepths, AreDeeper, AsksNothing, IsDoneBy, is_done_by}
use Rattle.least_depths.specs.{AreLeast}
use Rattle.flow_design.specs.declared.report.Verdict.TheVariants.{Done, Deadlock, Cycles, Ops}
use Rattle.depth_order.proofs.Order.{never_slower}

-- ---- verdicts

pub test_done_by : (clock : ℕ) (v : Verdict) → is_done_by clock v ≡ true → IsDoneBy clock v
test_done_by clock (Done c) e = leb-true c clock e
test_done_by clock (Deadlock c) e = absurd (cc)
test_done_by clock (Cycles c) e = absurd (cc)
test_done_by clock (Ops c) e = absurd (cc)

pub done_by_test : (clock : ℕ) (v : Verdict) → IsDoneBy clock v → is_done_by clock v ≡ true
done_by_test clock (Done c) l = le-leb c clock l
done_by_test clock (Deadlock c) l = absurd l
done_by_test clock (Cycles c) l = absurd l
done_by_test clock (Ops c) l = absurd l

done_by_later : (c clock : ℕ) (v : Verdict) → c ≤ clock → IsDoneBy c v → IsDoneBy clock v
done_by_later c clock (Done k) l h = omega arith
done_by_later c clock (Deadlock k) l h = h
done_by_later c clock (Cycles k) l h = h
done_by_later c clock (Ops k) l h = h

-- greater depths are done as early
pub no_later : (p : Plan) → FitsEngine p → AsksNothing p → (ds es : List ℕ) → AreDepths p ds → AreDepths p es → AreDeeper p ds es
    → (clock : ℕ) → IsDoneBy clock (verdict (with_depths p ds)) → IsDoneBy clock (verdict (with_depths p es))
no_later p h none ds es a b more clock = by_verdict (verdict (with_depths p ds)) refl
  where
    by_verdict : (v : Verdict) → verdict (with_depths p ds) ≡ v → IsDoneBy clock v → IsDoneBy clock (verdict (with_depths p es))
    by_verdict (Done c) e l = done_by_later c clock (verdict (with_depths p es)) l (never_slower p h none ds es a b more c e)
    by_verdict (Deadlock c) e l = absurd l
    by_verdict (Cycles c) e l = absurd l
    by_verdict (Ops c) e l = absurd l

-- ---- the same plan with other depths

pub same_depths : (p : Plan) (ds es : List ℕ) → AreDepths (with_depths p ds) es → AreDepths p es
same_depths p ds es a = record { count = a.count; least = a.least; most = a.most; others = a.others }

own_depths_too : (p : Plan) (ds es : List ℕ) → AreDepths p es → AreDepths (with_depths p ds) es
own_depths_too p ds es a = record { count = a.count; least = a.least; most = a.most; others = a.others }

pub same_least : (p : Plan) (ds : List ℕ) (clock : ℕ) (es : List ℕ) → AreLeast (with_depths p ds) clock es → AreLeast p clock es
same_least p ds clock es l lower a less done = l lower (own_depths_too p ds lower a) less done
