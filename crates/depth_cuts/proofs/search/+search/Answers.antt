use Rattle.std.proofs.Common.{ℕ, ◌+◌, ◌<◌, ◌≡◌, List, length, sym, ◌∙◌, ap, subst, arith, inl}
use Rattle.std.specs.Prelude.{slice_index_or, slice_set}
use Rattle.depth_cuts.specs.{Cut, Need, Choice, AreAbove, AreTried, IsAt, IsNeedTried, need_at, swapped}
use Rattle.depth_cuts.proofs.Found.{lent_met, lent_unmet, none_better, found_here, raised_at, turn_within, is_put_back, all_tried}
use Rattle.depth_cuts.proofs.Found.{one_more_tried, reaches_raised}
use Rattle.depth_cuts.proofs.search.+search.Goals as goal

pub returns-then-next-cuts-clause-kept : goal.returns-then-next-cuts-clause-kept
returns-then-next-cuts-clause-kept t c =
    let demands = c.args.demands.now in
    let all = ap length c.as_slice-cuts.ensures in
    found_here demands c.args.from c.first_unmet-next.result c.args.at.now c.in_ok-copied.field-0 c.requires.at
    (lent_met demands.cuts c.as_slice-cuts.result.now c.args.from c.first_unmet-next.result c.args.at.now.depths c.as_slice.result.now
    c.as_slice-cuts.ensures c.as_slice.ensures c.first_unmet-next.ensures.met)
    (omega (arith, c.if-next-cuts.true)) c.in_ok-copied.ensures

pub returns-then-next-cuts-clause-searched : goal.returns-then-next-cuts-clause-searched
returns-then-next-cuts-clause-searched t c =
    none_better c.args.demands.now c.in_ok-copied.field-0 c.args.at.now.depths
    (inl (ap (λ (x : Choice). x.depths) c.in_ok-copied.ensures))

pub search-requires : goal.search-requires
search-requires t c =
    let demands = c.args.demands.now in
    let cuts = c.as_slice-cuts.ensures in
    let next = c.first_unmet-next.result in
    let at = c.loop-turn.at in
    let all = ap length cuts in
    let found = c.first_unmet-next.ensures in
    let most = found.most in
    let least = found.least in
    let inside : next < length demands.cuts = omega (arith, c.if-next-cuts.false) in
    let same = ap (λ (x : Choice). x.depths) (sym c.loop-turn.invariant.at) in
    let shown = c.as_slice.ensures ∙ same in
    let needs = c.as_slice-needs.ensures ∙ ap (λ (cut : Cut). cut.needs) (sym c.index-cuts-next.is) in
    let raised = c.raise-before.ensures in
    let many = ap length needs in
    let turn = c.loop-turn-test.true in (
      omega (arith, c.decreases),
      (
        c.requires.demands,
        (
          omega arith,
          (
            raised_at demands c.args.from next at c.raise-before.new.at c.index-cuts-next.result c.swapped.result
                c.requires.demands (subst (IsAt demands c.args.from) (sym c.loop-turn.invariant.at) c.requires.at) least inside
                (lent_met demands.cuts c.as_slice-cuts.result.now c.args.from next at.depths c.as_slice.result.now cuts shown found.met)
                (subst (λ (cs : List Cut). c.index-cuts-next.result ≡ slice_index_or cs next c.index-cuts-next.result) cuts
                c.index-cuts-next.is)
                (lent_unmet demands.cuts c.as_slice-cuts.result.now next at.depths c.as_slice.result.now cuts shown (found.unmet
                (omega arith)))
                (turn_within c.least_rise-first.result.place c.loop-turn.turn (length c.index-cuts-next.result.needs) c.swapped.result
                (λ some. let is = c.least_rise-first.ensures.place (omega arith) in omega arith) (omega arith) c.swapped.ensures)
                (raised.depths ∙ ap (λ (ns : List Need). slice_set at.depths (need_at ns c.swapped.result).channel (need_at ns
                c.swapped.result).depth) needs)
                raised.bits,
            c.loop-turn.invariant.kept,
          ),
        ),
      ),
    )

pub loop-turn-preserved : goal.loop-turn-preserved
loop-turn-preserved t c =
    let demands = c.args.demands.now in
    let at = c.loop-turn.at in
    let x = c.loop-turn.invariant in
    let ok = c.in_ok-search.ensures in
    let raised = c.raise-before.ensures in
    let back = c.put_back.ensures in
    let turn = c.loop-turn.turn in
    let needs = c.as_slice-needs.result.now in
    let first = c.least_rise-first.result.place in
    let need = need_at needs c.swapped.result in
    let rose = ap (λ (a : Choice). a.depths) ok.at ∙ raised.depths in
    let restored : c.put_back.new.at ≡ at = is_put_back at c.search.new.at c.put_back.new.at need.channel need.depth
    c.raise-before.result rose
    raised.before back.depths back.bits in
    let here : IsNeedTried demands at.depths c.search.new.best (need_at needs (swapped first turn)) =
    subst (λ (k : ℕ). IsNeedTried demands at.depths c.search.new.best (need_at needs k)) c.swapped.ensures (λ es above met deep.
    ok.searched es (subst (λ (ds : List ℕ). AreAbove ds es) (sym raised.depths)
    (reaches_raised at.depths es need.channel need.depth above deep)) met) in
    record {
      at = restored ∙ x.at;
      kept = ok.kept;
      improves = λ es beaten. ok.improves es (x.improves es beaten);
      tried = subst (λ (a : Choice). AreTried demands a.depths c.search.new.best needs first (turn + 1)) (sym restored)
          (one_more_tried demands at.depths c.loop-turn.best c.search.new.best needs first turn x.tried ok.improves here);
    }

pub returns-clause-searched : goal.returns-clause-searched
returns-clause-searched t c =
    let demands = c.args.demands.now in
    let cuts = c.as_slice-cuts.ensures in
    let next = c.first_unmet-next.result in
    let all = ap length cuts in
    let most = c.first_unmet-next.ensures.most in
    let inside : next < length demands.cuts = omega (arith, c.if-next-cuts.false) in
    let x = c.loop-turn.invariant in
    let needs = c.as_slice-needs.ensures ∙ ap (λ (cut : Cut). cut.needs) (sym c.index-cuts-next.is) in
    let many = ap length needs in
    let first = c.least_rise-first.result.place in
    all_tried demands c.args.at.now.depths c.loop-turn.best c.index-cuts-next.result next first c.loop-turn.turn inside
    (subst (λ (cs : List Cut). c.index-cuts-next.result ≡ slice_index_or cs next c.index-cuts-next.result) cuts c.index-cuts-next.is)
    (λ some. let is = c.least_rise-first.ensures.place (omega arith) in omega arith) (omega (arith, c.loop-turn-test.false))
    (subst (λ (a : Choice). AreTried demands a.depths c.loop-turn.best c.index-cuts-next.result.needs first c.loop-turn.turn) x.at
    (subst (λ (ns : List Need). AreTried demands c.loop-turn.at.depths c.loop-turn.best ns first c.loop-turn.turn) needs x.tried))
