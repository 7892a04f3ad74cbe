use Rattle.std.proofs.Common.{◌≡◌, ℕ, ◌∙◌, ◌&&◌, List, Bool, true, false, not, length, get_or, refl, sym, ap, subst, arith}
use Rattle.std.proofs.lemmas.List.{length-set, get_or_default}
use Rattle.std.specs.List.{list_any}
use Rattle.clock_machine.specs.{Plan, ClockState, Element, ModuleState, all_ready, nobody, some_moves, is_settled, moves, state, state_at}
use Rattle.clock_machine.specs.{Memo, IsRemembered, no_memo}
use Rattle.lockstep_defs.proofs.{Agrees.all_modules, Settled.settled_from, Settled.same_stalls, Settled.some_alike}
use Rattle.clock_machine.proofs.Fronts.{none_more, some_at, numbered_all, all_known}
use Rattle.clock_machine.proofs.turns.is_settled.Goals as goal

-- a module that would move in no clock moves in none
ever : (p : Plan) (clock : ℕ) (st : ClockState) (b : Bool) → some_moves p 0 (all_ready st.contents) st ≡ b
    → some_moves p clock (all_ready st.contents) st ≡ b
ever p clock st b e = some_alike p clock 0 (all_ready st.contents) (all_ready st.contents) (same_stalls p clock 0 st.contents) st ∙ e

-- where a module would move the clock is not settled
unsettled : (p : Plan) (clock : ℕ) (st : ClockState) → some_moves p 0 (all_ready st.contents) st ≡ true → is_settled p clock st ≡ false
unfolding is_settled
unsettled p clock st e = rw (ever p clock st true e) (by_test (some_moves p clock st.contents st))
  where
    by_test : (b : Bool) → (not b && false) ≡ false
    by_test true = refl
    by_test false = refl

pub would_move-requires-clause-remembered : goal.would_move-requires-clause-remembered
would_move-requires-clause-remembered c =
    let p = c.args.at.now.of.now.plan.now in
    let clock = c.args.at.now.clock in
    let i = c.loop-i.i in
    let counts = c.requires.remembered in
    let here = counts.state_count in
    let memos = counts.memo_count in
    let s = get_or_default c.args.states.now i c.index-states-i.result nobody (omega arith) in
    let memo = get_or_default c.loop-i.memos i c.index-memos-i.result no_memo (omega arith) in
    subst (λ (z : ModuleState). IsRemembered p c.args.at.now.of.now.codes.now clock i z (get_or c.loop-i.memos i c.index-memos-i.result))
    (sym (c.index-states-i.is ∙ s))
    (subst (IsRemembered p c.args.at.now.of.now.codes.now clock i (get_or c.args.states.now i nobody)) (sym memo)
    (c.loop-i.invariant.remembered i (omega arith)))

-- whether a module would move, by what the plan's run holds
by_run : (p : Plan) (clock i : ℕ) (contents : List (List Element)) (b moving : Bool) → contents ≡ (state p clock).contents
    → moving ≡ moves p 0 (all_ready contents) (i, state_at p clock i) → moving ≡ b
    → moves p 0 (all_ready (state p clock).contents) (i, state_at p clock i) ≡ b
by_run p clock i contents b moving holding e f =
    ap (λ (held : List (List Element)). moves p 0 (all_ready held) (i, state_at p clock i)) (sym holding) ∙ (sym e ∙ f)

pub returns-then-branch-clause-settled : goal.returns-then-branch-clause-settled
returns-then-branch-clause-settled c =
    let p = c.args.at.now.of.now.plan.now in
    let clock = c.args.at.now.clock in
    let st = state p clock in
    let count = c.requires.remembered.state_count in
    let all = all_modules p clock in
    sym (unsettled p clock st (some_at (moves p 0 (all_ready st.contents)) st.modules c.loop-i.i nobody (omega arith)
    (by_run p clock c.loop-i.i c.args.at.now.contents.now true c.in_ok-would_move.field-0 c.requires.runs.holding
    c.in_ok-would_move.ensures.moving c.if-branch.true)))

pub loop-i-preserved : goal.loop-i-preserved
loop-i-preserved c =
    let p = c.args.at.now.of.now.plan.now in
    let clock = c.args.at.now.clock in
    let st = state p clock in
    let i = c.loop-i.i in
    let counts = c.requires.remembered in
    let states = counts.state_count in
    let memos = counts.memo_count in
    let all = all_modules p clock in
    let s : c.index-states-i.result ≡ get_or c.args.states.now i nobody =
    c.index-states-i.is ∙ get_or_default c.args.states.now i c.index-states-i.result nobody (omega arith) in record {
      none = none_more (moves p 0 (all_ready st.contents)) st.modules i nobody (omega arith) c.loop-i.invariant.none
          (by_run p clock i c.args.at.now.contents.now false c.in_ok-would_move.field-0 c.requires.runs.holding
          c.in_ok-would_move.ensures.moving c.if-branch.false);
      remembered = all_known (λ (k : ℕ) (memo : Memo). IsRemembered p c.args.at.now.of.now.codes.now clock k (get_or c.args.states.now k
          nobody) memo) c.loop-i.memos i
          (length p.design.modules) c.would_move.new.memo no_memo (omega arith) c.loop-i.invariant.remembered
          (subst (λ (z : ModuleState). IsRemembered p c.args.at.now.of.now.codes.now clock i z c.would_move.new.memo) s
          c.in_ok-would_move.ensures.remembered);
    }

pub returns-clause-settled : goal.returns-clause-settled
returns-clause-settled c =
    let p = c.args.at.now.of.now.plan.now in
    let clock = c.args.at.now.clock in
    let st = state p clock in
    let count = c.requires.remembered.state_count in
    let all = all_modules p clock in
    sym (settled_from p clock st (ever p clock st false
    (ap (list_any (moves p 0 (all_ready st.contents))) (sym (numbered_all st.modules c.loop-i.i (omega arith))) ∙ c.loop-i.invariant.none)))

pub returns-then-branch-clause-remembered : goal.returns-then-branch-clause-remembered
returns-then-branch-clause-remembered c =
    let p = c.args.at.now.of.now.plan.now in
    let codes = c.args.at.now.of.now.codes.now in
    let clock = c.args.at.now.clock in
    let i = c.loop-i.i in
    let counts = c.requires.remembered in
    let states = counts.state_count in
    let memos = counts.memo_count in
    let s : c.index-states-i.result ≡ get_or c.args.states.now i nobody =
    c.index-states-i.is ∙ get_or_default c.args.states.now i c.index-states-i.result nobody (omega arith) in record {
      state_count = counts.state_count;
      memo_count = length-set c.loop-i.memos i c.would_move.new.memo ∙ (c.loop-i.auto.memos ∙ counts.memo_count);
      each = all_known (λ (k : ℕ) (memo : Memo). IsRemembered p codes clock k (get_or c.args.states.now k nobody) memo) c.loop-i.memos i
          (length p.design.modules) c.would_move.new.memo no_memo (omega arith) c.loop-i.invariant.remembered
          (subst (λ (z : ModuleState). IsRemembered p codes clock i z c.would_move.new.memo) s c.in_ok-would_move.ensures.remembered);
    }
