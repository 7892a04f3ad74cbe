use Rattle.std.proofs.Common.{◌≡◌, ℕ, ◌+◌, ◌<◌, ◌≤◌, ◌++◌, ◌∷◌, ◌||◌, ◌∙◌, List, [], Bool, true, false, length, take, get_or, refl, sym, ap}
use Rattle.std.proofs.Common.{subst, arith, inl, inr}
use Rattle.std.proofs.{Math.ListN.set, lemmas.List.Concat.flat_map-append, lemmas.List.Folds.list_any-append}
use Rattle.std.proofs.lemmas.List.{append-nil, get_or_default, get_or-set_same, get_or-set_other}
use Rattle.std.specs.List.{list_any, flat_map}
use Rattle.clock_machine.specs.{Plan, Element, ModuleState, nobody, outcomes, numbered, moves, state, state_at, module_step, steps_in}
use Rattle.clock_machine.specs.{HasDone, step_at, does_move, IsRemembered, no_memo}
use Rattle.lockstep_defs.proofs.Agrees.{all_modules}
use Rattle.clock_machine.proofs.{Fronts.numbered_more, Fronts.numbered_all, Fronts.below_or_at, Steps.done_more}
use Rattle.clock_machine.proofs.turns.take_turns.Goals.{then-moving, else-moving}
use Rattle.clock_machine.proofs.turns.take_turns.Goals as goal

-- one module more
any_more : (p : Plan) (clock i : ℕ) (before now next : Bool) → i < length (state p clock).modules
    → before ≡ list_any (moves p clock (state p clock).contents) (take i (numbered (state p clock)))
    → now ≡ does_move p clock i → next ≡ (before || now)
    → next ≡ list_any (moves p clock (state p clock).contents) (take (i + 1) (numbered (state p clock)))
any_more p clock i before now next h so here e =
    let st = state p clock in
    let test = moves p clock st.contents in
    e ∙ (ap (λ (b : Bool). b || now) so ∙ (ap (λ (b : Bool). list_any test (take i (numbered st)) || b)
    (here ∙ sym (or_false (does_move p clock i)))
    ∙ (sym (list_any-append test (take i (numbered st)) ((i, state_at p clock i) ∷ []))
    ∙ sym (ap (list_any test) (numbered_more st.modules i nobody h)))))
  where
    or_false : (b : Bool) → (b || false) ≡ b
    or_false true = refl
    or_false false = refl

or_true : (a b c : Bool) → a ≡ true → c ≡ a → c ≡ (a || b)
or_true true b c e f = f
or_true false b c e f = cc

or_else : (a b c : Bool) → a ≡ false → c ≡ b → c ≡ (a || b)
or_else true b c e f = cc
or_else false b c e f = f

steps_more : (p : Plan) (clock i : ℕ) → i < length (state p clock).modules
    → flat_map (module_step p clock (state p clock).contents) (take i (numbered (state p clock))) ++ step_at p clock i
    ≡ flat_map (module_step p clock (state p clock).contents) (take (i + 1) (numbered (state p clock)))
steps_more p clock i h =
    let st = state p clock in
    let step = module_step p clock st.contents in
    sym (ap (flat_map step) (numbered_more st.modules i nobody h)
    ∙ (flat_map-append step (take i (numbered st)) ((i, state_at p clock i) ∷ [])
    ∙ ap (λ l. flat_map step (take i (numbered st)) ++ l) (append-nil _)))

-- a fact of the two items at each place so far, also at the place where both were written
both_more : {X Y : Type 0} (P : ℕ → X → Y → Type 0) (xs : List X) (ys : List Y) (i : ℕ) (x d : X) (y e : Y) → i < length xs → i < length ys
    → ((k : ℕ) → k < i → P k (get_or xs k d) (get_or ys k e)) → P i x y
    → (k : ℕ) → k < i + 1 → P k (get_or (set xs i x) k d) (get_or (set ys i y) k e)
both_more P xs ys i x d y e h j so now k l = elim (below_or_at k i l) [
  | inl below ↦
      subst (λ z. P k z (get_or (set ys i y) k e)) (sym (get_or-set_other xs i k x d (λ same. omega arith)))
      (subst (P k (get_or xs k d)) (sym (get_or-set_other ys i k y e (λ same. omega arith))) (so k below))
  | inr same ↦
      subst (λ (n : ℕ). P n (get_or (set xs i x) n d) (get_or (set ys i y) n e)) (sym same)
      (subst (λ z. P i z (get_or (set ys i y) i e)) (sym (get_or-set_same xs i x d h))
      (subst (P i x) (sym (get_or-set_same ys i y e j)) now))
]

-- and at the places after
both_later : {X Y : Type 0} (P : ℕ → X → Y → Type 0) (xs : List X) (ys : List Y) (i n : ℕ) (x d : X) (y e : Y)
    → ((k : ℕ) → i ≤ k → k < n → P k (get_or xs k d) (get_or ys k e))
    → (k : ℕ) → i + 1 ≤ k → k < n → P k (get_or (set xs i x) k d) (get_or (set ys i y) k e)
both_later P xs ys i n x d y e so k h l =
    subst (λ z. P k z (get_or (set ys i y) k e)) (sym (get_or-set_other xs i k x d (λ same. omega arith)))
    (subst (P k (get_or xs k d)) (sym (get_or-set_other ys i k y e (λ same. omega arith))) (so k (omega arith) l))

pub loop-i-preserved : goal.loop-i-preserved
loop-i-preserved c =
    let p = c.args.at.now.of.now.plan.now in
    let clock = c.args.at.now.clock in
    let st = state p clock in
    let i = c.loop-i.i in
    let counts = c.requires.remembered in
    let states = counts.state_count in
    let memos = counts.memo_count in
    let answers = c.requires.answers in
    let all = all_modules p clock in
    let turn = c.in_ok-moves.ensures in
    let next : c.if-moving.moving ≡ list_any (moves p clock st.contents) (take (i + 1) (numbered st)) = elim c.if-moving.branch [
      | then-moving w ↦ any_more p clock i c.loop-i.moving c.in_ok-moves.moves c.if-moving.moving (omega arith)
          c.loop-i.invariant.moving turn.moving
          (or_true c.loop-i.moving c.in_ok-moves.moves c.if-moving.moving w.if-moving.true w.moving-is)
      | else-moving w ↦ any_more p clock i c.loop-i.moving c.in_ok-moves.moves c.if-moving.moving (omega arith)
          c.loop-i.invariant.moving turn.moving
          (or_else c.loop-i.moving c.in_ok-moves.moves c.if-moving.moving w.if-moving.false w.moving-is)
    ] in record {
      moving = next;
      remembered = both_more (IsRemembered p c.args.at.now.of.now.codes.now (clock + 1)) c.loop-i.states c.loop-i.memos i
          c.take_turn.new.state
          nobody c.take_turn.new.memo no_memo
          (omega arith) (omega arith) c.loop-i.invariant.remembered turn.remembered;
      rest = both_later (IsRemembered p c.args.at.now.of.now.codes.now clock) c.loop-i.states c.loop-i.memos i (length p.design.modules)
          c.take_turn.new.state nobody
          c.take_turn.new.memo no_memo c.loop-i.invariant.rest;
      done = subst (HasDone c.args.at.now.keep c.args.round.now c.take_turn.new.round) (steps_more p clock i (omega arith))
          (done_more c.args.at.now.keep c.args.round.now c.loop-i.round c.take_turn.new.round _ (step_at p clock i) c.loop-i.invariant.done
          turn.done);
      told = λ k l. elim (below_or_at k i l) [
        | inl below ↦ get_or-set_other c.loop-i.answers i k c.take_turn.new.answers [] (λ same. omega arith)
            ∙ c.loop-i.invariant.told k below
        | inr same ↦
            subst (λ (n : ℕ). get_or (set c.loop-i.answers i c.take_turn.new.answers) n []
            ≡ get_or c.args.answers.now n [] ++ outcomes (step_at p clock n)) (sym same)
            (get_or-set_same c.loop-i.answers i c.take_turn.new.answers [] (omega arith)
            ∙ (turn.answers ∙ ap (λ (before : List Bool). before ++ outcomes (step_at p clock i))
            (get_or_default c.loop-i.answers i c.index-answers-i.result [] (omega arith) ∙ c.loop-i.invariant.untold i (omega arith))))
      ];
      untold = λ k l. get_or-set_other c.loop-i.answers i k c.take_turn.new.answers [] (λ same. omega arith)
          ∙ c.loop-i.invariant.untold k (omega arith);
    }

pub returns-clause-moving : goal.returns-clause-moving
returns-clause-moving c =
    let p = c.args.at.now.of.now.plan.now in
    let clock = c.args.at.now.clock in
    let count = c.requires.remembered.state_count in
    let all = all_modules p clock in
    c.loop-i.invariant.moving
    ∙ (ap (list_any (moves p clock (state p clock).contents)) (numbered_all (state p clock).modules c.loop-i.i (omega arith))
    ∙ ap (λ (held : List (List Element)). list_any (moves p clock held) (numbered (state p clock))) (sym c.requires.runs.holding))

pub returns-clause-done : goal.returns-clause-done
unfolding steps_in
returns-clause-done c =
    let p = c.args.at.now.of.now.plan.now in
    let clock = c.args.at.now.clock in
    let count = c.requires.remembered.state_count in
    let all = all_modules p clock in
    subst (λ ms. HasDone c.args.at.now.keep c.args.round.now c.loop-i.round (flat_map (module_step p clock (state p clock).contents) ms))
    (numbered_all (state p clock).modules c.loop-i.i (omega arith)) c.loop-i.invariant.done

pub take_turn-requires-clause-remembered : goal.take_turn-requires-clause-remembered
take_turn-requires-clause-remembered c =
    let p = c.args.at.now.of.now.plan.now in
    let codes = c.args.at.now.of.now.codes.now in
    let clock = c.args.at.now.clock in
    let i = c.loop-i.i in
    let states = c.requires.remembered.state_count in
    let memos = c.requires.remembered.memo_count in
    let s = get_or_default c.loop-i.states i c.index-states-i.result nobody (omega arith) in
    let memo = get_or_default c.loop-i.memos i c.index-memos-i.result no_memo (omega arith) in
    subst (λ (z : ModuleState). IsRemembered p codes clock i z (get_or c.loop-i.memos i c.index-memos-i.result)) (sym s)
    (subst (IsRemembered p codes clock i (get_or c.loop-i.states i nobody)) (sym memo) (c.loop-i.invariant.rest i (omega arith) (omega
    arith)))
