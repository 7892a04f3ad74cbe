use Rattle.std.proofs.Common.{◌≡◌, ℕ, ◌+◌, ◌≤◌, ◌∙◌, List, map, refl, sym, ap, subst, arith, false, Bool, true, not}
use Rattle.std.proofs.lemmas.List.{append-nil}
use Rattle.flow_design.specs.declared.design.Module.{Module}
use Rattle.clock_machine.specs.{ModuleState, Reply, Request, Element, Plan, is_over, move, reply, stalls, no_module, module_at, requests_of}
use Rattle.clock_machine.specs.{state, state_at, BlockCode, AreNotesOf, CanCommit, IsRemembered, Memo}
use Rattle.lockstep_defs.proofs.Agrees.{below_limit}
use Rattle.clock_machine.proofs.Sleeping.{awake, stays, has_moved, moved_state, moves_by_requests, asked_in, runs_in, remembered_sound}
use Rattle.clock_machine.proofs.Steps.{IsAnswered, given_done, given_outcomes}
use Rattle.std.specs.List.{list_any}
use Rattle.clock_machine.proofs.turn.act.Goals as goal

-- what is asked of a module that is awake and runs, and whether it moves
answer_is : (p : Plan) {codes : List (List BlockCode)} (clock i : ℕ) (s : ModuleState) (memo : Memo) (contents : List (List Element))
    (asked : List Request) (goes : Bool)
    → IsRemembered p codes clock i s memo → memo.wakes ≤ clock → memo.known ≡ true → is_over p.ops s ≡ false
    → contents ≡ (state p clock).contents
    → asked ≡ memo.requests → goes ≡ not (list_any (stalls p clock contents) asked) → IsAnswered p clock i contents asked goes
answer_is p clock i s memo contents asked goes is l known running holding same e =
    let asks = same ∙ asked_in p clock i s memo is l known in record {
      holding = holding;
      asked_is = asks;
      goes_is = moves_by_requests p clock i contents asked goes holding asks (runs_in p clock i s memo false is l running) e;
    }

pub returns-then-not-branch-clause-moving : goal.returns-then-not-branch-clause-moving
returns-then-not-branch-clause-moving c =
    let p = c.args.at.now.of.now.plan.now in
    let r = c.requires in
    let answered = answer_is p c.args.at.now.clock c.args.i c.args.state.now c.args.memo.now c.args.at.now.contents.now
    c.as_slice-requests.result.now c.in_ok-answer.field-0 r.remembered r.awake r.known r.running r.runs.holding c.as_slice-requests.ensures
    c.in_ok-answer.ensures.goes in
    sym c.if-not-branch.true ∙ answered.goes_is

pub returns-then-not-branch-clause-remembered : goal.returns-then-not-branch-clause-remembered
returns-then-not-branch-clause-remembered c =
    let p = c.args.at.now.of.now.plan.now in
    let clock = c.args.at.now.clock in
    let i = c.args.i in
    let r = c.requires in
    let answered = answer_is p clock i c.args.state.now c.args.memo.now c.args.at.now.contents.now c.as_slice-requests.result.now
    c.in_ok-answer.field-0 r.remembered r.awake r.known r.running r.runs.holding c.as_slice-requests.ensures c.in_ok-answer.ensures.goes in
    let on = stays p clock i c.args.state.now c.args.memo.now r.within r.remembered r.awake (sym answered.goes_is ∙ c.if-not-branch.true) in
    record {
      standing = on.standing;
      quiet = on.quiet;
      young = on.young;
      known = record { noted = on.known.noted; requests = on.known.requests };
    }

pub returns-then-not-branch-clause-done : goal.returns-then-not-branch-clause-done
returns-then-not-branch-clause-done c =
    let p = c.args.at.now.of.now.plan.now in
    let clock = c.args.at.now.clock in
    let i = c.args.i in
    let r = c.requires in
    let answered = answer_is p clock i c.args.state.now c.args.memo.now c.args.at.now.contents.now c.as_slice-requests.result.now
    c.in_ok-answer.field-0 r.remembered r.awake r.known r.running r.runs.holding c.as_slice-requests.ensures c.in_ok-answer.ensures.goes in
    given_done p clock i c.args.at.now.contents.now c.as_slice-requests.result.now c.in_ok-answer.field-0 c.args.at.now.keep
    c.args.round.now _ answered c.in_ok-answer.ensures.pops c.in_ok-answer.ensures.pushes
    (rw c.if-not-branch.true (sym (append-nil c.args.round.now.events)))

pub returns-then-not-branch-clause-answers : goal.returns-then-not-branch-clause-answers
returns-then-not-branch-clause-answers c =
    let p = c.args.at.now.of.now.plan.now in
    let clock = c.args.at.now.clock in
    let i = c.args.i in
    let r = c.requires in
    let answered = answer_is p clock i c.args.state.now c.args.memo.now c.args.at.now.contents.now c.as_slice-requests.result.now
    c.in_ok-answer.field-0 r.remembered r.awake r.known r.running r.runs.holding c.as_slice-requests.ensures c.in_ok-answer.ensures.goes in
    given_outcomes p clock i c.args.at.now.contents.now c.as_slice-requests.result.now c.in_ok-answer.field-0 c.args.answers.now
    c.answer.new.outcomes answered c.in_ok-answer.ensures.outcomes

pub code_at-code-requires-clause-block : goal.code_at-code-requires-clause-block
code_at-code-requires-clause-block c =
    let r = c.requires in
    (remembered_sound c.args.at.now.of.now.plan.now r.runs.fits c.args.at.now.clock c.args.i c.args.state.now c.args.memo.now r.within
    r.remembered
    r.running).state.block

pub make_move-requires-clause-can : goal.make_move-requires-clause-can
make_move-requires-clause-can c =
    let p = c.args.at.now.of.now.plan.now in
    let s = c.args.state.now in
    let i = c.args.i in
    let r = c.requires in
    let few = below_limit p.ops s r.running in
    let operations = r.runs.fits.operations in
    let code = c.code_at-code.result.now in
    let can : CanCommit p.design.channels (module_at p i) s code c.args.memo.now.notes = record {
      of = r.runs.fits.modules i no_module r.within;
      state = remembered_sound p r.runs.fits c.args.at.now.clock i s c.args.memo.now r.within r.remembered r.running;
      code_is = c.code_at-code.ensures.own;
      noted = subst (λ (b : BlockCode). AreNotesOf (module_at p i) s b c.args.memo.now.notes) (sym (c.code_at-code.ensures.code code))
          (r.remembered.known.noted r.known code);
      few = omega arith;
    } in (
      p.design.channels,
      subst (λ (m : Module). CanCommit p.design.channels m s code c.args.memo.now.notes) (sym c.module_at.ensures) can,
    )

pub returns-clause-moving : goal.returns-clause-moving
returns-clause-moving c =
    let p = c.args.at.now.of.now.plan.now in
    let r = c.requires in
    let answered = answer_is p c.args.at.now.clock c.args.i c.args.state.now c.args.memo.now c.args.at.now.contents.now
    c.as_slice-requests.result.now c.in_ok-answer.field-0 r.remembered r.awake r.known r.running r.runs.holding c.as_slice-requests.ensures
    c.in_ok-answer.ensures.goes in
    sym c.if-not-branch.false ∙ answered.goes_is

-- the state in which a module comes out
comes_to : (p : Plan) (clock i : ℕ) (of : Module) (s t : ModuleState) (contents : List (List Element)) (asked : List Request)
    (given replies : List Reply) → of ≡ module_at p i → s ≡ state_at p clock i → contents ≡ (state p clock).contents
    → asked ≡ requests_of p (i, state_at p clock i) → given ≡ map (reply p clock contents) asked → replies ≡ given → t ≡ move of s replies
    → t ≡ move (module_at p i) (state_at p clock i) (map (reply p clock (state p clock).contents) (requests_of p (i, state_at p clock i)))
comes_to p clock i of s t contents asked given replies a b d e f g h =
    h ∙ (ap (λ (m : Module). move m s replies) a ∙ (ap (λ (z : ModuleState). move (module_at p i) z replies) b
    ∙ ap (move (module_at p i) (state_at p clock i)) (g ∙ (f ∙ (ap (λ (held : List (List Element)). map (reply p clock held) asked) d
    ∙ ap (map (reply p clock (state p clock).contents)) e)))))

pub returns-clause-remembered : goal.returns-clause-remembered
returns-clause-remembered c =
    let p = c.args.at.now.of.now.plan.now in
    let clock = c.args.at.now.clock in
    let i = c.args.i in
    let r = c.requires in
    let answered = answer_is p clock i c.args.state.now c.args.memo.now c.args.at.now.contents.now c.as_slice-requests.result.now
    c.in_ok-answer.field-0 r.remembered r.awake r.known r.running r.runs.holding c.as_slice-requests.ensures c.in_ok-answer.ensures.goes in
    let s = c.args.state.now in
    let young = r.remembered.young in
    let l = r.awake in
    let most = c.in_ok-make_move.ensures.clock in
    let one : c.make_move.new.state.control.clock ≤ clock + 1 = omega arith in
    has_moved p clock i c.make_move.new.state _ r.awake refl
    (comes_to p clock i c.module_at.result.now s c.make_move.new.state c.args.at.now.contents.now c.as_slice-requests.result.now
    c.answer.new.replies c.as_slice-replies.result.now c.module_at.ensures (awake p clock i s c.args.memo.now r.remembered r.awake)
    answered.holding answered.asked_is
    (c.in_ok-answer.ensures.replies c.if-not-branch.false) c.as_slice-replies.ensures c.in_ok-make_move.ensures.moved
    ∙ sym (moved_state p clock i r.within (sym answered.goes_is ∙ c.if-not-branch.false))) one

pub returns-clause-done : goal.returns-clause-done
returns-clause-done c =
    let p = c.args.at.now.of.now.plan.now in
    let clock = c.args.at.now.clock in
    let i = c.args.i in
    let r = c.requires in
    let answered = answer_is p clock i c.args.state.now c.args.memo.now c.args.at.now.contents.now c.as_slice-requests.result.now
    c.in_ok-answer.field-0 r.remembered r.awake r.known r.running r.runs.holding c.as_slice-requests.ensures c.in_ok-answer.ensures.goes in
    given_done p clock i c.args.at.now.contents.now c.as_slice-requests.result.now c.in_ok-answer.field-0 c.args.at.now.keep
    c.args.round.now _ answered c.in_ok-answer.ensures.pops c.in_ok-answer.ensures.pushes
    (rw c.if-not-branch.false c.in_ok-tell_kept_events.ensures)

pub returns-clause-answers : goal.returns-clause-answers
returns-clause-answers c =
    let p = c.args.at.now.of.now.plan.now in
    let clock = c.args.at.now.clock in
    let i = c.args.i in
    let r = c.requires in
    let answered = answer_is p clock i c.args.state.now c.args.memo.now c.args.at.now.contents.now c.as_slice-requests.result.now
    c.in_ok-answer.field-0 r.remembered r.awake r.known r.running r.runs.holding c.as_slice-requests.ensures c.in_ok-answer.ensures.goes in
    given_outcomes p clock i c.args.at.now.contents.now c.as_slice-requests.result.now c.in_ok-answer.field-0 c.args.answers.now
    c.answer.new.outcomes answered c.in_ok-answer.ensures.outcomes
