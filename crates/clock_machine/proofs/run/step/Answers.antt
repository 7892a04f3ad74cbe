use Rattle.std.proofs.Common.{ℕ, ◌+◌, ◌++◌, ◌∙◌, List, [], Bool, length, map, get_or, sym, ap, subst}
use Rattle.std.specs.List.{refill, enumerate_from}
use Rattle.clock_machine.specs.{Element, ModuleState, steps_in, contents_after, state, outcomes, Memo, step_at, AreRemembered, exchanges_in}
use Rattle.clock_machine.specs.{popped, pushed, after_pops, after_pushes}
use Rattle.clock_machine.proofs.Coming.{events_next, answers_next, contents_come}
use Rattle.clock_machine.proofs.{Fronts.refilled, Fronts.written_through, Steps.contents_next}
use Rattle.clock_machine.proofs.run.step.Goals as goal

pub returns-clause-come : goal.returns-clause-come
returns-clause-come c =
    let p = c.args.of.now.plan.now in
    let clock = c.args.clock in
    let run = c.args.run.now in
    let come = c.requires.come in
    let turned = c.in_ok-moving.ensures in
    let steps = steps_in p clock (state p clock) in
    let states = refilled run.state.modules c.take_turns.new.states (turned.remembered.state_count ∙ sym come.remembered.state_count) in
    let memos = refilled run.memos c.take_turns.new.memos (turned.remembered.memo_count ∙ sym come.remembered.memo_count) in
    let answers = refilled run.answers c.take_turns.new.answers (turned.count ∙ ap length c.as_mut_slice-3.ensures.value) in
    let pops = c.as_slice-2.ensures ∙ (turned.done.traffic.pops ∙ ap (λ (l : List ℕ). l ++ popped (exchanges_in steps)) come.no_pops) in
    let pushes = c.as_slice-3.ensures ∙ (turned.done.traffic.pushes ∙ ap (λ l. l ++ pushed (exchanges_in steps)) come.no_pushes) in
    record {
      remembered = subst (λ (xs : List ModuleState). AreRemembered p c.args.of.now.codes.now (clock + 1) xs (refill (length run.memos)
          run.memos c.take_turns.new.memos))
          (sym states)
          (subst (λ (ys : List Memo). AreRemembered p c.args.of.now.codes.now (clock + 1) c.take_turns.new.states ys) (sym memos)
          turned.remembered);
      holding = contents_next p clock steps c.as_slice-2.result.now c.as_slice-3.result.now run.state.contents _ _ pops pushes
          (written_through (after_pops c.as_slice-2.result.now) run.state.contents c.as_mut_slice-4.result.now c.pop_all.new.contents
          c.as_mut_slice-4.ensures.value c.pop_all.ensures)
          (written_through (after_pushes p clock c.as_slice-3.result.now) _ c.as_mut_slice-5.result.now c.push_all.new.contents
          c.as_mut_slice-5.ensures.value c.in_ok-push_all.ensures)
          ∙ (ap (λ (held : List (List Element)). map (contents_after p clock steps) (enumerate_from 0 held)) come.holding
          ∙ sym (contents_come p clock));
      no_pops = ap (λ t. t.pops) c.clear.ensures;
      no_pushes = ap (λ t. t.pushes) c.clear.ensures;
      events = events_next p c.args.keep clock run.round.events c.take_turns.new.round.events come.events turned.done.events;
      answer_count = ap length answers ∙ (turned.count ∙ (ap length c.as_mut_slice-3.ensures.value ∙ come.answer_count));
      answers = λ i l. ap (λ (all : List (List Bool)). get_or all i []) answers
          ∙ answers_next p clock i (get_or run.answers i []) (get_or c.take_turns.new.answers i []) l (come.answers i l)
          (turned.answers i l
          ∙ ap (λ (all : List (List Bool)). get_or all i [] ++ outcomes (step_at p clock i)) c.as_mut_slice-3.ensures.value);
    }
