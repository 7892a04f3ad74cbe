use Rattle.std.proofs.Common.{sym, subst, ◌∙◌, List}
use Rattle.turn_lock.specs.Passes.{view_of}
use Rattle.sim_hub.specs.{HubEntry, HubLedger, entries_in, TimingIs, MayAdd}
use Rattle.sim_hub.proofs.{Boxed.of_boxed, Keeping.kept_legal}
use Rattle.sim_hub.proofs.Answering.{timing_adds, perf_is, perf_later, perf_made}
use Rattle.sim_hub.proofs.hub.Hub.perf_turn.Goals as goal

pub end-place-requires-clause-number : goal.end-place-requires-clause-number
end-place-requires-clause-number g c = c.begin-turn.ensures.turn.1.same.number ∙ c.args.pass.place.numbered ∙ c.args.pass.first

pub end-place-requires-clause-adds : goal.end-place-requires-clause-adds
end-place-requires-clause-adds g c =
    let d : HubLedger = c.begin-turn.result.value.ledger.value in
    let more = entries_in c.time-answer.new.self in
    let timing = of_boxed (λ log. TimingIs log more c.time-answer.result.0 c.time-answer.result.1) c.deref_mut.ensures.value
    c.value_mut.ensures.value c.time-answer.ensures in
    subst (λ (b : List HubEntry). MayAdd 0 c.time-answer.result.1 b more) (sym c.begin-turn.ensures.turn.1.history)
    (timing_adds (entries_in d) more c.time-answer.result.0 c.time-answer.result.1 timing)

pub invariant_of-pass : goal.invariant_of-pass
invariant_of-pass g c =
    let l : HubLedger = c.time-answer.new.self in
    let turn = c.begin-turn.ensures.turn in
    let timing = of_boxed (λ log. TimingIs log (entries_in l) c.time-answer.result.0 c.time-answer.result.1) c.deref_mut.ensures.value
    c.value_mut.ensures.value c.time-answer.ensures in
    record {
      first = c.end-place.ensures.number;
      made = perf_made turn.0 _ (entries_in l) _ (view_of c.args.pass.place.pass) _ _ turn.1 turn.1.history c.time-answer.result.0
          c.time-answer.result.1 timing c.end-place.ensures.end (kept_legal l.core l.turns.items l.out l.short _ l.kept) c.args.pass.made;
    }

pub returns-clause-later : goal.returns-clause-later
returns-clause-later g c =
    let turn = c.begin-turn.ensures.turn in
    let more = entries_in c.time-answer.new.self in
    let timing = of_boxed (λ log. TimingIs log more c.time-answer.result.0 c.time-answer.result.1) c.deref_mut.ensures.value
    c.value_mut.ensures.value c.time-answer.ensures in
    perf_later turn.0 _ more _ (view_of c.args.pass.place.pass) _ _ turn.1 turn.1.history c.time-answer.result.0 c.time-answer.result.1
    timing
    c.end-place.ensures.end

pub returns-clause-answer : goal.returns-clause-answer
returns-clause-answer g c =
    let turn = c.begin-turn.ensures.turn in
    let more = entries_in c.time-answer.new.self in
    let timing = of_boxed (λ log. TimingIs log more c.time-answer.result.0 c.time-answer.result.1) c.deref_mut.ensures.value
    c.value_mut.ensures.value c.time-answer.ensures in
    perf_is turn.0 _ more _ (view_of c.args.pass.place.pass) _ _ turn.1 turn.1.history c.time-answer.result.0 c.time-answer.result.1 timing
    c.end-place.ensures.end
