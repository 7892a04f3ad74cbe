use Rattle.std.proofs.Common.{◌+◌, ℕ, true, List, length, sym, subst, ◌∙◌}
use Rattle.turn_lock.specs.Passes.{view_of, turn_view}
use Rattle.sim_hub.specs.{HubEntry, HubLedger, entries_in, HasNoDesk, IsLegal, BackIs, ComesBack, MayAdd, IsTurnEnd}
use Rattle.sim_hub.proofs.{Boxed.of_borrowed, Boxed.of_boxed, Keeping.kept_legal}
use Rattle.sim_hub.proofs.Answering.{back_adds, is_later, back_answer, end_seen, module_later}
use Rattle.sim_hub.proofs.hub.Hub.return_desk.Goals as goal

pub take_back-made-requires-clause-pass : goal.take_back-made-requires-clause-pass
take_back-made-requires-clause-pass g c = c.args.pass.is

pub take_back-made-requires-clause-back : goal.take_back-made-requires-clause-back
take_back-made-requires-clause-back g c =
    let p = c.args.pass in
    let d : HubLedger = c.begin-turn.result.value.ledger.value in
    let back : ComesBack p.which c.args.burst (entries_in d) = record {
      before = view_of p.place.pass;
      number = p.place.numbered ∙ p.is;
      continues = c.begin-turn.ensures.turn.1.continues;
      out = c.requires.out;
      is_burst = c.requires.burst;
    } in of_borrowed (ComesBack p.which c.args.burst) c.deref_mut.ensures.value c.value_mut.ensures.value back

pub end-place-requires-clause-number : goal.end-place-requires-clause-number
end-place-requires-clause-number g c = c.begin-turn.ensures.turn.1.same.number ∙ c.args.pass.place.numbered

pub end-place-requires-clause-adds : goal.end-place-requires-clause-adds
end-place-requires-clause-adds g c =
    let p = c.args.pass in
    let d : HubLedger = c.begin-turn.result.value.ledger.value in
    let more = entries_in c.take_back-made.new.self in
    let made = c.take_back-made.result in
    let n = length c.args.burst.emitted in
    let back = of_boxed (λ log. BackIs p.which n log more made) c.deref_mut.ensures.value c.value_mut.ensures.value
    c.take_back-made.ensures.back in
    subst (λ (b : List HubEntry). MayAdd p.place.number true b more) (sym c.begin-turn.ensures.turn.1.history)
    (subst (λ (q : ℕ). MayAdd q true (entries_in d) more) (sym p.is) (back_adds p.which n (entries_in d) more made back))

pub invariant_of-pass : goal.invariant_of-pass
invariant_of-pass g c =
    let p = c.args.pass in
    let d : HubLedger = c.begin-turn.result.value.ledger.value in
    let l : HubLedger = c.take_back-made.new.self in
    let more = entries_in l in
    let made = c.take_back-made.result in
    let n = length c.args.burst.emitted in
    let turn = c.begin-turn.ensures.turn in
    let v = view_of p.place.pass in
    let t = turn_view c.begin-turn.result in
    let w = view_of c.end-place.result.pass in
    let back = of_boxed (λ log. BackIs p.which n log more made) c.deref_mut.ensures.value c.value_mut.ensures.value
    c.take_back-made.ensures.back in
    let may = back_adds p.which n (entries_in d) more made back in
    let over = subst (λ (x : List HubEntry). IsTurnEnd true x more t w) turn.1.history c.end-place.ensures.end in
    let after = is_later (p.which + 1) turn.0 true (entries_in d) more v t w turn.1 may over in
    let seen = end_seen (p.which + 1) true (entries_in d) more t w may over in
    record {
      is = c.end-place.ensures.number ∙ p.is;
      within = module_later p.which v.seen w.seen p.within after.begins
          (subst IsLegal (sym seen) (kept_legal l.core l.turns.items l.out l.short _ l.kept));
    }

pub returns-clause-later : goal.returns-clause-later
returns-clause-later g c =
    let p = c.args.pass in
    let d : HubLedger = c.begin-turn.result.value.ledger.value in
    let more = entries_in c.take_back-made.new.self in
    let made = c.take_back-made.result in
    let n = length c.args.burst.emitted in
    let turn = c.begin-turn.ensures.turn in
    let t = turn_view c.begin-turn.result in
    let w = view_of c.end-place.result.pass in
    let back = of_boxed (λ log. BackIs p.which n log more made) c.deref_mut.ensures.value c.value_mut.ensures.value
    c.take_back-made.ensures.back in
    is_later (p.which + 1) turn.0 true (entries_in d) more (view_of p.place.pass) t w turn.1
    (back_adds p.which n (entries_in d) more made back)
    (subst (λ (x : List HubEntry). IsTurnEnd true x more t w) turn.1.history c.end-place.ensures.end)

pub returns-clause-turn : goal.returns-clause-turn
returns-clause-turn g c =
    let p = c.args.pass in
    let d : HubLedger = c.begin-turn.result.value.ledger.value in
    let more = entries_in c.take_back-made.new.self in
    let made = c.take_back-made.result in
    let n = length c.args.burst.emitted in
    let turn = c.begin-turn.ensures.turn in
    let t = turn_view c.begin-turn.result in
    let w = view_of c.end-place.result.pass in
    let back = of_boxed (λ log. BackIs p.which n log more made) c.deref_mut.ensures.value c.value_mut.ensures.value
    c.take_back-made.ensures.back in
    back_answer turn.0 (entries_in d) more (view_of p.place.pass) t w turn.1 p.which n made back
    (subst (λ (x : List HubEntry). IsTurnEnd true x more t w) turn.1.history c.end-place.ensures.end)

pub returns-clause-home : goal.returns-clause-home
returns-clause-home g c =
    let p = c.args.pass in
    let d : HubLedger = c.begin-turn.result.value.ledger.value in
    let more = entries_in c.take_back-made.new.self in
    let made = c.take_back-made.result in
    let n = length c.args.burst.emitted in
    let turn = c.begin-turn.ensures.turn in
    let t = turn_view c.begin-turn.result in
    let w = view_of c.end-place.result.pass in
    let back = of_boxed (λ log. BackIs p.which n log more made) c.deref_mut.ensures.value c.value_mut.ensures.value
    c.take_back-made.ensures.back in
    let seen = end_seen (p.which + 1) true (entries_in d) more t w (back_adds p.which n (entries_in d) more made back)
    (subst (λ (x : List HubEntry). IsTurnEnd true x more t w) turn.1.history c.end-place.ensures.end) in
    subst (HasNoDesk p.which) (sym seen) c.take_back-made.ensures.home
