use Rattle.std.proofs.Common.{◌≡◌, ◌+◌, ℕ, Bool, List, sym, subst, ◌∙◌}
use Rattle.sim_hub.specs.{PassView, BeginsTurn, HubEntry, bearer, HubLedger, entries_in, IsLater, IsLegal, Desk, OutAt, ComesHome}
use Rattle.sim_hub.specs.{LendingIs, MayAdd, IsTurnEnd}
use Rattle.turn_lock.specs.Passes.{view_of, turn_view}
use Rattle.sim_hub.proofs.{Boxed.of_borrowed, Boxed.of_boxed, Keeping.kept_legal}
use Rattle.sim_hub.proofs.Answering.{lending_adds, is_later, desk_answer, end_seen, module_later}
use Rattle.sim_hub.proofs.hub.Hub.borrow_desk.Goals as goal

pub lend-desk-requires-clause-pass : goal.lend-desk-requires-clause-pass
lend-desk-requires-clause-pass g c = c.args.pass.is

pub lend-desk-requires-clause-home : goal.lend-desk-requires-clause-home
lend-desk-requires-clause-home g c =
    let p = c.args.pass in
    let d : HubLedger = c.begin-turn.result.value.ledger.value in
    let home : ComesHome p.which (entries_in d) = record {
      before = view_of p.place.pass;
      number = p.place.numbered ∙ p.is;
      continues = c.begin-turn.ensures.turn.1.continues;
      within = p.within;
      home = c.requires.home;
    } in of_borrowed (ComesHome p.which) c.deref_mut.ensures.value c.value_mut.ensures.value home

pub end-place-requires-clause-number : goal.end-place-requires-clause-number
end-place-requires-clause-number g c = c.begin-turn.ensures.turn.1.same.number ∙ c.args.pass.place.numbered

pub end-place-requires-clause-adds : goal.end-place-requires-clause-adds
end-place-requires-clause-adds g c =
    let p = c.args.pass in
    let d : HubLedger = c.begin-turn.result.value.ledger.value in
    let more = entries_in c.lend-desk.new.self in
    let answer = c.lend-desk.result.0 in
    let added = c.lend-desk.result.1 in
    let lending = of_boxed (λ log. LendingIs p.which log more answer added) c.deref_mut.ensures.value c.value_mut.ensures.value
    c.lend-desk.ensures.lending in
    subst (λ (b : List HubEntry). MayAdd p.place.number added b more) (sym c.begin-turn.ensures.turn.1.history)
    (subst (λ (q : ℕ). MayAdd q added (entries_in d) more) (sym p.is) (lending_adds p.which (entries_in d) more answer added lending))

-- the turn is this pass's next
later : (m tries : ℕ) (answer : Desk) (added : Bool) (log more begun : List HubEntry)
    (v t w : PassView HubEntry) → BeginsTurn bearer tries log v t → begun ≡ log
    → LendingIs m log more answer added → IsTurnEnd added begun more t w → IsLater v w
later m tries answer added log more begun v t w b same lending e =
    is_later (m + 1) tries added log more v t w b (lending_adds m log more answer added lending)
    (subst (λ (x : List HubEntry). IsTurnEnd added x more t w) same e)

pub invariant_of-pass : goal.invariant_of-pass
invariant_of-pass g c =
    let p = c.args.pass in
    let d : HubLedger = c.begin-turn.result.value.ledger.value in
    let l : HubLedger = c.lend-desk.new.self in
    let more = entries_in l in
    let answer = c.lend-desk.result.0 in
    let added = c.lend-desk.result.1 in
    let turn = c.begin-turn.ensures.turn in
    let t = turn_view c.begin-turn.result in
    let w = view_of c.end-place.result.pass in
    let lending = of_boxed (λ log. LendingIs p.which log more answer added) c.deref_mut.ensures.value c.value_mut.ensures.value
    c.lend-desk.ensures.lending in
    let after = later p.which turn.0 answer added (entries_in d) more _ (view_of p.place.pass) t w turn.1 turn.1.history lending
    c.end-place.ensures.end in
    let seen = end_seen (p.which + 1) added (entries_in d) more t w (lending_adds p.which (entries_in d) more answer added lending)
    (subst (λ (x : List HubEntry). IsTurnEnd added x more t w) turn.1.history c.end-place.ensures.end) in
    record {
      is = c.end-place.ensures.number ∙ p.is;
      within = module_later p.which (view_of p.place.pass).seen w.seen p.within after.begins
          (subst IsLegal (sym seen) (kept_legal l.core l.turns.items l.out l.short _ l.kept));
    }

pub returns-clause-later : goal.returns-clause-later
returns-clause-later g c =
    let p = c.args.pass in
    let d : HubLedger = c.begin-turn.result.value.ledger.value in
    let more = entries_in c.lend-desk.new.self in
    let answer = c.lend-desk.result.0 in
    let added = c.lend-desk.result.1 in
    let turn = c.begin-turn.ensures.turn in
    let lending = of_boxed (λ log. LendingIs p.which log more answer added) c.deref_mut.ensures.value c.value_mut.ensures.value
    c.lend-desk.ensures.lending in
    later p.which turn.0 answer added (entries_in d) more _ (view_of p.place.pass) (turn_view c.begin-turn.result)
    (view_of c.end-place.result.pass) turn.1 turn.1.history lending c.end-place.ensures.end

pub returns-clause-answer : goal.returns-clause-answer
returns-clause-answer g c =
    let p = c.args.pass in
    let d : HubLedger = c.begin-turn.result.value.ledger.value in
    let more = entries_in c.lend-desk.new.self in
    let answer = c.lend-desk.result.0 in
    let added = c.lend-desk.result.1 in
    let turn = c.begin-turn.ensures.turn in
    let t = turn_view c.begin-turn.result in
    let w = view_of c.end-place.result.pass in
    let lending = of_boxed (λ log. LendingIs p.which log more answer added) c.deref_mut.ensures.value c.value_mut.ensures.value
    c.lend-desk.ensures.lending in
    desk_answer turn.0 (entries_in d) more (view_of p.place.pass) t w turn.1 p.which answer added lending
    (subst (λ (x : List HubEntry). IsTurnEnd added x more t w) turn.1.history c.end-place.ensures.end)

pub returns-clause-out : goal.returns-clause-out
returns-clause-out g c =
    let p = c.args.pass in
    let d : HubLedger = c.begin-turn.result.value.ledger.value in
    let more = entries_in c.lend-desk.new.self in
    let answer = c.lend-desk.result.0 in
    let added = c.lend-desk.result.1 in
    let turn = c.begin-turn.ensures.turn in
    let t = turn_view c.begin-turn.result in
    let w = view_of c.end-place.result.pass in
    let lending = of_boxed (λ log. LendingIs p.which log more answer added) c.deref_mut.ensures.value c.value_mut.ensures.value
    c.lend-desk.ensures.lending in
    let seen = end_seen (p.which + 1) added (entries_in d) more t w (lending_adds p.which (entries_in d) more answer added lending)
    (subst (λ (x : List HubEntry). IsTurnEnd added x more t w) turn.1.history c.end-place.ensures.end) in
    subst (λ (es : List HubEntry). OutAt p.which es answer) (sym seen) c.lend-desk.ensures.out
