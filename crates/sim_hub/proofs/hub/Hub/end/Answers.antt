use Rattle.std.proofs.{Common.◌∙◌, Common.sym, Common.subst, Common.Bool, Common.List, Common.[], Common.◌∷◌, lemmas.Grind.merely}
use Rattle.turn_lock.specs.Passes.{view_of, turn_view, begun_at}
use Rattle.sim_hub.specs.{EndsTurn, HubEntry, entries_in, MayAdd}
use Rattle.timing_bridge.specs.declared.entry.HubEntry.TheVariants.{Turn}
use Rattle.sim_hub.proofs.{Keeping.kept_legal, Answering.ended_place, hub.Hub.end.Goals.then-added, hub.Hub.end.Goals.else-added}
use Rattle.sim_hub.proofs.hub.Hub.end.Goals as goal

pub invariant_of-result : goal.invariant_of-result
invariant_of-result c =
    let t = c.args.turn in
    let l = t.value.ledger.value in
    let more = entries_in l in
    let may = c.requires.adds in
    let over : (es : List HubEntry) × EndsTurn es more (turn_view t) (view_of c.if-added.pass) =
    elim c.if-added.branch [
      | then-added w ↦
          let (turn, adds, of) = subst (λ (b : Bool). MayAdd c.args.number b (begun_at t) more) w.if-added.true may in (
            Turn turn ∷ [],
            subst (λ p. EndsTurn (Turn turn ∷ []) more (turn_view t) (view_of p)) (sym w.pass-is)
                (w.put-pass.ensures.end (Turn turn) adds),
          )
      | else-added w ↦
          ([], subst (λ p. EndsTurn [] more (turn_view t) (view_of p)) (sym w.pass-is) w.give_back-pass.ensures.end)
    ] in
    record {
      numbered = over.1.same.number ∙ c.requires.number;
      good = merely
          (ended_place c.args.number over.0 more (turn_view t) (view_of c.if-added.pass) over.1 c.requires.number c.if-added.pass.own
          (kept_legal l.core l.turns.items l.out l.short _ l.kept));
    }
