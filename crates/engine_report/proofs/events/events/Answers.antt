use Rattle.std.proofs.{Common.sym, Common.ap, Common.◌∙◌, Common.map, Common.arith, lemmas.List.take_all, lemmas.List.Folds.flat_map-map}
use Rattle.std.specs.List.{flat_map}
use Rattle.engine_report.specs.{TimedStep, events_at, step_place}
use Rattle.engine_report.proofs.events.events.Goals as goal

pub returns : goal.returns
returns c =
    let told = events_at c.args.graph.now.lanes in
    let keys = c.in_ok-keys.keys.items in
    record {
      places = map step_place keys;
      all = c.in_ok-keys.ensures.all;
      sorted = c.in_ok-keys.ensures.sorted;
      are = c.loop-key.invariant ∙ (ap (flat_map (λ (key : TimedStep). told (step_place key)))
          (take_all c.loop-key.key-index _ (omega arith) ∙ c.as_slice-key-items.ensures.value) ∙ sym (flat_map-map told step_place keys));
    }
