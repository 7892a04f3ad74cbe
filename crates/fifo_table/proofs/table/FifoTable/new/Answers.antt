use Rattle.std.proofs.Common.{ap, arith, length, map, sym, ◌∙◌, ◌++◌, List, append-nil}
use Rattle.std.proofs.lemmas.List.{length-map, nil_from_length}
use Rattle.fifo_table.specs.{unused, channel_of, TableChannel}
use Rattle.fifo_table.proofs.SoundKinds.{made_sound}
use Rattle.fifo_table.proofs.table.FifoTable.new.Goals as goal

pub invariant_of-result : goal.invariant_of-result
invariant_of-result c =
    let ys = c.loop-kind.yielded in
    let rest = c.loop-kind.kind-iterator.rest in
    let none = nil_from_length rest.items (sym rest.ok.0 ∙ c.in-None.ensures.steps.0) in
    let all = c.loop-kind.invariant.1 ∙ (ap (λ (kinds : List TableChannel). ys ++ kinds) none ∙ append-nil ys) in
    let made = c.loop-kind.invariant.0 ∙ ap (map unused) (sym all) in
    let count = ap length made in (
      rw made (made_sound _ c.requires.kinds),
      let few = c.requires.count in
          omega (arith, count, length-map c.loop-kind.made.items channel_of, length-map c.args.channels.items unused),
    )
