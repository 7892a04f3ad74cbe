use Rattle.std.proofs.Common.{◌≡◌, ◌∙◌, sym, ap, ap₂, ℕ, ◌+◌, ◌<◌, length, List, [], ◌∷◌, ◌++◌, suc, append-nil, append_assoc, arith, eqb}
use Rattle.std.proofs.Common.{slice_index}
use Rattle.std.proofs.lemmas.List.Concat.{flat_map-append}
use Rattle.std.specs.{Prelude.flat_map, List.range_with_len}
use Rattle.sim_core.specs.{Port, Plan, design, port_where, ports_at, ports_to}
use Rattle.flow_word.specs.declared.access.Side.TheVariants.{Pop, Push}
use Rattle.flow_word.proofs.Ranges.{range_more}
use Rattle.sim_core.proofs.wiring.make_ports.Goals as goal

ports_more : (p : Plan) (m n : ℕ) → ports_to p m (n + 1) ≡ ports_to p m n ++ ports_at p m n
ports_more p m n =
    let one : n + 1 ≡ suc n = omega arith in
    let z : 0 + n ≡ n = omega arith in
    ap (ports_to p m) one
    ∙ (ap (flat_map (ports_at p m)) (range_more 0 n ∙ ap (λ (j : ℕ). range_with_len 0 n ++ j ∷ []) z)
    ∙ (flat_map-append (ports_at p m) (range_with_len 0 n) (n ∷ []) ∙ ap (λ (ps : List Port). ports_to p m n ++ ps)
    (append-nil (ports_at p m n))))

pub loop-channel-preserved : goal.loop-channel-preserved
loop-channel-preserved c =
    let n = c.loop-channel.channel in
    let p = c.args.plan.now in
    let within : n < length p.design.channels =
    let a = c.loop-channel-test.true in let b = c.loop-channel.auto.channel-end in let e = ap length c.channels.ensures in omega arith in
    let pop : slice_index c.args.readers.now n ≡ (design p).owner Pop n =
    c.requires.readers.each n (let k = c.requires.readers.count in omega arith) in
    let push : slice_index c.args.writers.now n ≡ (design p).owner Push n =
    c.requires.writers.each n (let k = c.requires.writers.count in omega arith) in
    let count = c.loop-channel.invariant.count in
    let popped = c.in_ok-add_port.ensures in
    let pushed = c.in_ok-add_port-2.ensures in
    record {
      count = pushed.count ∙ popped.count ∙ count;
      each = λ m l.
          pushed.each m (let k = popped.count in omega (arith, count))
          ∙ (ap₂ (λ (ps : List Port) (o : ℕ). ps ++ port_where (eqb o m) Push n)
          (popped.each m (omega (arith, count))
          ∙ ap₂ (λ (ps : List Port) (o : ℕ). ps ++ port_where (eqb o m) Pop n) (c.loop-channel.invariant.each m l) pop) push
          ∙ (append_assoc (ports_to p m n) (port_where (eqb ((design p).owner Pop n) m) Pop n)
          (port_where (eqb ((design p).owner Push n) m) Push n) ∙ sym (ports_more p m n)));
    }
