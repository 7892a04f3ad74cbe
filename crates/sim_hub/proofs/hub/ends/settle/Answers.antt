use Rattle.std.proofs.Common.{refl, sym, ◌∙◌}
use Rattle.sim_hub.specs.{history_of, led_to}
use Rattle.sim_hub.proofs.{Keeping.kept_stands, Ledgers.owner_own, Ledgers.was_short, Closing.final_since}
use Rattle.sim_hub.proofs.hub.ends.settle.Goals as goal

pub returns-then-short : goal.returns-then-short
returns-then-short c =
    let l = c.args.ledger in
    was_short l.core l.turns.items l.out l.short _ l.kept c.if-short.true

pub returns-else-short : goal.returns-else-short
returns-else-short c =
    let l = c.args.ledger in
    let k = l.kept in
    let fits = c.agrees.ensures.fits in
    let memory = sym k.matches.short_is ∙ c.if-short.false in
    let final = final_since l.core.plan fits c.requires.over.0 (history_of l.core.plan l.turns.items) (led_to l.core.plan l.turns.items)
    (kept_stands l.core l.turns.items l.out l.short _ k) c.requires.over.1 c.requires.over.2 memory in (
      refl,
      record {
        at = led_to l.core.plan l.turns.items;
        stands = kept_stands l.core l.turns.items l.out l.short _ k;
        memory = memory;
        core = k.matches.core_is;
        plan_is = refl;
        final = final;
        own = λ m inside. owner_own l.core l.turns.items l.out l.short _ k fits c.if-short.false m inside (c.requires.home m inside);
      },
    )
