use Rattle.std.proofs.Common.{arith, rules, refl, sym, ap, length, vec_capacity, ◌≡◌, ◌+◌, ◌≤◌, ◌∙◌, ◌++◌, ◌∷◌, [], List}
use Rattle.sim_hub.specs.{HubTurn, led_to}
use Rattle.timing_bridge.specs.declared.turn.HubTurn.TheVariants.{Timed}
use Rattle.sim_hub.proofs.Keeping.{kept_same, kept_verified, same_entries}
use Rattle.sim_hub.proofs.Ledgers.{is_finished, is_idle, kept_timed}
use Rattle.sim_hub.proofs.ledger.HubLedger.time.Goals as goal

pub act-count-requires-clause-verified : goal.act-count-requires-clause-verified
act-count-requires-clause-verified c =
    let l = c.args.self.now in kept_verified l.core l.turns.items l.out l.short _ l.kept c.agrees.ensures.fits

pub invariant_of-self-then-count-gt0 : goal.invariant_of-self-then-count-gt0
invariant_of-self-then-count-gt0 c =
    let l = c.args.self.now in
    let n = c.act-count.result in
    let e = c.act-count.ensures in
    let next = e.did c.if-count-gt0.true (led_to l.core.plan l.turns.items) l.kept.matches.core_is
    (sym l.kept.matches.short_is ∙ c.if-self.false) in
    let added = c.push_reserved.ensures.items ∙ ap (λ (ts : List HubTurn). ts ++ Timed 0 n ∷ []) c.reserve.ensures.items in
    let longer = c.push_reserved.ensures in
    let room : length l.turns.items + (l.out + 2) ≤ vec_capacity c.reserve.new.self = search rules in
    record {
      kept = kept_timed l.core l.turns.items l.out l.short _ l.kept c.act-count.new.core _ _ n e.plan e.lent next added (omega arith)
          c.if-self.false;
    }

pub invariant_of-self-else-count-gt0 : goal.invariant_of-self-else-count-gt0
invariant_of-self-else-count-gt0 c =
    let l = c.args.self.now in
    let e = c.act-count.ensures in
    let none : c.act-count.result ≡ 0 = omega arith in
    record {
      kept = kept_same l.core l.turns.items l.out l.short _ l.kept c.act-count.new.core _ _ e.plan e.lent
          (e.same none) c.reserve.ensures.items
          c.reserve.ensures.capacity;
    }

pub returns-then-is_final : goal.returns-then-is_final
returns-then-is_final c =
    let l = c.args.self.now in
    let e = c.act-count.ensures in
    let none : c.act-count.result ≡ 0 = omega arith in (
      refl,
      same_entries l.core.plan _ l.turns.items _ e.plan c.reserve.ensures.items,
      is_finished l.core l.turns.items l.out l.short _ l.kept c.act-count.new.core e.plan (e.same none)
          (c.is_final.ensures.holds c.if-is_final.true) c.if-self.false,
    )

pub returns-else-is_final : goal.returns-else-is_final
returns-else-is_final c =
    let l = c.args.self.now in
    let e = c.act-count.ensures in
    let none : c.act-count.result ≡ 0 = omega arith in
    let entries = same_entries l.core.plan _ l.turns.items _ e.plan c.reserve.ensures.items in (
      refl,
      entries,
      c.count.ensures ∙ ap length entries,
      is_idle l.core l.turns.items l.out l.short _ l.kept c.act-count.new.core e.plan (e.same none) (e.no_timing none) (e.no_earliest none)
          (c.is_final.ensures.fails c.if-is_final.false) c.if-self.false,
    )
