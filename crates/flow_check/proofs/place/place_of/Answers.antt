use Rattle.std.proofs.Common.{◌≡◌, ◌∙◌, ◌+◌, sym, ap, subst, get_or, false}
use Rattle.flow_check.specs.{Statement, CountsBefore, counts_more, item_after, is_item}
use Rattle.flow_check.proofs.Counting.{IsSought, sought_more}
use Rattle.flow_check.proofs.place.place_of.Goals as goal

pub loop-at-preserved : goal.loop-at-preserved
loop-at-preserved c =
    let d : Statement = c.index-statements-at.result in
    let st : Statement = get_or c.args.statements.now c.loop-at.at d in
    let is : d ≡ st = c.index-statements-at.is in
    let not : is_item c.args.item.now (item_after c.loop-at.before st) ≡ false
    = sym (ap (λ (t : Statement). is_item c.args.item.now (item_after c.loop-at.before t)) is)
    ∙ sym (c.is_item.ensures ∙ ap (is_item c.args.item.now) c.item_after-stands.ensures) ∙ c.if-is_item.false in
    subst (λ (k : CountsBefore). IsSought c.args.statements.now c.args.item.now (c.loop-at.at + 1) k)
    (ap (counts_more c.loop-at.before) (sym is) ∙ sym c.counts_more-before.ensures)
    (sought_more c.args.statements.now c.args.item.now c.loop-at.at c.loop-at.before d c.loop-at-test.true c.loop-at.invariant not)
