use Rattle.std.proofs.Common.{◌≡◌, ℕ, suc, ◌-◌, sym, ◌∙◌, arith, subst, drop}
use Rattle.std.specs.List.{filter}
use Rattle.path_text.specs.{latest_one, find_clock, lies_in}
use Rattle.path_text.proofs.Searched.{ahead_is, no_find, none_beyond}
use Rattle.path_text.proofs.search.latest.Goals as goal

pub loop-at-init : goal.loop-at-init
loop-at-init c = none_beyond c.args.finds.now c.args.link.now c.count_until-at.result c.count_until-at.ensures.later

pub returns-then-is_ahead : goal.returns-then-is_ahead
returns-then-is_ahead c =
    let finds = c.args.finds.now in
    let link = c.args.link.now in
    let here : c.loop-at.at ≡ suc (c.loop-at.at - 1) = omega (arith, c.loop-at-test.true) in
    ahead_is finds c.requires link (c.loop-at.at - 1) no_find c.loop-at.found
    (omega (arith, c.loop-at-test.true, c.count_until-at.ensures.within, c.loop-at.auto.at)) (sym c.is_ahead.ensures ∙ c.if-is_ahead.true)
    (subst (λ (n : ℕ). c.loop-at.found ≡ latest_one find_clock (filter (lies_in link) (drop n finds))) here c.loop-at.invariant)
