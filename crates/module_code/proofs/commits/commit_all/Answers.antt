use Rattle.std.proofs.Common.{◌≡◌, ◌∙◌, ◌<◌, ◌+◌, sym, ap, ap₂, subst, arith, List, [], ◌∷◌, drop, false, get_or, length}
use Rattle.std.proofs.lemmas.List.{drop_all, drop_more}
use Rattle.std.specs.{Prelude.filter_map, Prelude.fold, List.cons_option, List.zip}
use Rattle.module_code.specs.{stored, Guarded, Note, Noted, IsGuardedOf, effects_by, noted_by}
use Rattle.module_code.proofs.Looking.{at_place}
use Rattle.module_code.proofs.commits.commit_all.Goals as goal

abbrev none : Note
none = record { passes = false; iteration = 0; value = 0; address = 0 }

pub loop-at-preserved : goal.loop-at-preserved
loop-at-preserved g c =
    let i = c.loop-at.at in
    let gs = c.args.actions.now in
    let ns = c.args.items.now in
    let guarded = c.index-actions-at.result in
    let inside : i < length ns = omega (arith, c.requires.places, c.loop-at-test.true) in
    let more : List Noted = filter_map noted_by (zip (drop (i + 1) gs) (drop (i + 1) ns)) in
    let front : filter_map noted_by (zip (drop i gs) (drop i ns)) ≡ cons_option (noted_by (guarded, get_or ns i none)) more =
    ap₂ (λ (hs : List Guarded) (ms : List Note). filter_map noted_by (zip hs ms))
    (drop_more gs i guarded c.loop-at-test.true ∙ ap (λ (h : Guarded). h ∷ drop (i + 1) gs) (sym c.index-actions-at.is))
    (drop_more ns i none inside) in (
      c.carry_out_next.ensures.known,
      λ channels m b room is.
          c.carry_out_next.ensures.state channels m b room
          (at_place (IsGuardedOf channels m b room) gs c.index-actions-at.is c.loop-at-test.true is) more
          ∙ (sym
          (ap (λ (noted : List Noted). fold (stored m b) c.loop-at.state (effects_by b noted (g.R.Replies.left c.loop-at.replies))) front)
          ∙ c.loop-at.invariant.1 channels m b room is),
    )

pub returns : goal.returns
returns g c = λ channels m b room is.
    let none_left : drop c.loop-at.at c.args.actions.now ≡ [] = drop_all c.loop-at.at c.args.actions.now c.loop-at-test.false in
    subst (λ (gs : List Guarded). fold (stored m b) c.loop-at.state
    (effects_by b (filter_map noted_by (zip gs (drop c.loop-at.at c.args.items.now))) (g.R.Replies.left c.loop-at.replies))
    ≡ fold (stored m b) c.args.state.now
    (effects_by b (filter_map noted_by (zip c.args.actions.now c.args.items.now)) (g.R.Replies.left c.args.replies.now)))
    none_left (c.loop-at.invariant.1 channels m b room is)
