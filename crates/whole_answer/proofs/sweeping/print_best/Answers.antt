use Rattle.std.proofs.Common.{◌≡◌, ◌∙◌, sym, ap, subst, ℕ, List, ◌∷◌, ◌++◌, map, codes, Option, OnOk}
use Rattle.std.proofs.lemmas.List.{get_or_read}
use Rattle.std.specs.Fmt.{decimal}
use Rattle.whole_answer.specs.{line, Point, no_point, point_at, best_of, best_tokens, Token}
use Rattle.whole_answer.proofs.Bests.{best_is, best_none}
use Rattle.whole_answer.proofs.sweeping.print_best.Goals as goal

pub returns-in-Some : goal.returns-in-Some
returns-in-Some c =
    let points = c.args.points.now in
    let place = c.in-Some.place in
    let best = c.in-Some.ensures.best in
    let there : c.index-points-place.result ≡ point_at points place =
    get_or_read points place c.index-points-place.result best.done.within c.index-points-place.is no_point in
    let tokens : codes "best" ∷ map decimal c.as_slice.result.now ≡ best_tokens (best_of points) =
    ap (λ (ds : List ℕ). codes "best" ∷ map decimal ds) (c.as_slice.ensures
    ∙ ap (λ (p : Point). p.depths) (sym c.index-points-place.is ∙ there))
    ∙ ap best_tokens (sym (best_is points place best)) in
    subst (λ (ts : List Token). OnOk c.print_numbers.result (c.print_numbers.new.text ≡ c.args.text.now ++ line ts)) tokens
    c.print_numbers.ensures.ok

pub returns-in-None : goal.returns-in-None
returns-in-None c =
    subst (λ (o : Option Point). OnOk c.extend_from_slice.result (c.extend_from_slice.new.self ≡ c.args.text.now ++ line (best_tokens o)))
    (sym (best_none c.args.points.now c.in-None.ensures.none)) c.extend_from_slice.ensures.ok
