use Rattle.std.proofs.Common.{◌≡◌, ℕ, List, [], ◌∷◌, Option, Some, refl, sym, ◌∙◌, subst, arith}
use Rattle.turn_lock.specs.{PassView, AllJoined, ShowsAll, AreAllMade, Passes.view_of}
use Rattle.leaf_tests.specs.declared.locks.Entry.{Entry}
use Rattle.turn_lock.proofs.Joins.{all_joined, shows_each}
use Rattle.leaf_tests.proofs.locks.close_both.Goals as goal

-- a first pass that made one pass, and that one
one_made : {E : Type 0} (v w : PassView E) → v.made ≡ 1 → w.number ≡ 1 → AreAllMade v (w ∷ [])
one_made v w made number n above below = (0, w, refl, number ∙ omega arith)

pub close-requires-clause-joined : goal.close-requires-clause-joined
close-requires-clause-joined c =
    let first = view_of c.args.first in
    let second = view_of c.args.second in
    subst AllJoined (sym c.join-last.ensures.joined) (all_joined first (second ∷ [])
    (one_made first second c.requires.first.1 c.requires.second))

pub returns : goal.returns
returns c =
    let bearer : Entry → Option ℕ = λ e. Some e.by in
    let log : List Entry = c.close.result.entries in
    let closed = subst (λ (v : PassView Entry). ShowsAll bearer v log) c.join-last.ensures.joined c.close.ensures.all in
    shows_each bearer log (view_of c.args.first) (view_of c.args.second ∷ []) c.requires.first.0 closed
