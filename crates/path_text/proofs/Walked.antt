-- A walk along the chain, by the spans of all modules.
use Rattle.std.proofs.Common.{◌≡◌, ◌∙◌, sym, ap, subst, arith, ℕ, ◌<◌, true, ◌++◌, [], List, length, get_or, Option, Some, None}
use Rattle.std.proofs.lemmas.List.{get_or_default}
use Rattle.path_text.specs.{Plan, Span, AreSpansBelow, Link, moves_at, At, Polled, HasSpans, IsLastMove, MovesBefore, links_in, polled_from}
use Rattle.path_text.specs.{polls_along, LoggedAccess}
use Rattle.path_text.proofs.{Doings.mover_inside, Last.last_is, Followed.IsWalk}

-- the spans of a module that moves
pub spans_at : (p : Plan) (end : ℕ) (at : At) (spans : List (List Span)) (found slice : List Span) → moves_at p at.clock at.module ≡ true
    → HasSpans p end spans → found ≡ get_or spans at.module found → slice ≡ found → AreSpansBelow p at.module end slice
spans_at p end at spans found slice move h there same =
    let inside = mover_inside p at.clock at.module move in
    let count = h.count in
    let l : at.module < length spans = omega arith in
    subst (AreSpansBelow p at.module end) (sym (same ∙ (there ∙ get_or_default spans at.module found [] l))) (h.each at.module l)

begins : (p : Plan) (end n : ℕ) (o : Option At) → IsLastMove p end n o → MovesBefore p end o
begins p end n None all = tt
begins p end n (Some at) all = (all.below, all.moves)

pub walk_begins : (p : Plan) (log : List LoggedAccess) (end : ℕ) (links : List Link) (polls : List Polled) (o : Option At) → links ≡ []
    → polls ≡ [] → IsLastMove p end (length p.design.modules) o → IsWalk p log end links polls o
walk_begins p log end links polls o none nothing all =
    let from = ap (polled_from p log) (sym (last_is p end o all)) in
    record {
      links_are = ap (λ (ls : List Link). ls ++ links_in (polled_from p log o)) none ∙ ap links_in from;
      polls_are = ap (λ (qs : List Polled). qs ++ polls_along (polled_from p log o)) nothing ∙ ap polls_along from;
      there = begins p end (length p.design.modules) o all;
    }
