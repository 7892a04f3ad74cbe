-- The latest of clocks, one access after the other.
use Rattle.std.proofs.Common.{◌≡◌, refl, ap, ◌∙◌, ℕ, ◌≤◌, max, true, false, List, [], ◌∷◌, ◌++◌, arith}
use Rattle.std.proofs.lemmas.List.Elements.{filter-append, filter_map-append}
use Rattle.std.specs.{Prelude.filter, List.filter_map}
use Rattle.time_engine.specs.{Access, is_blocking, Lane, Channel, when_possible, known_clock, clocks_of, latest}
use Rattle.time_engine.specs.declared.known.Known.TheVariants.{From}

latest-append : (xs ys : List ℕ) → latest (xs ++ ys) ≡ max (latest xs) (latest ys)
unfolding latest
latest-append [] ys = omega arith
latest-append (x ∷ xs) ys = let e = latest-append xs ys in omega arith

-- one clock more
pub latest_more : (clock : ℕ) (xs ys : List ℕ) (sofar next : ℕ) → sofar ≡ latest (clock ∷ xs) → next ≡ latest (sofar ∷ ys)
    → next ≡ latest (clock ∷ (xs ++ ys))
unfolding latest
latest_more clock xs ys sofar next so then = let e = latest-append xs ys in omega arith

pub latest_none : (clock : ℕ) → clock ≡ latest (clock ∷ [])
unfolding latest
latest_none clock = omega arith

pub latest_one : (clock other : ℕ) → max clock other ≡ latest (clock ∷ other ∷ [])
unfolding latest
latest_one clock other = omega arith

pub latest_from : (clock : ℕ) (clocks : List ℕ) → clock ≤ latest (clock ∷ clocks)
unfolding latest
latest_from clock clocks = omega arith

pub clocks_of-append : (lanes : List Lane) (channels : List Channel) (xs ys : List Access)
    → clocks_of lanes channels (xs ++ ys) ≡ clocks_of lanes channels xs ++ clocks_of lanes channels ys
unfolding clocks_of
clocks_of-append lanes channels xs ys =
    ap (filter_map (λ (a : Access). known_clock (when_possible lanes channels a))) (filter-append (λ (a : Access). is_blocking a.kind) xs
    ys)
    ∙ filter_map-append (λ (a : Access). known_clock (when_possible lanes channels a)) (filter (λ (a : Access). is_blocking a.kind) xs)
    (filter (λ (a : Access). is_blocking a.kind) ys)

pub clocks_of_query : (lanes : List Lane) (channels : List Channel) (access : Access) → is_blocking access.kind ≡ false
    → clocks_of lanes channels (access ∷ []) ≡ []
unfolding clocks_of
clocks_of_query lanes channels access query = rw query refl

pub clocks_of_known : (lanes : List Lane) (channels : List Channel) (access : Access) (clock : ℕ) → is_blocking access.kind ≡ true
    → when_possible lanes channels access ≡ From clock
    → clocks_of lanes channels (access ∷ []) ≡ clock ∷ []
unfolding clocks_of
clocks_of_known lanes channels access clock blocks known = rw blocks (rw known refl)

pub clocks_of-none : (lanes : List Lane) (channels : List Channel) → clocks_of lanes channels [] ≡ []
unfolding clocks_of
clocks_of-none lanes channels = refl

-- one access more
pub latest_next : (lanes : List Lane) (channels : List Channel) (come : List Access) (next : Access) (clock sofar now : ℕ)
    → sofar ≡ latest (clock ∷ clocks_of lanes channels come)
    → now ≡ latest (sofar ∷ clocks_of lanes channels (next ∷ []))
    → now ≡ latest (clock ∷ clocks_of lanes channels (come ++ next ∷ []))
latest_next lanes channels come next clock sofar now so then =
    rw (clocks_of-append lanes channels come (next ∷ [])) (latest_more clock _ _ sofar now so then)
