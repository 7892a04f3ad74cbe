-- The queries of a kind on each channel, access by access.
use Rattle.std.proofs.Common.{◌≡◌, ◌≢◌, ℕ, ◌+◌, ◌^◌, ◌≤◌, ◌<◌, List, [], ◌∷◌, ◌++◌, length, take, set, replicate, Bool, true, false, ◌&&◌}
use Rattle.std.proofs.Common.{◌==◌, cond, refl, sym, ◌∙◌, ap, ap₂, subst, arith, get_or, inl, inr, eqb, length-append, length-set}
use Rattle.std.proofs.lemmas.Bool.{cases_eq, eq-eqb, ne_eqb, and_parts, eqb-true}
use Rattle.std.proofs.lemmas.List.{append-nil, length-take-le, take_more, get_or-set_same, get_or-set_other, get_or-replicate}
use Rattle.std.proofs.lemmas.List.{length-replicate}
use Rattle.std.proofs.lemmas.List.Elements.{filter-append}
use Rattle.std.proofs.lemmas.List.Sums.{count_by-le-length, length-filter, sum_by_push}
use Rattle.std.specs.{Prelude.count_by, List.filter, List.AllByRecursion}
use Rattle.stall_text.specs.{Kind, Side, side_of, Plan, FitsEngine, Token, owner, module_name, channel_name, log_of, LoggedAccess, Queries}
use Rattle.stall_text.specs.{is_query_on, is_missed, query_lines, same_query, tries_of, asked_at, with_query, own_queries, tally_of}
use Rattle.stall_text.specs.{unasked, AreAsked}
use Rattle.flow_word.specs.declared.access.Kind.TheVariants.{TryRead, TryWrite, Empty, Full}
use Rattle.stall_text.proofs.Uses.{Owns, all_or_none, all_own, last_is, last_owner, log_owned, passing}

-- ---- one access more

asked_last : (xs : List LoggedAccess) (a : LoggedAccess) (b : Bool)
    → tally_of (xs ++ cond b (a ∷ []) []) ≡ cond b (with_query a (tally_of xs)) (tally_of xs)
asked_last xs a true =
    let owner = last_is 0 xs a in
    let tried = length-append xs (a ∷ []) in
    let missed = sum_by_push (λ (x : LoggedAccess). cond (is_missed x) 1 0) xs a in
    λ i. record { owner = owner i; tried = tried i; missed = missed i }
asked_last xs a false = ap tally_of (append-nil xs)

asked_more : (log : List LoggedAccess) (k : ℕ) (d : LoggedAccess) (kind : Kind) (f : ℕ) → k < length log
    → asked_at (take (k + 1) log) kind f
    ≡ cond (is_query_on kind f (get_or log k d)) (with_query (get_or log k d) (asked_at (take k log) kind f)) (asked_at (take k log) kind f)
unfolding asked_at
asked_more log k d kind f l =
    let a = get_or log k d in
    ap (λ (xs : List LoggedAccess). tally_of (filter (is_query_on kind f) xs)) (take_more log k d l)
    ∙ (ap tally_of (filter-append (is_query_on kind f) (take k log) (a ∷ []))
    ∙ asked_last (filter (is_query_on kind f) (take k log)) a (is_query_on kind f a))

and_false : (b : Bool) → (b && false) ≡ false
and_false true = refl
and_false false = refl

asks_other : (kind : Kind) (f : ℕ) (a : LoggedAccess) → f ≢ a.event.channel → is_query_on kind f a ≡ false
asks_other kind f a n =
    ap (λ (b : Bool). same_query kind a.event.kind && b) (ne_eqb f a.event.channel n) ∙ and_false (same_query kind a.event.kind)

asks_own : (kind : Kind) (a : LoggedAccess) → same_query kind a.event.kind ≡ true → is_query_on kind a.event.channel a ≡ true
asks_own kind a e =
    ap₂ (λ (x y : Bool). x && y) e (eq-eqb a.event.channel a.event.channel refl)

asks_none : (kind : Kind) (f : ℕ) (a : LoggedAccess) → same_query kind a.event.kind ≡ false → is_query_on kind f a ≡ false
asks_none kind f a e = ap (λ (b : Bool). b && (f == a.event.channel)) e

pub asked_none : (channels : ℕ) (kind : Kind) (queries : List Queries) → queries ≡ replicate channels unasked
    → AreAsked channels kind [] queries
unfolding asked_at
asked_none channels kind queries e = record {
  count = ap length e ∙ length-replicate channels unasked;
  each = λ f l. ap (λ (qs : List Queries). get_or qs f unasked) e ∙ get_or-replicate channels f unasked unasked l;
}

pub asked_no : (channels : ℕ) (kind : Kind) (log : List LoggedAccess) (k : ℕ) (d : LoggedAccess) (queries : List Queries) → k < length log
    → same_query kind (get_or log k d).event.kind ≡ false → AreAsked channels kind (take k log) queries
    → AreAsked channels kind (take (k + 1) log) queries
asked_no channels kind log k d queries l e h = record {
  count = h.count;
  each = λ f m.
      let before = asked_at (take k log) kind f in
      h.each f m
      ∙ sym (asked_more log k d kind f l
      ∙ ap (λ (b : Bool). cond b (with_query (get_or log k d) before) before) (asks_none kind f (get_or log k d) e));
}

pub asked_yes : (channels : ℕ) (kind : Kind) (log : List LoggedAccess) (k : ℕ) (d : LoggedAccess) (queries new : List Queries)
    → k < length log → (get_or log k d).event.channel < channels → same_query kind (get_or log k d).event.kind ≡ true
    → AreAsked channels kind (take k log) queries
    → new ≡ set queries (get_or log k d).event.channel (with_query (get_or log k d) (get_or queries (get_or log k d).event.channel unasked))
    → AreAsked channels kind (take (k + 1) log) new
asked_yes channels kind log k d queries new l inside e h q =
    let a = get_or log k d in
    let g = a.event.channel in
    let one = with_query a (get_or queries g unasked) in
    record {
      count = ap length q ∙ (length-set queries g one ∙ h.count);
      each = λ f m.
          let before = asked_at (take k log) kind f in
          ap (λ (qs : List Queries). get_or qs f unasked) q
          ∙ (elim (cases_eq f g) [
            | inl w ↦
                subst (λ (x : ℕ). get_or (set queries g one) x unasked ≡ asked_at (take (k + 1) log) kind x) (sym w)
                (get_or-set_same queries g one unasked (let n = h.count in omega arith)
                ∙ (ap (with_query a) (h.each g inside)
                ∙ sym (asked_more log k d kind g l
                ∙ ap (λ (b : Bool). cond b (with_query a (asked_at (take k log) kind g)) (asked_at (take k log) kind g))
                (asks_own kind a e))))
            | inr w ↦
                get_or-set_other queries g f one unasked w
                ∙ (h.each f m
                ∙ sym (asked_more log k d kind f l ∙ ap (λ (b : Bool). cond b (with_query a before) before) (asks_other kind f a w)))
          ]);
    }

-- so many queries of the first accesses
pub asked_few : (channels : ℕ) (kind : Kind) (log : List LoggedAccess) (k f : ℕ) (queries : List Queries) → k ≤ length log → f < channels
    → AreAsked channels kind (take k log) queries
    → ((get_or queries f unasked).tried ≤ k) × ((get_or queries f unasked).missed ≤ k)
unfolding asked_at
asked_few channels kind log k f queries l m h =
    let those = filter (is_query_on kind f) (take k log) in
    let is = h.each f m in
    let tried = ap (λ (q : Queries). q.tried) is in
    let missed = ap (λ (q : Queries). q.missed) is in
    let long = length-filter (is_query_on kind f) (take k log) in
    let most = count_by-le-length (is_query_on kind f) (take k log) in
    let some = count_by-le-length is_missed those in
    let all = length-take-le k log l in
    (omega arith, omega arith)

-- with one query more the numbers are still small
pub asked_room : (channels : ℕ) (kind : Kind) (log : List LoggedAccess) (k : ℕ) (d : LoggedAccess) (queries : List Queries) → k < length log
    → (get_or log k d).event.channel < channels → length log < 2 ^ 64 → AreAsked channels kind (take k log) queries
    → ((get_or queries (get_or log k d).event.channel unasked).tried + 1 < 2 ^ 64)
    × ((get_or queries (get_or log k d).event.channel unasked).missed + 1 < 2 ^ 64)
asked_room channels kind log k d queries l inside short h =
    let few = asked_few channels kind log k (get_or log k d).event.channel queries (omega arith) inside h in
    let tried = few.0 in
    let missed = few.1 in
    (omega arith, omega arith)

-- ---- one module's

same_side_of : (kind other : Kind) → same_query kind other ≡ true → side_of kind ≡ side_of other
same_side_of TryRead TryRead e = refl
same_side_of TryWrite TryWrite e = refl
same_side_of Empty Empty e = refl
same_side_of Full Full e = refl
same_side_of kind other e = grind arith

pub asks_owner : (p : Plan) (kind : Kind) (f : ℕ) (a : LoggedAccess) → Owns p a → is_query_on kind f a ≡ true
    → a.event.«module» ≡ owner p (record { side = side_of kind; channel = f })
asks_owner p kind f a h e =
    let parts = and_parts (same_query kind a.event.kind) (eqb f a.event.channel) e in
    sym (ap₂ (λ (s : Side) (g : ℕ). owner p (record { side = s; channel = g })) (same_side_of kind a.event.kind parts.0)
    (eqb-true f a.event.channel parts.1) ∙ h)

abbrev nothing : List LoggedAccess
nothing = []

by_owner : (i o : ℕ) (name : Token) (kind : Kind) (channel : Token) (xs : List LoggedAccess) → AllByRecursion (λ a. a.event.«module» ≡ o) xs
    → own_queries i name kind channel (tally_of xs)
    ≡ query_lines name kind channel (length (cond (o == i) xs [])) (count_by is_missed (cond (o == i) xs []))
by_owner i o name kind channel [] h = by_both (o == i) (0 == i)
  where
    by_both : (a b : Bool) → cond b (query_lines name kind channel 0 0) []
        ≡ query_lines name kind channel (length (cond a nothing nothing)) (count_by is_missed (cond a nothing nothing))
    by_both true true = refl
    by_both true false = refl
    by_both false true = refl
    by_both false false = refl
by_owner i o name kind channel (x ∷ xs) h =
    let all = x ∷ xs in
    ap (λ (m : ℕ). cond (m == i) (query_lines name kind channel (length all) (count_by is_missed all)) [])
    (last_owner 0 o (λ a. true) 0 x xs h)
    ∙ by_bool (o == i)
  where
    by_bool : (b : Bool) → cond b (query_lines name kind channel (length (x ∷ xs)) (count_by is_missed (x ∷ xs))) []
        ≡ query_lines name kind channel (length (cond b (x ∷ xs) [])) (count_by is_missed (cond b (x ∷ xs) []))
    by_bool true = refl
    by_bool false = refl

-- so the lines of a module's queries are those of the queries that it made last
pub own_tries : (p : Plan) → FitsEngine p → (i f : ℕ) (kind : Kind) (queries : List Queries) → f < length p.design.channels
    → AreAsked (length p.design.channels) kind (log_of p) queries
    → own_queries i (module_name p.design i) kind (channel_name p.design f) (get_or queries f unasked) ≡ tries_of p i f kind
unfolding asked_at
own_tries p fits i f kind queries l h =
    let o = owner p (record { side = side_of kind; channel = f }) in
    let name = module_name p.design i in
    let channel = channel_name p.design f in
    let all = passing p o (is_query_on kind f) (asks_owner p kind f) (log_of p) (log_owned p fits) in
    let those = filter (is_query_on kind f) (log_of p) in
    ap (own_queries i name kind channel) (h.each f l)
    ∙ (by_owner i o name kind channel those (all_own i o (is_query_on kind f) (log_of p) all)
    ∙ ap (λ (xs : List LoggedAccess). query_lines name kind channel (length xs) (count_by is_missed xs))
    (sym (all_or_none i o (is_query_on kind f) (log_of p) all)))
