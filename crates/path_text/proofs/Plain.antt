-- Where nothing is polled for, the chain is the one that follows no polls.
use Rattle.std.proofs.Common.{◌≡◌, ℕ, zero, suc, true, false, List, [], ◌∷◌, map, refl, ◌∙◌, ap, Option, Some, None}
use Rattle.std.specs.List.{filter, AllByRecursion}
use Rattle.path_text.specs.{Kind, Port, is_blocking, Plan, Request, FitsEngine, requests_of, state_at, Each, seen_request, log_of}
use Rattle.path_text.specs.{LoggedAccess, is_of, AsksNothing, Link, span_start, stood_at, chain_across, chain, first_mover, chain_from}
use Rattle.path_text.specs.{path, At, PolledLink, before_link, link_at, before_polled, access_clock, ends_poll, going_on, last_move}
use Rattle.path_text.specs.{last_poll, latest_one, link_by, links_in, move_by, polled_chain, polled_from, polled_path, polls_along, seeks}
use Rattle.flow_word.specs.declared.access.Kind.TheVariants.{Read, Write, TryRead, TryWrite, Empty, Full}
use Rattle.depth_order.proofs.Order.{no_queries}
use Rattle.path_text.proofs.{Latest.all_filter, Latest.none, Logged.all_logged}

-- no link ends a poll
abbrev pub NothingPolled : Plan → List LoggedAccess → Type 0
NothingPolled p log = (l : Link) → last_poll p log l ≡ None

pub record IsPlain (chain : List PolledLink) (plain : List Link) : Type 0 where
  pub links : links_in chain ≡ plain
  pub polls : polls_along chain ≡ []

plain_chain : (p : Plan) (log : List LoggedAccess) → NothingPolled p log → (n : ℕ) (at : At)
    → IsPlain (polled_chain p log n at) (chain p n at.module at.clock)
unfolding polled_chain chain
plain_chain p log h zero at = record { links = refl; polls = refl }
plain_chain p log h (suc n) at =
    let whole = plain_link at.module at.clock (last_poll p log (link_at p at.module at.clock)) (h (link_at p at.module at.clock)) in
    let rest = on (plain_chain p log h n) (stood_at p (span_start p at.module at.clock) at.module) in
    record {
      links = ap (λ (s : PolledLink). s.link ∷ links_in (going_on (λ before. polled_chain p log n before) (before_polled p s))) whole
          ∙ ap (λ (ls : List Link). link_at p at.module at.clock ∷ ls) rest.links;
      polls = ap (λ (s : PolledLink). polls_along (s ∷ going_on (λ before. polled_chain p log n before) (before_polled p s))) whole
          ∙ rest.polls;
    }
  where
    plain_link : (m t : ℕ) (o : Option LoggedAccess) → o ≡ None
        → link_by log (link_at p m t) o ≡ record { link = link_at p m t; polled = None }
    plain_link m t o e = ap (link_by log (link_at p m t)) e

    on : ((next : At) → IsPlain (polled_chain p log n next) (chain p n next.module next.clock)) → (o : Option Port)
        → IsPlain (going_on (λ before. polled_chain p log n before)
        (before_link p (record (link_at p at.module at.clock) { crossed = o })))
        (chain_across p (λ k c. chain p n k c) (span_start p at.module at.clock) o)
    on all None = record { links = refl; polls = refl }
    on all (Some a) = all _

pub plain_path : (p : Plan) (log : List LoggedAccess) → NothingPolled p log → (c : ℕ) → IsPlain (polled_path p log c) (path p c)
unfolding path last_move
plain_path p log h zero = record { links = refl; polls = refl }
plain_path p log h (suc c) = by_mover (first_mover p c) (plain_path p log h c)
  where
    by_mover : (o : Option ℕ) → IsPlain (polled_path p log c) (path p c)
        → IsPlain (polled_from p log (move_by c o (last_move p c))) (chain_from p c o (path p c))
    by_mover None before = before
    by_mover (Some m) before = plain_chain p log h (suc c) (record { «module» = m; clock = c })

pub no_accesses : (p : Plan) → NothingPolled p []
no_accesses p l = refl

-- ---- where no operation is a query

nothing_sought : (p : Plan) (log : List LoggedAccess) → AllByRecursion (λ a. seeks a.event.kind ≡ false) log → NothingPolled p log
nothing_sought p log h l =
    let mine = filter (is_of l.«module») log in
    ap (latest_one access_clock) (none access_clock (ends_poll p mine l.first l.last) mine
    (all_filter (λ a. seeks a.event.kind ≡ false) (λ a. ends_poll p mine l.first l.last a ≡ false) (is_of l.«module»)
    (λ a sought own. rw sought refl) log h))

blocking : (rs : List Request) → Each (λ a. a.blocks ≡ true) (map seen_request rs) → AllByRecursion (λ r. is_blocking r.kind ≡ true) rs
blocking [] h = tt
blocking (r ∷ rs) h = (h.0, blocking rs h.1)

seeks_nothing : (kind : Kind) → is_blocking kind ≡ true → seeks kind ≡ false
seeks_nothing Read e = refl
seeks_nothing Write e = refl
seeks_nothing TryWrite e = refl
seeks_nothing Full e = refl
seeks_nothing TryRead e = absurd cc
seeks_nothing Empty e = absurd cc

pub quiet_path : (p : Plan) → FitsEngine p → AsksNothing p → NothingPolled p (log_of p)
quiet_path p h none =
    nothing_sought p (log_of p)
    (all_logged p (λ c m r. is_blocking r.kind ≡ true) (λ c m. blocking (requests_of p (m, state_at p c m)) (no_queries p h none m
    (state_at p c m)))
    (λ a. seeks a.event.kind ≡ false) (λ a done. seeks_nothing a.1.request.kind done.asked))
