-- What the links of the chain and what it polls for are, and how many clocks they have.
use Rattle.std.proofs.Common.{◌≡◌, ℕ, ◌+◌, ◌≤◌, true, Option, Some, None, List, [], ◌∷◌, ◌++◌, refl, ap, ◌∙◌, arith}
use Rattle.std.proofs.{lemmas.List.Elements.All-from_recursion, lemmas.List.Sums.sum_by-cons}
use Rattle.std.specs.{Prelude.sum_by, Prelude.IfSome, List.AllByRecursion}
use Rattle.path_text.specs.{Design, Plan, FitsEngine, LoggedAccess, Link, moves_at, spent, Polled, PolledLink, link_at, AreAccesses}
use Rattle.path_text.specs.{if_some, last_poll, link_by, links_in, polled_link, polled_path, polls_along, link_clocks, clocks_waiting}
use Rattle.path_text.specs.{IsLinkOf, AreLinksOf, IsPollOf, ArePolledIn}
use Rattle.depth_order.proofs.Chained.{starts}
use Rattle.path_text.proofs.{Doings.mover_inside, Chains.crossing_inside, Followed.all_in_path, Followed.poll_is}
use Rattle.path_text.proofs.Totals.{left_within, polled_total}

-- ---- their clocks

spent_is : (links : List Link) → sum_by link_clocks links ≡ spent links
spent_is [] = refl
spent_is (l ∷ ls) = sum_by-cons link_clocks l ls ∙ ap (λ (n : ℕ). link_clocks l + n) (spent_is ls)

-- ---- the links and the polls

-- a link and what was polled for are the design's
abbrev IsStepOf : Design → PolledLink → Type 0
IsStepOf design l = IsLinkOf design l.link × IfSome l.polled (IsPollOf design)

each_link : (p : Plan) → FitsEngine p → (log : List LoggedAccess) → AreAccesses p log → (m t : ℕ) → moves_at p t m ≡ true
    → IsStepOf p.design (polled_link p log (link_at p m t))
each_link p h log ac m t move = by_poll (last_poll p log (link_at p m t)) refl
  where
    by_poll : (o : Option LoggedAccess) → last_poll p log (link_at p m t) ≡ o → IsStepOf p.design (link_by log (link_at p m t) o)
    by_poll None e =
        let within = (starts p m t move).within in (
          record { order = within; mover = mover_inside p t m move; crossed = crossing_inside p h m t move },
          tt,
        )
    by_poll (Some a) e =
        let x = poll_is p h log ac (link_at p m t) a e in (
          record { order = x.within; mover = mover_inside p t m move; crossed = tt },
          record { inside = x.told.inside; later = x.front.earlier },
        )

links_of : (design : Design) (chain : List PolledLink) → AllByRecursion (IsStepOf design) chain
    → AllByRecursion (IsLinkOf design) (links_in chain)
links_of design [] h = tt
links_of design (l ∷ chain) h = ((h.0).0, links_of design chain h.1)

polls_of : (design : Design) (chain : List PolledLink) → AllByRecursion (IsStepOf design) chain
    → AllByRecursion (IsPollOf design) (polls_along chain)
polls_of design [] h = tt
polls_of design (l ∷ chain) h = by_poll l.polled (h.0).1 (polls_of design chain h.1)
  where
    by_poll : (o : Option Polled) → IfSome o (IsPollOf design) → AllByRecursion (IsPollOf design) (polls_along chain)
        → AllByRecursion (IsPollOf design) (if_some o ++ polls_along chain)
    by_poll None q rest = rest
    by_poll (Some poll) q rest = (q, rest)

steps : (p : Plan) → FitsEngine p → (log : List LoggedAccess) → AreAccesses p log → (c : ℕ)
    → AllByRecursion (IsStepOf p.design) (polled_path p log c)
steps p h log ac c = all_in_path p h log ac (IsStepOf p.design) (each_link p h log ac) c

pub polled_links : (p : Plan) → FitsEngine p → (log : List LoggedAccess) → AreAccesses p log → (c : ℕ)
    → AreLinksOf p.design (links_in (polled_path p log c))
polled_links p h log ac c =
    All-from_recursion (IsLinkOf p.design) (links_in (polled_path p log c))
    (links_of p.design (polled_path p log c) (steps p h log ac c))

pub path_polls : (p : Plan) → FitsEngine p → (log : List LoggedAccess) → AreAccesses p log → (c : ℕ)
    → ArePolledIn p.design (polls_along (polled_path p log c))
path_polls p h log ac c =
    All-from_recursion (IsPollOf p.design) (polls_along (polled_path p log c))
    (polls_of p.design (polled_path p log c) (steps p h log ac c))

-- their clocks
pub polled_few : (p : Plan) → FitsEngine p → (log : List LoggedAccess) → AreAccesses p log → (c : ℕ)
    → (sum_by link_clocks (links_in (polled_path p log c)) ≤ c) × (sum_by clocks_waiting (polls_along (polled_path p log c)) ≤ c)
polled_few p h log ac c =
    let same = spent_is (links_in (polled_path p log c)) in
    let all = polled_total p h log ac c in
    let most = left_within p c in
    (omega arith, omega arith)
