-- The clocks of a chain that follows polls are as many as those of one that does not.
use Rattle.std.proofs.Common.{◌≡◌, ℕ, zero, suc, ◌+◌, ◌-◌, ◌<◌, ◌≤◌, true, List, ◌∷◌, ◌++◌, length, refl, sym, ◌∙◌, ap, arith, inl, inr}
use Rattle.std.proofs.Common.{Option, Some, None}
use Rattle.std.proofs.lemmas.List.Sums.{sum_by-cons}
use Rattle.std.specs.{Prelude.sum_by, List.range_with_len}
use Rattle.path_text.specs.{other_side, Plan, FitsEngine, owner, lag_in, LoggedAccess, Link, spent, clocks_across, under_way, chain_clocks}
use Rattle.path_text.specs.{moves_at, span_start, stood_at, chain_across, chain, first_mover, chain_from, path, At, Polled, PolledLink}
use Rattle.path_text.specs.{clocks_waiting, before_link, link_at, MovesBefore, AreAccesses, before_polled, going_on, if_some, last_move}
use Rattle.path_text.specs.{last_poll, link_by, links_in, move_by, polled_chain, polled_from, polled_link, polled_path, polls_along}
use Rattle.depth_order.proofs.{Chained.starts, Chained.chain_more, Chained.found_true, Adds.adds_up}
use Rattle.path_text.proofs.Chains.{crossed_at}
use Rattle.path_text.proofs.Followed.{last_moves, left, next_polled, poll_is, polled_more}

-- ---- one link

-- what the chain has before a link is as long as the clocks up to where it goes on
rest_sum : (p : Plan) → FitsEngine p → (m t : ℕ) → moves_at p t m ≡ true
    → let rest = chain_across p (λ k c. chain p t k c) (span_start p m t) (stood_at p (span_start p m t) m) in
    spent rest + under_way p rest ≡ left (before_link p (link_at p m t))
rest_sum p h m t move =
    let start = starts p m t move in
    let x = span_start p m t in
    let within = start.within in
    elim (crossed_at p h m x start.moves start.still) [
      | inl none ↦ rw none refl
      | inr (a, y) ↦
          let earlier = y.earlier in
          rw y.is (adds_up p h t (owner p (record { side = other_side a.side; channel = a.channel })) (x - lag_in p a.side a.channel)
          (omega arith) y.moves)
    ]

link_sum : (p : Plan) → FitsEngine p → (m t : ℕ) → moves_at p t m ≡ true
    → (suc t - span_start p m t) + clocks_across p (stood_at p (span_start p m t) m) + left (before_link p (link_at p m t)) ≡ suc t
link_sum p h m t move =
    let whole = ap (λ (ls : List Link). spent ls + under_way p ls) (sym (chain_more p t m t)) ∙ adds_up p h (suc t) m t (omega arith) move
    in
    let rest = rest_sum p h m t move in
    omega arith

-- ---- all links

-- of a chain the clocks spent, those of elements under way, and those of waiting
abbrev pub total : Plan → List PolledLink → ℕ
total p chain = spent (links_in chain) + under_way p (links_in chain) + sum_by clocks_waiting (polls_along chain)

abbrev waits : Option Polled → ℕ
waits None = 0
waits (Some q) = clocks_waiting q

waits_more : (o : Option Polled) (polls : List Polled) → sum_by clocks_waiting (if_some o ++ polls) ≡ waits o + sum_by clocks_waiting polls
waits_more None polls = omega arith
waits_more (Some q) polls = sum_by-cons clocks_waiting q polls

total_more : (p : Plan) (l : PolledLink) (chain : List PolledLink) → total p (l ∷ chain)
    ≡ (suc l.link.last - l.link.first) + clocks_across p l.link.crossed + waits l.polled + total p chain
total_more p l chain = let more = waits_more l.polled (polls_along chain) in omega arith

-- what is to be shown of each shorter chain
abbrev AddUp : Plan → List LoggedAccess → ℕ → Type 0
AddUp p log n = (at : At) → at.clock < n → moves_at p at.clock at.module ≡ true → total p (polled_chain p log n at) ≡ suc at.clock

add_up : (p : Plan) → FitsEngine p → (log : List LoggedAccess) → AreAccesses p log → (n : ℕ) → AddUp p log n
add_up p h log ac zero at l move = absurd (omega arith)
add_up p h log ac (suc n) at l move =
    ap (total p) (polled_more p log n at)
    ∙ (total_more p step (going_on (λ before. polled_chain p log n before) (before_polled p step))
    ∙ (ap (λ (k : ℕ). (suc step.link.last - step.link.first) + clocks_across p step.link.crossed + waits step.polled + k)
    (rest (add_up p h log ac n) (before_polled p step) (next_polled p h log ac at.module at.clock move))
    ∙ by_poll (last_poll p log (link_at p at.module at.clock)) refl))
  where
    step : PolledLink
    step = polled_link p log (link_at p at.module at.clock)

    rest : AddUp p log n → (o : Option At) → MovesBefore p at.clock o
        → total p (going_on (λ before. polled_chain p log n before) o) ≡ left o
    rest all None b = refl
    rest all (Some before) b = let below = b.0 in all before (omega arith) b.1

    by_poll : (o : Option LoggedAccess) → last_poll p log (link_at p at.module at.clock) ≡ o
        → let s = link_by log (link_at p at.module at.clock) o in
        (suc s.link.last - s.link.first) + clocks_across p s.link.crossed + waits s.polled + left (before_polled p s) ≡ suc at.clock
    by_poll None e = let sum = link_sum p h at.module at.clock move in omega arith
    by_poll (Some a) e =
        let x = poll_is p h log ac (link_at p at.module at.clock) a e in
        let within = x.within in
        let earlier = x.front.earlier in
        omega arith

-- ---- the whole path

pub polled_total : (p : Plan) → FitsEngine p → (log : List LoggedAccess) → AreAccesses p log → (c : ℕ)
    → total p (polled_path p log c) ≡ left (last_move p c)
polled_total p h log ac c = by_last (last_move p c) (last_moves p c)
  where
    by_last : (o : Option At) → MovesBefore p c o → total p (polled_from p log o) ≡ left o
    by_last None b = refl
    by_last (Some at) b = add_up p h log ac (suc at.clock) at (omega arith) b.1

pub chain_total : (p : Plan) → FitsEngine p → (c : ℕ) → chain_clocks p c ≡ left (last_move p c)
unfolding path last_move
chain_total p h zero = refl
chain_total p h (suc c) = by_mover (first_mover p c) refl (chain_total p h c)
  where
    by_mover : (o : Option ℕ) → first_mover p c ≡ o → chain_clocks p c ≡ left (last_move p c)
        → spent (chain_from p c o (path p c)) + under_way p (chain_from p c o (path p c)) ≡ left (move_by c o (last_move p c))
    by_mover None e before = before
    by_mover (Some m) e before =
        adds_up p h (suc c) m c (omega arith) (found_true (moves_at p c) (range_with_len 0 (length p.design.modules)) m e)

pub left_within : (p : Plan) (c : ℕ) → left (last_move p c) ≤ c
left_within p c = by_last (last_move p c) (last_moves p c)
  where
    by_last : (o : Option At) → MovesBefore p c o → left o ≤ c
    by_last None b = omega arith
    by_last (Some at) b = let below = b.0 in omega arith
