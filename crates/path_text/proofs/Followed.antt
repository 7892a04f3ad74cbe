-- The chain that follows polls, link by link.
use Rattle.std.proofs.Common.{◌≡◌, ℕ, zero, suc, ◌<◌, ◌≤◌, true, ◌&&◌, List, [], ◌∷◌, ◌++◌, append_assoc, length, refl, sym, ◌∙◌, ap, ap₂}
use Rattle.std.proofs.Common.{subst, arith, inl, inr, leb, Option, Some, None}
use Rattle.std.proofs.lemmas.Bool.{and_parts, leb-true}
use Rattle.std.specs.{Prelude.AllPairs, Prelude.IfSome, List.filter, List.list_any, List.AllByRecursion, List.range_with_len}
use Rattle.path_text.specs.{Port, Plan, FitsEngine, log_of, LoggedAccess, is_of, Link, moves_at, first_mover, At, Polled, link_at}
use Rattle.path_text.specs.{MovesBefore, PolledLink, AreAccesses, before_polled, access_clock, ends_poll, going_on, if_some, is_hit}
use Rattle.path_text.specs.{last_move, last_poll, EndsEarlier, link_by, links_in, missed_before, move_by, polled_chain, polled_from}
use Rattle.path_text.specs.{polled_link, polled_path, polls_along}
use Rattle.depth_order.proofs.Chained.{found_true, starts}
use Rattle.path_text.proofs.{Chains.next_moves, Logged.IsTold, Fronts.IsFront, Fronts.accesses_told, Fronts.front_is}
use Rattle.path_text.proofs.Latest.{all_filter, in_turn, of_all, InTurn}

-- ---- what a module polled for

pub record IsLastPoll (p : Plan) (log : List LoggedAccess) (l : Link) (a : LoggedAccess) : Type 0 where
  pub told : IsTold p a
  pub within : a.event.cycle ≤ l.last
  pub front : IsFront p log a.event.channel a.event.cycle

record IsEnding (p : Plan) (l : Link) (a : LoggedAccess) : Type 0 where
  told : IsTold p a
  hit : is_hit p a ≡ true
  within : a.event.cycle ≤ l.last

ending : (p : Plan) (mine : List LoggedAccess) (l : Link) (a : LoggedAccess) → IsTold p a → ends_poll p mine l.first l.last a ≡ true
    → IsEnding p l a
ending p mine l a told e =
    let outer = and_parts (is_hit p a) (leb a.event.cycle l.last && list_any (missed_before l.first a) mine) e in
    let inner = and_parts (leb a.event.cycle l.last) (list_any (missed_before l.first a) mine) outer.1 in
    record { told = told; hit = outer.0; within = leb-true a.event.cycle l.last inner.0 }

pub poll_is : (p : Plan) → FitsEngine p → (log : List LoggedAccess) → AreAccesses p log → (l : Link) (a : LoggedAccess)
    → last_poll p log l ≡ Some a → IsLastPoll p log l a
poll_is p fits log (inl none) l a e =
    let wrong : last_poll p [] l ≡ Some a = subst (λ (xs : List LoggedAccess). last_poll p xs l ≡ Some a) none e in
    absurd (cc)
poll_is p fits log (inr is) l a e =
    let mine = filter (is_of l.«module») log in
    let x = of_all access_clock (IsEnding p l) (filter (ends_poll p mine l.first l.last) mine)
    (all_filter (IsTold p) (IsEnding p l) (ends_poll p mine l.first l.last) (λ b told test. ending p mine l b told test) mine
    (all_filter (IsTold p) (IsTold p) (is_of l.«module») (λ b told test. told) log (accesses_told p fits log (inr is)))) a e in
    record { told = x.told; within = x.within; front = front_is p fits log is a x.told x.hit }

-- ---- before a link

next_first : (p : Plan) → FitsEngine p → (log : List LoggedAccess) → AreAccesses p log → (m t : ℕ) → moves_at p t m ≡ true
    → MovesBefore p (polled_link p log (link_at p m t)).link.first (before_polled p (polled_link p log (link_at p m t)))
next_first p fits log ac m t move = by_poll (last_poll p log (link_at p m t)) refl
  where
    by_poll : (o : Option LoggedAccess) → last_poll p log (link_at p m t) ≡ o
        → MovesBefore p (link_by log (link_at p m t) o).link.first (before_polled p (link_by log (link_at p m t) o))
    by_poll None e = next_moves p fits m t move
    by_poll (Some a) e =
        let x = poll_is p fits log ac (link_at p m t) a e in
        (x.front.earlier, x.front.moves)

first_within : (p : Plan) → FitsEngine p → (log : List LoggedAccess) → AreAccesses p log → (m t : ℕ) → moves_at p t m ≡ true
    → (polled_link p log (link_at p m t)).link.first ≤ t
first_within p fits log ac m t move = by_poll (last_poll p log (link_at p m t)) refl
  where
    by_poll : (o : Option LoggedAccess) → last_poll p log (link_at p m t) ≡ o → (link_by log (link_at p m t) o).link.first ≤ t
    by_poll None e = (starts p m t move).within
    by_poll (Some a) e = (poll_is p fits log ac (link_at p m t) a e).within

pub sooner : (p : Plan) (a b : ℕ) (o : Option At) → a ≤ b → MovesBefore p a o → MovesBefore p b o
sooner p a b None l h = tt
sooner p a b (Some at) l h = let below = h.0 in (omega arith, h.1)

pub next_polled : (p : Plan) → FitsEngine p → (log : List LoggedAccess) → AreAccesses p log → (m t : ℕ) → moves_at p t m ≡ true
    → MovesBefore p t (before_polled p (polled_link p log (link_at p m t)))
next_polled p fits log ac m t move =
    let step = polled_link p log (link_at p m t) in
    sooner p step.link.first t (before_polled p step) (first_within p fits log ac m t move) (next_first p fits log ac m t move)

pub polled_more : (p : Plan) (log : List LoggedAccess) (n : ℕ) (at : At) → polled_chain p log (suc n) at
    ≡ polled_link p log (link_at p at.module at.clock)
    ∷ going_on (λ before. polled_chain p log n before) (before_polled p (polled_link p log (link_at p at.module at.clock)))
unfolding polled_chain
polled_more p log n at = refl

-- ---- what the next step asks for

pub polled_inside : (p : Plan) → FitsEngine p → (log : List LoggedAccess) → AreAccesses p log → (l : Link)
    → IfSome (polled_link p log l).polled (λ q. q.channel < length p.design.channels)
polled_inside p fits log ac l = by_poll (last_poll p log l) refl
  where
    by_poll : (o : Option LoggedAccess) → last_poll p log l ≡ o → IfSome (link_by log l o).polled (λ q. q.channel < length
        p.design.channels)
    by_poll None e = tt
    by_poll (Some a) e = (poll_is p fits log ac l a e).told.inside

-- what holds of the port that a link crosses, and of none, holds of the port that the link up to a query crosses
pub polled_crossing : (p : Plan) (log : List LoggedAccess) (l : Link) (P : ℕ → Option Port → Type 0) → ((x : ℕ) → P x None)
    → P l.first l.crossed → P (polled_link p log l).link.first (polled_link p log l).link.crossed
polled_crossing p log l P none h = by_poll (last_poll p log l)
  where
    by_poll : (o : Option LoggedAccess) → P (link_by log l o).link.first (link_by log l o).link.crossed
    by_poll None = h
    by_poll (Some a) = none a.event.cycle

-- ---- so many links are enough

pub enough : (p : Plan) → FitsEngine p → (log : List LoggedAccess) → AreAccesses p log → (n f : ℕ) → f ≤ n → (at : At)
    → at.clock < f → moves_at p at.clock at.module ≡ true → polled_chain p log f at ≡ polled_chain p log (suc at.clock) at
enough p fits log ac n zero l at b move = absurd (omega arith)
enough p fits log ac zero (suc f) l at b move = absurd (omega arith)
enough p fits log ac (suc n) (suc f) l at b move =
    polled_more p log f at
    ∙ (ap (λ (ls : List PolledLink). polled_link p log (link_at p at.module at.clock) ∷ ls)
    (both (enough p fits log ac n f (omega arith)) (enough p fits log ac n at.clock (omega arith))
    (before_polled p (polled_link p log (link_at p at.module at.clock))) (next_polled p fits log ac at.module at.clock move))
    ∙ sym (polled_more p log at.clock at))
  where
    both : ((next : At) → next.clock < f → moves_at p next.clock next.module ≡ true
        → polled_chain p log f next ≡ polled_chain p log (suc next.clock) next)
        → ((next : At) → next.clock < at.clock → moves_at p next.clock next.module ≡ true
        → polled_chain p log at.clock next ≡ polled_chain p log (suc next.clock) next)
        → (o : Option At) → MovesBefore p at.clock o
        → going_on (λ before. polled_chain p log f before) o ≡ going_on (λ before. polled_chain p log at.clock before) o
    both x y None h = refl
    both x y (Some next) h =
        let below = h.0 in
        x next (omega arith) h.1 ∙ sym (y next below h.1)

-- a link, and the chain before it
pub from_link : (p : Plan) → FitsEngine p → (log : List LoggedAccess) → AreAccesses p log → (at : At)
    → moves_at p at.clock at.module ≡ true
    → polled_from p log (Some at) ≡ polled_link p log (link_at p at.module at.clock)
    ∷ polled_from p log (before_polled p (polled_link p log (link_at p at.module at.clock)))
from_link p fits log ac at move =
    polled_more p log at.clock at
    ∙ ap (λ (ls : List PolledLink). polled_link p log (link_at p at.module at.clock) ∷ ls)
    (rest (before_polled p (polled_link p log (link_at p at.module at.clock))) (next_polled p fits log ac at.module at.clock move))
  where
    rest : (o : Option At) → MovesBefore p at.clock o → going_on (λ before. polled_chain p log at.clock before) o ≡ polled_from p log o
    rest None h = refl
    rest (Some next) h = enough p fits log ac at.clock at.clock (omega arith) next h.0 h.1

-- ---- what holds of each link

pub all_links : (p : Plan) → FitsEngine p → (log : List LoggedAccess) → AreAccesses p log → (P : PolledLink → Type 0)
    → ((m t : ℕ) → moves_at p t m ≡ true → P (polled_link p log (link_at p m t)))
    → (n : ℕ) (at : At) → moves_at p at.clock at.module ≡ true → AllByRecursion P (polled_chain p log n at)
unfolding polled_chain
all_links p fits log ac P each zero at move = tt
all_links p fits log ac P each (suc n) at move = (
  each at.module at.clock move,
  rest (all_links p fits log ac P each n) (before_polled p (polled_link p log (link_at p at.module at.clock)))
      (next_polled p fits log ac at.module at.clock move),
)
  where
    rest : ((next : At) → moves_at p next.clock next.module ≡ true → AllByRecursion P (polled_chain p log n next))
        → (o : Option At) → MovesBefore p at.clock o → AllByRecursion P (going_on (λ before. polled_chain p log n before) o)
    rest x None h = tt
    rest x (Some next) h = x next h.1

pub last_moves : (p : Plan) (c : ℕ) → MovesBefore p c (last_move p c)
unfolding last_move
last_moves p zero = tt
last_moves p (suc c) = by_mover (first_mover p c) refl (last_move p c) (last_moves p c)
  where
    by_mover : (f : Option ℕ) → first_mover p c ≡ f → (o : Option At) → MovesBefore p c o → MovesBefore p (suc c) (move_by c f o)
    by_mover None e None h = tt
    by_mover None e (Some at) h = let below = h.0 in (omega arith, h.1)
    by_mover (Some m) e o h = (omega arith, found_true (moves_at p c) (range_with_len 0 (length p.design.modules)) m e)

pub all_in_path : (p : Plan) → FitsEngine p → (log : List LoggedAccess) → AreAccesses p log → (P : PolledLink → Type 0)
    → ((m t : ℕ) → moves_at p t m ≡ true → P (polled_link p log (link_at p m t)))
    → (c : ℕ) → AllByRecursion P (polled_path p log c)
all_in_path p fits log ac P each c = by_last (last_move p c) (last_moves p c)
  where
    by_last : (o : Option At) → MovesBefore p c o → AllByRecursion P (polled_from p log o)
    by_last None h = tt
    by_last (Some at) h = all_links p fits log ac P each (suc at.clock) at h.1

-- ---- back in time

last_is : (log : List LoggedAccess) (l : Link) (o : Option LoggedAccess) → (link_by log l o).link.last ≡ l.last
last_is log l None = refl
last_is log l (Some a) = refl

-- the links of a chain end by the clock that it goes back from, and each ends before those that the list has before it begin
chain_back : (p : Plan) → FitsEngine p → (log : List LoggedAccess) → AreAccesses p log → (n : ℕ) (at : At)
    → moves_at p at.clock at.module ≡ true
    → AllByRecursion (λ l. l.last ≤ at.clock) (links_in (polled_chain p log n at)) × InTurn EndsEarlier (links_in (polled_chain p log n at))
unfolding polled_chain
chain_back p fits log ac zero at move = (tt, tt)
chain_back p fits log ac (suc n) at move =
    let l = link_at p at.module at.clock in
    let step = polled_link p log l in
    let rest = going_on (λ before. polled_chain p log n before) (before_polled p step) in
    let back = on (chain_back p fits log ac n) step.link.first (before_polled p step) (next_first p fits log ac at.module at.clock move) in
    let within = first_within p fits log ac at.module at.clock move in
    let last = last_is log l (last_poll p log l) in (
      (omega arith, all_within step.link.first at.clock within (links_in rest) back.0),
      (back.0, back.1),
    )
  where
    all_within : (c d : ℕ) → c ≤ d → (links : List Link) → AllByRecursion (λ k. k.last < c) links → AllByRecursion (λ k. k.last ≤ d) links
    all_within c d l [] h = tt
    all_within c d l (k ∷ links) h = (let below = h.0 in omega arith, all_within c d l links h.1)

    all_before : (c d : ℕ) → c < d → (links : List Link) → AllByRecursion (λ k. k.last ≤ c) links → AllByRecursion (λ k. k.last < d) links
    all_before c d l [] h = tt
    all_before c d l (k ∷ links) h = (let below = h.0 in omega arith, all_before c d l links h.1)

    on : ((next : At) → moves_at p next.clock next.module ≡ true
        → AllByRecursion (λ l. l.last ≤ next.clock) (links_in (polled_chain p log n next))
        × InTurn EndsEarlier (links_in (polled_chain p log n next)))
        → (c : ℕ) (o : Option At) → MovesBefore p c o
        → let links = links_in (going_on (λ before. polled_chain p log n before) o) in
        AllByRecursion (λ k. k.last < c) links × InTurn EndsEarlier links
    on all c None h = (tt, tt)
    on all c (Some next) h =
        let x = all next h.1 in
        (all_before next.clock c h.0 (links_in (polled_chain p log n next)) x.0, x.1)

pub path_back : (p : Plan) → FitsEngine p → (c : ℕ) → AllPairs EndsEarlier (links_in (polled_path p (log_of p) c))
path_back p fits c = in_turn EndsEarlier (links_in (polled_path p (log_of p) c)) (by_last (last_move p c) (last_moves p c))
  where
    by_last : (o : Option At) → MovesBefore p c o → InTurn EndsEarlier (links_in (polled_from p (log_of p) o))
    by_last None h = tt
    by_last (Some at) h = (chain_back p fits (log_of p) (inr refl) (suc at.clock) at h.1).1

-- ---- a walk along the chain

-- these links and polls, and those of the chain back from where it goes on, are the whole path's
pub record IsWalk (p : Plan) (log : List LoggedAccess) (end : ℕ) (links : List Link) (polls : List Polled) (next : Option At) : Type 0 where
  pub links_are : links ++ links_in (polled_from p log next) ≡ links_in (polled_path p log end)
  pub polls_are : polls ++ polls_along (polled_from p log next) ≡ polls_along (polled_path p log end)
  pub there : MovesBefore p end next

abbrev pub left : Option At → ℕ
left None = 0
left (Some at) = suc at.clock

pub walk_on : (p : Plan) → FitsEngine p → (log : List LoggedAccess) → AreAccesses p log → (end : ℕ) (links new : List Link)
    (polls more : List Polled) (at : At) (l : PolledLink) (o : Option At) → IsWalk p log end links polls (Some at)
    → l ≡ polled_link p log (link_at p at.module at.clock) → new ≡ links ++ l.link ∷ [] → more ≡ polls ++ if_some l.polled
    → o ≡ before_polled p l → IsWalk p log end new more o × (left o ≤ at.clock)
walk_on p fits log ac end links new polls more at l o x is added polled goes =
    let step = polled_link p log (link_at p at.module at.clock) in
    let moves : MovesBefore p at.clock o =
    subst (MovesBefore p at.clock) (sym (goes ∙ ap (before_polled p) is)) (next_polled p fits log ac at.module at.clock x.there.1) in
    let chain : polled_from p log (Some at) ≡ l ∷ polled_from p log o =
    from_link p fits log ac at x.there.1
    ∙ ap₂ (λ (k : PolledLink) (q : Option At). k ∷ polled_from p log q) (sym is) (sym (goes ∙ ap (before_polled p) is)) in
    let below = x.there.0 in (
      record {
        links_are = ap (λ (ls : List Link). ls ++ links_in (polled_from p log o)) added
            ∙ (append_assoc links (l.link ∷ []) (links_in (polled_from p log o))
            ∙ (ap (λ (ls : List PolledLink). links ++ links_in ls) (sym chain) ∙ x.links_are));
        polls_are = ap (λ (qs : List Polled). qs ++ polls_along (polled_from p log o)) polled
            ∙ (append_assoc polls (if_some l.polled) (polls_along (polled_from p log o))
            ∙ (ap (λ (ls : List PolledLink). polls ++ polls_along ls) (sym chain) ∙ x.polls_are));
        there = sooner p at.clock end o (omega arith) moves;
      },
      by_moves o moves,
    )
  where
    by_moves : (o : Option At) → MovesBefore p at.clock o → left o ≤ at.clock
    by_moves None moves = omega arith
    by_moves (Some before) moves = let below = moves.0 in omega arith
