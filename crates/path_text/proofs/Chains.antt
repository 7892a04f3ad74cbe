-- Where the chain goes on before a link.
use Rattle.std.proofs.Common.{◌≡◌, ℕ, zero, suc, ◌-◌, ◌<◌, ◌≤◌, true, Option, Some, None, length, refl, ap, arith, inl, inr, ◌⊎◌}
use Rattle.std.specs.Prelude.{find, option_map, IfSome}
use Rattle.path_text.specs.{Port, side_of, other_side, Plan, Request, FitsEngine, stalls, requests_of, state, state_at, owner, StandsAtPort}
use Rattle.path_text.specs.{lag_in, moves_at, span_start, request_port, stood_at, link_at, before_link, MovesBefore}
use Rattle.timing_bridge.proofs.{History.plan_is_design, Requests.stand}
use Rattle.depth_order.proofs.{Chained.IsStill, Chained.starts, Chained.found_in, Chained.kept_still, Adds.crossing_moves}

-- across a port: the module on its other side moves in the clock that the chain goes on at
pub record IsCrossed (p : Plan) (m x : ℕ) (a : Port) : Type 0 where
  pub is : stood_at p x m ≡ Some a
  pub inside : a.channel < length p.design.channels
  pub within : lag_in p a.side a.channel ≤ x
  pub earlier : x - lag_in p a.side a.channel < x
  pub moves : moves_at p (x - lag_in p a.side a.channel) (owner p (record { side = other_side a.side; channel = a.channel })) ≡ true

pub crossed_at : (p : Plan) → FitsEngine p → (m x : ℕ) → moves_at p x m ≡ true → IsStill p m x
    → (stood_at p x m ≡ None) ⊎ ((a : Port) × IsCrossed p m x a)
crossed_at p h m zero move still = inl refl
crossed_at p h m (suc b) move still = by_found (find (stalls p b (state p b).contents) (requests_of p (m, state_at p b m))) refl
  where
    by_found : (o : Option Request) → find (stalls p b (state p b).contents) (requests_of p (m, state_at p b m)) ≡ o
        → (option_map request_port o ≡ None) ⊎ ((a : Port) × IsCrossed p m (suc b) a)
    by_found None e = absurd (kept_still p h b m still move e)
    by_found (Some r) e =
        let crossing = crossing_moves p h b m still move r e in
        let within = crossing.within in
        let positive = (plan_is_design p h).lag_positive (side_of r.kind) r.channel in
        let at_port = found_in p m (StandsAtPort p m) (stalls p b (state p b).contents) (requests_of p (m, state_at p b m)) r
        (stand p h m (state_at p b m)) e in
        inr (
          request_port r,
          record {
            is = ap (option_map request_port) e;
            inside = at_port.in_range;
            within = within;
            earlier = omega arith;
            moves = crossing.moves;
          },
        )

-- ---- before a link

-- where the chain goes on, a module moves in a clock before the link
pub next_moves : (p : Plan) → FitsEngine p → (m t : ℕ) → moves_at p t m ≡ true
    → MovesBefore p (span_start p m t) (before_link p (link_at p m t))
next_moves p h m t move =
    let start = starts p m t move in
    let within = start.within in
    elim (crossed_at p h m (span_start p m t) start.moves start.still) [
      | inl none ↦ rw none tt
      | inr (a, y) ↦ rw y.is (y.earlier, y.moves)
    ]

-- ---- what the next step asks for

pub crossing_inside : (p : Plan) → FitsEngine p → (m t : ℕ) → moves_at p t m ≡ true
    → IfSome (link_at p m t).crossed (λ a. a.channel < length p.design.channels)
crossing_inside p h m t move =
    let start = starts p m t move in
    elim (crossed_at p h m (span_start p m t) start.moves start.still) [ inl none ↦ rw none tt | inr (a, y) ↦ rw y.is y.inside ]

pub crossing_later : (p : Plan) → FitsEngine p → (m t : ℕ) → moves_at p t m ≡ true
    → IfSome (link_at p m t).crossed (λ a. lag_in p a.side a.channel ≤ (link_at p m t).first)
crossing_later p h m t move =
    let start = starts p m t move in
    elim (crossed_at p h m (span_start p m t) start.moves start.still) [ inl none ↦ rw none tt | inr (a, y) ↦ rw y.is y.within ]
