-- What makes the latency of a plan: the chain of clocks that goes back from its end.
use Rattle.std.specs.Prelude.{◌≡◌, ℕ, zero, suc, ◌≤◌, ◌-◌, Bool, false, if◌then◌else◌, Option, Some, None, option_map, List, [], ◌∷◌}
use Rattle.std.specs.Prelude.{length, find}
use Rattle.std.specs.List.{list_any, range_with_len}
use Rattle.flow_word.specs.{Port, side_of, other_side, same_side, declared.access.Side.TheVariants.Push}
use Rattle.flow_design.specs.{Plan, Request, declared.report.Verdict.TheVariants.Done}
use Rattle.lockstep_defs.specs.{stalled_request, verdict, owner, moves, state, state_at}
use Rattle.timing_bridge.specs.{lag_in}
use Rattle.depth_order.specs.{Depths.with_depths, Depths.AreDepths, declared.link.Link.Link}

-- ---- spans

-- module m moves in clock c
abbrev pub moves_at : Plan → ℕ → ℕ → Bool
moves_at p c m = moves p c (state p c).contents (m, state_at p c m)

-- the first clock of the moves in a row of module m that end with clock t
unfoldable pub span_start : Plan → ℕ → ℕ → ℕ
span_start p m zero = zero
span_start p m (suc c) = if moves_at p c m then span_start p m c else suc c

abbrev pub request_port : Request → Port
request_port r = record { side = side_of r.kind; channel = r.channel }

-- the port that stalls module m in clock c: that of its first due blocking operation, in commit order, that cannot be done; a Pop
-- is of an empty channel, and a Push of a full one
abbrev pub stands_at : Plan → ℕ → ℕ → Option Port
stands_at p c m = option_map request_port (stalled_request p c (state p c).contents (m, state_at p c m))

-- the port that stalls module m in the clock before this one; none before clock 0
abbrev pub stood_at : Plan → ℕ → ℕ → Option Port
stood_at p zero m = None
stood_at p (suc c) m = stands_at p c m

-- ---- the chain

-- the rest of the chain across a port: it goes on in the module at the other side, earlier by the port's lag, which is the
-- channel's delay for a pop and one clock for a push
abbrev pub chain_across : Plan → (ℕ → ℕ → List Link) → ℕ → Option Port → List Link
chain_across p rest x None = []
chain_across p rest x (Some a) =
    rest (owner p (record { side = other_side a.side; channel = a.channel })) (x - lag_in p a.side a.channel)

-- the chain back from clock t, in which module m moves, of at most n links; the latest link stands first
unfoldable pub chain : Plan → ℕ → ℕ → ℕ → List Link
chain p zero m t = []
chain p (suc n) m t =
    record { «module» = m; first = span_start p m t; last = t; crossed = stood_at p (span_start p m t) m }
    ∷ chain_across p (λ k c. chain p n k c) (span_start p m t) (stood_at p (span_start p m t) m)

-- the first module, in order, that moves in clock c
abbrev pub first_mover : Plan → ℕ → Option ℕ
first_mover p c = find (moves_at p c) (range_with_len 0 (length p.design.modules))

abbrev pub chain_from : Plan → ℕ → Option ℕ → List Link → List Link
chain_from p c None rest = rest
chain_from p c (Some m) rest = chain p (suc c) m c

-- the chain back from the last clock before c in which a module moves
unfoldable pub path : Plan → ℕ → List Link
path p zero = []
path p (suc c) = chain_from p c (first_mover p c) (path p c)

-- ---- no depth helps

abbrev pub is_push : Option Port → Bool
is_push None = false
is_push (Some a) = same_side a.side Push

-- the chain crosses a full FIFO: one of its links begins after a stall at a pushing side
abbrev pub crosses_full : List Link → Bool
crosses_full links = list_any (λ l. is_push l.crossed) links

-- no depths of the FIFOs give an end before this clock
abbrev pub NoneEndsBefore : Plan → ℕ → Type 0
NoneEndsBefore p clock = (ds : List ℕ) → AreDepths p ds → (earlier : ℕ) → verdict (with_depths p ds) ≡ Done earlier → clock ≤ earlier
