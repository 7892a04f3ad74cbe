-- The cycle of a push or a pop, by what it enables.
use Rattle.std.proofs.Common.{◌≡◌, ap, ◌∙◌, ℕ, ◌+◌, ◌-◌, ◌≤◌, Option, List, arith}
use Rattle.std.proofs.lemmas.Bool.{lt-leb}
use Rattle.std.specs.Prelude.{slice_get, option_and_then}
use Rattle.retime.specs.{Place, Side, TableChannel, Channel, IsFifo, HasSide, depth_of, places_of, enabler_of, enabler_by, event_at, Lane}
use Rattle.retime.specs.{cycle_of, clock_at, clock_by}
use Rattle.flow_word.specs.declared.access.Side.TheVariants.{Pop, Push}
use Rattle.fifo_table.specs.declared.channel.TableChannel.TheVariants.{Fifo}

pub fifo_has_side : (kind : TableChannel) (side : Side) → IsFifo kind → HasSide kind side
fifo_has_side (Fifo depth delay) Pop f = λ e. e
fifo_has_side (Fifo depth delay) Push f = λ e. e
fifo_has_side kind side f = absurd f

of_event : (lanes : List Lane) (o : Option Place) → clock_by lanes (event_at o) ≡ option_and_then (cycle_of lanes) o
of_event lanes o = grind arith

by_push : (lanes : List Lane) (kind : TableChannel) (channel : Channel) (n : ℕ) → IsFifo kind
    → clock_by lanes (enabler_by kind Pop channel n) ≡ clock_at lanes (places_of Push channel) (n - 1)
by_push lanes (Fifo depth delay) channel n f = of_event lanes (slice_get (places_of Push channel) (n - 1))
by_push lanes kind channel n f = absurd f

-- the n-th pop waits for the n-th push
pub push_clock : (lanes : List Lane) (channel : Channel) (n : ℕ) → IsFifo channel.kind
    → clock_by lanes (enabler_of channel Pop n) ≡ clock_at lanes (places_of Push channel) (n - 1)
push_clock lanes channel n f = by_push lanes channel.kind channel n f

by_pop : (lanes : List Lane) (kind : TableChannel) (channel : Channel) (n : ℕ) → IsFifo kind → 1 ≤ n
    → clock_by lanes (enabler_by kind Push channel (depth_of kind + n)) ≡ clock_at lanes (places_of Pop channel) (n - 1)
by_pop lanes (Fifo depth delay) channel n f l =
    let waits = lt-leb (depth + n) depth (omega arith) in
    let place : (depth + n) - depth - 1 ≡ n - 1 = omega arith in
    rw (waits, place) (of_event lanes (slice_get channel.pops (n - 1)))
by_pop lanes kind channel n f l = absurd f

-- the push with so many more before it than there are places waits for the n-th pop
pub pop_clock : (lanes : List Lane) (channel : Channel) (n : ℕ) → IsFifo channel.kind → 1 ≤ n
    → clock_by lanes (enabler_of channel Push (depth_of channel.kind + n)) ≡ clock_at lanes (places_of Pop channel) (n - 1)
pop_clock lanes channel n f l = by_pop lanes channel.kind channel n f l

-- ---- as the code asks

pub push_at : (lanes : List Lane) (channel : Channel) (n : ℕ) (r : Option ℕ) → IsFifo channel.kind
    → r ≡ clock_by lanes (enabler_of channel Pop n)
    → r ≡ clock_at lanes (places_of Push channel) (n - 1)
push_at lanes channel n r f e = e ∙ push_clock lanes channel n f

pub pop_at : (lanes : List Lane) (channel : Channel) (i depth n : ℕ) (r : Option ℕ) → IsFifo channel.kind → depth ≡ depth_of channel.kind
    → n ≡ depth + (i + 1) → r ≡ clock_by lanes (enabler_of channel Push n) → r ≡ clock_at lanes (places_of Pop channel) i
pop_at lanes channel i depth n r f d m e =
    e ∙ (ap (λ (k : ℕ). clock_by lanes (enabler_of channel Push k)) (m ∙ ap (λ (k : ℕ). k + (i + 1)) d)
    ∙ (pop_clock lanes channel (i + 1) f (omega arith) ∙ ap (clock_at lanes (places_of Pop channel)) (omega arith)))
