-- Depths that paths show to be too small.
use Rattle.std.proofs.Common.{◌≡◌, ℕ, ◌+◌, ◌<◌, ◌≤◌, true, List, length, refl, arith}
use Rattle.std.specs.Prelude.{slice_index, slice_set}
use Rattle.path_check.specs.{Plan, is_fifo, kind_at, Verdict, verdict, TableChannel, IsFifo, depth_of, channel_at, design, with_depths}
use Rattle.path_check.specs.{AsksNothing, IsDoneBy, Engine, IsKind, HoldsEnd, IsTried, IsLateBelow}
use Rattle.flow_design.specs.declared.report.Verdict.TheVariants.{Done, Deadlock, Cycles, Ops}
use Rattle.depth_order.proofs.Order.{never_slower}
use Rattle.path_check.proofs.Depths.{set_depths, set_deeper, set_lower, own_depths}
use Rattle.fifo_table.specs.declared.channel.TableChannel.TheVariants as table

-- ---- what a path shows

depth_is : (p : Plan) (c : ℕ) (kind : TableChannel) → IsFifo kind → IsKind (design p) c kind → slice_index p.depths c ≡ depth_of kind
depth_is p c (table.Source inputs) f k = absurd f
depth_is p c table.Sink f k = absurd f
depth_is p c (table.Fifo depth delay) f k = k.1

pub done_form : (clock : ℕ) (v : Verdict) → IsDoneBy clock v → (end : ℕ) × (v ≡ Done end) × (end ≤ clock)
done_form clock (Done end) l = (end, refl, l)
done_form clock (Deadlock c) l = absurd l
done_form clock (Cycles c) l = absurd l
done_form clock (Ops c) l = absurd l

pub late_shown : (p : Plan) (e : Engine) → HoldsEnd p e → AsksNothing p → (c n clock : ℕ)
    → is_fifo (kind_at p c) ≡ true → c < length e.fifos.channels → IsFifo (channel_at e.fifos.channels c).kind → 1 ≤ n
    → n < depth_of (channel_at e.fifos.channels c).kind
    → (ds : List ℕ) → ds ≡ p.depths
    → (IsTried p e (slice_set ds c n) → (end : ℕ) → verdict (with_depths p (slice_set ds c n)) ≡ Done end → clock < end)
    → IsLateBelow p clock c (n + 1)
late_shown p e f quiet c n clock fifo inside kind low less ds same late_with d some allowed below done =
    let shown = rw same at late_with in
    let own = own_depths p f.fits in
    let is = depth_is p c (channel_at e.fifos.channels c).kind kind (f.sound.kinds c inside) in
    let most = own.most c fifo in
    let fewer = set_depths p p.depths c d own fifo some (omega arith) in
    let tried = set_depths p p.depths c n own fifo low (omega arith) in
    let lower = set_lower p p.depths c n own fifo (omega arith) in
    let (first, its, early) = done_form clock (verdict (with_depths p (slice_set p.depths c d))) done in
    let then = never_slower p f.fits quiet (slice_set p.depths c d) (slice_set p.depths c n) fewer tried
    (set_deeper p p.depths p.depths c d n own own fifo (λ g at. omega arith) (omega arith)) first its in
    let (end, is_end, no_later) = done_form first (verdict (with_depths p (slice_set p.depths c n))) then in
    let late = shown (record { finished = f; quiet = quiet; fit = tried; lower = lower }) end is_end in
    absurd (omega arith)
