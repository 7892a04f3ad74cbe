-- The FIFOs of a plan lowered, channel after channel.
use Rattle.std.proofs.Common.{◌≡◌, ℕ, zero, suc, ◌+◌, ◌-◌, ◌<◌, ◌≤◌, true, false, List, length, sym, ◌∙◌, ap, subst, arith, refl, inl, inr}
use Rattle.std.proofs.lemmas.Bool.{cases_Bool}
use Rattle.least_depths.specs.{Plan, Verdict, FitsEngine, is_fifo, kind_at, with_depth, verdict, sizes_of, HasDepth, least_for, Lowered}
use Rattle.least_depths.specs.{with_found, lowered}
use Rattle.least_depths.proofs.Least.{lowered_first}

-- a channel is of the same kind whatever the depths are
pub same_kind : (p : Plan) → FitsEngine p → (clock n : ℕ) (q : Plan) → q ≡ (lowered p clock n).plan → (f : ℕ)
    → kind_at q f ≡ kind_at p f
same_kind p h clock n q e f = ap (λ (r : Plan). kind_at r f) (e ∙ (lowered_first p h clock n).lower.same)

pub same_channels : (p : Plan) → FitsEngine p → (clock n : ℕ) (q : Plan) → q ≡ (lowered p clock n).plan
    → length q.design.channels ≡ length p.design.channels
same_channels p h clock n q e = ap (λ (r : Plan). length r.design.channels) (e ∙ (lowered_first p h clock n).lower.same)

pub next_depth : (p : Plan) → FitsEngine p → (clock n : ℕ) (q : Plan) → q ≡ (lowered p clock n).plan → n < length p.design.channels
    → is_fifo (kind_at q n) ≡ true → HasDepth q n
next_depth p h clock n q e l fifo =
    let a = (lowered_first p h clock n).lower.depths in
    let count = a.count in
    let kind = sym (ap is_fifo (same_kind p h clock n q e n)) ∙ fifo in
    subst (λ (r : Plan). HasDepth r n) (sym e) (record {
      fifo = ap is_fifo (same_kind p h clock n (lowered p clock n).plan refl n) ∙ kind;
      entry = omega arith;
      least = a.least n kind;
      most = a.most n kind;
    })

-- past a FIFO
next_fifo : (p : Plan) (clock n : ℕ) → is_fifo (kind_at p n) ≡ true
    → lowered p clock (suc n) ≡ with_found (lowered p clock n) n (least_for (lowered p clock n).plan clock n)
unfolding lowered
next_fifo p clock n e = rw e refl

-- past another channel
next_other : (p : Plan) (clock n : ℕ) → is_fifo (kind_at p n) ≡ false → lowered p clock (suc n) ≡ lowered p clock n
unfolding lowered
next_other p clock n e = rw e refl

pub fifo_plan : (p : Plan) → FitsEngine p → (clock n : ℕ) (q r : Plan) → q ≡ (lowered p clock n).plan → is_fifo (kind_at q n) ≡ true
    → r ≡ with_depth q n (least_for q clock n).number → r ≡ (lowered p clock (n + 1)).plan
fifo_plan p h clock n q r e fifo new =
    let kind = sym (ap is_fifo (same_kind p h clock n q e n)) ∙ fifo in
    let next : suc n ≡ n + 1 = omega arith in
    new ∙ (ap (λ (s : Plan). with_depth s n (least_for s clock n).number) e
    ∙ (sym (ap (λ (x : Lowered). x.plan) (next_fifo p clock n kind)) ∙ ap (λ (k : ℕ). (lowered p clock k).plan) next))

pub fifo_tries : (p : Plan) → FitsEngine p → (clock n : ℕ) (q : Plan) (before more : ℕ) → q ≡ (lowered p clock n).plan
    → is_fifo (kind_at q n) ≡ true → before ≡ (lowered p clock n).tries → more ≡ (least_for q clock n).tries
    → before + more ≡ (lowered p clock (n + 1)).tries
fifo_tries p h clock n q before more e fifo so_far new =
    let kind = sym (ap is_fifo (same_kind p h clock n q e n)) ∙ fifo in
    let next : suc n ≡ n + 1 = omega arith in
    let tries = new ∙ ap (λ (s : Plan). (least_for s clock n).tries) e in
    let sum : before + more ≡ (lowered p clock n).tries + (least_for (lowered p clock n).plan clock n).tries = omega arith in
    sum ∙ (sym (ap (λ (x : Lowered). x.tries) (next_fifo p clock n kind)) ∙ ap (λ (k : ℕ). (lowered p clock k).tries) next)

pub other_lowered : (p : Plan) → FitsEngine p → (clock n : ℕ) (q : Plan) → q ≡ (lowered p clock n).plan → is_fifo (kind_at q n) ≡ false
    → lowered p clock n ≡ lowered p clock (n + 1)
other_lowered p h clock n q e fifo =
    let kind = sym (ap is_fifo (same_kind p h clock n q e n)) ∙ fifo in
    let next : suc n ≡ n + 1 = omega arith in
    sym (next_other p clock n kind) ∙ ap (lowered p clock) next

-- the first channels have no more tries than more of them
fewer_tries : (p : Plan) (clock n k : ℕ) → (lowered p clock n).tries ≤ (lowered p clock (k + n)).tries
fewer_tries p clock n zero = let same : 0 + n ≡ n = omega arith in rw same (omega arith)
fewer_tries p clock n (suc k) =
    let before = fewer_tries p clock n k in
    let next : suc k + n ≡ suc (k + n) = omega arith in
    rw next (elim (cases_Bool (is_fifo (kind_at p (k + n)))) [
      | inl e ↦ let more = ap (λ (x : Lowered). x.tries) (next_fifo p clock (k + n) e) in omega arith
      | inr e ↦ let same = ap (λ (x : Lowered). x.tries) (next_other p clock (k + n) e) in omega arith
    ])

-- the tries of one FIFO more are among those of all channels
pub tries_within : (p : Plan) → FitsEngine p → (clock n all : ℕ) (q : Plan) (before more : ℕ) → n < all → q ≡ (lowered p clock n).plan
    → is_fifo (kind_at q n) ≡ true → before ≡ (lowered p clock n).tries → more ≡ (least_for q clock n).tries
    → before + more ≤ (lowered p clock all).tries
tries_within p h clock n all q before more l e fifo so_far new =
    let here = fifo_tries p h clock n q before more e fifo so_far new in
    let at : (all - (n + 1)) + (n + 1) ≡ all = omega arith in
    let rest = subst (λ (k : ℕ). (lowered p clock (n + 1)).tries ≤ (lowered p clock k).tries) at
    (fewer_tries p clock (n + 1) (all - (n + 1))) in
    omega arith

-- ---- what is told at the end

pub lowered_of : (p : Plan) (clock : ℕ) (q last : Plan) (v : Verdict) (depths : List ℕ) (tries n : ℕ) → q ≡ p
    → last ≡ (lowered q clock (length q.design.channels)).plan → tries ≡ (lowered q clock (length q.design.channels)).tries
    → length p.design.channels ≡ n → v ≡ verdict last → depths ≡ last.depths
    → record { verdict = v; depths = depths; tries = tries } ≡ sizes_of (lowered p clock n)
lowered_of p clock q last v depths tries n start plan tried count told kept =
    let same : lowered q clock (length q.design.channels) ≡ lowered p clock n =
    ap (λ (r : Plan). lowered r clock (length r.design.channels)) start ∙ ap (lowered p clock) count in
    let end = plan ∙ ap (λ (x : Lowered). x.plan) same in
    λ i. record {
      verdict = (told ∙ ap verdict end) i;
      depths = (kept ∙ ap (λ (r : Plan). r.depths) end) i;
      tries = (tried ∙ ap (λ (x : Lowered). x.tries) same) i;
    }
