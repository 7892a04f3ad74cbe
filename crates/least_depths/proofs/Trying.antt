-- One FIFO lowered by edits, try after try.
use Rattle.std.proofs.Common.{◌≡◌, ℕ, suc, ◌+◌, ◌-◌, ◌<◌, ◌≤◌, true, false, List, length, sym, ◌∙◌, ap, subst, arith}
use Rattle.std.proofs.{lemmas.List.length-set, Math.Seq.set-set}
use Rattle.std.specs.Prelude.{slice_index}
use Rattle.least_depths.specs.{Design, Plan, is_fifo, kind_at, with_depth, EditFits, verdict, AsksNothing, Found, halved, tried_one_more}
use Rattle.least_depths.specs.{middle, IsAlike, is_done_by, is_in_time, least_for}
use Rattle.flow_design.specs.declared.limits.TheConstants.{FIFO_DEPTH}
use Rattle.least_depths.proofs.Halves.{lower_half, upper_half, none_left, enough_tries}

-- with so many tries more
abbrev pub tried_more : ℕ → Found → Found
tried_more n x = record { number = x.number; tries = n + x.tries }

-- halving of a FIFO's depth stands between these depths after so many tries
pub record IsHalving (p : Plan) (f clock : ℕ) (q : Plan) (least most tries : ℕ) : Type 0 where
  pub alike : IsAlike p f q
  pub low : 1 ≤ least
  pub ordered : least ≤ most
  pub high : most ≤ slice_index p.depths f
  pub few : tries + most + 1 ≤ slice_index p.depths f + least
  pub found : tried_more tries (halved (is_in_time p clock f) (most - least) least most) ≡ least_for p clock f

tried_none : (x : Found) → tried_more 0 x ≡ x
tried_none x = let sum : 0 + x.tries ≡ x.tries = omega arith in ap (λ (n : ℕ). record { number = x.number; tries = n }) sum

pub begun : (p : Plan) (f clock : ℕ) (q : Plan) → IsAlike p f q → 1 ≤ slice_index p.depths f
    → IsHalving p f clock q 1 (slice_index p.depths f) 0
begun p f clock q alike low = record {
  alike = alike;
  low = omega arith;
  ordered = low;
  high = omega arith;
  few = omega arith;
  found = tried_none _ ∙ (enough_tries (is_in_time p clock f) (slice_index p.depths f) 1 (slice_index p.depths f) low (omega arith)
      (slice_index p.depths f - 1) (omega arith));
}

-- one edit of the channel
pub edited_alike : (p : Plan) (f : ℕ) (q : Plan) (depth : ℕ) → q ≡ with_depth p f depth → IsAlike p f q
edited_alike p f q depth e d =
    ap (λ (s : Plan). with_depth s f d) e ∙ ap (λ (ds : List ℕ). record p { depths = ds }) (set-set p.depths f depth d)

-- edits one after the other
pub alike_more : (p : Plan) (f : ℕ) (q r : Plan) → IsAlike p f q → IsAlike q f r → IsAlike p f r
alike_more p f q r a b d = b d ∙ a d

pub alike_quiet : (p : Plan) (f : ℕ) (q : Plan) → IsAlike p f q → AsksNothing p → AsksNothing q
alike_quiet p f q a none = subst AsksNothing (sym (a 0)) none

-- whether the tried depth is in time
pub same_time : (p : Plan) (f clock : ℕ) (q : Plan) (depth : ℕ) → IsAlike p f q → is_in_time q clock f depth ≡ is_in_time p clock f depth
same_time p f clock q depth a = ap (λ (r : Plan). is_done_by clock (verdict r)) (a depth)

-- one try more
more : (tries : ℕ) (x y : Found) → x ≡ tried_one_more y → tried_more (tries + 1) y ≡ tried_more tries x
more tries x y e =
    let sum : tries + 1 + y.tries ≡ tries + suc y.tries = omega arith in
    ap (λ (n : ℕ). record { number = y.number; tries = n }) sum ∙ ap (tried_more tries) (sym e)

pub halves_lower : (p : Plan) (f clock : ℕ) (q r : Plan) (least most tries : ℕ) → least < most → IsHalving p f clock q least most tries
    → IsAlike q f r → is_in_time q clock f (middle least most) ≡ true
    → IsHalving p f clock r least (middle least most) (tries + 1)
halves_lower p f clock q r least most tries l x e t =
    let few = x.few in
    let low = x.low in
    let high = x.high in
    record {
      alike = alike_more p f q r x.alike e;
      low = x.low;
      ordered = omega arith;
      high = omega arith;
      few = omega arith;
      found = more tries _ _ (lower_half (is_in_time p clock f) least most l (sym (same_time p f clock q (middle least most) x.alike) ∙ t))
          ∙ x.found;
    }

pub halves_upper : (p : Plan) (f clock : ℕ) (q r : Plan) (least most tries : ℕ) → least < most → IsHalving p f clock q least most tries
    → IsAlike q f r → is_in_time q clock f (middle least most) ≡ false
    → IsHalving p f clock r (middle least most + 1) most (tries + 1)
halves_upper p f clock q r least most tries l x e t =
    let few = x.few in
    let low = x.low in
    let high = x.high in
    let next : suc (middle least most) ≡ middle least most + 1 = omega arith in
    subst (λ (n : ℕ). IsHalving p f clock r n most (tries + 1)) next (record {
      alike = alike_more p f q r x.alike e;
      low = omega arith;
      ordered = omega arith;
      high = omega arith;
      few = omega arith;
      found = more tries _ _ (upper_half (is_in_time p clock f) least most l (sym (same_time p f clock q (middle least most) x.alike) ∙ t))
          ∙ x.found;
    })

-- nothing is left to try
pub halving_ends : (p : Plan) (f clock : ℕ) (q : Plan) (least most tries : ℕ) → most ≤ least → IsHalving p f clock q least most tries
    → (least ≡ (least_for p clock f).number) × (tries ≡ (least_for p clock f).tries)
halving_ends p f clock q least most tries l x =
    let is = sym (ap (tried_more tries) (none_left (is_in_time p clock f) (most - least) least most l)) ∙ x.found in
    let sum : tries ≡ tries + 0 = omega arith in
    (ap (λ (y : Found). y.number) is, sum ∙ ap (λ (y : Found). y.tries) is)

-- the tries so far are among all
pub tries_so_far : (p : Plan) (f clock : ℕ) (q : Plan) (least most tries : ℕ) → IsHalving p f clock q least most tries
    → tries ≤ (least_for p clock f).tries
tries_so_far p f clock q least most tries x = let all = ap (λ (y : Found). y.tries) x.found in omega arith

-- an edit of that channel fits each such plan
pub alike_fits : (p : Plan) (f : ℕ) (q : Plan) (depth : ℕ) → IsAlike p f q → is_fifo (kind_at p f) ≡ true → f < length p.depths
    → 1 ≤ depth → depth ≤ FIFO_DEPTH → EditFits q (record { channel = f; depth = depth })
alike_fits p f q depth a e l low high =
    let design = ap (λ (r : Plan). r.design) (a 0) in
    let count = sym (length-set q.depths f 0) ∙ (ap (λ (r : Plan). length r.depths) (a 0) ∙ length-set p.depths f 0) in
    record {
      fifo = ap (λ (d : Design). is_fifo (kind_at (record p { design = d }) f)) design ∙ e;
      entry = omega arith;
      least = low;
      most = high;
    }
