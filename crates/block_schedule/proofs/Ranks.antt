-- Ranks of offsets.
use Rattle.std.proofs.Common.{◌≡◌, ◌∙◌, ap, ap₂, arith, ℕ, ◌+◌, ◌-◌, ◌*◌, ◌/◌, ◌%◌, ◌<◌, ◌≤◌}
use Rattle.std.proofs.lemmas.Nat.{div-add-mod', mod_below, div_below, div-mul-add, mod-mul-add, same_from_place}
use Rattle.flow_design.specs.declared.limits.TheConstants.{LIVE_ITERATIONS}
use Rattle.block_schedule.specs.{rank}

-- fewer than LIVE_ITERATIONS whole II
pub few_whole : (ii offset : ℕ) → 1 ≤ ii → offset < LIVE_ITERATIONS * ii → offset / ii < LIVE_ITERATIONS
few_whole ii offset some below = div_below offset ii LIVE_ITERATIONS some below

-- the rank of an offset that is written by its phase and age
pub rank_is : (ii phase age : ℕ) → phase < ii → rank ii (phase + age * ii) ≡ phase * LIVE_ITERATIONS + (LIVE_ITERATIONS - 1 - age)
rank_is ii phase age small =
    let order : phase + age * ii ≡ age * ii + phase = omega arith in
    let of : (age * ii + phase) % ii ≡ phase = mod-mul-add age ii phase small in
    let whole : (age * ii + phase) / ii ≡ age = div-mul-add age ii phase small in
    ap (rank ii) order ∙ ap₂ (λ (p a : ℕ). p * LIVE_ITERATIONS + (LIVE_ITERATIONS - 1 - a)) of whole

-- offsets of the same rank are the same
pub same_rank : (ii x y : ℕ) → 1 ≤ ii → x < LIVE_ITERATIONS * ii → y < LIVE_ITERATIONS * ii → rank ii x ≡ rank ii y → x ≡ y
same_rank ii x y some lx ly same =
    let fx = few_whole ii x some lx in
    let fy = few_whole ii y some ly in
    let both = same_from_place (x % ii) (LIVE_ITERATIONS - 1 - x / ii) (y % ii) (LIVE_ITERATIONS - 1 - y / ii) LIVE_ITERATIONS
    (omega arith) (omega arith) same in
    let ages : x / ii ≡ y / ii = omega (arith, both.1, fx, fy) in
    let product : x / ii * ii ≡ y / ii * ii = ap (λ (n : ℕ). n * ii) ages in
    omega (arith, div-add-mod' x ii, div-add-mod' y ii, both.0, product)

-- fewer than LIVE_ITERATIONS whole II of an age and some II more
pub few_older : (ii age older : ℕ) → 1 ≤ ii → age + older * ii < LIVE_ITERATIONS * ii → age / ii + older < LIVE_ITERATIONS
few_older ii age older some below =
    let whole : age / ii * ii + age % ii ≡ age = div-add-mod' age ii in
    let small = mod_below age ii some in
    let split : age + older * ii ≡ (age / ii + older) * ii + age % ii = omega arith in
    let quotient : (age + older * ii) / ii ≡ age / ii + older =
    ap (λ (n : ℕ). n / ii) split ∙ div-mul-add (age / ii + older) ii (age % ii) small in
    let few = few_whole ii (age + older * ii) some below in
    omega arith

-- an offset that is so many II greater comes so many ranks before
pub rank_older : (ii age older : ℕ) → 1 ≤ ii → age + older * ii < LIVE_ITERATIONS * ii → rank ii age - older ≡ rank ii (age + older * ii)
rank_older ii age older some below =
    let whole : age / ii * ii + age % ii ≡ age = div-add-mod' age ii in
    let small = mod_below age ii some in
    let split : age + older * ii ≡ age % ii + (age / ii + older) * ii = omega arith in
    let at : rank ii (age + older * ii) ≡ age % ii * LIVE_ITERATIONS + (LIVE_ITERATIONS - 1 - (age / ii + older)) =
    ap (rank ii) split ∙ rank_is ii (age % ii) (age / ii + older) small in
    omega (arith, at, few_older ii age older some below)

-- the age of a rank's offset is its rank's last part, and the phase the rest
pub rank_parts : (ii offset : ℕ) → 1 ≤ ii → offset < LIVE_ITERATIONS * ii
    → (rank ii offset / LIVE_ITERATIONS ≡ offset % ii) × (rank ii offset % LIVE_ITERATIONS ≡ LIVE_ITERATIONS - 1 - offset / ii)
rank_parts ii offset some below = (
  div-mul-add (offset % ii) LIVE_ITERATIONS (LIVE_ITERATIONS - 1 - offset / ii) (omega arith),
  mod-mul-add (offset % ii) LIVE_ITERATIONS (LIVE_ITERATIONS - 1 - offset / ii) (omega arith),
)
