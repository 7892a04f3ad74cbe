-- A block begins in a sound state.
use Rattle.std.proofs.Common.{◌≡◌, refl, arith, ℕ, ◌-◌, ◌*◌, ◌/◌, ◌<◌, ◌≤◌}
use Rattle.std.proofs.Math.Nat.{div-lt_iff_lt-mul}
use Rattle.flow_design.specs.{declared.limits.TheConstants.LIVE_ITERATIONS, declared.design.Module.Module}
use Rattle.module_code.specs.{interval, entered, opened}
pub use Rattle.lockstep_defs.proofs.Blocks.{block_sound, some_interval, span}
pub use Rattle.block_schedule.proofs.Live.{live_count_is}

-- LEN is at most LIVE_ITERATIONS times II, so at most so many iterations are live
pub few_live : (len interval age : ℕ) → 1 ≤ interval → len ≤ LIVE_ITERATIONS * interval → age < len
    → (len - 1 - age) / interval < LIVE_ITERATIONS
few_live len interval age some span live =
    let below : len - 1 - age < LIVE_ITERATIONS * interval = omega arith in
    let first : 0 < interval = omega arith in
    (div-lt_iff_lt-mul first).1 below

pub opened_clock : (m : Module) → (opened m).control.clock ≡ 0
unfolding opened entered
opened_clock m = refl

pub opened_count : (m : Module) → (opened m).count ≡ 1
unfolding opened entered
opened_count m = refl
