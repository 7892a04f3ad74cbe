use Rattle.std.proofs.Common.{◌≡◌, ◌∙◌, sym, ap, arith, ℕ, suc, ◌*◌, ◌^◌, ◌≤◌}
use Rattle.std.proofs.Math.Nat.{pow-suc, pow-le-pow_right}
use Rattle.depth_sweep.proofs.shape.power.Goals as goal

-- the powers rise
pub returns-then-product-gt-MOST_POINTS : goal.returns-then-product-gt-MOST_POINTS
returns-then-product-gt-MOST_POINTS c = λ small.
    let base = c.args.base in
    let factor = c.loop-factor._factor in
    let next : base ^ suc factor ≡ c.loop-factor.product * base =
    pow-suc base factor ∙ ap (λ (p : ℕ). p * base) (sym c.loop-factor.invariant.power) in
    let rises : base ^ suc factor ≤ base ^ c.args.exponent =
    pow-le-pow_right {n = base} (omega arith) {i = suc factor} {j = c.args.exponent} (omega arith) in
    omega (arith, c.if-product-gt-MOST_POINTS.true, next, rises, small)
