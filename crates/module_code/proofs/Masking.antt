-- Cutting by a mask, and putting into a target.
use Rattle.std.proofs.Common.{◌≡◌, ap, ◌∙◌, arith, ℕ, ◌-◌, ◌<◌, ◌≤◌, ◌%◌, ◌^◌, length}
use Rattle.std.proofs.{lemmas.Nat.and_mask, lemmas.Bool.lt-ltb, lemmas.Bool.le-ltb}
use Rattle.std.specs.{Prelude.slice_index, Prelude.slice_set, Int.Bits.bit_and}
use Rattle.module_code.specs.{Block, temps_of, IsMaskOf, IsTargetOf}
use Rattle.module_code.specs.declared.target.Target.TheVariants.{Register, Temp}
use Rattle.flow_design.specs.declared.design.Module.{Module}

pub masked_is : (n width mask : ℕ) → IsMaskOf width mask → bit_and n mask ≡ n % 2 ^ width
masked_is n width mask ones =
    let is : mask ≡ 2 ^ width - 1 = omega (arith, ones) in
    ap (λ (m : ℕ). bit_and n m) is ∙ and_mask n width

pub register_target : (m : Module) (b : Block) (x mask : ℕ) → x < length m.registers → IsMaskOf (slice_index m.registers x) mask
    → IsTargetOf m b (Register x mask) x
register_target m b x mask inside ones s i v =
    rw (lt-ltb x (length m.registers) inside)
    (ap (λ (w : ℕ). record s { registers = slice_set s.registers x w }) (masked_is v (slice_index m.registers x) mask ones))

pub temp_target : (m : Module) (b : Block) (x t mask : ℕ) → length m.registers ≤ x → t ≡ x - length m.registers
    → IsMaskOf (slice_index b.temps t) mask → IsTargetOf m b (Temp t mask) x
temp_target m b x t mask outside at ones s i v =
    rw (le-ltb x (length m.registers) outside, ← at)
    (ap (λ (w : ℕ). record s { temps = slice_set s.temps i (slice_set (temps_of s i) t w) })
    (masked_is v (slice_index b.temps t) mask ones))
