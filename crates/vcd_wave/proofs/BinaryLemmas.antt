-- Binary digits, by the number that is left when the last one is taken off.
use Rattle.std.proofs.Common.{◌≡◌, ℕ, zero, suc, ◌+◌, ◌≤◌, ◌<◌, ◌/◌, ◌%◌, Bool, cond, List, [], ◌∷◌, ◌++◌, map, refl, sym, ◌∙◌, ap, arith}
use Rattle.std.proofs.{lemmas.Bool.ne_eqb, lemmas.Int.Digits.digits_of_step, lemmas.List.map-append}
use Rattle.std.specs.Int.Digits.{digits_of}
use Rattle.vcd_wave.specs.{numeral}

pub binary_above : (n : ℕ) → 0 < n → numeral 2 n ≡ map (λ d. 48 + d) (digits_of 2 n)
unfolding numeral
binary_above n h =
    ap (λ (b : Bool). cond b (48 ∷ []) (map (λ d. 48 + d) (digits_of 2 n))) (ne_eqb n 0 (λ e. absurd (omega arith)))

pub binary_small : (n : ℕ) → n ≤ 1 → numeral 2 n ≡ (48 + n % 2) ∷ []
unfolding numeral
binary_small zero h = refl
binary_small (suc zero) h = refl
binary_small (suc (suc n)) h = absurd (omega arith)

pub binary_step : (n : ℕ) → 1 < n → numeral 2 n ≡ numeral 2 (n / 2) ++ (48 + n % 2) ∷ []
binary_step n h =
    binary_above n (omega arith)
    ∙ (ap (map (λ d. 48 + d)) (digits_of_step 2 n (omega arith) (omega arith))
    ∙ (map-append (λ d. 48 + d) (digits_of 2 (n / 2)) (n % 2 ∷ [])
    ∙ ap (λ (ds : List ℕ). ds ++ (48 + n % 2) ∷ []) (sym (binary_above (n / 2) (omega arith)))))
