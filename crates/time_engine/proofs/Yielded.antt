-- A list of which the first elements have come: the next one stands after them.
use Rattle.std.proofs.Common.{◌≡◌, sym, ap, ◌∙◌, ◌<◌, List, [], ◌∷◌, ◌++◌, length, get_or, arith, append_assoc, length-append}
use Rattle.std.proofs.Math.Seq.{get_or-append_seam}

module _ {X : Type 0} (xs come left : List X) (next : X) (is : xs ≡ come ++ next ∷ left) where
  pub within : length come < length xs
  within = let all = ap length is in let long = length-append come (next ∷ left) in omega arith

  pub here : (d : X) → get_or xs (length come) d ≡ next
  here d = ap (λ (zs : List X). get_or zs (length come) d) is ∙ get_or-append_seam come next left d

  pub onward : xs ≡ (come ++ next ∷ []) ++ left
  onward = is ∙ sym (append_assoc come (next ∷ []) left)
