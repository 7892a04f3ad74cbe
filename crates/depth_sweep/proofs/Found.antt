-- What a parallel map over the numbers of a grid gives.
use Rattle.std.proofs.Common.{◌≡◌, refl, ◌∙◌, ap₂, subst, ℕ, List, [], ◌∷◌, map, Result, Ok, Err, IfOk, MatchResult, Vec, Global}
use Rattle.std.specs.List.{AllZip}
use Rattle.depth_sweep.specs.{OutOfMemory, Point}

module _ (g : ℕ → Point) where
  -- what is found at a number, where there was memory
  abbrev pub IsFound : ℕ → Result Point OutOfMemory → Type 0
  IsFound number found = IfOk found (λ point. point ≡ g number)

  each_found : (numbers : List ℕ) (points : List Point) → AllZip IsFound numbers (map (λ p. Ok p) points) → points ≡ map g numbers
  each_found [] [] zipped = refl
  each_found [] (p ∷ points) zipped = absurd zipped
  each_found (n ∷ numbers) [] zipped = absurd zipped
  each_found (n ∷ numbers) (p ∷ points) zipped =
      ap₂ (λ (x : Point) (xs : List Point). x ∷ xs) zipped.0 (each_found numbers points zipped.1)

  pub all_found : (numbers : List ℕ) (found : List (Result Point OutOfMemory)) (r : Result (Vec Point Global) OutOfMemory)
      (Q : OutOfMemory → Type 0) → AllZip IsFound numbers found
      → MatchResult r (λ v. (points : List Point) × (found ≡ map (λ p. Ok p) points) × (v.items ≡ points)) Q
      → IfOk r (λ points. points.items ≡ map g numbers)
  all_found numbers found (Ok v) Q zipped h =
      h.2 ∙ each_found numbers h.0 (subst (λ (rs : List (Result Point OutOfMemory)). AllZip IsFound numbers rs) h.1 zipped)
  all_found numbers found (Err e) Q zipped h = tt
