-- A grid that is too wide, and one that is not.
use Rattle.std.proofs.Common.{◌≡◌, sym, ap, ℕ, ◌<◌, Bool, cond, length, map, inl, inr}
use Rattle.std.proofs.lemmas.Bool.{cases_lt, lt-ltb, le-ltb}
use Rattle.whole_answer.specs.{Plan, grid_of, most_points, point, swept, told_points, not_taken}

module _ (lo hi : ℕ) (p : Plan) where
  pub swept_few : (most_points < length (grid_of p lo hi) → ⊥) → told_points (map (point p) (grid_of p lo hi)) ≡ swept lo hi p
  unfolding swept
  swept_few few = elim (cases_lt most_points (length (grid_of p lo hi))) [
    | inl wide ↦ absurd (few wide)
    | inr most ↦
        sym (ap (λ (b : Bool). cond b (not_taken 21) (told_points (map (point p) (grid_of p lo hi))))
        (le-ltb most_points (length (grid_of p lo hi)) most))
  ]

  pub swept_wide : most_points < length (grid_of p lo hi) → not_taken 21 ≡ swept lo hi p
  unfolding swept
  swept_wide wide =
      sym (ap (λ (b : Bool). cond b (not_taken 21) (told_points (map (point p) (grid_of p lo hi))))
      (lt-ltb most_points (length (grid_of p lo hi)) wide))
