-- The places and the pushes of one side of a channel, as they are kept.
use Rattle.std.proofs.Common.{◌≡◌, refl, sym, ap, ◌∙◌, ℕ, List, [], ◌∷◌, ◌++◌, map, length, Some, arith}
use Rattle.std.proofs.{lemmas.List.map-append, lemmas.List.length-map, lemmas.Simd.map-map}
use Rattle.std.proofs.lemmas.Slice.Zip.{firsts-zip, seconds-zip}
use Rattle.std.specs.List.{zip}
use Rattle.fifo_table.specs.{Place, Pushed, places_numbered, pushes_in, AreAllOf, push_of, first_module}

-- ---- places

abbrev place_at : ℕ → ℕ → Place
place_at m k = record { «module» = m; step = k }

-- where they are all of a module, it may be taken for theirs
pub place_same : (m n : ℕ) (steps new : List ℕ) → AreAllOf n (places_numbered m steps) → new ≡ steps
    → places_numbered n new ≡ places_numbered m steps
place_same m n [] new own same = rw same refl
place_same m n (k ∷ steps) new own same =
    let is : m ≡ n = own 0 (place_at m k) (omega arith) in
    rw same (ap (λ (i : ℕ). places_numbered i (k ∷ steps)) (sym is))

pub place_more : (m : ℕ) (at : Place) (steps new : List ℕ) → AreAllOf at.module (places_numbered m steps) → new ≡ steps ++ at.step ∷ []
    → places_numbered at.module new ≡ places_numbered m steps ++ at ∷ []
place_more m at steps new own more =
    rw (
      more,
      map-append (place_at at.module) steps (at.step ∷ []),
      ← place_same m at.module steps steps own refl,
    ) refl

-- they are of the module of the first
pub first_place : (m : ℕ) (steps : List ℕ) → (length steps ≡ 0 → ⊥) → Some m ≡ first_module (places_numbered m steps)
first_place m [] some = absurd (some refl)
first_place m (k ∷ steps) some = refl

-- ---- pushes

pub push_more : (places new : List Place) (values more : List ℕ) (at : Place) (value : ℕ) → length values ≡ length places
    → new ≡ places ++ at ∷ [] → more ≡ values ++ value ∷ [] → pushes_in new more ≡ pushes_in places values ++ push_of at value ∷ []
push_more [] new [] more at value long is was = rw (is, was) refl
push_more [] new (v ∷ values) more at value long is was = absurd (omega (arith, long))
push_more (p ∷ places) new [] more at value long is was = absurd (omega (arith, long))
push_more (p ∷ places) new (v ∷ values) more at value long is was =
    rw (is, was) (ap (λ (xs : List Pushed). push_of p v ∷ xs)
    (push_more places (places ++ at ∷ []) values (values ++ value ∷ []) at value (omega (arith, long)) refl refl))

pub push_places : (places : List Place) (values : List ℕ) → length values ≡ length places
    → map (λ (p : Pushed). p.at) (pushes_in places values) ≡ places
push_places places values long = map-map (λ (p : Pushed). p.at) (λ (p : Place × ℕ). push_of p.0 p.1) (zip places values)
    ∙ firsts-zip places values long

pub push_values : (places : List Place) (values : List ℕ) → length values ≡ length places
    → map (λ (p : Pushed). p.value) (pushes_in places values) ≡ values
push_values places values long = map-map (λ (p : Pushed). p.value) (λ (p : Place × ℕ). push_of p.0 p.1) (zip places values)
    ∙ seconds-zip places values long

pub push_count : (places : List Place) (values : List ℕ) → length values ≡ length places
    → length (pushes_in places values) ≡ length values
push_count places values long =
    sym (length-map (pushes_in places values) (λ (p : Pushed). p.value)) ∙ ap length (push_values places values long)
