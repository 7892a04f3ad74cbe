-- The passes of a hub, when it opens, where one of them was put back, and in the opposite order.
use Rattle.std.proofs.Common.{◌≡◌, ℕ, zero, suc, ◌<◌, List, [], ◌∷◌, ◌++◌, length, reverse, Some, slice_get, inl, inr, refl, sym, ap, ◌∙◌}
use Rattle.std.proofs.Common.{subst, arith}
use mathlib.Core.List.{reverse-cons}
use Rattle.std.specs.List.{insert, remove}
use Rattle.thread_tests.specs.{Plan, ModulePass, PerfPass, HasNoDeskOut, module_of, module_hub, module_view, perf_hub, perf_view, AreNew}
use Rattle.thread_tests.specs.{HasEachModule, AreResting}
use Rattle.turn_lock.specs.Passes.{TableId}
use Rattle.sim_hub.proofs.{Lists.get_snoc, Lists.there, Openings.new_home}

-- ---- at the opening

pub new_resting : (id : TableId) (plan : Plan) (perf : PerfPass) (passes : List ModulePass) → perf_hub perf ≡ id
    → (perf_view perf).made ≡ length passes → AreNew id plan passes → AreResting id perf passes
new_resting id plan perf passes lock made new =
    record {
      lead = lock;
      each = λ m inside. let (p, at) = there passes m (omega arith) in (m, p, at, (new m p at).0);
      own = λ k p at. (new k p at).1;
      home = new_home id plan passes new;
    }

-- ---- one pass taken out and put back

module _ {A : Type 0} where
  -- what holds of each holds with another put at one's place
  all_put_back : (P : A → Type 0) (xs : List A) (i : ℕ) (y : A) → i < length xs
      → ((k : ℕ) (x : A) → slice_get xs k ≡ Some x → P x) → P y
      → (k : ℕ) (x : A) → slice_get (insert (remove xs i) i y) k ≡ Some x → P x
  all_put_back P [] i y within all is k x at = absurd (omega arith)
  all_put_back P (z ∷ xs) zero y within all is zero x at = let same : y ≡ x = cc in subst P same is
  all_put_back P (z ∷ xs) zero y within all is (suc k) x at = all (suc k) x at
  all_put_back P (z ∷ xs) (suc i) y within all is zero x at = all zero x at
  all_put_back P (z ∷ xs) (suc i) y within all is (suc k) x at =
      all_put_back P xs i y (omega arith) (λ n. all (suc n)) is k x at

  -- where another was put at the place of x, there is one with x's value of f, whichever place had such a value
  still_there : (f : A → ℕ) (xs : List A) (i : ℕ) (x y : A) → slice_get xs i ≡ Some x → f y ≡ f x
      → (k : ℕ) (z : A) → slice_get xs k ≡ Some z
      → (j : ℕ) × (u : A) × (slice_get (insert (remove xs i) i y) j ≡ Some u) × (f u ≡ f z)
  still_there f [] i x y is same k z at = absurd (cc)
  still_there f (w ∷ xs) zero x y is same zero z at =
      let one : w ≡ x = cc in let other : w ≡ z = cc at in (zero, y, refl, same ∙ ap f (sym one ∙ other))
  still_there f (w ∷ xs) zero x y is same (suc k) z at = (suc k, z, at, refl)
  still_there f (w ∷ xs) (suc i) x y is same zero z at = (zero, z, at, refl)
  still_there f (w ∷ xs) (suc i) x y is same (suc k) z at =
      let (j, u, there, value) = still_there f xs i x y is same k z at in (suc j, u, there, value)

pub resting_put_back : (id : TableId) (perf : PerfPass) (passes : List ModulePass) (i : ℕ) (out pass : ModulePass)
    → slice_get passes i ≡ Some out → i < length passes → AreResting id perf passes → module_of pass ≡ module_of out
    → module_hub pass ≡ id → HasNoDeskOut (module_of pass) (module_view pass) → AreResting id perf (insert (remove passes i) i pass)
resting_put_back id perf passes i out pass at within rest which lock home =
    record {
      lead = rest.lead;
      each = λ m inside.
          let (k, p, place, is) = rest.each m inside in
          let (j, q, now, same) = still_there module_of passes i out pass at which k p place in
          (j, q, now, same ∙ is);
      own = all_put_back (λ (p : ModulePass). module_hub p ≡ id) passes i pass within rest.own lock;
      home = all_put_back (λ (p : ModulePass). HasNoDeskOut (module_of p) (module_view p)) passes i pass within rest.home home;
    }

-- ---- in the opposite order

module _ {A : Type 0} where
  get_longer : (xs ys : List A) (k : ℕ) (a : A) → slice_get xs k ≡ Some a → slice_get (xs ++ ys) k ≡ Some a
  get_longer [] ys k a e = absurd (cc)
  get_longer (x ∷ xs) ys zero a e = e
  get_longer (x ∷ xs) ys (suc k) a e = get_longer xs ys k a e

  get_last : (xs : List A) (a : A) → slice_get (xs ++ a ∷ []) (length xs) ≡ Some a
  get_last [] a = refl
  get_last (x ∷ xs) a = get_last xs a

  from_reversed : (xs : List A) (k : ℕ) (a : A) → slice_get (reverse xs) k ≡ Some a → (j : ℕ) × (slice_get xs j ≡ Some a)
  from_reversed [] k a e = absurd (cc)
  from_reversed (x ∷ xs) k a e =
      elim (get_snoc (reverse xs) x a k (subst (λ (l : List A). slice_get l k ≡ Some a) (reverse-cons x xs) e)) [
        | inl before ↦ let (j, at) = from_reversed xs k a before in (suc j, at)
        | inr (last, same) ↦ (zero, ap (λ (y : A). Some y) same)
      ]

  to_reversed : (xs : List A) (k : ℕ) (a : A) → slice_get xs k ≡ Some a → (j : ℕ) × (slice_get (reverse xs) j ≡ Some a)
  to_reversed [] k a e = absurd (cc)
  to_reversed (x ∷ xs) zero a e =
      let same : x ≡ a = cc in
      let last = length (reverse xs) in (
        last,
        subst (λ (l : List A). slice_get l last ≡ Some a) (sym (reverse-cons x xs))
            (subst (λ (y : A). slice_get (reverse xs ++ x ∷ []) last ≡ Some y) same (get_last (reverse xs) x)),
      )
  to_reversed (x ∷ xs) (suc k) a e =
      let (j, at) = to_reversed xs k a e in
      (j, subst (λ (l : List A). slice_get l j ≡ Some a) (sym (reverse-cons x xs)) (get_longer (reverse xs) (x ∷ []) j a at))

pub resting_reversed : (id : TableId) (perf : PerfPass) (passes : List ModulePass) → AreResting id perf passes
    → AreResting id perf (reverse passes)
resting_reversed id perf passes rest =
    record {
      lead = rest.lead;
      each = λ m inside. let (k, p, at, is) = rest.each m inside in let (j, there) = to_reversed passes k p at in (j, p, there, is);
      own = λ k p at. let (j, there) = from_reversed passes k p at in rest.own j p there;
      home = λ k p at. let (j, there) = from_reversed passes k p at in rest.home j p there;
    }

-- ---- after a turn of the performance pass

pub each_after : (v w : PerfPass) (passes : List ModulePass) → (perf_view w).made ≡ (perf_view v).made → HasEachModule v passes
    → HasEachModule w passes
each_after v w passes made each m inside = each m (omega arith)
