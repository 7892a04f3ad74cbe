-- Making the table keeps the rule.
use Rattle.std.proofs.Common.{◌≡◌, ℕ, zero, suc, ◌<◌, List, [], ◌∷◌, length, Option, Some, false, true≢false, sym, refl, ap, ◌∙◌, subst}
use Rattle.std.proofs.Common.{arith}
use mathlib.Core.Option.{some, some-injective, some-ne-none}
use mathlib.Core.List.{IsPrefix}
use lib.ListN.{get_elem?}
use Rattle.atomic_table.specs.Table.{opening}
use Rattle.turn_lock.specs.{PassView, entries_of, Story, Knows, Ruled, Views.first_view}
use Rattle.turn_lock.proofs.Histories.{prefix_self}

module _ {K E : Type 0} (history : K → List E) (bearer : E → Option ℕ) (passes : ℕ) where
  -- a table with the value at home, and one pass
  pub opens : (count : ℕ) (x : K) → count ≡ length (history x) → 0 < passes → ((n : ℕ) → n < passes → entries_of bearer n (history x) ≡ [])
      → Ruled history bearer passes (opening (0 ∷ count ∷ []) (Some x ∷ []) (first_view passes (history x)))
  opens count x counts some_pass unused = let t : Story E = record {
    history = history x;
    made = 0;
    joined = [];
    holder = 0;
    seat_of = λ _.
        0;
  } in record {
    story = t;
    shape = (refl, refl);
    turn = omega arith;
    counted = counts;
    free = λ _. (x, refl, refl);
    taken = λ e. absurd (omega arith);
    each = one t refl refl refl refl;
    past = λ k m e. absurd (some-ne-none m (sym e));
    unborn = λ n _ low. unused n low;
  }
    where
      one : (t : Story E) → t.history ≡ history x → t.made ≡ 0 → t.joined ≡ [] → t.seat_of 0 ≡ 0 → (j : ℕ) (v : PassView E)
          → get_elem? (first_view passes (history x) ∷ []) j ≡ some v → v.spent ≡ false → Knows bearer passes t 0 j v
      one t log made none_joined seat zero v e _ = subst (Knows bearer passes t 0 0) (some-injective _ _ e) record {
        begins = subst (IsPrefix (history x)) (sym log) (prefix_self (history x));
        mark = λ h. absurd (true≢false (sym h));
        low = omega arith;
        limit = refl;
        placed = seat;
        first = λ _. (sym made, sym none_joined);
        lone = λ _. refl;
        gone = λ k m e. absurd (some-ne-none m (sym e ∙ ap (λ l. get_elem? l k) none_joined));
        own = sym (ap (entries_of bearer 0) log ∙ unused 0 some_pass);
        own_seen = sym (unused 0 some_pass);
      }
      one t log made none_joined seat (suc j) v e _ = absurd (some-ne-none v (sym e))
