-- The top of a stack is the end of its list.
use Rattle.std.proofs.Common.{◌≡◌, List, [], ◌∷◌, ◌++◌, Option, None, Some, length, refl, ap, ◌∙◌}
use Rattle.std.proofs.lemmas.List.{reverse-append, nil_from_length}
use Rattle.std.specs.{Prelude.reverse, Prelude.MatchOption, Option.option_to_list}

pub reverse_push : {A : Type 0} (xs : List A) (x : A) → reverse (xs ++ x ∷ []) ≡ x ∷ reverse xs
reverse_push xs x = reverse-append xs (x ∷ [])

pub reverse_pop : {A : Type 0} (old new : List A) (top : Option A) → old ≡ new ++ option_to_list top → (top ≡ None → length old ≡ 0)
    → MatchOption top (reverse old ≡ []) (λ x. reverse old ≡ x ∷ reverse new)
reverse_pop old new None e none = rw (nil_from_length old (none refl)) refl
reverse_pop old new (Some x) e none = ap reverse e ∙ reverse_push new x
