-- Replies that are told in the order of the accesses.
use Rattle.std.proofs.Common.{◌≡◌, ◌∙◌, ℕ, suc, ◌+◌, true, not, List, [], ◌∷◌, get_or, refl, ap, ap₂, arith}
use Rattle.std.proofs.lemmas.Bool.{and_parts}
use Rattle.std.specs.Int.{from_bool}
use Rattle.session_tests.specs.{Access, is_blocking, Reply, fits_kind, all_fit, replies_told}
use Rattle.flow_design.specs.declared.state.Reply.TheVariants.{Done}

told_from : (f : ℕ → Reply) (place asked : ℕ) (xs : List Access) (rs : List Reply) → ((k : ℕ) → f (place + k) ≡ get_or rs k Done)
    → all_fit xs rs ≡ true → replies_told (λ n k a. f n) place asked xs ≡ rs
told_from f place asked [] [] are fit = refl
told_from f place asked [] (r ∷ rs) are fit = cc
told_from f place asked (a ∷ xs) [] are fit = cc
told_from f place asked (a ∷ xs) (r ∷ rs) are fit =
    let here : f place ≡ r = ap f (omega arith) ∙ are 0 in
    let rest = (and_parts (fits_kind a.kind r) (all_fit xs rs) fit).1 in
    ap₂ (λ (q : Reply) (qs : List Reply). q ∷ qs) here
    (told_from f (place + 1) (asked + from_bool (not (is_blocking a.kind))) xs rs (λ k. ap f (omega arith) ∙ are (suc k)) rest)

-- where they fit, these are the replies
pub told_in_order : (xs : List Access) (rs : List Reply) → all_fit xs rs ≡ true
    → replies_told (λ place asked a. get_or rs place Done) 0 0 xs ≡ rs
told_in_order xs rs fit =
    told_from (λ (n : ℕ). get_or rs n Done) 0 0 xs rs (λ k. ap (λ (n : ℕ). get_or rs n Done) (omega arith)) fit
