-- What a slice begins with.
use Rattle.std.proofs.Common.{◌≡◌, Bool, true, List, length, drop}
use Rattle.std.proofs.{Math.Bool.beq, lemmas.Slice.Eq.starts_is}
use Rattle.std.specs.{List.starts_with, Cmp.booleans_Decides}
use Rattle.outcome_guard.specs.{IsPrefix}

pub begins : (xs p : List Bool) (r : Bool) → r ≡ starts_with beq xs p → (r ≡ true → IsPrefix p xs) × (IsPrefix p xs → r ≡ true)
begins xs p r is =
    let says = starts_is booleans_Decides xs p r is in
    ((λ e. (drop (length p) xs, says.0 e)), (λ h. says.1 h.0 h.1))
