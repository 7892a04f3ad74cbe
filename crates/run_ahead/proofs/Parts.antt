-- Parts of replies.
use Rattle.std.proofs.Common.{◌≡◌, refl, List, ◌∷◌, Option, Some, None}
use Rattle.run_ahead.specs.{Reply, put_first}

pub first_parts : (a : Option Reply) (b : Option (List Reply)) (qs : List Reply) → put_first a b ≡ Some qs
    → (q : Reply) × ((rs : List Reply) × ((a ≡ Some q) × ((b ≡ Some rs) × (qs ≡ q ∷ rs))))
first_parts None b qs e = cc
first_parts (Some q) None qs e = cc
first_parts (Some q) (Some rs) qs e = (q, (rs, (refl, (refl, cc))))
