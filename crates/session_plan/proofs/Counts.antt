-- Each channel has one name.
use Rattle.std.proofs.Common.{◌≡◌, List, [], ◌∷◌, length, refl, arith}
use Rattle.session_plan.specs.{Statement, channels_of, channel_names}

pub names_long : (statements : List Statement) → length (channel_names statements) ≡ length (channels_of statements)
names_long [] = refl
names_long (s ∷ rest) = let later = names_long rest in grind arith
