-- What a table of numbers by name has.
use Rattle.std.specs.{Borrow.Bor, Prelude.ℕ, Prelude.Option, Str.bytes_eq}
use Rattle.indexmap.specs.IndexMap.{IndexMap, get_by}
use Rattle.flow_design.specs.{Name}

-- the number that a table has for a name, if it has one
abbrev pub number_at : {S : Type 0} → IndexMap (Bor Name) ℕ S → Name → Option ℕ
number_at table n = get_by (λ k. bytes_eq n k.now) table
