-- Sources and FIFOs are channels.
use Rattle.std.proofs.Common.{◌≡◌, ℕ, List, [], ◌∷◌, false, Option, Some, refl, arith}
use Rattle.std.specs.List.{filter_map}
use Rattle.flow_text.specs.{Statement, declared_channel, source_name, declared_fifo, channels, is_among, Tables, tables_of, IsOfStatements}

abbrev Name : Type 0
Name = List ℕ

-- a part of the names
abbrev IsPart : (Statement → Option Name) → Type 0
IsPart part = (s : Statement) (n : Name) → part s ≡ Some n → declared_channel s ≡ Some n

sources_are : IsPart source_name
sources_are s n e = grind arith

fifos_are : IsPart declared_fifo
fifos_are s n e = grind arith

module _ (part : Statement → Option Name) (are : IsPart part) where
  absent : (earlier : List Statement) (n : Name) → is_among (channels earlier) n ≡ false → is_among (filter_map part earlier) n ≡ false
  absent [] n h = refl
  absent (s ∷ earlier) n h = let own = are s in let later = absent earlier n in grind arith

-- what is no channel is no source
pub new_source : (t : Tables) (n : Name) → IsOfStatements t → is_among t.channels n ≡ false → is_among t.sources n ≡ false
unfolding tables_of
new_source t n (scale, earlier, e) h = rw e (absent source_name sources_are earlier n (rw e at h))

-- and no FIFO
pub new_fifo : (t : Tables) (n : Name) → IsOfStatements t → is_among t.channels n ≡ false → is_among t.fifos n ≡ false
unfolding tables_of
new_fifo t n (scale, earlier, e) h = rw e (absent declared_fifo fifos_are earlier n (rw e at h))
