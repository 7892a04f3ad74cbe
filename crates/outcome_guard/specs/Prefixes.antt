-- Lists of outcomes that begin alike.
use Rattle.std.specs.Prelude.{◌≡◌, Bool, List, ◌++◌}

-- the longer list begins with the shorter one
abbrev pub IsPrefix : List Bool → List Bool → Type 0
IsPrefix shorter longer = (more : List Bool) × (longer ≡ shorter ++ more)
