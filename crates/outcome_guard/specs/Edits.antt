-- A plan after a list of edits.
use Rattle.std.specs.{Prelude.ℕ, Prelude.◌==◌, Prelude.List, Prelude.[], Prelude.◌∷◌, Prelude.filter, Prelude.map, List.enumerate_from}
use Rattle.flow_design.specs.{Edit, Plan}

-- the last of these edits, or the given one where there is none
abbrev pub last_edit : Edit → List Edit → Edit
last_edit other [] = other
last_edit other (e ∷ more) = last_edit e more

-- the depth of channel f after these edits: that of its last edit, or the depth that it had
abbrev pub depth_after : List Edit → ℕ → ℕ → ℕ
depth_after edits f stood = (last_edit (record { channel = f; depth = stood }) (filter (λ e. e.channel == f) edits)).depth

-- the plan after these edits
unfoldable pub plan_after : Plan → List Edit → Plan
plan_after p edits = record p { depths = map (λ entry. depth_after edits entry.0 entry.1) (enumerate_from 0 p.depths) }
