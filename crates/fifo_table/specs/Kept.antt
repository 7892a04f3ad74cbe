-- The places and the pushes of one side of a channel as the table keeps them: with their module only once.
use Rattle.std.specs.{Prelude.ℕ, Prelude.List, Prelude.map, List.zip}
use Rattle.flow_word.specs.{Place}
use Rattle.fifo_table.specs.{declared.channel.Pushed.Pushed, Channels.push_of}

-- the places of module m's steps with these numbers
abbrev pub places_numbered : ℕ → List ℕ → List Place
places_numbered m steps = map (λ k. record { «module» = m; step = k }) steps

-- the pushes at these places, with these values
abbrev pub pushes_in : List Place → List ℕ → List Pushed
pushes_in places values = map (λ (p : Place × ℕ). push_of p.0 p.1) (zip places values)
