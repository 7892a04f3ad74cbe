-- What the numbers of the text add up to.
use Rattle.std.specs.{Prelude.ℕ, Prelude.◌+◌, Prelude.◌*◌, Prelude.◌-◌, Prelude.Bool, Prelude.length, Prelude.sum_by, List.range_with_len}
use Rattle.flow_word.specs.declared.access.Side.TheVariants.{Pop}
use Rattle.flow_design.specs.{Plan, delay_at}
use Rattle.path_text.specs.{Counts.clocks_spent, Counts.clocks_waited, Counts.crossings, PathText.told_links, PathText.told_polls}

-- the clocks of all lines `spend M N`
abbrev pub spent_clocks : Bool → Plan → ℕ
spent_clocks polls p = sum_by (clocks_spent (told_links polls p)) (range_with_len 0 (length p.design.modules))

-- over all lines `cross empty F N`, the sum of N times the clocks that an element is in flight in F after the clock of its push
abbrev pub crossed_clocks : Bool → Plan → ℕ
crossed_clocks polls p =
    sum_by (λ f. crossings (told_links polls p) Pop f * (delay_at p f - 1)) (range_with_len 0 (length p.design.channels))

-- over all lines `poll empty F N W`, the sum of W
abbrev pub waited_clocks : Bool → Plan → ℕ
waited_clocks polls p = sum_by (clocks_waited (told_polls polls p)) (range_with_len 0 (length p.design.channels))

-- the sum of all these clocks
abbrev pub told_clocks : Bool → Plan → ℕ
told_clocks polls p = spent_clocks polls p + crossed_clocks polls p + waited_clocks polls p
