-- What some turns lead to: the core, the pass to which each module is lent, and whether memory ran out.
use Rattle.std.specs.Prelude.{ℕ, Bool, false, true, cond, eqb, List, map, replicate, get_or, slice_set, Option, None, Some}
use Rattle.event_timing.specs.{Design, opening_core, Core.Core}

pub record Turned (S : Type 0) : Type 0 where
  pub core : Core S
  pub lent_to : List (Option ℕ)
  pub short : Bool

abbrev pub opening_turned : {S : Type 0} → Design S → Turned S
opening_turned {S} d = record { core = opening_core d; lent_to = replicate d.modules None; short = false }

-- the pass to which module m is lent, if any
abbrev pub lent_at : {S : Type 0} → Turned S → ℕ → Option ℕ
lent_at {S} v m = get_or v.lent_to m None

abbrev pub is_lent_to : Option ℕ → ℕ → Bool
is_lent_to None q = false
is_lent_to (Some r) q = eqb q r

-- the pass to which a module is lent, once nothing is lent to pass q any more
abbrev pub not_to : ℕ → Option ℕ → Option ℕ
not_to q o = cond (is_lent_to o q) None o

-- ---- what each turn leads to

abbrev pub after_lent : {S : Type 0} → Turned S → ℕ → ℕ → Turned S
after_lent {S} v q m = record v { lent_to = slice_set v.lent_to m (Some q) }

abbrev pub after_ran : {S : Type 0} → Turned S → ℕ → Core S → Turned S
after_ran {S} v m y = record v { core = y; lent_to = slice_set v.lent_to m None }

abbrev pub after_timed : {S : Type 0} → Turned S → Core S → Turned S
after_timed {S} v y = record v { core = y }

abbrev pub after_short : {S : Type 0} → Turned S → ℕ → Turned S
after_short {S} v q = record v { lent_to = map (not_to q) v.lent_to; short = true }
