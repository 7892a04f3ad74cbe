-- The values of a mail stand at the places of its channels.
use Rattle.std.proofs.Common.{◌≡◌, refl, sym, ℕ, ◌<◌, ◌≤◌, Bool, true, false, cond, List, [], length, get_or, set, ltb}
use Rattle.std.proofs.{lemmas.Bool.cond-true, lemmas.Bool.cond-false, lemmas.Bool.lt-ltb, lemmas.Bool.le-ltb, lemmas.List.get_or-set_other}
use Rattle.run_ahead.specs.{place_in, Mail, values_on}
use Rattle.module_interp.proofs.Places.{places_apart}

-- they are those at the place
pub values_there : (mail : Mail) (c : ℕ) → place_in mail.channels c < length mail.channels
    → values_on mail c ≡ get_or mail.values (place_in mail.channels c) []
values_there mail c l = cond-true _ _ [] (lt-ltb (place_in mail.channels c) (length mail.channels) l)

-- or there are none
pub no_channel : (mail : Mail) (c : ℕ) → length mail.channels ≤ place_in mail.channels c → values_on mail c ≡ []
no_channel mail c l =
    cond-false _ (get_or mail.values (place_in mail.channels c) []) [] (le-ltb (place_in mail.channels c) (length mail.channels) l)

-- where those of one channel are set, those of the others stay
pub set_aside : (mail more : Mail) (c : ℕ) (v : List ℕ) → more.channels ≡ mail.channels
    → more.values ≡ set mail.values (place_in mail.channels c) v → place_in mail.channels c < length mail.channels
    → (f : ℕ) → (f ≡ c → ⊥) → values_on more f ≡ values_on mail f
set_aside mail more c v same set_is there f other = rw (same, set_is) (by (ltb (place_in mail.channels f) (length mail.channels)))
  where
    by : (b : Bool) → cond b (get_or (set mail.values (place_in mail.channels c) v) (place_in mail.channels f) []) []
        ≡ cond b (get_or mail.values (place_in mail.channels f) []) []
    by true = get_or-set_other mail.values (place_in mail.channels c) (place_in mail.channels f) v []
        (places_apart mail.channels c f there (λ e. other (sym e)))
    by false = refl
