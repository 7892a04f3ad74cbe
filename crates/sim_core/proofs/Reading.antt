-- The values of a mail are those of the channels that its module pops.
use Rattle.std.proofs.Common.{◌≡◌, refl, sym, ap, ap₂, ◌∙◌, ℕ, ◌+◌, ◌<◌, ◌≤◌, inl, inr, Bool, true, false, cond, List, [], ◌∷◌, ◌++◌}
use Rattle.std.proofs.Common.{length, map, take, drop, eqb, get_or, slice_index, arith}
use Rattle.std.proofs.lemmas.Bool.{cond-true, cond-false, eq-eqb, ne_eqb, cases_lt}
use Rattle.std.proofs.lemmas.List.{get_or_past, get_or-map, map_more}
use Rattle.sim_core.specs.{Channel, unused, values_of, place_in, values_at, Mail, values_on, mailed}
use Rattle.fifo_table.specs.declared.channel.TableChannel.TheVariants.{Sink}
use Rattle.module_interp.proofs.Places.{found_at}
use Rattle.run_ahead.proofs.{Placed.values_there, Placed.no_channel, Finding.drop_none}

module _ (channels : List Channel) (readers : List ℕ) (m : ℕ) (popped : ℕ → ℕ) where
  abbrev values_in : ℕ → List ℕ
  values_in c = mailed channels readers m popped c

  -- what is no channel has no value
  pub past : (c : ℕ) → length channels ≤ c → values_in c ≡ []
  past c l = by (eqb (slice_index readers c) m)
    where
      none : values_at channels c ≡ []
      none = ap (λ (k : Channel). values_of k.kind k.pushes) (get_or_past channels c (unused Sink) l)

      by : (b : Bool) → cond b (drop (popped c) (values_at channels c)) [] ≡ []
      by true = ap (drop (popped c)) none ∙ drop_none (popped c)
      by false = refl

  -- those of the module's own channels
  pub own_values : (c : ℕ) → c < length readers → slice_index readers c ≡ m → values_in c ≡ drop (popped c) (values_at channels c)
  own_values c l mine = cond-true _ _ [] (eq-eqb (slice_index readers c) m mine)

  -- those of others
  pub others_values : (c : ℕ) → length readers ≡ length channels → (c < length readers → slice_index readers c ≡ m → ⊥) → values_in c ≡ []
  others_values c count other = elim (cases_lt c (length readers)) [
    | inl l ↦ cond-false _ (drop (popped c) (values_at channels c)) [] (ne_eqb (slice_index readers c) m (other l))
    | inr l ↦ past c (omega arith)
  ]

  -- a channel more was read
  pub reads_more : (own : List ℕ) (values more : List (List ℕ)) (at c : ℕ) (words : List ℕ) → values ≡ map values_in (take at own)
      → at < length own → get_or own at 0 ≡ c → words ≡ values_in c → more ≡ values ++ words ∷ [] → more ≡ map values_in (take (at + 1) own)
  reads_more own values more at c words so l is read e =
      e
      ∙ (ap₂ (λ (vs : List (List ℕ)) (ws : List ℕ). vs ++ ws ∷ []) so (read ∙ ap values_in (sym is))
      ∙ sym (map_more values_in own at 0 l))

  -- where all are read, they are the mail's
  module _ (mail : Mail) (read : mail.values ≡ map values_in mail.channels) where
    pub read_on : (c : ℕ) → place_in mail.channels c < length mail.channels → values_on mail c ≡ values_in c
    read_on c there =
        values_there mail c there
        ∙ (ap (λ (vs : List (List ℕ)). get_or vs (place_in mail.channels c) []) read
        ∙ (get_or-map values_in mail.channels (place_in mail.channels c) 0 [] there ∙ ap values_in (found_at mail.channels c there)))

    pub read_none : (c : ℕ) → values_in c ≡ [] → values_on mail c ≡ []
    read_none c none = elim (cases_lt (place_in mail.channels c) (length mail.channels)) [
      | inl there ↦ read_on c there ∙ none
      | inr away ↦ no_channel mail c away
    ]
