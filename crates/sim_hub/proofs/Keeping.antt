-- What a turn keeps of a ledger.
use Rattle.std.proofs.Common.{◌≡◌, inl, inr, ℕ, zero, suc, ◌+◌, ◌-◌, ◌<◌, ◌≤◌, refl, sym, ap, ◌∙◌, subst, arith, List, [], ◌∷◌, ◌++◌}
use Rattle.std.proofs.Common.{Option, Some, None, Bool, true, false, length}
use Rattle.std.proofs.lemmas.Bool.{cases_eq}
use Rattle.std.proofs.lemmas.List.{length-set, length-map, length-replicate, map-append, get_or-set_same, get_or-set_other}
use Rattle.std.specs.Prelude.{slice_set, slice_index_or, is_some, unwrap_or}
use Rattle.sim_hub.specs.{FitsEngine, Plan, ModuleState, opening_core, AllVerified, design, HubTurn, HubEntry, taker, standing_of}
use Rattle.sim_hub.specs.{turned_by, bearer, history_of, Stands, lent_at, opening_turned, after_lent, after_ran, after_timed, after_short}
use Rattle.sim_hub.specs.{entries_of, CoreView, theory_of, AreOwn, IsLegal, HoldsAfter, HasDesk, KeepsTurns, Matches, led_to, lent_count}
use Rattle.sim_hub.specs.{spare}
use Rattle.timing_bridge.specs.{declared.entry.HubEntry.TheVariants.Opened, declared.entry.HubEntry.TheVariants.Turn, Turned.Turned}
use Rattle.turn_lock.proofs.Histories.{Some-same, entries_other}
use Rattle.timing_bridge.proofs.Plans.{history_is, history_verified}
use Rattle.sim_hub.proofs.Lists.{set_true, set_keeps, within_false, within_some, none_replicated, count_set, count_cleared, count_none}
use Rattle.sim_hub.proofs.Lists.{none_counted}
use Rattle.sim_hub.proofs.Histories.{after_at, set_some, mapped_some, stands_next}

-- ---- what stands after one turn more

-- the core with the run of this module out
abbrev pub lent_out : CoreView → ℕ → CoreView
lent_out core m = record core { lent = slice_set core.lent m true }

module _ (core : CoreView) (out : ℕ) (short : Bool) (at : Turned ModuleState) (k : Matches core out short at) where
  pub lent_matches : (m : ℕ) → m < length core.plan.design.modules → Matches (lent_out core m) (out + 1) short (after_lent at (m + 1) m)
  lent_matches m inside = record {
    core_is = k.core_is;
    short_is = k.short_is;
    places = length-set at.lent_to m (Some (m + 1)) ∙ k.places;
    wide = let same = length-set core.lent m true in let wide = k.wide in omega arith;
    whose = λ n q lent.
        elim (set_some at.lent_to m n q (Some (m + 1)) lent) [
          | inl (here, is) ↦ sym (Some-same (m + 1) q is) ∙ ap (λ i. i + 1) (sym here)
          | inr there ↦ k.whose n q there
        ];
    away = λ n q lent.
        elim (set_some at.lent_to m n q (Some (m + 1)) lent) [
          | inl (here, is) ↦ ap (λ i. slice_index_or (slice_set core.lent m true) i true) here ∙ set_true core.lent m
          | inr there ↦ set_keeps core.lent m n (k.away n q there)
        ];
    home = λ ok n within gone.
        elim (cases_eq n m) [
          | inl e ↦ ap (λ i. lent_at (after_lent at (m + 1) m) i) e
              ∙ get_or-set_same at.lent_to m (Some (m + 1)) None (let places = k.places in omega arith)
              ∙ ap (λ i. Some (i + 1)) (sym e)
          | inr other ↦ get_or-set_other at.lent_to m n (Some (m + 1)) None other
              ∙ k.home ok n within (sym (get_or-set_other core.lent m n true true other) ∙ gone)
        ];
    counted = let more = count_set at.lent_to m (m + 1) in let counted = k.counted in omega arith;
  }

  pub ran_matches : (now : CoreView) (m : ℕ) → lent_at at m ≡ Some (m + 1) → now.plan ≡ core.plan → now.lent ≡ slice_set core.lent m false
      → Matches now (out - 1) short (after_ran at m (theory_of now))
  ran_matches now m lent plan runs =
      let count = ap (λ (p : Plan). length p.design.modules) plan in
      let places = k.places in
      let wide = k.wide in
      let inside = within_some at.lent_to m (m + 1) lent in record {
        core_is = refl;
        short_is = k.short_is;
        places = length-set at.lent_to m None ∙ k.places ∙ sym count;
        wide = let same = ap length runs ∙ length-set core.lent m false in omega arith;
        whose = λ n q there. k.whose n q (still n q there).1;
        away = λ n q there.
            let (other, before) = still n q there in
            ap (λ bs. slice_index_or bs n true) runs ∙ get_or-set_other core.lent m n false true other ∙ k.away n q before;
        home = λ ok n within gone.
            elim (cases_eq n m) [
              | inl e ↦
                  let z = sym gone ∙ ap (λ bs. slice_index_or bs n true) runs ∙ ap
                  (λ i. slice_index_or (slice_set core.lent m false) i true) e
                  ∙ get_or-set_same core.lent m false true (omega arith) in
                  absurd (cc)
              | inr other ↦ get_or-set_other at.lent_to m n None None other
                  ∙ k.home ok n (omega arith)
                  (sym (ap (λ bs. slice_index_or bs n true) runs ∙ get_or-set_other core.lent m n false true other) ∙ gone)
            ];
        counted = let less = count_cleared at.lent_to m (m + 1) lent in let counted = k.counted in omega arith;
      }
    where
      -- what is still lent is another module, and was lent before
      still : (n q : ℕ) → lent_at (after_ran at m (theory_of now)) n ≡ Some q → (n ≡ m → ⊥) × (lent_at at n ≡ Some q)
      still n q there =
          elim (set_some at.lent_to m n q None there) [
            | inl (here, is) ↦ absurd (cc)
            | inr before ↦ (
              λ e.
                  let z = sym there ∙ ap (λ i. lent_at (after_ran at m (theory_of now)) i) e
                  ∙ get_or-set_same at.lent_to m None None (within_some at.lent_to m (m + 1) lent) in
                  cc,
              before,
            )
          ]

  pub timed_matches : (now : CoreView) → now.plan ≡ core.plan → now.lent ≡ core.lent
      → Matches now out short (after_timed at (theory_of now))
  timed_matches now plan runs =
      let count = ap (λ (p : Plan). length p.design.modules) plan in record {
        core_is = refl;
        short_is = k.short_is;
        places = k.places ∙ sym count;
        wide = let same = ap length runs in let wide = k.wide in omega arith;
        whose = k.whose;
        away = λ n q lent. ap (λ bs. slice_index_or bs n true) runs ∙ k.away n q lent;
        home = λ ok n within gone. k.home ok n (omega arith) (sym (ap (λ bs. slice_index_or bs n true) runs) ∙ gone);
        counted = k.counted;
      }

  pub short_matches : (fewer q : ℕ) → lent_count (after_short at q).lent_to ≤ fewer → Matches core fewer true (after_short at q)
  short_matches fewer q few = record {
    core_is = k.core_is;
    short_is = refl;
    places = length-map at.lent_to _ ∙ k.places;
    wide = k.wide;
    whose = λ n r lent. k.whose n r (mapped_some q n r at.lent_to lent).0;
    away = λ n r lent. k.away n r (mapped_some q n r at.lent_to lent).0;
    home = λ e. absurd (cc);
    counted = few;
  }

  -- the same where the core's plan, runs and theory are
  pub same_matches : (now : CoreView) → now.plan ≡ core.plan → now.lent ≡ core.lent → theory_of now ≡ theory_of core
      → Matches now out short at
  same_matches now plan runs theory =
      let m = timed_matches now plan runs in record {
        core_is = theory ∙ k.core_is;
        short_is = m.short_is;
        places = m.places;
        wide = m.wide;
        whose = m.whose;
        away = m.away;
        home = m.home;
        counted = m.counted;
      }

-- ---- a ledger

-- a history with one turn more
pub history-snoc : (p : Plan) (turns : List HubTurn) (turn : HubTurn) → history_of p
    (turns ++ turn ∷ []) ≡ history_of p turns ++ Turn turn ∷ []
history-snoc p turns turn = ap (λ (es : List HubEntry). Opened p ∷ es) (map-append Turn turns (turn ∷ []))

-- and its entries
pub adds_turn : (p q : Plan) (turns more : List HubTurn) (turn : HubTurn) → q ≡ p → more ≡ turns ++ turn ∷ []
    → history_of q more ≡ history_of p turns ++ Turn turn ∷ []
adds_turn p q turns more turn plan added =
    ap (λ (r : Plan). history_of r more) plan ∙ ap (history_of p) added ∙ history-snoc p turns turn

-- where none is added
pub same_entries : (p q : Plan) (turns more : List HubTurn) → q ≡ p → more ≡ turns → history_of q more ≡ history_of p turns
same_entries p q turns more plan same = ap (λ (r : Plan). history_of r more) plan ∙ ap (history_of p) same

own_within : (count : ℕ) (bs : List Bool) → ((m : ℕ) → m < count → slice_index_or bs m true ≡ false) → count ≤ length bs
own_within zero bs own = omega arith
own_within (suc count) bs own = let h = within_false bs count (own count (omega arith)) in omega arith

pub kept_new : (core : CoreView) (capacity : ℕ) → theory_of core ≡ opening_core (design core.plan) → AreOwn core
    → 1 ≤ capacity → KeepsTurns core [] 0 false capacity
kept_new core capacity opening own room =
    let count = length core.plan.design.modules in record {
      legal = refl;
      matches = record {
        core_is = opening;
        short_is = refl;
        places = length-replicate count None;
        wide = own_within count core.lent own;
        whose = λ m q lent. let z = sym (none_replicated count m) ∙ lent in absurd (cc);
        away = λ m q lent. let z = sym (none_replicated count m) ∙ lent in absurd (cc);
        home = λ ok m within gone. let z = sym (own m within) ∙ gone in absurd (cc);
        counted = let none = count_none count in omega arith;
      };
      none_else = λ n above. refl;
      room = room;
    }

some_of : {A : Type 0} → (o : Option A) (d : A) → is_some o ≡ true → o ≡ Some (unwrap_or o d)
some_of {A} None d e = absurd (cc)
some_of {A} (Some a) d e = refl

module _ (core : CoreView) (turns : List HubTurn) (out : ℕ) (short : Bool) (capacity : ℕ)
    (k : KeepsTurns core turns out short capacity) where
  kept_standing : standing_of core.plan turns ≡ Some (led_to core.plan turns)
  kept_standing = some_of (standing_of core.plan turns) (opening_turned (design core.plan)) k.legal

  pub kept_stands : Stands core.plan (history_of core.plan turns) (led_to core.plan turns)
  kept_stands = record { turns = turns; entries = refl; standing = kept_standing }

  pub kept_legal : IsLegal (history_of core.plan turns)
  kept_legal = record { plan = core.plan; at = led_to core.plan turns; stands = kept_stands }

  -- what holds after the turns
  pub kept_after : (P : Plan → Turned ModuleState → Type 0) → P core.plan (led_to core.plan turns) → HoldsAfter (history_of core.plan turns) P
  kept_after P holds = (core.plan, led_to core.plan turns, kept_stands, holds)

  -- a desk that is out is lent and counted
  pub kept_lent : (m : ℕ) → HasDesk m (history_of core.plan turns) → lent_at (led_to core.plan turns) m ≡ Some (m + 1)
  kept_lent m desk =
      after_at core.plan (history_of core.plan turns) (led_to core.plan turns) kept_stands (λ p at. lent_at at m ≡ Some (m + 1)) desk

  pub kept_some : (m : ℕ) → HasDesk m (history_of core.plan turns) → 1 ≤ out
  kept_some m desk =
      let some = none_counted (led_to core.plan turns).lent_to m (m + 1) (kept_lent m desk) in
      let counted = k.matches.counted in
      omega arith

  pub kept_next : (now : CoreView) (more : List HubTurn) (others : ℕ) (wanted : Bool) (room : ℕ) (turn : HubTurn) (w : Turned ModuleState)
      → now.plan ≡ core.plan → more ≡ turns ++ turn ∷ [] → taker turn ≤ length core.plan.design.modules
      → turned_by core.plan (led_to core.plan turns) turn ≡ Some w → Matches now others wanted w
      → length more + (others + spare wanted) ≤ room
      → KeepsTurns now more others wanted room
  kept_next now more others wanted room turn w plan added low next matches enough =
      let count = ap (λ (p : Plan). length p.design.modules) plan in
      let standing : standing_of now.plan more ≡ Some w =
      ap (λ (p : Plan). standing_of p more) plan ∙ ap (standing_of core.plan) added
      ∙ stands_next core.plan turns (led_to core.plan turns) w turn kept_standing next in
      let at : w ≡ led_to now.plan more =
      sym (ap (λ (o : Option (Turned ModuleState)). unwrap_or o (opening_turned (design now.plan))) standing) in record {
        legal = ap is_some standing;
        matches = subst (Matches now others wanted) at matches;
        none_else = λ n above.
            ap (λ (p : Plan). length (entries_of bearer n (history_of p more))) plan
            ∙ ap (λ (ts : List HubTurn). length (entries_of bearer n (history_of core.plan ts))) added
            ∙ ap (λ (es : List HubEntry). length (entries_of bearer n es)) (history-snoc core.plan turns turn)
            ∙ ap length (entries_other bearer n (taker turn) (history_of core.plan turns) (Turn turn) refl (λ e. omega arith))
            ∙ k.none_else n (omega arith);
        room = enough;
      }

  pub kept_same : (now : CoreView) (more : List HubTurn) (room : ℕ) → now.plan ≡ core.plan → now.lent ≡ core.lent
      → theory_of now ≡ theory_of core → more ≡ turns → capacity ≤ room → KeepsTurns now more out short room
  kept_same now more room plan runs theory same enough =
      let count = ap (λ (p : Plan). length p.design.modules) plan in
      let at : led_to core.plan turns ≡ led_to now.plan more =
      ap (λ (p : Plan). led_to p turns) (sym plan) ∙ ap (led_to now.plan) (sym same) in record {
        legal = ap (λ (p : Plan). is_some (standing_of p more)) plan ∙ ap (λ (ts : List HubTurn). is_some (standing_of core.plan ts)) same
            ∙ k.legal;
        matches = subst (Matches now out short) at
            (same_matches core out short (led_to core.plan turns) k.matches now plan runs theory);
        none_else = λ n above.
            ap (λ (p : Plan). length (entries_of bearer n (history_of p more))) plan
            ∙ ap (λ (ts : List HubTurn). length (entries_of bearer n (history_of core.plan ts))) same
            ∙ k.none_else n (omega arith);
        room = let long = ap length same in let before = k.room in omega arith;
      }

  pub kept_verified : FitsEngine core.plan → AllVerified (theory_of core)
  kept_verified fits =
      subst AllVerified (sym k.matches.core_is)
      (history_verified core.plan fits turns (led_to core.plan turns)
      (history_is core.plan fits turns (led_to core.plan turns) kept_standing))
