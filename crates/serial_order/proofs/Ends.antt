-- A module's own run on lists of values comes to its end beside the serial run.
use Rattle.std.proofs.Common.{◌≡◌, ℕ, zero, suc, ◌+◌, ◌<◌, List, [], ◌∷◌, ◌++◌, length, Bool, true, false, refl, sym, ◌∙◌, ap, subst, arith}
use Rattle.std.proofs.Common.{true≢false, append_assoc, append-nil}
use Rattle.std.proofs.{lemmas.List.ext_get_or, lemmas.Grind.flat_map-append}
use Rattle.std.specs.{Prelude.if◌then◌else◌, Prelude.slice_index_or, List.flat_map}
use Rattle.flow_design.specs.declared.design.Module.{Module}
use Rattle.serial_order.specs.{Plan, ModuleState, Reply, Request, block_at, IsModuleSound, requests, move, is_over, Exchange, moved_by}
use Rattle.serial_order.specs.{module_at, OwnStep, Own, own_after, own_next, own_run, paired, all_given, SerialProgress, serial, AreGiven}
use Rattle.serial_order.specs.{exchanges_of, EndsAlike, GetsAsFar}
use Rattle.serial_order.specs.declared.order.Used.TheVariants.{Register, Memory, Reading, Writing}
use Rattle.flow_word.specs.declared.access.Side.TheVariants.{Pop, Push}
use Rattle.serial_order.proofs.{Outcomes.setting_of, Alike.only, Going.IsSerial, Prefixes.end_front}
use Rattle.serial_order.proofs.Runs.{IsBeside, goes, ends, moved, goes_further, opens}

-- ---- what was given before the last step

abbrev exchanges : List OwnStep → List Exchange
exchanges ss = flat_map (λ s. paired s.requests s.replies) ss

given_before : (lists : List (List ℕ)) (done : List Exchange) (ss : List OwnStep) (s : OwnStep) → AreGiven lists done (ss ++ s ∷ [])
    → AreGiven lists done ss × (s.replies ≡ all_given lists (done ++ exchanges ss) s.requests)
given_before lists done [] s h =
    (tt, h.0 ∙ ap (λ (d : List Exchange). all_given lists d s.requests) (sym (append-nil done)))
given_before lists done (t ∷ ss) s h =
    let rest = given_before lists (done ++ paired t.requests t.replies) ss s h.1 in (
      (h.0, rest.0),
      rest.1
          ∙ ap (λ (d : List Exchange). all_given lists d s.requests) (append_assoc done (paired t.requests t.replies) (exchanges ss)),
    )

-- ---- the own run as a run on lists

abbrev flat : Own → SerialProgress
flat o = record { state = o.state; done = exchanges_of o }

over_ended : (limit : ℕ) (s : ModuleState) → s.ended ≡ true → is_over limit s ≡ true
unfolding is_over
over_ended limit s e = rw e refl

module _ (p : Plan) (i : ℕ) (lists : List (List ℕ)) (replies : List (List Reply))
    (sound : IsModuleSound (length p.design.channels) (module_at p i))
    (rules : (b : ℕ) → b < length (module_at p i).blocks
    → IsSerial (setting_of lists p.design.channels (module_at p i) (block_at (module_at p i) b))) where
  abbrev m : Module
  m = module_at p i

  abbrev Beside : SerialProgress → Type 0
  Beside x = IsBeside lists p.design.channels (module_at p i) sound rules x

  abbrev moved_on : SerialProgress → SerialProgress
  moved_on x = moved lists p.design.channels (module_at p i) sound rules x

  after_is : (o : Own) (rs : List Request) (answers : List Reply) → requests p.design.channels m o.state ≡ rs
      → AreGiven lists [] (own_after m o rs answers).steps
      → AreGiven lists [] o.steps × (flat (own_after m o rs answers) ≡ moved_on (flat o))
  after_is o [] answers e h = (
    h,
    ap (λ (done : List Exchange). record { state = move m o.state []; done = done }) (sym (append-nil (exchanges_of o)))
        ∙ ap (λ (rs : List Request). record {
          state = move m o.state (all_given lists (exchanges_of o) rs);
          done = exchanges_of o ++ paired rs (all_given lists (exchanges_of o) rs);
        }) (sym e),
  )
  after_is o (r ∷ rs) answers e h =
      let step : OwnStep = record { gap = o.since; requests = r ∷ rs; replies = answers } in
      let before = given_before lists [] o.steps step h in (
        before.0,
        ap (λ (done : List Exchange). record { state = move m o.state answers; done = done })
            (flat_map-append (λ s. paired s.requests s.replies) o.steps (step ∷ [])
            ∙ ap (λ (xs : List Exchange). exchanges_of o ++ xs) (append-nil (paired (r ∷ rs) answers)))
            ∙ (ap (λ (given : List Reply). record { state = move m o.state given; done = exchanges_of o ++ paired (r ∷ rs) given }) before.1
            ∙ ap (λ (rs : List Request). record {
              state = move m o.state (all_given lists (exchanges_of o) rs);
              done = exchanges_of o ++ paired rs (all_given lists (exchanges_of o) rs);
            }) (sym e)),
      )

  goes_on_beside : (x : SerialProgress) → Beside x → is_over p.ops x.state ≡ false → Beside (moved_on x)
  goes_on_beside x (goes b first n t h) e = goes_further lists p.design.channels (module_at p i) sound rules b first n t x h
  goes_on_beside x (ends k h) e = absurd (true≢false (sym (over_ended p.ops x.state h.ended) ∙ e))

  -- a local clock later, where the module is not over
  abbrev after : Own → Own
  after o = own_after m o (requests p.design.channels m o.state) (slice_index_or replies (length o.steps) [])

  next_beside : (o : Own) → (AreGiven lists [] o.steps → Beside (flat o)) → AreGiven lists [] (own_next p i replies o).steps
      → Beside (flat (own_next p i replies o))
  unfolding own_next
  next_beside o before given = by_test (is_over p.ops o.state) refl given
    where
      on : is_over p.ops o.state ≡ false → AreGiven lists [] (after o).steps → Beside (flat (after o))
      on e given =
          let step = after_is o (requests p.design.channels m o.state) (slice_index_or replies (length o.steps) []) refl given in
          subst Beside (sym step.1) (goes_on_beside (flat o) (before step.0) e)

      by_test : (b : Bool) → is_over p.ops o.state ≡ b
          → AreGiven lists [] (if b then o else after o).steps → Beside (flat (if b then o else after o))
      by_test true e given = before given
      by_test false e given = on e given

  runs_beside : (n : ℕ) → AreGiven lists [] (own_run p i replies n).steps → Beside (flat (own_run p i replies n))
  unfolding own_run
  runs_beside zero given = opens lists p.design.channels (module_at p i) sound rules
  runs_beside (suc n) given = next_beside (own_run p i replies n) (runs_beside n) given

  -- ---- the end

  pub ends_alike : (n : ℕ) → AreGiven lists [] (own_run p i replies n).steps → (own_run p i replies n).state.ended ≡ true
      → (k : ℕ) × EndsAlike (length p.design.channels) (serial lists p.design.channels (module_at p i) k) (own_run p i replies n)
  ends_alike n given e = by (runs_beside n given)
    where
      by : Beside (flat (own_run p i replies n))
          → (k : ℕ) × EndsAlike (length p.design.channels) (serial lists p.design.channels (module_at p i) k) (own_run p i replies n)
      by (goes b first k t h) = absurd (true≢false (sym e ∙ h.alive))
      by (ends k h) = (
        k,
        record {
          ended = h.serial_ended;
          pushes = λ f l. sym (h.things (Writing f) l);
          pops = λ f l. ap length (sym (h.things (Reading f) l));
          registers = ext_get_or 0 _ _ (h.serial_stores.registers ∙ sym h.stores.registers)
              (λ x l. sym (only (h.things (Register x) (let all = h.serial_stores.registers in omega arith))));
          memories = ext_get_or [] _ _ (h.serial_stores.memories ∙ sym h.stores.memories)
              (λ x l. sym (h.things (Memory x) (let all = h.serial_stores.memories in omega arith)));
        },
      )

  -- ---- on the way

  pub gets_as_far : (n : ℕ) → AreGiven lists [] (own_run p i replies n).steps
      → (k : ℕ) × GetsAsFar (length p.design.channels) (serial lists p.design.channels (module_at p i) k) (own_run p i replies n)
  gets_as_far n given = by (runs_beside n given)
    where
      by : Beside (flat (own_run p i replies n))
          → (k : ℕ) × GetsAsFar (length p.design.channels) (serial lists p.design.channels (module_at p i) k) (own_run p i replies n)
      by (goes b first k t h) = (
        first + suc k,
        record {
          pushes =
              λ f l. end_front lists p.design.channels (module_at p i) sound rules b first k t (flat (own_run p i replies n)) h Push f l;
          pops = λ f l. end_front lists p.design.channels (module_at p i) sound rules b first k t (flat (own_run p i replies n)) h Pop f l;
        },
      )
      by (ends k h) = (
        k,
        record {
          pushes = λ f l. ([], sym (h.things (Writing f) l) ∙ sym (append-nil (moved_by Push f (exchanges_of (own_run p i replies n)))));
          pops = λ f l. ([], sym (h.things (Reading f) l) ∙ sym (append-nil (moved_by Pop f (exchanges_of (own_run p i replies n)))));
        },
      )
