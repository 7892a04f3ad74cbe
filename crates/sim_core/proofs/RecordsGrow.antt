-- While actions are done, a module's record of outcomes only grows, and either none was added or all that it has are verified.
use Rattle.std.proofs.Common.{◌≡◌, refl, sym, ap, subst, ◌∙◌, ℕ, suc, ◌<◌, ◌⊎◌, inl, inr, true, not, List, [], ◌∷◌, arith}
use Rattle.std.proofs.{lemmas.Bool.cases_Bool, lemmas.Bool.both_ways, lemmas.Bool.Decides.eqb_tells}
use Rattle.sim_core.specs.{Design, IsDesign, ready, Trace, IsHistory, core_accesses, has_query, IsAgreed, Action, Acts, ActsAll, newest}
use Rattle.sim_core.specs.{emit_step, after_run, RecordGrows}
use Rattle.event_timing.specs.{Core.Core, Actions.Action.Run, Actions.Action.Assign, Actions.Action.Answer, Actions.Action.Earliest}
use Rattle.event_timing.proofs.{Agreement.acts_agree, Beside.actions_grow}
use Rattle.event_timing.proofs.Assigning.{put_same, put_other, put_at_same, put_at_other}
use Rattle.retime.proofs.{Growing.answered_or_not, Outcomes.NoneAdded, Outcomes.AreSure}

module _ {S : Type 0} (d : Design S) where
  abbrev StayVerified : Core S → Core S → ℕ → Type 0
  StayVerified x z m = (k : ℕ) → k < x.emitted m → x.verified m k ≡ true → z.verified m k ≡ true

  none_self : (x : Core S) (m : ℕ) → NoneAdded d x x m
  none_self x m k l q a = (l, a)

  -- ---- a step more

  module _ (x : Core S) (n : ℕ) (s : S) where
    abbrev z : Core S
    z = emit_step d x n s

    step_none : (m : ℕ) → NoneAdded d x z m
    step_none m k l q a =
        elim (eqb_tells m n) [
          | inl e ↦ subst (λ (j : ℕ). (k < x.emitted j) × (x.answered j k ≡ true)) (sym e.1)
              (here (subst (λ (j : ℕ). k < z.emitted j) e.1 l) (subst (λ (j : ℕ). has_query (core_accesses d z j k) ≡ true) e.1 q)
              (subst (λ (j : ℕ). z.answered j k ≡ true) e.1 a))
          | inr e ↦
              let emitted = put_other x.emitted n (suc (x.emitted n)) m e.1 in
              (omega arith, sym (put_at_other x.answered n (x.emitted n) _ m k (λ u v. e.1 u)) ∙ a)
        ]
      where
        here : k < z.emitted n → has_query (core_accesses d z n k) ≡ true → z.answered n k ≡ true
            → (k < x.emitted n) × (x.answered n k ≡ true)
        here l q a =
            let emitted = put_same x.emitted n (suc (x.emitted n)) in
            elim (eqb_tells k (x.emitted n)) [
              | inl e ↦
                  let asks : has_query (d.accesses n (ready d n s)) ≡ true =
                  sym (ap (λ (t : S). has_query (d.accesses n t)) (put_at_same x.state n (x.emitted n) (ready d n s)))
                  ∙ subst (λ (j : ℕ). has_query (core_accesses d z n j) ≡ true) e.1 q in
                  let told : not (has_query (d.accesses n (ready d n s))) ≡ true =
                  sym (put_at_same x.answered n (x.emitted n) (not (has_query (d.accesses n (ready d n s)))))
                  ∙ subst (λ (j : ℕ). z.answered n j ≡ true) e.1 a in
                  absurd (both_ways _ (ap not asks) told)
              | inr e ↦ let f = e.1 in (omega arith, sym (put_at_other x.answered n (x.emitted n) _ n k (λ u v. e.1 v)) ∙ a)
            ]

    step_verified : (m : ℕ) → StayVerified x z m
    step_verified m k l v = put_at_other x.verified n (x.emitted n) _ m k (λ e f. new e f) ∙ v
      where
        new : m ≡ n → k ≡ x.emitted n → ⊥
        new e f = let same = ap x.emitted e in absurd (omega arith)

  run_grows : (x z : Core S) (n : ℕ) → z ≡ after_run d x n → (m : ℕ) → NoneAdded d x z m × StayVerified x z m
  run_grows x z n e m =
      subst (λ (y : Core S). NoneAdded d x y m × StayVerified x y m) (sym e)
      (elim (cases_Bool (d.is_over n (ready d n (newest d x n)))) [
        | inl over ↦ rw over (none_self x m, λ k l v. v)
        | inr goes ↦ rw goes (step_none x n (newest d x n) m, step_verified x n (newest d x n) m)
      ])

  -- ---- a cycle, or answers

  record_grows : (x z : Core S) (m : ℕ) → RecordGrows x z m → (NoneAdded d x z m ⊎ AreSure d z m) × StayVerified x z m
  record_grows x z m r = (
    elim r.ends [
      | inl same ↦ inl (λ k l q a. (let e = r.emitted in omega arith, sym (same k) ∙ a))
      | inr sure ↦ inr (λ k l q a. sure k l a)
    ],
    λ k l v. r.verified k v,
  )

-- of two growths one after the other
both : {S : Type 0} → (d : Design S) (x u z : Core S) (m : ℕ)
    → ((k : ℕ) → k < u.emitted m → core_accesses d z m k ≡ core_accesses d u m k) → NoneAdded d x u m ⊎ AreSure d u m
    → NoneAdded d u z m ⊎ AreSure d z m → StayVerified d u z m → NoneAdded d x z m ⊎ AreSure d z m
both {S} d x u z m same first (inr sure) stay = inr sure
both {S} d x u z m same (inl none) (inl later) stay =
    inl (λ k l q a. let (l', a') = later k l q a in none k l' (sym (ap has_query (same k l')) ∙ q) a')
both {S} d x u z m same (inr sure) (inl later) stay =
    inr (λ k l q a. let (l', a') = later k l q a in stay k l' (sure k l' (sym (ap has_query (same k l')) ∙ q) a'))

module _ {S : Type 0} (d : Design S) (y : Trace S) (i : IsDesign d) (w : IsHistory d y) (limit : ℕ) where
  acted : (x : Core S) → IsAgreed d y limit x → (a : Action) (z : Core S) → Acts d limit x a z → (m : ℕ)
      → (NoneAdded d x z m ⊎ AreSure d z m) × StayVerified d x z m
  acted x g (Run n) z (may, is) m = let (none, stay) = run_grows d x z n is m in (inl none, stay)
  acted x g (Assign n) z (c, may, is) m =
      subst (λ (u : Core S). (NoneAdded d x u m ⊎ AreSure d u m) × StayVerified d x u m) (sym is) (inl (λ k l q a. (l, a)), λ k l v. v)
  acted x g (Answer n) z (c, may, is) m = record_grows d x z m (answered_or_not d y limit x z g n c m is)
  acted x g (Earliest n) z (c, may, is) m = record_grows d x z m (answered_or_not d y limit x z g n c m is)

  -- ---- a list of actions

  pub all_recorded : (x : Core S) → IsAgreed d y limit x → (actions : List Action) (z : Core S) → ActsAll d limit x actions z → (m : ℕ)
      → (NoneAdded d x z m ⊎ AreSure d z m) × StayVerified d x z m
  all_recorded x g [] end e m =
      subst (λ (u : Core S). (NoneAdded d x u m ⊎ AreSure d u m) × StayVerified d x u m) (sym e) (inl (none_self d x m), λ k l v. v)
  all_recorded x g (a ∷ more) end (u, s, t) m =
      let now = acts_agree d y i w limit x g a u s in
      let first = acted x g a u s m in
      let later = all_recorded u now more end t m in
      let grows = actions_grow d y i w limit u now more end t in
      let up = (actions_grow d y i w limit x g (a ∷ []) u (u, s, refl)).emitted_up m in (
        both d x u end m (λ k l. ap (λ (st : S). d.accesses m st) (grows.state_same m k l)) first.0 later.0 later.1,
        λ k l v. later.1 k (omega arith) (first.1 k l v),
      )
