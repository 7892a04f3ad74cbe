-- A run that is taken out of the core and put back.
use Rattle.std.proofs.Common.{◌≡◌, refl, sym, ap, subst, ◌∙◌, ℕ, zero, suc, ◌<◌, inl, inr, Bool, true, false, List, [], ◌∷◌, length, get_or}
use Rattle.std.proofs.Common.{set, Option, Some, None, arith}
use Rattle.std.proofs.{lemmas.Bool.Decides.eqb_tells, lemmas.List.length-set, lemmas.List.get_or-set_same, lemmas.List.get_or-set_other}
use Rattle.std.specs.Prelude.{IfSome}
use Rattle.sim_core.specs.{Plan, ModuleState, ModuleRun, IsAgreed, design, lockstep_run, core_of, IsSound, kinds_in, IsRoomy, held_in}
use Rattle.sim_core.specs.{Engine, CoreView, IsRunOf, IsEndOf, IsCore, lent_of}
use Rattle.event_timing.specs.Core.{Core}
use Rattle.engine_view.specs.Held.{Held}

-- where the lists are the same
pub held_same : (s t : Engine) → t.graph.lanes ≡ s.graph.lanes → t.fifos.channels ≡ s.fifos.channels
    → t.log.logs ≡ s.log.logs → t.ends ≡ s.ends → held_in t ≡ held_in s
held_same s t a b c e = rw (a, b, c, e) refl

-- ---- what is kept

-- with other room, or another run at one module
pub core_roomed : (p : Plan) (s : Engine) (runs : List (Option ModuleRun))
    (t : Engine) → IsCore p s runs
    → held_in t ≡ held_in s → t.ends ≡ s.ends → length t.credits.items ≡ length s.credits.items
    → IsRoomy (design p) t → IsCore p t runs
core_roomed p s runs t c e ends count room =
    let same : core_of (design p) (held_in s) ≡ core_of (design p) (held_in t) = ap (core_of (design p))
    (sym e) in
    record {
      fits = c.fits;
      sound = subst (IsSound (design p)) (sym e) c.sound;
      agreed = subst (IsAgreed (design p) (lockstep_run p) p.cycles) same c.agreed;
      table = ap (λ (h : Held). kinds_in h.channels) e ∙ c.table;
      count = c.count ∙ ap (λ (h : Held). length h.lanes) (sym e);
      counted = count ∙ (c.counted ∙ ap (λ (h : Held). length h.lanes) (sym e));
      room = room;
      runs_are = λ m run there. subst (λ (x : Core ModuleState). IsRunOf p x m run) same (c.runs_are m run there);
      ends_are = λ m mark there. subst (λ (x : Core ModuleState). IsEndOf p x m mark) same (c.ends_are m mark (rw (← ends) there));
    }

pub core_lent : (p : Plan) (s : Engine) (runs : List (Option ModuleRun)) (m : ℕ)
    (o : Option ModuleRun) → IsCore p s runs → m < length s.graph.lanes
    → ((run : ModuleRun) → o ≡ Some run → IsRunOf p (core_of (design p) (held_in s)) m run)
    → IsCore p s (set runs m o)
core_lent p s runs m o c inside f = record {
  fits = c.fits;
  sound = c.sound;
  agreed = c.agreed;
  table = c.table;
  count = length-set runs m o ∙ c.count;
  counted = c.counted;
  room = c.room;
  runs_are = λ n run e.
      elim (eqb_tells n m) [
        | inl q ↦
            let here : get_or (set runs m o) m None ≡ o = get_or-set_same runs m o None (let k = c.count in omega arith) in
            let same = q.1 in rw same (f run (cc))
        | inr q ↦ c.runs_are n run (sym (get_or-set_other runs m n o None q.1) ∙ e)
      ];
  ends_are = c.ends_are;
}

-- ---- which are lent

pub lent_set : (runs : List (Option ModuleRun)) (m : ℕ) → get_or (lent_of (set runs m None)) m true ≡ true
lent_set [] m = refl
lent_set (r ∷ rs) zero = refl
lent_set (r ∷ rs) (suc m) = lent_set rs m

pub same_some : (a b : ModuleRun) → Some a ≡ Some b → a ≡ b
same_some a b e = cc

-- ---- a run that is taken out and put back

lent_again : (bs : List Bool) (m : ℕ) → get_or bs m true ≡ false → set (set bs m true) m false ≡ bs
lent_again [] m e = cc
lent_again (b ∷ bs) zero e = grind arith
lent_again (b ∷ bs) (suc m) e = let later = lent_again bs m e in grind arith

-- a core, with a module's run taken out, what is made of that, and with the run put back
pub record IsRoundTrip (before taken after back : CoreView) (m : ℕ) : Type 0 where
  pub out : taken ≡ record before { lent = set before.lent m true }
  pub here : get_or before.lent m true ≡ false
  pub home : back ≡ record after { lent = set after.lent m false }

module _ {before taken after back : CoreView} {m : ℕ} (t : IsRoundTrip before taken after back m) where
  pub same_back : after ≡ taken → back ≡ before
  same_back e = rw (t.home, e, t.out) (ap (λ (bs : List Bool). record before { lent = bs }) (lent_again before.lent m t.here))

pub some_so : {A P : Type 0} (o : Option A) → P → IfSome o (λ a. P)
some_so {A} {P} (Some a) p = p
some_so {A} {P} None p = tt
