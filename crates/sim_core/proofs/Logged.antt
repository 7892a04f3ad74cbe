-- The outcomes in the log, where a core came from another.
use Rattle.std.proofs.Common.{◌≡◌, refl, sym, ap, ◌∙◌, ℕ, ◌<◌, ◌≤◌, ◌⊎◌, Bool, true, List, [], ◌∷◌, length, map, drop, arith}
use Rattle.sim_core.specs.{Access, Design, core_accesses, log_at, step_of, emitted_of, seen, queries_in, flags_by, core_of, IsSound}
use Rattle.sim_core.specs.{OutcomesGrow}
use Rattle.engine_view.specs.Held.{Held}
use Rattle.engine_report.proofs.Asking.{kind_in, kind_seen}
use Rattle.retime.proofs.Outcomes.{NoneAdded, AreSure}
use Rattle.retime.proofs.Outcomes as outcomes

-- ---- accesses that the theory sees alike

alike_kind : (a b : Access) → seen a ≡ seen b → a.kind ≡ b.kind
alike_kind a b e = sym (kind_seen a) ∙ (ap kind_in e ∙ kind_seen b)

pub queries_alike : (as' bs : List Access) → map seen as' ≡ map seen bs → queries_in as' ≡ queries_in bs
queries_alike [] [] e = refl
queries_alike [] (b ∷ bs) e = cc
queries_alike (a ∷ as') [] e = cc
queries_alike (a ∷ as') (b ∷ bs) e =
    let kind = alike_kind a b cc in
    let rest = queries_alike as' bs cc in grind arith

flags_alike : (as' bs : List Access) (os : List Bool) → map seen as' ≡ map seen bs → flags_by as' os ≡ flags_by bs os
flags_alike [] [] os e = refl
flags_alike [] (b ∷ bs) os e = cc
flags_alike (a ∷ as') [] os e = cc
flags_alike (a ∷ as') (b ∷ bs) os e =
    let kind = alike_kind a b cc in
    let now = flags_alike as' bs os cc in
    let later = flags_alike as' bs (drop 1 os) cc in grind arith

-- ---- the logs of two cores, the second of which has all steps and outcomes of the first

module _ {S : Type 0} (d e : Design S) (h g : Held) (m : ℕ) (sh : IsSound d h) (sg : IsSound e g) (in_h : m < length h.logs)
    (in_g : m < length g.logs) (more : emitted_of h m ≤ emitted_of g m)
    (accesses : (k : ℕ) → k < emitted_of h m → core_accesses e (core_of e g) m k ≡ core_accesses d (core_of d h) m k)
    (answered : (k : ℕ) → k < emitted_of h m → (core_of d h).answered m k ≡ true → (core_of e g).answered m k ≡ true)
    (flags : (k : ℕ) → k < emitted_of h m → (core_of d h).answered m k ≡ true → (core_of e g).flags m k ≡ (core_of d h).flags m k) where
  alike : (k : ℕ) → k < emitted_of h m → map seen (step_of g m k).accesses ≡ map seen (step_of h m k).accesses
  alike k l = sym (sg.accesses m k (omega arith)) ∙ (accesses k l ∙ sh.accesses m k l)

  same_queries : (k : ℕ) → k < emitted_of h m → queries_in (step_of g m k).accesses ≡ queries_in (step_of h m k).accesses
  same_queries k l = queries_alike (step_of g m k).accesses (step_of h m k).accesses (alike k l)

  same_flags : (k : ℕ) → k < emitted_of h m → (os : List Bool) → flags_by (step_of g m k).accesses os ≡ flags_by (step_of h m k).accesses os
  same_flags k l os = flags_alike (step_of g m k).accesses (step_of h m k).accesses os (alike k l)

  -- where none was added, each that is recorded now was so before
  pub answered_back : (log_at g.logs m).outcomes ≡ (log_at h.logs m).outcomes → (k : ℕ) → k < emitted_of h m
      → (core_of e g).answered m k ≡ true → (core_of d h).answered m k ≡ true
  answered_back = outcomes.answered_back d e h g m sh sg in_h in_g more same_queries same_flags answered flags

  pub outcomes_on : NoneAdded e (core_of d h) (core_of e g) m ⊎ AreSure e (core_of e g) m → OutcomesGrow (log_at h.logs m) (log_at g.logs m)
  outcomes_on = outcomes.outcomes_on d e h g m sh sg in_h in_g more same_queries same_flags answered flags
