-- A Run that is permitted stays so while others act, and emits the same.
use Rattle.std.proofs.Common.{◌≡◌, ℕ, suc, sym, ap, ◌∙◌, arith}
use Rattle.event_timing.specs.{Design, own, core_reply, AreOwnMarks, Grows, MayRun, newest, Core.Core}
use Rattle.event_timing.proofs.{Growing.settled_less, Growing.settled_all, Growing.there_grow, Growing.own_grow, Running.newest_own}

pub stays : {S : Type 0} → (d : Design S) (x z : Core S) → AreOwnMarks d x → Grows d x z → (m : ℕ) → z.emitted m ≡ x.emitted m
    → z.over m ≡ x.over m → MayRun d x m → MayRun d z m
stays {S} d x z b g m e o r =
    let s = settled_all d x b m r.answered r.there in
    record {
      inside = r.inside;
      lives = o ∙ r.lives;
      answered = λ k q. g.answered_up m k (omega arith) (r.answered k (q ∙ e));
      there = λ k q. there_grow d x z g m k (settled_less d x m (x.emitted m) (suc k) (omega arith) s);
    }

-- what a Run emits is the same, whatever else was done meanwhile
pub newest_stays : {S : Type 0} → (d : Design S) (x z : Core S) → AreOwnMarks d x → AreOwnMarks d z → Grows d x z → (m : ℕ)
    → z.emitted m ≡ x.emitted m → MayRun d x m → newest d z m ≡ newest d x m
newest_stays {S} d x z b b' g m e r =
    newest_own d z b' m (z.emitted m) (omega arith)
    ∙ (ap (own d m (core_reply d z m)) e
    ∙ (own_grow d x z g m (x.emitted m) (settled_all d x b m r.answered r.there)
    ∙ sym (newest_own d x b m (x.emitted m) (omega arith))))
