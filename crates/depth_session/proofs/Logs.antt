-- The outcomes in a log beside those of a report.
use Rattle.std.proofs.Common.{◌≡◌, sym, ap, subst, ◌∙◌, ℕ, ◌<◌, inl, inr, Bool, List, length, take, drop, arith}
use Rattle.std.proofs.{Math.ListN.get_or-map, Math.Seq.take-length, lemmas.List.length-map, lemmas.List.take-append-drop}
use Rattle.depth_session.specs.{Log, no_log, log_at, next_counts, OutcomesGrow, RecordGoesOn, answers_of, run_count, recorded_in}
use Rattle.depth_session.specs.{verified_in}
use Rattle.depth_session.proofs.Going.{counts_go_on}

-- of one module
pub log_goes_on : (old now : Log) → OutcomesGrow old now → RecordGoesOn old.outcomes (take now.verified now.outcomes) now.outcomes
log_goes_on old now g = record {
  grew = g.grew;
  begins = (drop now.verified now.outcomes, sym (take-append-drop now.verified now.outcomes));
  ends = elim g.ends [
    | inl same ↦ inl same
    | inr all ↦ inr (sym (ap (λ (n : ℕ). take n now.outcomes) all ∙ take-length now.outcomes))
  ];
}

pub recorded_at : (logs : List Log) (m : ℕ) → answers_of (recorded_in logs) m ≡ (log_at logs m).outcomes
recorded_at logs m = get_or-map (λ (l : Log). l.outcomes) logs m no_log

verified_at : (logs : List Log) (m : ℕ) → answers_of (verified_in logs) m ≡ take (log_at logs m).verified (log_at logs m).outcomes
verified_at logs m = get_or-map (λ (l : Log). take l.verified l.outcomes) logs m no_log

goes_on_at : (old now : List Log) (m : ℕ) → OutcomesGrow (log_at old m) (log_at now m)
    → RecordGoesOn (answers_of (recorded_in old) m) (answers_of (verified_in now) m) (answers_of (recorded_in now) m)
goes_on_at old now m g =
    subst (λ (kept : List Bool). RecordGoesOn kept (answers_of (verified_in now) m) (answers_of (recorded_in now) m))
    (sym (recorded_at old m))
    (subst (λ (found : List Bool). RecordGoesOn (log_at old m).outcomes found (answers_of (recorded_in now) m)) (sym (verified_at now m))
    (subst (λ (all : List Bool). RecordGoesOn (log_at old m).outcomes (take (log_at now m).verified (log_at now m).outcomes) all)
    (sym (recorded_at now m))
    (log_goes_on (log_at old m) (log_at now m) g)))

pub counts_of_logs : (old now : List Log) → length now ≡ length old
    → ((m : ℕ) → m < length old → OutcomesGrow (log_at old m) (log_at now m))
    → (runs : ℕ) → next_counts (run_count (recorded_in old) runs) (verified_in now) ≡ run_count (recorded_in now) runs
counts_of_logs old now e f runs =
    let a = length-map old (λ (l : Log). l.outcomes) in
    let b = length-map now (λ (l : Log). l.outcomes) in
    let c = length-map now (λ (l : Log). take l.verified l.outcomes) in
    counts_go_on (recorded_in old) (verified_in now) (recorded_in now) (c ∙ (e ∙ sym a)) (b ∙ (e ∙ sym a))
    (λ m l. goes_on_at old now m (f m (omega arith))) runs
