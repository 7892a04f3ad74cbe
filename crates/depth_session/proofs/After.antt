-- A core after an edit, and the count of runs with its report.
use Rattle.std.proofs.Common.{◌≡◌, sym, ap, subst, ◌∙◌, ℕ, ◌+◌, ◌<◌, ◌≤◌, inl, inr, Bool, true, List, [], length, take, get_or, Some, arith}
use Rattle.std.proofs.{lemmas.Bool.cases_lt, lemmas.Bool.cases_Bool, lemmas.List.length-map, lemmas.List.get_or_past}
use Rattle.std.specs.Prelude.{slice_get, All}
use Rattle.depth_session.specs.{Edit, Plan, EditFits, with_depth, report, Log, log_at, Query, IsPrefix, Guard, all_go_on, next_counts}
use Rattle.depth_session.specs.{RunCount, OutcomesGrow, CoreView, AreOwn, Goes, HasDriven, IsDiffering, IsEdited, IsSoundCore, IsEditedOn}
use Rattle.depth_session.specs.{HasOtherAnswer, recorded_in, verified_in, RepeatsAnswers, answers_of, run_count, SessionView}
use Rattle.depth_session.specs.{plan_with_edit, State, IsCoreSettled, HasGoneOn, next_count, recorded_by, plan_in, session_with}
use Rattle.outcome_guard.specs.declared.guard.Guard.TheVariants.{Same, Differs}
use Rattle.sim_core.proofs.Rounds.{goes_same}
use Rattle.depth_session.proofs.Going.{apart, counts_differ, nothing_new}
use Rattle.depth_session.proofs.Logs.{counts_of_logs, log_goes_on, recorded_at}

own_same : (v w : CoreView) → w.lent ≡ v.lent → length w.plan.design.modules ≡ length v.plan.design.modules → AreOwn v → AreOwn w
own_same v w lent count own m l = ap (λ (bs : List Bool). get_or bs m true) lent ∙ own m (omega arith)

-- ---- after an edit

-- it was found at once that a query is another
pub differs_at_once : (v : CoreView) (e : Edit) (w : CoreView) (q : Query) (before now : ℕ) → IsSoundCore v → IsSoundCore w
    → IsCoreSettled v
    → EditFits v.plan e → w.plan ≡ with_depth v.plan e.channel e.depth → IsEdited v w e (Differs q) before now
    → HasGoneOn (Differs q) v e w
differs_at_once v e w q before now from to settled fits plan edited = (
  record {
    from = from;
    to = to;
    final = settled.final;
    fits = fits;
    middle = w;
    guard = Differs q;
    before = before;
    now = now;
    later = 0;
    after = 0;
    plan = plan;
    edited = edited;
    goes = goes_same w 0;
  },
  found edited,
)
  where
    found : IsEdited v w e (Differs q) before now → IsDiffering w q
    found (inl same) = let no : Differs q ≡ Same = same.same in cc
    found (inr (inl retimed)) = (q.module, inl retimed.ended)
    found (inr (inr changed)) = let no : Differs q ≡ Same = changed.same in cc

-- what was left was done, as far as it went
pub went_on : (v : CoreView) (e : Edit) (middle w : CoreView) (before now after : ℕ) → IsSoundCore v → IsSoundCore w → IsCoreSettled v
    → EditFits v.plan e → middle.plan ≡ with_depth v.plan e.channel e.depth → IsEdited v middle e Same before now
    → Goes middle now w after → IsEditedOn v e w
went_on v e middle w before now after from to settled fits plan edited goes = record {
  from = from;
  to = to;
  final = settled.final;
  fits = fits;
  middle = middle;
  guard = Same;
  before = before;
  now = now;
  later = now;
  after = after;
  plan = plan;
  edited = edited;
  goes = goes;
}

-- all of it
pub driven : (v : CoreView) (e : Edit) (w : CoreView) → IsEditedOn v e w → IsCoreSettled v → w.lent ≡ v.lent → (guard : Guard)
    → HasDriven guard w → HasGoneOn guard v e w
driven v e w on settled lent Same final =
    let modules = ap (λ (p : Plan). length p.design.modules) (on.goes.plan ∙ on.plan) in
    (on, record { final = final; own = own_same v w lent modules settled.own })
driven v e w on settled lent (Differs q) other = (on, other)

-- ---- the count

-- the count of a session with this core
abbrev pub count_of : CoreView → ℕ → RunCount
count_of v runs = run_count (recorded_in v.held.logs) runs

-- where no query is another the count goes on with what the core holds
pub counts_on : (v : CoreView) (e : Edit) (w : CoreView) (runs : ℕ) → length w.held.logs ≡ length v.held.logs
    → ((m : ℕ) → m < length v.held.logs → OutcomesGrow (log_at v.held.logs m) (log_at w.held.logs m))
    → (report w.plan).answers ≡ verified_in w.held.logs → count_of w runs ≡ next_count (count_of v runs) w.plan
counts_on v e w runs same grow answers =
    sym (ap (next_counts (count_of v runs)) answers ∙ counts_of_logs v.held.logs w.held.logs same grow runs)

-- the recorded outcome, among those that are kept
is_kept : (v : CoreView) (p : Plan) (q : Query) (o : HasOtherAnswer v.held.logs p q)
    → slice_get (answers_of (recorded_in v.held.logs) q.module) q.number ≡ Some o.recorded
is_kept v p q o = ap (λ (os : List Bool). slice_get os q.number) (recorded_at v.held.logs q.module) ∙ o.was

-- else one run more is counted
pub counts_again : (v : CoreView) (p : Plan) (runs : ℕ) (q : Query) → HasOtherAnswer v.held.logs p q
    → next_count (count_of v runs) p ≡ run_count (report p).answers (runs + 1)
counts_again v p runs q o =
    let answers = (report p).answers in
    let count = length-map v.held.logs (λ (l : Log). l.outcomes) in
    counts_differ (recorded_in v.held.logs) answers q.module q.number o.recorded o.found (let l = o.inside in omega arith)
    (within answers q.module q.number o.found o.is) (is_kept v p q o) o.is o.differ runs
  where
    none : (j : ℕ) (b : Bool) → slice_get [] j ≡ Some b → ⊥
    none j b e = cc

    within : (all : List (List Bool)) (m j : ℕ) (b : Bool) → slice_get (answers_of all m) j ≡ Some b → m < length all
    within all m j b e =
        elim (cases_lt m (length all)) [
          | inl l ↦ l
          | inr l ↦ absurd (none j b (sym (ap (λ (os : List Bool). slice_get os j) (get_or_past all m [] l)) ∙ e))
        ]

-- a report counts no run less
pub no_less : (old : RunCount) (found : List (List Bool)) → old.runs ≤ (next_counts old found).runs
unfolding next_counts
no_less old found = elim (cases_Bool (all_go_on old.kept found)) [ inl e ↦ rw e (omega arith) | inr e ↦ rw e (omega arith) ]

pub same_logs : (v : CoreView) (e : Edit) (w : CoreView) → IsEditedOn v e w → length w.held.logs ≡ length v.held.logs
same_logs v e w t =
    let a = t.from.sound.logs in
    let b = t.to.sound.logs in
    let modules : length w.plan.design.modules ≡ length v.plan.design.modules =
    ap (λ (p : Plan). length p.design.modules) (t.goes.plan ∙ t.plan) in
    omega arith

-- ---- where no module answers

-- no query is another
pub none_answered : (v w : CoreView) (q : Query) → All (λ (os : List Bool). os ≡ []) (report w.plan).answers
    → HasOtherAnswer v.held.logs w.plan q → ⊥
none_answered v w q all o = elim (cases_lt q.module (length (report w.plan).answers)) [
  | inl l ↦ none (all q.module [] l)
  | inr l ↦ none (get_or_past (report w.plan).answers q.module [] l)
]
  where
    none : answers_of (report w.plan).answers q.module ≡ [] → ⊥
    none e = let is = sym (ap (λ (os : List Bool). slice_get os q.number) e) ∙ o.is in absurd (cc)

-- ---- where the report repeats what is kept

-- no query is found to be another
pub none_other : (v w : CoreView) → RepeatsAnswers (recorded_in v.held.logs) (report w.plan).answers
    → (q : Query) → HasOtherAnswer v.held.logs w.plan q → ⊥
none_other v w repeat q o =
    let count = length-map v.held.logs (λ (l : Log). l.outcomes) in
    apart (answers_of (report w.plan).answers q.module) (answers_of (recorded_in v.held.logs) q.module) q.number o.found o.recorded o.is
    (is_kept v w.plan q o) (λ e. o.differ (sym e)) (repeat q.module (let l = o.inside in omega arith))

-- and no outcome is added
pub none_added : (v : CoreView) (e : Edit) (w : CoreView) → IsEditedOn v e w
    → ((m : ℕ) → m < length v.held.logs → OutcomesGrow (log_at v.held.logs m) (log_at w.held.logs m))
    → ((m : ℕ) → m < length w.held.logs
    → IsPrefix (take (log_at w.held.logs m).verified (log_at w.held.logs m).outcomes) (answers_of (report w.plan).answers m))
    → RepeatsAnswers (recorded_in v.held.logs) (report w.plan).answers
    → (m : ℕ) → m < length v.held.logs → (log_at w.held.logs m).outcomes ≡ (log_at v.held.logs m).outcomes
none_added v e w t grow begin repeat m l =
    let old = log_at v.held.logs m in
    let now = log_at w.held.logs m in
    let found = answers_of (report w.plan).answers m in
    let count = length-map v.held.logs (λ (l : Log). l.outcomes) in
    let same = same_logs v e w t in
    nothing_new old.outcomes (take now.verified now.outcomes) now.outcomes found (log_goes_on old now (grow m l)) (begin m (omega arith))
    (subst (IsPrefix found) (recorded_at v.held.logs m) (repeat m (omega arith)))

-- what is said of the session is said of what it has
pub repeats_in_state : (state : State) (runs : ℕ) (live : Bool) (s : SessionView) (e : Edit) (p : Plan) → session_with state runs live ≡ s
    → p ≡ with_depth (plan_in state) e.channel e.depth → RepeatsAnswers s.count.kept (report (plan_with_edit s e)).answers
    → RepeatsAnswers (recorded_by state) (report p).answers
repeats_in_state state runs live s e p is plan repeat =
    subst (λ (q : Plan). RepeatsAnswers (recorded_by state) (report q).answers) (sym plan)
    (subst (λ (t : SessionView). RepeatsAnswers t.count.kept (report (plan_with_edit t e)).answers) (sym is) repeat)
