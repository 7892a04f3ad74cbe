-- A job, report after report.
use Rattle.std.proofs.Common.{◌≡◌, refl, sym, ◌∙◌, ap, ap₂, subst, arith, ℕ, ◌+◌, ◌-◌, ◌<◌, ◌≤◌, Bool, true, false, cond, List, [], ◌∷◌}
use Rattle.std.proofs.Common.{◌++◌, length, map, take, get_or, All, add-one, append-nil, append_assoc}
use Rattle.std.proofs.lemmas.List.{map-append, take_more, flat_map_more, length-map}
use Rattle.std.proofs.{lemmas.List.Concat.flat_map-append, lemmas.List.FromFn.length-enumerate_from, lemmas.List.Elements.All-get_or}
use Rattle.std.specs.{Prelude.if◌then◌else◌, Prelude.flat_map, declared.option.Option.Option, Io.KnownBytes.Appends}
use Rattle.std.specs.List.{range_with_len, enumerate_from}
use Rattle.whole_answer.specs.{Plan, Edit, Design, Report, with_depth, EditFits, FitsEngine, report, report_with, RunCount, depth_after}
use Rattle.whole_answer.specs.{plan_after, all_go_on, next_counts, counts_after, first_counts, line, runs_tokens, report_text_of}
use Rattle.whole_answer.specs.{AppendsPrefix, Ending, IsRest, plan_at, report_after, first_numbers, texts_of, counts_in, ending_of, is_done}
use Rattle.whole_answer.specs.{first_not_done, endings_of, job, ReportsTold, told_of, first_told, more_told, IsGoing}
use Rattle.whole_answer.specs.declared.answer.Answer.{Answer}
use Rattle.whole_answer.specs.declared.ending.Ending.TheVariants.{Done, Words, Text, Deadlock, Cycles, Ops}
use Rattle.sim_io.proofs.{Pieces.appends_both, Pending.prefix_of_longer, Pending.prefix_longer, Pending.prefix_after, Pending.range_both}
use Rattle.flow_word.proofs.Ranges.{range_more}

-- ---- what was written of a report, or of its beginning

abbrev pub report_in : Option (List ℕ) → Option (List ℕ) → ℕ → Bool → Plan → Type 0
report_in old new k events q = Appends old new (report_text_of q.design (report q) k events)

abbrev pub part_in : Option (List ℕ) → Option (List ℕ) → ℕ → Bool → Plan → Type 0
part_in old new k events q = AppendsPrefix old new (report_text_of q.design (report q) k events)

-- ---- lists that grow at their end

counts_more : (c : RunCount) (all : List (List (List Bool))) (found : List (List Bool))
    → counts_after c (all ++ found ∷ []) ≡ next_counts (counts_after c all) found
counts_more c [] found = refl
counts_more c (a ∷ all) found = counts_more (next_counts c a) all found

done_is : (s : Ending) → is_done s ≡ true → s ≡ Done
done_is Done e = refl
done_is Words e = absurd cc
done_is Text e = absurd cc
done_is Deadlock e = absurd cc
done_is Cycles e = absurd cc
done_is Ops e = absurd cc

ending_more : (ss : List Ending) (s : Ending) → first_not_done (ss ++ s ∷ []) ≡ (if is_done (first_not_done ss) then s else first_not_done
    ss)
ending_more [] s = by_test (is_done s) refl
  where
    by_test : (b : Bool) → is_done s ≡ b → cond b Done s ≡ s
    by_test true e = sym (done_is s e)
    by_test false e = refl
ending_more (x ∷ ss) s = by_test (is_done x) refl (ending_more ss s)
  where
    by_test : (b : Bool) → is_done x ≡ b → first_not_done (ss ++ s ∷ []) ≡ (if is_done (first_not_done ss) then s else first_not_done ss)
        → cond b (first_not_done (ss ++ s ∷ [])) x ≡ (if is_done (cond b (first_not_done ss) x) then s else cond b (first_not_done ss) x)
    by_test true e rest = rest
    by_test false e rest = rw e refl

one_run_at_most : (b : Bool) (kept found : List (List Bool)) (runs : ℕ)
    → (cond {A = RunCount} b (record { kept = kept; runs = runs }) (record { kept = found; runs = runs + 1 })).runs ≤ runs + 1
one_run_at_most true kept found runs = omega arith
one_run_at_most false kept found runs = omega arith

runs_more : (c : RunCount) (found : List (List Bool)) → (next_counts c found).runs ≤ c.runs + 1
unfolding next_counts
runs_more c found = one_run_at_most (all_go_on c.kept found) _ found c.runs

one_number_more : (k : ℕ) → first_numbers ((k + 1) + 1) ≡ first_numbers (k + 1) ++ (k + 1) ∷ []
one_number_more k = ap (range_with_len 0) (add-one (k + 1)) ∙ (range_more 0 (k + 1)
    ∙ ap (λ (j : ℕ). range_with_len 0 (k + 1) ++ j ∷ []) (omega arith))

one_edit_more : (k : ℕ) → range_with_len 1 (k + 1) ≡ range_with_len 1 k ++ (k + 1) ∷ []
one_edit_more k = ap (range_with_len 1) (add-one k) ∙ (range_more 1 k ∙ ap (λ (j : ℕ). range_with_len 1 k ++ j ∷ []) (omega arith))

-- ---- a job

module _ (events : Bool) (p : Plan) (edits : List Edit) where
  report_is : (k : ℕ) (plan : Plan) → plan ≡ plan_at p edits k → report plan ≡ report_after p edits k
  unfolding report_after
  report_is k plan e = ap report e

  same_design : (k : ℕ) (plan : Plan) → plan ≡ plan_at p edits k → plan.design ≡ p.design
  unfolding plan_after
  same_design k plan e = ap (λ (q : Plan). q.design) e

  -- an edit that fits the plan fits it after other edits too
  pub still_fits : (k : ℕ) (now : Plan) (e : Edit) → now ≡ plan_at p edits k → EditFits p e → EditFits now e
  unfolding plan_after
  still_fits k now e is fit = subst (λ (q : Plan). EditFits q e) (sym is) (record {
    fifo = fit.fifo;
    entry =
        let entries = length-map (enumerate_from 0 p.depths) (λ entry. depth_after (take k edits) entry.0 entry.1) in
        let numbered = length-enumerate_from 0 p.depths in
        omega (arith, entries, numbered, fit.entry);
    least = fit.least;
    most = fit.most;
  })

  -- one edit more
  pub next_plan : ((q : Plan) (es : List Edit) (e : Edit) → e.channel < length q.depths
      → plan_after q (es ++ e ∷ []) ≡ with_depth (plan_after q es) e.channel e.depth)
      → (k : ℕ) (now : Plan) (e other : Edit) → now ≡ plan_at p edits k → k < length edits → e ≡ get_or edits k other
      → e.channel < length p.depths
      → with_depth now e.channel e.depth ≡ plan_at p edits (k + 1)
  next_plan one_more k now e other is inside here entry =
      ap (λ (q : Plan). with_depth q e.channel e.depth) is
      ∙ (sym (one_more p (take k edits) e entry)
      ∙ ap (plan_after p) (ap (λ (x : Edit). take k edits ++ x ∷ []) here ∙ sym (take_more edits k other inside)))

  -- the texts of the reports up to one more
  texts_more : (k : ℕ) (next : Plan) → next ≡ plan_at p edits (k + 1)
      → texts_of events p edits (first_numbers (k + 1)) ++ report_text_of next.design (report next) (k + 1) events
      ≡ texts_of events p edits (first_numbers ((k + 1) + 1))
  texts_more k next e =
      let texts = texts_of events p edits (first_numbers (k + 1)) in
      let text_at : ℕ → List ℕ = λ j. report_text_of p.design (report_after p edits j) j events in
      ap₂ (λ (d : Design) (r : Report). texts ++ report_text_of d r (k + 1) events) (same_design (k + 1) next e) (report_is (k + 1) next e)
      ∙ (flat_map_more text_at [] (first_numbers (k + 1)) (k + 1)
      ∙ ap (λ (ks : List ℕ). flat_map text_at ks) (sym (one_number_more k)))

  -- the rest of the job is the line of the runs, once no edit is left
  pub ends : (k : ℕ) (now : Plan) (told : ReportsTold) (first held : Option (List ℕ)) (rest : Answer)
      → IsGoing events p edits k now told first held → k ≡ length edits
      → rest.text ≡ line (runs_tokens told.count.runs) → rest.ending ≡ told.ending → IsRest (job events p edits) first held rest
  unfolding job
  ends k now told first held rest g e text ending =
      subst (λ (n : ℕ). IsRest (job_to n) first held rest) e (record {
        text = record {
          sent = texts_of events p edits (first_numbers (k + 1));
          appended = g.text;
          whole = ap (λ (t : List ℕ). texts_of events p edits (first_numbers (k + 1)) ++ t)
              (text ∙ ap (λ (c : RunCount). line (runs_tokens c.runs)) g.count);
        };
        ending = ending ∙ g.ending;
      })
    where
      job_to : ℕ → Answer
      job_to n = record {
        text = texts_of events p edits (first_numbers (n + 1)) ++ line (runs_tokens (counts_in p edits n).runs);
        ending = first_not_done (endings_of p edits (first_numbers (n + 1)));
      }

  -- the texts of the first reports begin the job's
  text_begins : (n : ℕ) → n ≤ length edits + 1
      → (more : List ℕ) × ((job events p edits).text ≡ texts_of events p edits (first_numbers n) ++ more)
  unfolding job
  text_begins n most =
      let last = length edits + 1 in
      let text_at : ℕ → List ℕ = λ j. report_text_of p.design (report_after p edits j) j events in
      let runs : List ℕ = line (runs_tokens (counts_in p edits (length edits)).runs) in
      let count : last ≡ n + (last - n) = omega (arith, most) in (
        flat_map text_at (range_with_len (0 + n) (last - n)) ++ runs,
        ap (λ (j : ℕ). flat_map text_at (range_with_len 0 j) ++ runs) count
            ∙ (ap (λ (ks : List ℕ). flat_map text_at ks ++ runs) (range_both 0 n (last - n))
            ∙ (ap (λ (t : List ℕ). t ++ runs) (flat_map-append text_at (range_with_len 0 n) (range_with_len (0 + n) (last - n)))
            ∙ append_assoc (flat_map text_at (range_with_len 0 n)) (flat_map text_at (range_with_len (0 + n) (last - n))) runs)),
      )

  -- what was written is a prefix of the job: of the first report, of those so far, and of the next one after them
  pub stops_first : (first held : Option (List ℕ)) → AppendsPrefix first held (report_text_of p.design (report p) 0 events)
      → p ≡ plan_at p edits 0
      → AppendsPrefix first held (job events p edits).text
  stops_first first held h e =
      let whole = text_begins 1 (omega arith) in
      let text : report_text_of p.design (report p) 0 events ≡ texts_of events p edits (first_numbers 1) =
      ap (λ (r : Report). report_text_of p.design r 0 events) (report_is 0 p e) ∙ sym (append-nil _) in
      subst (AppendsPrefix first held) (sym whole.1)
      (prefix_longer first held (texts_of events p edits (first_numbers 1)) whole.0 (subst (AppendsPrefix first held) text h))

  pub stops : (k : ℕ) (now : Plan) (told : ReportsTold) (first held : Option (List ℕ)) → IsGoing events p edits k now told first held
      → k ≤ length edits → AppendsPrefix first held (job events p edits).text
  stops k now told first held g most =
      let whole = text_begins (k + 1) (omega (arith, most)) in
      subst (AppendsPrefix first held) (sym whole.1)
      (prefix_of_longer first held (texts_of events p edits (first_numbers (k + 1))) whole.0 g.text)

  pub stops_inside : (k : ℕ) (now next : Plan) (told : ReportsTold) (first held last : Option (List ℕ))
      → IsGoing events p edits k now told first held → k < length edits → next ≡ plan_at p edits (k + 1)
      → AppendsPrefix held last (report_text_of next.design (report next) (k + 1) events)
      → AppendsPrefix first last (job events p edits).text
  stops_inside k now next told first held last g inside e h =
      let whole = text_begins ((k + 1) + 1) (omega (arith, inside)) in
      let texts = texts_of events p edits (first_numbers (k + 1)) in
      subst (AppendsPrefix first last) (sym whole.1)
      (prefix_longer first last (texts_of events p edits (first_numbers ((k + 1) + 1))) whole.0
      (subst (AppendsPrefix first last) (texts_more k next e) (prefix_after first held last texts _ g.text h)))

  module _ (none : (q : Plan) → plan_after q [] ≡ q) where
    pub first_plan : p ≡ plan_at p edits 0
    first_plan = sym (none p)

    pub begins : FitsEngine p → (first held : Option (List ℕ))
        → Appends first held (report_text_of p.design (report p) 0 events)
        → IsGoing events p edits 0 p (first_told p) first held
    unfolding first_told
    begins fits first held written =
        let is = report_is 0 p first_plan in
        record {
          plan = first_plan;
          fits = fits;
          text = subst (Appends first held) (ap (λ (r : Report). report_text_of p.design r 0 events) is ∙ sym (append-nil _)) written;
          ending = ap (λ (r : Report). ending_of r.verdict) is ∙ sym (ending_more [] (ending_of (report_after p edits 0).verdict));
          count = ap (λ (r : Report). first_counts r.answers) is;
          runs = omega arith;
        }

  pub goes_on : (k : ℕ) (plan next : Plan) (told : ReportsTold) (first held last : Option (List ℕ))
      → IsGoing events p edits k plan told first held → next ≡ plan_at p edits (k + 1)
      → FitsEngine next
      → Appends held last (report_text_of next.design (report next) (k + 1) events)
      → IsGoing events p edits (k + 1) next (more_told next told) first last
  unfolding more_told
  goes_on k plan next told first held last g e fits written =
      let is = report_is (k + 1) next e in
      let ending_at : ℕ → Ending = λ j. ending_of (report_after p edits j).verdict in
      let answers_at : ℕ → List (List Bool) = λ j. (report_after p edits j).answers in
      let texts = texts_of events p edits (first_numbers (k + 1)) in
      record {
        plan = e;
        fits = fits;
        text = subst (Appends first last) (texts_more k next e) (appends_both first held last texts _ g.text written);
        ending =
            ap₂ (λ (s : Ending) (r : Report). if is_done s then ending_of r.verdict else s) g.ending is
            ∙ (sym (ending_more (map ending_at (first_numbers (k + 1))) (ending_at (k + 1)))
            ∙ (ap first_not_done (sym (map-append ending_at (first_numbers (k + 1)) ((k + 1) ∷ [])))
            ∙ ap (λ (ks : List ℕ). first_not_done (map ending_at ks)) (sym (one_number_more k))));
        count =
            ap₂ (λ (c : RunCount) (r : Report). next_counts c r.answers) g.count is
            ∙ (sym (counts_more (first_counts (answers_at 0)) (map answers_at (range_with_len 1 k)) (answers_at (k + 1)))
            ∙ (ap (λ (all : List (List (List Bool))). counts_after (first_counts (answers_at 0)) all)
            (sym (map-append answers_at (range_with_len 1 k) ((k + 1) ∷ [])))
            ∙ ap (λ (ks : List ℕ). counts_after (first_counts (answers_at 0)) (map answers_at ks)) (sym (one_edit_more k))));
        runs = let more = runs_more told.count (report next).answers in let before = g.runs in omega arith;
      }

-- ---- what a report told

-- with its events or without them, the report of a plan tells its verdict
pub same_verdict : (events : Bool) (p q : Plan) (r : Report) → ((events : Bool) (p : Plan) → (report_with events p).verdict ≡ (report
    p).verdict)
    → r ≡ report_with events q → q ≡ p → ending_of r.verdict ≡ ending_of (report p).verdict
same_verdict events p q r without is same =
    ap (λ (x : Report). ending_of x.verdict) is ∙ (ap ending_of (without events q) ∙ ap (λ (x : Plan). ending_of (report x).verdict) same)

pub first_is : (p : Plan) (ending : Ending) (count : RunCount) → ending ≡ ending_of (report p).verdict
    → count ≡ first_counts (report p).answers → told_of ending count ≡ first_told p
unfolding first_told
first_is p ending count s c = λ i. record { ending = s i; count = c i }

pub more_is : (p : Plan) (ending new : Ending) (count now : RunCount)
    → new ≡ (if is_done ending then ending_of (report p).verdict else ending)
    → now ≡ next_counts count (report p).answers → told_of new now ≡ more_told p (told_of ending count)
unfolding more_told
more_is p ending new count now s c = λ i. record { ending = s i; count = c i }

-- ---- the two jobs

-- the edit that stands at a place, which fits the plan where all do
abbrev pub edit_at : List Edit → ℕ → Edit
edit_at edits i = get_or edits i (record { channel = 0; depth = 0 })

pub fits_there : (p : Plan) (edits : List Edit) (i : ℕ) → i < length edits → All (EditFits p) edits → EditFits p (edit_at edits i)
fits_there p edits i inside all = All-get_or (EditFits p) edits i _ inside all
