-- A session with an edit more, and the verdict that a report tells.
use Rattle.std.proofs.Common.{◌≡◌, ◌+◌, ◌≤◌, Bool, List, sym, ap, subst, arith, inl, inr}
use Rattle.std.proofs.lemmas.Bool.{cases_Bool}
use Rattle.least_depths.specs.{Edit, with_depth, Plan, Report, report, verdict, RunCount, all_go_on, next_counts, SessionView}
use Rattle.least_depths.specs.{plan_with_edit, with_edit}

runs_more : (count : RunCount) (found : List (List Bool)) → (next_counts count found).runs ≤ count.runs + 1
unfolding next_counts
runs_more count found = elim (cases_Bool (all_go_on count.kept found)) [ inl e ↦ rw e (omega arith) | inr e ↦ rw e (omega arith) ]

pub edited_plan : (s t : SessionView) (e : Edit) → t ≡ with_edit s e → t.plan ≡ with_depth s.plan e.channel e.depth
edited_plan s t e is = ap (λ (v : SessionView). v.plan) is

pub edited_runs : (s t : SessionView) (e : Edit) → t ≡ with_edit s e → t.count.runs ≤ s.count.runs + 1
edited_runs s t e is =
    subst (λ (v : SessionView). v.count.runs ≤ s.count.runs + 1) (sym is) (runs_more s.count (report (plan_with_edit s e)).answers)

pub report_told : (p : Plan) (r : Report) → report p ≡ r → verdict p ≡ r.verdict
unfolding report
report_told p r e = ap (λ (x : Report). x.verdict) e
