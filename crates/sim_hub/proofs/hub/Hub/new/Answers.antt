use Rattle.std.proofs.Common.{◌∙◌, ℕ, List, refl, sym, ap, subst}
use Rattle.turn_lock.specs.Passes.{view_of}
use Rattle.sim_hub.specs.{lock_id, HubEntry, entries_in, HasModules, AreFrom}
use Rattle.sim_hub.proofs.Closing.{opened_count}
use Rattle.sim_hub.proofs.hub.Hub.new.Goals as goal

pub split_all-requires-clause-modules : goal.split_all-requires-clause-modules
split_all-requires-clause-modules c =
    let seen = ap (λ v. v.seen) c.in_ok-lock.ensures.first ∙ ap entries_in c.in_ok-ledger.ensures.ok ∙ c.in_ok-opening.ensures in
    subst (HasModules c.modules-count.result) (sym seen)
    (opened_count c.args.core.plan c.modules-count.result c.modules-count.ensures.count)

pub perf_pass-requires-clause-first : goal.perf_pass-requires-clause-first
perf_pass-requires-clause-first c =
    let first = c.in_ok-first.ensures.first in
    record { number = first.number; made_is = refl; joined = first.joined; own = first.own; seen_is = refl }

pub perf_pass-requires-clause-modules : goal.perf_pass-requires-clause-modules
perf_pass-requires-clause-modules c =
    let first = c.in_ok-first.ensures.first in
    let seen = first.seen_is ∙ ap (λ v. v.seen) c.in_ok-lock.ensures.first
    ∙ ap entries_in c.in_ok-ledger.ensures.ok ∙ c.in_ok-opening.ensures in
    subst (λ (n : ℕ). HasModules n (view_of c.in_ok-first.first).seen) (sym first.made_is)
    (subst (HasModules c.modules-count.result) (sym seen)
    (opened_count c.args.core.plan c.modules-count.result c.modules-count.ensures.count))

pub returns-clause-modules : goal.returns-clause-modules
returns-clause-modules c =
    subst (λ (es : List HubEntry). AreFrom (lock_id c.in_ok-lock.lock) es c.in_ok-first.modules.items)
    (ap (λ v. v.seen) c.in_ok-lock.ensures.first ∙ ap entries_in c.in_ok-ledger.ensures.ok ∙ c.in_ok-opening.ensures)
    c.in_ok-first.ensures.modules
