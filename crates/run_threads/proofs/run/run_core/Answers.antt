use Rattle.std.proofs.{Common.◌≡◌, Common.[], Common.length, Common.ap, Common.sym, Common.◌∙◌, Common.subst, lemmas.List.length-map}
use mathlib.Core.List.{IsPrefix}
use Rattle.run_threads.specs.{history_of, perf_view, IsWholeRun, ClosedIs, Driver, AreHere}
use Rattle.run_threads.proofs.Openings.{prefix_trans, one_plan}
use Rattle.run_threads.proofs.Places.{new_here, here_own, here_home, here_each}
use Rattle.run_threads.proofs.run.run_core.Goals as goal

pub run_all-perf-requires-clause-here : goal.run_all-perf-requires-clause-here
run_all-perf-requires-clause-here g c κs within =
    subst (AreHere c.in_ok-hub.hub) (sym c.in_ok-drivers.ensures)
    (new_here c.in_ok-hub.hub c.args.core.plan c.in_ok-hub.modules.items c.in_ok-hub.ensures.modules)

pub close-requires-clause-own : goal.close-requires-clause-own
close-requires-clause-own g c =
    let out = c.run_all-perf.ensures in (out.perf, here_own c.in_ok-hub.hub c.run_all-perf.result.1.items out.here)

pub close-requires-clause-each : goal.close-requires-clause-each
close-requires-clause-each g c =
    let out = c.run_all-perf.ensures in
    let drivers : length c.in_ok-drivers.drivers.items ≡ length c.in_ok-hub.modules.items =
    sym (length-map c.in_ok-drivers.drivers.items (λ (s : Driver). s.pass)) ∙ ap length c.in_ok-drivers.ensures in
    here_each c.in_ok-hub.hub c.run_all-perf.result.0 c.run_all-perf.result.1.items
    (out.later.made ∙ (c.in_ok-hub.ensures.made ∙ (sym drivers ∙ sym out.count))) out.here

pub close-requires-clause-home : goal.close-requires-clause-home
close-requires-clause-home g c = here_home c.in_ok-hub.hub c.run_all-perf.result.1.items c.run_all-perf.ensures.here

pub returns-in-Final : goal.returns-in-Final
returns-in-Final g c = let t = c.in-Final.threaded in let perf = c.run_all-perf.result.0 in let p = c.args.core.plan in
    let closed = subst (λ r. ClosedIs perf c.run_all-perf.result.1.items r) c.in-Final.is c.close.ensures in
    let begins = prefix_trans (history_of p []) (perf_view perf).seen closed.0
    (subst (λ seen. IsPrefix seen (perf_view perf).seen) c.in_ok-hub.ensures.perf.1 c.run_all-perf.ensures.later.begins)
    closed.1.first in
    let same = one_plan p t.core.plan t.turns.items closed.0 begins closed.2.0 in
    let plan : t.core.plan ≡ c.args.core.plan = sym same in
    record { run = subst (λ q. IsWholeRun q t) plan closed.2.1 }
