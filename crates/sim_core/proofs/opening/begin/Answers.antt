use Rattle.std.proofs.Common.{◌≡◌, sym, ap, subst, ◌∙◌, List, length, map, false, replicate, arith}
use Rattle.sim_core.specs.{TableChannel, unused, Plan, AllVerified, design, core_of, Engine, held_in, over_of, kinds_of, AreFirstRuns}
use Rattle.sim_core.specs.{IsStoredCore}
use Rattle.flow_design.specs.declared.design.Module.{Module}
use Rattle.event_timing.proofs.ActionBound.{none_assumed}
use Rattle.sim_core.proofs.{Listing.listed_all, Waking.due_all}
use Rattle.sim_core.proofs.Beginning as beginning
use Rattle.sim_core.proofs.opening.begin.Goals as goal

pub new-requires-clause-count : goal.new-requires-clause-count
new-requires-clause-count c =
    let e = ap (λ (ys : List TableChannel). length ys) c.in_ok-kinds.ensures in
    let n = beginning.kinds_length c.args.plan c.fits.ensures in
    let k = c.fits.ensures.channel_count in
    omega arith

pub new-requires-clause-kinds : goal.new-requires-clause-kinds
new-requires-clause-kinds c = beginning.kinds_sound c.args.plan c.fits.ensures c.in_ok-kinds.kinds.items
    c.in_ok-kinds.ensures

pub invariant_of-result : goal.invariant_of-result
invariant_of-result c =
    let n = length c.modules.result.now in
    let s : Engine = record {
      graph = c.in_ok-graph.graph;
      fifos = c.in_ok-fifos.fifos;
      log = c.in_ok-log.log;
      ends = c.in_ok-ends.ends;
      credits = c.in_ok-credits.credits;
    } in
    let over : over_of c.in_ok-ends.ends.items ≡ replicate n false = ap over_of c.in_ok-ends.ensures ∙ beginning.none_over n in
    let is = beginning.held_is n (kinds_of c.args.plan) (held_in s) c.in_ok-graph.ensures
    (c.in_ok-fifos.ensures ∙ ap (map unused) c.in_ok-kinds.ensures) c.in_ok-log.ensures over in
    let count = ap (λ (xs : List Module). length xs) c.modules.ensures in
    subst (λ (p : Plan). IsStoredCore p s c.args.runs.items c.in_ok-wiring.wiring c.in_ok-unread.unread c.in_ok-due.due
    c.in_ok-candidates.candidates) (sym c.into_plan.ensures.plan) (record {
      core = beginning.core_begun c.args.plan c.fits.ensures n count s c.args.runs.items
          is over (subst (AreFirstRuns c.args.plan c.args.runs.items) (sym count) c.requires)
          (c.in_ok-credits.ensures.items_if_clones_equal (λ x e. e));
      wired = c.in_ok-wiring.ensures;
      unread_are = c.in_ok-unread.ensures _ _;
      due_are = due_all c.args.plan _ c.in_ok-due.due (let a = c.in_ok-due.ensures.asking_room in omega arith)
          c.in_ok-due.ensures.asking (let a = c.in_ok-due.ensures.running_room in omega arith) c.in_ok-due.ensures.running;
      listed_are = listed_all c.args.plan _ c.in_ok-due.due c.in_ok-candidates.candidates (c.in_ok-candidates.ensures ∙ count)
          (let a = c.in_ok-due.ensures.unlisted_room in omega arith) (let a = c.in_ok-due.ensures.asking_room in omega arith)
          c.in_ok-due.ensures.asking;
    })

pub returns-clause-opening : goal.returns-clause-opening
returns-clause-opening c =
    let n = length c.modules.result.now in
    let s : Engine = record {
      graph = c.in_ok-graph.graph;
      fifos = c.in_ok-fifos.fifos;
      log = c.in_ok-log.log;
      ends = c.in_ok-ends.ends;
      credits = c.in_ok-credits.credits;
    } in
    let over : over_of c.in_ok-ends.ends.items ≡ replicate n false = ap over_of c.in_ok-ends.ensures ∙ beginning.none_over n in
    let is = beginning.held_is n (kinds_of c.args.plan) (held_in s) c.in_ok-graph.ensures
    (c.in_ok-fifos.ensures ∙ ap (map unused) c.in_ok-kinds.ensures) c.in_ok-log.ensures over in
    ap (λ (p : Plan). core_of (design p) (held_in s)) c.into_plan.ensures.plan ∙ ap (core_of (design c.args.plan)) (sym is) ∙
    (beginning.begins c.args.plan c.fits.ensures n
    (ap (λ (xs : List Module). length xs) c.modules.ensures)).0

pub returns-clause-own : goal.returns-clause-own
returns-clause-own c = λ m l.
    beginning.not_lent c.args.plan c.args.runs.items (length c.args.plan.design.modules) m c.requires l

pub returns-clause-verified : goal.returns-clause-verified
returns-clause-verified c = subst AllVerified (sym (returns-clause-opening c)) (none_assumed (design c.args.plan))
