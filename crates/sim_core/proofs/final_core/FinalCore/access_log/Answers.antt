use Rattle.std.proofs.Common.{◌≤◌, ◌∙◌, sym, ap, subst, List, length, arith}
use Rattle.std.proofs.lemmas.List.{take_all}
use Rattle.std.specs.Prelude.{All, flat_map}
use Rattle.sim_core.specs.{IsFinal, design, TimedStep, IsTimedKey, held_in, logged_at, CoreView, theory_of}
use Rattle.engine_view.specs.Held.{Held}
use Rattle.sim_core.proofs.AccessLogs as log
use Rattle.sim_core.proofs.final_core.FinalCore.access_log.Goals as goal

pub log_step-requires : goal.log_step-requires
log_step-requires c =
    let h : Held = held_in c.core.inside.engine in
    let keys = c.in_ok-keys.keys.items in
    let all = subst (λ (ks : List TimedStep). All (IsTimedKey h.lanes) ks) (sym c.as_slice-key-items.ensures.value)
    (log.keys_timed h keys c.in_ok-keys.ensures) in
    rw (← c.core.view_is) (all c.loop-key.key-index _ c.loop-key-test.true)

pub returns : goal.returns
returns c =
    let k = c.core.invariant.core in
    let p = c.core.inside.plan in
    let h : Held = held_in c.core.inside.engine in
    let final = subst (λ (v : CoreView). IsFinal (design v.plan) v.plan.cycles (theory_of v)) (sym c.core.view_is)
    c.core-core.ensures.is_final in
    let keys = c.in_ok-keys.keys.items in
    let same = c.as_slice-key-items.ensures.value in
    let items = c.as_slice-key-items.result.now in
    let all : length items ≤ c.loop-key.key-index = omega arith in
    rw (← c.core-core.ensures.core, ← c.core.view_is) ((rw (← c.core.view_is) at c.loop-key.invariant)
    ∙ (ap (flat_map (logged_at h)) (take_all c.loop-key.key-index items all ∙ same)
    ∙ log.log_is p h k.sound k.agreed k.fits final keys c.in_ok-keys.ensures))
