use Rattle.std.proofs.Common.{◌∙◌, ◌<◌, ℕ, ap, sym, subst, length, List}
use Rattle.std.specs.Prelude.{All}
use Rattle.stall_text.specs.{Channel, Plan, LoggedAccess}
use Rattle.stall_text.proofs.Accesses.{log_inside, log_modules}
use Rattle.stall_text.proofs.polls.polls_if.Goals as goal

pub pollings-requires : goal.pollings-requires
pollings-requires c = record {
  inside = subst (λ (n : ℕ). All (λ (a : LoggedAccess). a.event.«module» < n) c.as_slice.result.now) (sym c.modules-modules.ensures.count)
      (subst (All (λ (a : LoggedAccess). a.event.«module» < length c.args.core.now.plan.design.modules))
      (sym (c.as_slice.ensures ∙ c.in_ok-log.ensures)) (log_modules c.args.core.now.plan));
}

pub all_queries-requires : goal.all_queries-requires
all_queries-requires c = record {
  inside = subst (λ (cs : List Channel). All (λ (a : LoggedAccess). a.event.channel < length cs) c.as_slice-2.result.now)
      (sym (c.as_slice-channels.ensures ∙ ap (λ (p : Plan). p.design.channels) c.plan.ensures))
      (subst (All (λ (a : LoggedAccess). a.event.channel < length c.args.core.now.plan.design.channels))
      (sym (c.as_slice-2.ensures ∙ c.in_ok-log.ensures)) (log_inside c.args.core.now.plan c.modules-modules.ensures.fits));
}
