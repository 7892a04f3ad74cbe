use Rattle.std.proofs.Common.{rules, arith, List, [], ◌∷◌, ◌++◌, map, refl, sym, ap, ◌∙◌, subst, append_assoc}
use Rattle.std.proofs.lemmas.List.{map-append}
use Rattle.sim_hub.specs.{PassView, AllJoined, HubEntry, ModulePass, entries_in, module_view, led_to}
use Rattle.turn_lock.specs.{Passes.view_of, Views.after_join}
use Rattle.turn_lock.proofs.Joins.{after_joins, after_joins-snoc, joins_keep, all_joined}
use Rattle.sim_hub.proofs.{Lists.get_mapped, Boxed.shown_ledger, Keeping.kept_legal, Keeping.kept_stands}
use Rattle.sim_hub.proofs.Closing.{all_made, comes_home, joined_all, made_count, shown_each, whole}
use Rattle.sim_hub.proofs.hub.Hub.close.Goals as goal

pub join-pass-requires-clause-first : goal.join-pass-requires-clause-first
join-pass-requires-clause-first c =
    let p = c.args.perf in
    ap (λ v. v.number) c.loop-other.invariant.1 ∙ joins_keep (λ v. v.number) (λ _ _. refl) (view_of p.place.pass)
    (map module_view c.loop-other.yielded)
    ∙ p.place.numbered ∙ p.first

pub loop-other-preserved : goal.loop-other-preserved
loop-other-preserved c =
    let i = c.loop-other.invariant in
    let v = view_of c.args.perf.place.pass in
    let ys = c.loop-other.yielded in
    let o = c.in-Some.other in (
      search rules,
      c.join-pass.ensures.joined ∙ ap (λ (u : PassView HubEntry). after_join u (module_view o)) i.1
          ∙ sym (after_joins-snoc v (map module_view ys) (module_view o)) ∙ ap (after_joins v) (sym (map-append module_view ys (o ∷ []))),
      i.2 ∙ ap (λ (l : List ModulePass). ys ++ l) c.in-Some.ensures.steps.0 ∙ sym (append_assoc ys (o ∷ []) c.next.new.self.rest.items),
    )

pub close-ledger-requires-clause-first : goal.close-ledger-requires-clause-first
close-ledger-requires-clause-first c =
    let p = c.args.perf in
    ap (λ v. v.number) c.loop-other.invariant.1 ∙ joins_keep (λ v. v.number) (λ _ _. refl) (view_of p.place.pass)
    (map module_view c.loop-other.yielded)
    ∙ p.place.numbered ∙ p.first

pub close-ledger-requires-clause-joined : goal.close-ledger-requires-clause-joined
close-ledger-requires-clause-joined c =
    let p = c.args.perf in
    let v = view_of p.place.pass in
    let ms = c.args.modules.items in
    let is = joined_all v (view_of c.loop-other.pass) ms c.loop-other.yielded _ c.loop-other.invariant.1 c.loop-other.invariant.2
    (sym c.loop-other.other-iterator.rest.ok.0 ∙ c.in-None.ensures.steps.0) in
    subst AllJoined (sym is)
    (all_joined v (map module_view ms) (all_made p ms c.requires.each))

pub settle-requires-clause-over : goal.settle-requires-clause-over
settle-requires-clause-over c =
    let p = c.args.perf in
    let v = view_of p.place.pass in
    let ms = c.args.modules.items in
    let is = joined_all v (view_of c.loop-other.pass) ms c.loop-other.yielded _ c.loop-other.invariant.1 c.loop-other.invariant.2
    (sym c.loop-other.other-iterator.rest.ok.0 ∙ c.in-None.ensures.steps.0) in
    let shown = shown_each (entries_in c.into_inner.result) v (view_of c.loop-other.pass) ms
    (p.place.numbered ∙ p.first) is (shown_ledger _ c.into_inner.ensures c.close-ledger.ensures.all) in
    (v.seen, shown.first.seen, c.requires.over)

pub settle-requires-clause-home : goal.settle-requires-clause-home
settle-requires-clause-home c = λ m inside.
    let p = c.args.perf in
    let v = view_of p.place.pass in
    let ms = c.args.modules.items in
    let d = c.into_inner.result in
    let log = entries_in d in
    let is = joined_all v (view_of c.loop-other.pass) ms c.loop-other.yielded _ c.loop-other.invariant.1 c.loop-other.invariant.2
    (sym c.loop-other.other-iterator.rest.ok.0 ∙ c.in-None.ensures.steps.0) in
    let shown = shown_each log v (view_of c.loop-other.pass) ms (p.place.numbered ∙ p.first) is
    (shown_ledger _ c.into_inner.ensures c.close-ledger.ensures.all) in
    let count = made_count d.core.plan log (led_to d.core.plan d.turns.items) (kept_stands d.core d.turns.items d.out d.short _ d.kept) p
    shown.first.seen in
    let (k, o, at, which) = c.requires.each m (omega arith) in
    comes_home log m o which (shown.others k (module_view o) (get_mapped module_view ms k o at)) (c.requires.home k o at)

pub returns : goal.returns
returns c =
    let p = c.args.perf in
    let v = view_of p.place.pass in
    let ms = c.args.modules.items in
    let d = c.into_inner.result in
    let log = entries_in d in
    let is = joined_all v (view_of c.loop-other.pass) ms c.loop-other.yielded _ c.loop-other.invariant.1 c.loop-other.invariant.2
    (sym c.loop-other.other-iterator.rest.ok.0 ∙ c.in-None.ensures.steps.0) in
    let shown = shown_each log v (view_of c.loop-other.pass) ms (p.place.numbered ∙ p.first) is
    (shown_ledger _ c.into_inner.ensures c.close-ledger.ensures.all) in
    let legal = kept_legal d.core d.turns.items d.out d.short _ d.kept in
    let count = made_count d.core.plan log (led_to d.core.plan d.turns.items) (kept_stands d.core d.turns.items d.out d.short _ d.kept) p
    shown.first.seen in (
      log,
      whole p ms log legal shown (λ n above. d.kept.none_else n (omega arith)),
      c.settle.ensures,
    )
