use Rattle.std.proofs.Common.{rules, ◌≡◌, ◌<◌, ◌∙◌, List, Some, length, slice_get, refl, sym, ap, subst}
use Rattle.std.proofs.lemmas.Option.{slice_get_read}
use Rattle.std.specs.List.{insert}
use Rattle.thread_tests.specs.{ModulePass, HasNoDeskOut, hub_id, module_view, AreResting}
use Rattle.thread_tests.proofs.Rests.{resting_put_back}
use Rattle.thread_tests.proofs.passes.module_turns.Goals as goal

pub returns : goal.returns
returns g c =
    let rest = c.requires.resting in
    let items = c.args.passes.modules.items in
    let which = c.args.which in
    let out = c.remove-pass.result in
    let back = c.drive_once-pass.result.0 in
    let driven = c.drive_once-pass.ensures in
    let within : which < length items = search rules in
    let at : slice_get items which ≡ Some out = slice_get_read items (length items) which out refl within c.remove-pass.ensures.value in
    let put = c.in_ok-insert.ensures.items ∙ ap (λ (l : List ModulePass). insert l which back) c.remove-pass.ensures.items in record {
      resting =
          subst (AreResting (hub_id c.args.hub.now) c.args.passes.perf) (sym put)
          (resting_put_back (hub_id c.args.hub.now) c.args.passes.perf items which out back at within rest driven.own.1 driven.own.0
          (subst (λ n. HasNoDeskOut n (module_view back)) (sym driven.own.1) driven.home));
    }
