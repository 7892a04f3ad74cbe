use Rattle.std.proofs.Common.{◌∙◌, sym, ap, ℕ, List, length}
use Rattle.least_depths.specs.{Channel, Sizes}
use Rattle.least_depths.proofs.Sized.{advised_sized}
use Rattle.least_depths.proofs.size_text.tell_sizes.Goals as goal

pub print_depths-requires : goal.print_depths-requires
print_depths-requires g c =
    let p = c.args.plan.now in
    ap (λ (ds : List ℕ). length ds) (c.as_slice.ensures ∙ ap (λ (s : Sizes). s.depths) c.in_ok-found.ensures.found)
    ∙ ((advised_sized c.args.slack p c.fits.ensures).depths.count ∙ sym (ap (λ (cs : List Channel). length cs) c.channels.ensures))
