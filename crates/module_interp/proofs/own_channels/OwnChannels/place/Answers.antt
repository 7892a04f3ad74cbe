use Rattle.std.proofs.Common.{◌≡◌, ◌<◌, ◌∙◌, subst, sym, ap, ℕ, List, length, get_or}
use Rattle.module_interp.specs.{IsPlaceOf}
use Rattle.module_interp.proofs.Places.{place_found, place_missed}
use Rattle.module_interp.proofs.own_channels.OwnChannels.place.Goals as goal

pub returns-then-stands_at : goal.returns-then-stands_at
returns-then-stands_at c =
    let f = c.args.channel in
    let place = c.place_of-place.result in
    rw (← c.self.view_is)
    (place_found c.self.inside.items.items c.self.invariant f place
    (subst (λ (xs : List ℕ). place < length xs) c.as_slice-2.ensures.value (c.stands_at.ensures.inside c.if-stands_at.true))
    (subst (λ (xs : List ℕ). get_or xs place 0 ≡ f) c.as_slice-2.ensures.value (c.stands_at.ensures.there c.if-stands_at.true)))

pub returns-else-stands_at : goal.returns-else-stands_at
returns-else-stands_at c =
    let f = c.args.channel in
    let place = c.place_of-place.result in
    rw (← c.self.view_is)
    (c.len.ensures ∙ (sym c.as_slice.ensures.len ∙ (ap (λ (xs : List ℕ). length xs) c.as_slice.ensures.value
    ∙ place_missed c.self.inside.items.items f place
    (subst (λ (xs : List ℕ). IsPlaceOf xs f place) c.as_slice.ensures.value c.place_of-place.ensures)
    (subst (λ (xs : List ℕ). place < length xs → get_or xs place 0 ≡ f → ⊥) c.as_slice-2.ensures.value
    (c.stands_at.ensures.none c.if-stands_at.false)))))
