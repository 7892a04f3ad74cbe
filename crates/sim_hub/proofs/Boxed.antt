-- A boxed ledger, borrowed or taken out of the turn lock.
use Rattle.std.proofs.Common.{◌≡◌, ◌∙◌, sym, ap, subst, List}
use Rattle.sim_hub.specs.{PassView, ShowsAll, HubEntry, bearer, BoxedLedger, HubLedger, entries_in}

-- what holds of the entries of a boxed ledger holds of those of the ledger that is borrowed from it
pub of_borrowed : (P : List HubEntry → Type 0) {l : HubLedger} {lent boxed : BoxedLedger} → l ≡ lent.ledger.value → lent ≡ boxed
    → P (entries_in boxed.ledger.value) → P (entries_in l)
of_borrowed P same is = subst (λ (x : HubLedger). P (entries_in x)) (sym (same ∙ ap (λ b. b.ledger.value) is))

-- and the other way round
pub of_boxed : (P : List HubEntry → Type 0) {l : HubLedger} {lent boxed : BoxedLedger} → l ≡ lent.ledger.value → lent ≡ boxed
    → P (entries_in l) → P (entries_in boxed.ledger.value)
of_boxed P same is = subst (λ (x : HubLedger). P (entries_in x)) (same ∙ ap (λ b. b.ledger.value) is)

-- what the pass is shown of the ledger on the heap it is shown of the ledger that is taken out
pub shown_ledger : {l kept : HubLedger} (v : PassView HubEntry) → l ≡ kept → ShowsAll bearer v (entries_in kept)
    → ShowsAll bearer v (entries_in l)
shown_ledger v same = subst (λ (x : HubLedger). ShowsAll bearer v (entries_in x)) (sym same)
