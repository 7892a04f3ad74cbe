use Rattle.std.proofs.Common.{◌≡◌, ◌<◌, ◌∙◌, refl, ap, subst, sym, ℕ, List, length, set}
use Rattle.std.proofs.lemmas.List.{length-set}
use Rattle.flow_design.proofs.Rings.{refilled}
use Rattle.run_ahead.specs.{place_in, Mail, values_on}
use Rattle.run_ahead.proofs.Placed.{set_aside}
use Rattle.run_ahead.proofs.mail.take_value.Goals as goal

pub returns-in-Some-clause-others : goal.returns-in-Some-clause-others
returns-in-Some-clause-others c = λ f other.
    let mail = c.args.mail.now in
    let place = place_in mail.channels c.args.channel in
    let slice = c.as_mut_slice.ensures in
    let words = c.pop-value.new.self in
    let with_values : List (List ℕ) → Mail = λ vs. record { outcomes = mail.outcomes; channels = mail.channels; values = vs } in
    subst (λ (vs : List (List ℕ)). values_on (with_values vs) f ≡ values_on mail f)
    (sym (refilled mail.values (set c.as_mut_slice.result.now c.in-Some.place words)
    (length-set c.as_mut_slice.result.now c.in-Some.place words ∙ ap (λ (vs : List (List ℕ)). length vs) slice.value)
    ∙ (ap (λ (vs : List (List ℕ)). set vs c.in-Some.place words) slice.value
    ∙ ap (λ (k : ℕ). set mail.values k words) c.in-Some.ensures.place)))
    (set_aside mail (with_values (set mail.values place words)) c.args.channel words refl refl
    (subst (λ (k : ℕ). k < length mail.channels) c.in-Some.ensures.place c.in-Some.ensures.channel) f other)
