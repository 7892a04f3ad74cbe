use Rattle.std.proofs.Common.{rules, ◌≡◌, ap, sym, ◌∙◌, ℕ, Option, None}
use Rattle.std.proofs.lemmas.Bool.{cond-true}
use Rattle.run_ahead.specs.{Access, accesses_at, next_value, replies_in, none_taken}
use Rattle.module_interp.proofs.Feeding.{asked_stage}
use Rattle.run_ahead.proofs.Finding.{told_from, replies_fit, replies_left}
use Rattle.run_ahead.proofs.mail.answer.Goals as goal

pub feed-requires-clause-stands : goal.feed-requires-clause-stands
feed-requires-clause-stands c =
    let mail = c.args.mail.now in
    let value : Access → Option ℕ = λ a. next_value mail none_taken a.channel in
    let (p, (i, (o, s))) = c.requires.stands in
    let asked = c.waiting.ensures.accesses p i o s ∙ cond-true _ (accesses_at p i o) _ c.requires.waits in
    let (rs, there) = c.in-Some.ensures.found in
    let found = rw (c.as_slice.ensures, asked) at there in
    let told = told_from mail.outcomes value c.args.told.now (accesses_at p i o) rs found in
    let fit = replies_fit mail.outcomes value c.args.told.now (accesses_at p i o) rs found in
    (p, (i, (o, (s, rw (c.new.ensures.outcomes, c.new.ensures.values, c.as_slice-2.ensures, told) fit))))

pub take_values-requires : goal.take_values-requires
take_values-requires c =
    let (p, (i, (o, s))) = c.requires.stands in
    let asked = c.waiting.ensures.accesses p i o s ∙ cond-true _ (accesses_at p i o) _ c.requires.waits in
    let listed = c.listed.ensures ∙ (c.feed.ensures.listed ∙ s.accesses (asked_stage _ c.requires.waits)) in
    let (rs, there) = c.in-Some.ensures.found in
    record { found = (rs, rw listed (rw (c.as_slice.ensures, asked) at there)) }

pub returns-in_default-clause-missing : goal.returns-in_default-clause-missing
returns-in_default-clause-missing c = λ no p i o s whole taken k.
    let mail = c.args.mail.now in
    let asked = c.waiting.ensures.accesses p i o s ∙ cond-true _ (accesses_at p i o) _ c.requires.waits in
    let missing : replies_in mail c.args.told.now none_taken c.waiting.result.now ≡ None = search rules in
    ap (replies_in whole c.args.told.now taken) (sym asked)
    ∙ (replies_left whole mail taken k c.args.told.now c.waiting.result.now ∙ missing)

pub returns-clause-fed : goal.returns-clause-fed
returns-clause-fed c = λ yes p i o s whole taken k.
    let mail = c.args.mail.now in
    let value : Access → Option ℕ = λ a. next_value mail none_taken a.channel in
    let asked = c.waiting.ensures.accesses p i o s ∙ cond-true _ (accesses_at p i o) _ c.requires.waits in
    let listed = c.listed.ensures ∙ (c.feed.ensures.listed ∙ s.accesses (asked_stage _ c.requires.waits)) in
    let (rs, there) = c.in-Some.ensures.found in
    let found = rw (c.as_slice.ensures, asked) at there in
    let told = told_from mail.outcomes value c.args.told.now (accesses_at p i o) rs found in
    record {
      replies = rs;
      found = replies_left whole mail taken k c.args.told.now (accesses_at p i o) ∙ found;
      stands = rw (c.new.ensures.outcomes, c.new.ensures.values, c.as_slice-2.ensures, told) at (c.feed.ensures.stands p i o s);
      number = rw (← asked) c.in-Some.ensures.told;
      left = rw listed at (c.take_values.ensures.left whole taken k rs (rw listed found));
    }
