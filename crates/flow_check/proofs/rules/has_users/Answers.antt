use Rattle.std.proofs.Common.{◌==◌, ◌∙◌, ℕ, ap, count_by, slice_index}
use Rattle.flow_check.specs.{uses, port_at}
use Rattle.flow_check.proofs.Tally.{as_wanted}
use Rattle.flow_check.proofs.rules.has_users.Goals as goal

pub returns : goal.returns
returns c = λ modules users.
    let told = slice_index c.args.users.now c.args.channel in
    let all = count_by (uses (port_at c.args.side c.args.channel)) modules in
    ap (λ (n : ℕ). told == n) c.users_wanted.ensures ∙ as_wanted c.args.kind c.args.side told all (users.each c.args.channel c.requires)
