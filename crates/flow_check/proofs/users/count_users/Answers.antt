use Rattle.std.proofs.Common.{ap, ◌∙◌, ◌≡◌, ◌≤◌, ◌+◌, ℕ, arith, drop, count_by, length, slice_index}
use Rattle.std.specs.Prelude.{min}
use Rattle.flow_check.specs.{has, port_at}
use Rattle.flow_check.proofs.{Slots.count_users, Tally.none_left}
use Rattle.flow_check.proofs.users.count_users.Goals as goal

pub returns-clause-users : goal.returns-clause-users
returns-clause-users c = λ modules have.
    let users = c.loop-ports.users.items in
    let at = c.loop-ports.ports-index in
    let end : length c.args.all.now ≤ at = let f = c.loop-ports-test.false in omega arith in
    record {
      each = λ f l.
          let port = port_at c.args.side f in
          let none = none_left (λ ports. has ports port) c.args.all.now at end in
          let same : slice_index users f ≡ slice_index users f + count_by (λ ports. has ports port) (drop at c.args.all.now)
          = omega (arith, none) in
          ap (λ (n : ℕ). min n 2) same ∙ c.loop-ports.invariant.each f (let k = c.loop-ports.invariant.count in omega arith)
          ∙ ap (λ (n : ℕ). min n 2) (count_users c.args.all.now modules port have);
    }
