use Rattle.std.proofs.{Common.rules, Common.◌≡◌, Common.Some, Common.false, Common.is_some, lemmas.Map.Text.hash_map_updates_str}
use Rattle.session_plan.specs.{number_at}
use Rattle.session_plan.proofs.NameLemmas.{noted}
use Rattle.session_plan.proofs.names.note.Goals as goal

pub returns-in_ok-insert-clause-ok : goal.returns-in_ok-insert-clause-ok
returns-in_ok-insert-clause-ok c =
    let none : is_some (number_at c.args.numbers.now c.args.name.now) ≡ false = search rules in
    noted (number_at c.args.numbers.now) (number_at c.insert.new.self) c.args.name.now c.args.number none
    (hash_map_updates_str c.args.name.now c.args.numbers.now c.insert.new.self (Some c.args.number) c.in_ok-insert.ensures.updates)
