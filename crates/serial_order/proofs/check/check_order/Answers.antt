use Rattle.std.proofs.{Common.arith, Common.◌≡◌, Common.◌∙◌, Common.sym, lemmas.Grind.common_steps}
use Rattle.serial_order.specs.{order_of}
use Rattle.serial_order.proofs.Theorem.{equals_plain_loops}
use Rattle.serial_order.proofs.check.check_order.Goals as goal

pub returns-clause-serial : goal.returns-clause-serial
returns-clause-serial c is =
    let order : c.unwrap_or.result ≡ order_of c.args.design.now c.args.«module» = grind (arith, common_steps) in
    equals_plain_loops c.args.design.now c.args.«module» c.requires (sym order ∙ is)
