use Rattle.std.proofs.{Common.◌∙◌, Common.arith, lemmas.Bool.Decides.nat_tests}
use Rattle.flow_grammar.proofs.TokenLemmas.{finds, no_token, from_comment, from_token}
use Rattle.flow_grammar.proofs.tokens.first_token.Goals as goal

pub returns-then-is_empty-clause-token : goal.returns-then-is_empty-clause-token
returns-then-is_empty-clause-token c = no_token c.args.line.now c.split_at-2.result.0.now (cc) (grind (arith, nat_tests))

pub returns-then-token-eq35-clause-token : goal.returns-then-token-eq35-clause-token
returns-then-token-eq35-clause-token c =
    finds c.args.line.now c.split_at-2.result.0.now c.split_at-2.result.1.now (cc) (cc)
    ∙ from_comment c.split_at-2.result.0.now c.split_at-2.result.1.now (grind (arith, nat_tests)) c.if-token-eq35.true

pub returns-clause-token : goal.returns-clause-token
returns-clause-token c =
    finds c.args.line.now c.split_at-2.result.0.now c.split_at-2.result.1.now (cc) (cc)
    ∙ from_token c.split_at-2.result.0.now c.split_at-2.result.1.now (grind (arith, nat_tests)) c.if-token-eq35.false
