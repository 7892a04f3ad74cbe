use Rattle.std.proofs.Common.{◌≡◌, ◌∙◌, sym, ap, List, ◌∷◌, ◌++◌, ℕ, true, false}
use Rattle.std.specs.Prelude.{codes}
use Rattle.vcd_wave.specs.{is_name}
use Rattle.vcd_wave.proofs.{Prefixes.name_cut, Numerals.no_number}
use Rattle.vcd_wave.proofs.header.after_name.Goals as goal

abbrev pub end_of_line : List ℕ → List ℕ → List ℕ
end_of_line name rest = name ++ 32 ∷ (codes "$end\n" ++ rest)

pub returns-in_err-line-clause-all : goal.returns-in_err-line-clause-all
returns-in_err-line-clause-all c = λ name rest is e. absurd (c.in_err-line.ensures.all (end_of_line name rest) e)

pub returns-in_err-name-clause-all : goal.returns-in_err-name-clause-all
returns-in_err-name-clause-all c = λ name rest is e.
    absurd (no_number 32 c.in_ok-line.line.now name (codes "$end\n" ++ rest) (c.in_err-name.ensures {u = tt})
    (c.in_ok-line.ensures.all (end_of_line name rest) e))

pub returns-then-is_name-clause-all : goal.returns-then-is_name-clause-all
returns-then-is_name-clause-all c = λ name rest is e.
    c.after.ensures.all rest (name_cut c.in_ok-name.name.now name c.in_ok-name.end.now c.in_ok-line.line.now (codes "$end\n" ++ rest)
    c.in_ok-name.ensures.0 c.in_ok-name.ensures.1 is (c.in_ok-line.ensures.all (end_of_line name rest) e)).1

pub returns-else-is_name-clause-all : goal.returns-else-is_name-clause-all
returns-else-is_name-clause-all c = λ name rest is e.
    let same = name_cut c.in_ok-name.name.now name c.in_ok-name.end.now c.in_ok-line.line.now (codes "$end\n" ++ rest)
    c.in_ok-name.ensures.0 c.in_ok-name.ensures.1 is (c.in_ok-line.ensures.all (end_of_line name rest) e) in
    let wrong : false ≡ true = sym c.if-is_name.false ∙ (c.is_name.ensures ∙ (ap is_name same.0 ∙ is)) in cc
