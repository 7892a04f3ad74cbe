use Rattle.std.proofs.Common.{sym, ◌∙◌, ap, subst, ◌++◌, List, ℕ}
use Rattle.std.specs.Prelude.{codes}
use Rattle.vcd_wave.specs.{NamesFrom, empty_text}
use Rattle.vcd_wave.proofs.header.header_in.Goals as goal

abbrev pub end_of : List ℕ → List ℕ
end_of rest = codes "pscope $end\n$enddefinitions $end\n#0\n" ++ rest

pub returns-in_err-body-clause-all : goal.returns-in_err-body-clause-all
returns-in_err-body-clause-all c = λ m r h. absurd (c.in_err-body.ensures.all h.body h.is_text)

pub returns-in_err-first-clause-all : goal.returns-in_err-first-clause-all
returns-in_err-first-clause-all c = λ m r h.
    let found = c.in_ok-count.ensures.all m (end_of (empty_text 0 m ++ r))
    (subst (λ (t : List ℕ). NamesFrom 0 t m (end_of (empty_text 0 m ++ r))) (sym (c.in_ok-body.ensures.all h.body h.is_text)) h.names) in
    absurd (c.in_err-first.ensures.all (empty_text 0 m ++ r) found.1)

pub returns-in_err-later-clause-all : goal.returns-in_err-later-clause-all
returns-in_err-later-clause-all c = λ m r h.
    let found = c.in_ok-count.ensures.all m (end_of (empty_text 0 m ++ r))
    (subst (λ (t : List ℕ). NamesFrom 0 t m (end_of (empty_text 0 m ++ r))) (sym (c.in_ok-body.ensures.all h.body h.is_text)) h.names) in
    absurd (c.in_err-later.ensures.all r (c.in_ok-first.ensures.all (empty_text 0 m ++ r) found.1
    ∙ ap (λ (n : ℕ). empty_text 0 n ++ r) (sym found.0)))

pub returns-clause-some : goal.returns-clause-some
returns-clause-some c = record {
  body = c.in_ok-body.body.now;
  is_text = c.in_ok-body.ensures.some;
  names = subst (λ (t : List ℕ). NamesFrom 0 c.in_ok-body.body.now c.in_ok-count.count t)
      (c.in_ok-first.ensures.some ∙ ap end_of c.in_ok-later.ensures.some) c.in_ok-count.ensures.some;
}

pub returns-clause-all : goal.returns-clause-all
returns-clause-all c = λ m r h.
    let found = c.in_ok-count.ensures.all m (end_of (empty_text 0 m ++ r))
    (subst (λ (t : List ℕ). NamesFrom 0 t m (end_of (empty_text 0 m ++ r))) (sym (c.in_ok-body.ensures.all h.body h.is_text)) h.names) in (
      found.0,
      c.in_ok-later.ensures.all r (c.in_ok-first.ensures.all (empty_text 0 m ++ r) found.1
          ∙ ap (λ (n : ℕ). empty_text 0 n ++ r) (sym found.0)),
    )
