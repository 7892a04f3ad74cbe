use Rattle.std.proofs.Common.{◌≡◌, ◌∙◌, sym, ap, ℕ, Bool, cond, List, Option, None, refl}
use Rattle.std.proofs.{lemmas.Bool.false_from_ne_true, lemmas.Slice.Eq.bytes_eq-Decides}
use Rattle.std.specs.Str.{bytes_eq}
use Rattle.cli_words.proofs.rules.name_of.Goals as goal

-- a name that the word is not
passed : {X : Type 0} (name word : List ℕ) (x y : Option X) → (word ≡ name → ⊥) → y ≡ None → cond (bytes_eq name word) x y ≡ None
passed name word x y differs rest =
    let e = false_from_ne_true (bytes_eq name word) (λ same. differs (sym ((bytes_eq-Decides name word).0 same))) in
    ap (λ (b : Bool). cond b x y) e ∙ rest

pub returns-in_default : goal.returns-in_default
returns-in_default c =
    let d = c.in_default in
    sym (passed _ _ _ _ d.not-run (passed _ _ _ _ d.not-alone (passed _ _ _ _ d.not-clock (passed _ _ _ _ d.not-check (
    passed _ _ _ _ d.not-gen (passed _ _ _ _ d.not-advise (passed _ _ _ _ d.not-wave (passed _ _ _ _ d.not-log (
    passed _ _ _ _ d.not-stalls (passed _ _ _ _ d.not-path (passed _ _ _ _ d.not-trace (passed _ _ _ _ d.not-order (
    passed _ _ _ _ d.not-sweep (passed _ _ _ _ d.not-size (passed _ _ _ _ d.not-least refl)))))))))))))))
