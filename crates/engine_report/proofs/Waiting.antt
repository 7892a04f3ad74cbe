-- The causes of a wait, access by access.
use Rattle.std.proofs.Common.{◌≡◌, ℕ, ◌+◌, ◌<◌, ◌≤◌, List, ap, ap₂, ◌∙◌, arith, Bool, true, false, not, ◌&&◌, max, Some, length, get_or}
use Rattle.std.proofs.lemmas.Bool.Decides.{nat_tests}
use Rattle.std.specs.Prelude.{Result, Ok, Err, OnOk}
use Rattle.engine_report.specs.{Access, Side, side_of, is_blocking, Span, reached, Comes, Does, Plan, Lane, Channel, Known, when_possible}
use Rattle.engine_report.specs.{answer, as_known, must_wait, doing_of, known_until, HasWaited, HasPassed}
use Rattle.timelines.specs.declared.span.Doing.TheVariants.{Still}
use Rattle.engine_report.proofs.Loops.{first_found, none_found}

until_within : (k : Known) (until : ℕ) → known_until k until ≤ until
until_within k until = grind arith

until_no : (k : Known) (until c : ℕ) → c < known_until k until → answer (as_known k) c ≡ false
until_no k until c l = grind (arith, nat_tests)

until_yes : (k : Known) (until c : ℕ) → known_until k until ≤ c → c < until → answer (as_known k) c ≡ true
until_yes k until c l q = grind (arith, nat_tests)

off : (b : Bool) → (b && false) ≡ false
off b = grind arith

-- an access that blocks is one as long as it is not possible
pub passed_blocking : (lanes : List Lane) (channels : List Channel) (a : Access) (until : ℕ) (old new : List Span) (from : ℕ) (side : Side)
    → from ≡ known_until (when_possible lanes channels a) until → side ≡ side_of a.kind → is_blocking a.kind ≡ true
    → ((p : Plan) (i : ℕ) → Comes p i old → Does p i (reached old) from (Still (record { side = side; channel = a.channel }))
    → Comes p i new)
    → reached new ≡ max (reached old) from → HasPassed lanes channels a until old new
passed_blocking lanes channels a until old new from side z w e g b = record {
  comes = λ p i h f. g p i h (λ c x y. rw w (f c x (omega (arith, until_within k until))
      (ap₂ (λ (x y : Bool). x && not y) e (until_no k until c (omega arith)))));
  later = omega arith;
  within = omega (arith, until_within k until);
  clear = λ c l q. ap (λ (x : Bool). is_blocking a.kind && not x) (until_yes k until c (omega arith) q) ∙ off (is_blocking a.kind);
}
  where
    k : Known
    k = when_possible lanes channels a

-- one access more
pub waited_more : (lanes : List Lane) (channels : List Channel) (accesses : List Access) (until n : ℕ)
    → (old new next : List Span) (d : Access)
    → n < length accesses → HasWaited lanes channels accesses until n old new
    → HasPassed lanes channels (get_or accesses n d) until new next → HasWaited lanes channels accesses until (n + 1) old next
waited_more lanes channels accesses until n old new next d l w f = record {
  comes = λ p i h s. f.comes p i (w.comes p i h s) (λ c x y t.
      s c (omega (arith, w.later)) y
      ∙ ap (λ o. Some (doing_of o)) (first_found (must_wait lanes channels c) accesses n d l (w.clear c x y) t));
  later = omega (arith, w.later, f.later);
  within = omega (arith, w.within, f.within);
  clear = λ c x y. none_found (must_wait lanes channels c) accesses n d l (w.clear c (omega (arith, f.later)) y) (f.clear c x y);
}

pub both_ok : {T E P Q R : Type 0} (r : Result T E) → (P → Q → R) → OnOk r P → OnOk r Q → OnOk r R
both_ok (Ok v) f p q = f p q
both_ok (Err e) f p q = tt
