-- Pieces one after another, of what is consumed and of what is appended.
use Rattle.std.proofs.Common.{◌≡◌, ◌∙◌, ap, sym, arith, ℕ, ◌+◌, ◌-◌, ◌≤◌, List, ◌++◌, length, take, drop, append_assoc, None, Some}
use Rattle.std.proofs.{lemmas.Grind.common_steps, Math.Seq.take-add}
use Rattle.std.specs.{declared.option.Option.Option, Io.KnownBytes.Appends, Io.KnownBytes.Consumes}
use Rattle.sim_io.specs.{LosesAtMost}

-- two pieces consumed are their sum consumed
consumes_both : (a b c : Option (List ℕ)) (xs ys : List ℕ) → Consumes a b xs → Consumes b c ys → Consumes a c (xs ++ ys)
consumes_both None b c xs ys p q = tt
consumes_both (Some x) None c xs ys p q = absurd p
consumes_both (Some x) (Some y) None xs ys p q = absurd q
consumes_both (Some x) (Some y) (Some z) xs ys p q = p ∙ ap (λ l. xs ++ l) q ∙ sym (append_assoc xs ys z)

-- a known piece, and then at most so many bytes
pub loses_more : (a b c : Option (List ℕ)) (xs : List ℕ) (n m : ℕ) → Consumes a b xs → LosesAtMost b c n → length xs + n ≤ m
    → LosesAtMost a c m
loses_more a b c xs n m p q h = record {
  bytes = xs ++ q.bytes;
  consumed = consumes_both a b c xs q.bytes p q.consumed;
  count = grind (arith, common_steps, q.count);
}

-- two pieces appended are their sum appended
pub appends_both : (a b c : Option (List ℕ)) (xs ys : List ℕ) → Appends a b xs → Appends b c ys → Appends a c (xs ++ ys)
appends_both None b c xs ys p q = tt
appends_both (Some x) None c xs ys p q = absurd p
appends_both (Some x) (Some y) None xs ys p q = absurd q
appends_both (Some x) (Some y) (Some z) xs ys p q = q ∙ ap (λ l. l ++ ys) p ∙ append_assoc x xs ys

-- what `&text[at..]` shows
rest_is : (text : List ℕ) (at : ℕ) → take (length text - at) (drop at text) ≡ drop at text
rest_is text at = grind (arith, common_steps)

-- a prefix of a text, and then a prefix of the rest
pub appends_more : (a b c : Option (List ℕ)) (text : List ℕ) (at n : ℕ) → Appends a b (take at text)
    → Appends b c (take n (take (length text - at) (drop at text)))
    → Appends a c (take (at + n) text)
appends_more a b c text at n p q =
    let r = rw (rest_is text at) at q in
    rw (take-add at n text) (appends_both a b c (take at text) (take n (drop at text)) p r)
