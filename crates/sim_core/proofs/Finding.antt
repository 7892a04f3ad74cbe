-- What it means that the replies to a step are there.
use Rattle.std.proofs.Common.{◌≡◌, refl, sym, ap, ap₂, ◌∙◌, ℕ, suc, ◌+◌, ◌-◌, ◌≤◌, ◌⊎◌, inl, inr, Bool, true, false, cond, not, ltb, ◌&&◌}
use Rattle.std.proofs.Common.{◌||◌, List, [], ◌∷◌, length, drop, get_or, Option, Some, None, is_some, arith}
use Rattle.std.proofs.lemmas.Bool.{and_from, and_parts, lt-ltb, ltb-true}
use Rattle.std.proofs.{lemmas.Bool.Decides.nat_tests, lemmas.List.drop-drop}
use Rattle.std.proofs.lemmas.Option.{unwrap_or-slice_get, slice_get-get_or, slice_get_past}
use Rattle.std.specs.Prelude.{slice_get, unwrap_or}
use Rattle.sim_core.specs.{Access, Kind, side_of, is_blocking, is_taking, same_side, Reply, Channel, reply_by, seen, possible_by}
use Rattle.sim_core.specs.{queries_in, flags_by, values_at, pops_now, reply_now, put_first, told_by, replies_from, value_now}
use Rattle.flow_word.specs.declared.access.Side.TheVariants.{Pop}
use Rattle.engine_view.proofs.{Adding.get_drop, Comparing.queries_cons}
use Rattle.run_ahead.proofs.Parts.{first_parts}
use Rattle.flow_word.proofs.Ranges.{some_is}

-- the replies, by an access's kind, whether it is possible, and the value at its ordinal
abbrev pub replies_found : List Channel → List Access → List Bool → List Reply
replies_found channels [] flags = []
replies_found channels (a ∷ as') [] = []
replies_found channels (a ∷ as') (b ∷ bs) = reply_by a.kind b (get_or (values_at channels a.channel) (a.ordinal - 1) 0) ∷ replies_found
    channels as' bs

-- each pop has its value
abbrev pub values_now : List Channel → List Access → List Bool → Bool
values_now channels [] bs = true
values_now channels (a ∷ as') [] = true
values_now channels (a ∷ as') (b ∷ bs) = (not (pops_now (seen a) b) || ltb (a.ordinal - 1) (length (values_at channels a.channel))) &&
    values_now channels as' bs

abbrev flag_now : Kind → Option Bool → Bool
flag_now k o = cond (is_blocking k) true (possible_by k o)

abbrev needs : Kind → Bool → Bool
needs k b = is_taking k && (same_side (side_of k) Pop && b)

record IsReply (k : Kind) (o : Option Bool) (v : Option ℕ) (r : Reply) : Type 0 where
  is : r ≡ reply_by k (flag_now k o) (unwrap_or v 0)
  outcome : is_blocking k ≡ false → is_some o ≡ true
  value : needs k (flag_now k o) ≡ true → is_some v ≡ true

reply_is_there : (k : Kind) (o : Option Bool) (v : Option ℕ) (r : Reply) → reply_now k o v ≡ Some r → IsReply k o v r
reply_is_there k o v r e = record { is = grind arith; outcome = λ f. grind arith; value = λ f. grind arith }

no_reply : (k : Kind) (o : Option Bool) (v : Option ℕ) → reply_now k o v ≡ None → (is_blocking k ≡ false → is_some o ≡ true)
    → (needs k (flag_now k o) ≡ true → is_some v ≡ true) → ⊥
no_reply k o v e f g = grind arith

put_none : (r : Option Reply) (q : Option (List Reply)) → put_first r q ≡ None → (r ≡ None) ⊎ (q ≡ None)
put_none None q e = inl refl
put_none (Some r) None e = inr refl
put_none (Some r) (Some qs) e = cc

-- the flag of an access, and those after it
pub flags_from : (a : Access) (xs : List Access) (outs : List Bool) (n : ℕ) → flags_by (a ∷ xs) (drop n outs)
    ≡ flag_now a.kind (slice_get outs n) ∷ flags_by xs (drop (told_by a.kind n) outs)
flags_from a xs outs n =
    let first = get_drop n outs in
    let rest = drop-drop 1 n outs in grind arith

pub some_there : {X : Type 0} (d : X) (xs : List X) (n : ℕ) → is_some (slice_get xs n) ≡ ltb n (length xs)
some_there d xs n = grind (arith, nat_tests, slice_get-get_or xs n d, slice_get_past xs n)

module _ (channels : List Channel) (outs : List Bool) where
  pub record AreFound (xs : List Access) (n : ℕ) (rs : List Reply) : Type 0 where
    pub replies : rs ≡ replies_found channels xs (flags_by xs (drop n outs))
    pub enough : queries_in xs ≤ length outs - n
    pub there : values_now channels xs (flags_by xs (drop n outs)) ≡ true

  pub are_found : (xs : List Access) (n : ℕ) (rs : List Reply) → replies_from outs (value_now channels) n xs ≡ Some rs → AreFound xs n rs
  are_found [] n rs e = record { replies = sym (some_is [] rs e); enough = omega arith; there = refl }
  are_found (a ∷ xs) n rs e =
      let (first, (rest, (first_is, (rest_is, is)))) = first_parts (reply_now a.kind (slice_get outs n) (value_now channels a))
      (replies_from outs (value_now channels) (told_by a.kind n) xs) rs e in
      let f = are_found xs (told_by a.kind n) rest rest_is in
      let y = reply_is_there a.kind (slice_get outs n) (value_now channels a) first first_is in
      record {
        replies = is ∙ (ap₂ (λ (q : Reply) (qs : List Reply). q ∷ qs)
            (y.is ∙ ap (reply_by a.kind (flag_now a.kind (slice_get outs n)))
            (unwrap_or-slice_get (values_at channels a.channel) (a.ordinal - 1) 0)) f.replies
            ∙ ap (λ (bs : List Bool). replies_found channels (a ∷ xs) bs) (sym (flags_from a xs outs n)));
        enough = rw (queries_cons a xs) (count (is_blocking a.kind) f.enough y.outcome);
        there = rw (flags_from a xs outs n) (and_from _ _ (value_there y.value) f.there);
      }
    where
      count : (b : Bool) → queries_in xs ≤ length outs - cond b n (suc n) → (b ≡ false → is_some (slice_get outs n) ≡ true)
          → cond b 0 1 + queries_in xs ≤ length outs - n
      count true l f = omega arith
      count false l f = let less = ltb-true n (length outs) (sym (some_there true outs n) ∙ f refl) in omega arith

      value_there : (needs a.kind (flag_now a.kind (slice_get outs n)) ≡ true → is_some (value_now channels a) ≡ true)
          → (not (pops_now (seen a) (flag_now a.kind (slice_get outs n))) || ltb (a.ordinal - 1) (length (values_at channels a.channel)))
          ≡ true
      value_there f = let there = some_there 0 (values_at channels a.channel) (a.ordinal - 1) in grind arith

  pub not_found : (xs : List Access) (n : ℕ) → replies_from outs (value_now channels) n xs ≡ None → queries_in xs ≤ length outs - n
      → values_now channels xs (flags_by xs (drop n outs)) ≡ true → ⊥
  not_found [] n e l t = cc
  not_found (a ∷ xs) n e l t =
      let t' = rw (flags_from a xs outs n) at t in
      let (mine, rest) = and_parts (not (pops_now (seen a) (flag_now a.kind (slice_get outs n))) || ltb (a.ordinal - 1)
      (length (values_at channels a.channel))) (values_now channels xs (flags_by xs (drop (told_by a.kind n) outs))) t' in
      let l' = rw (queries_cons a xs) at l in
      elim (put_none (reply_now a.kind (slice_get outs n) (value_now channels a))
      (replies_from outs (value_now channels) (told_by a.kind n) xs) e) [
        | inl q ↦ no_reply a.kind (slice_get outs n) (value_now channels a) q (λ b. outcome (rw b at l')) (λ k. value k mine)
        | inr q ↦ not_found xs (told_by a.kind n) q (fewer (is_blocking a.kind) l') rest
      ]
    where
      outcome : 1 + queries_in xs ≤ length outs - n → is_some (slice_get outs n) ≡ true
      outcome l = some_there true outs n ∙ lt-ltb n (length outs) (omega arith)

      fewer : (b : Bool) → cond b 0 1 + queries_in xs ≤ length outs - n → queries_in xs ≤ length outs - cond b n (suc n)
      fewer true l = omega arith
      fewer false l = omega arith

      value : needs a.kind (flag_now a.kind (slice_get outs n)) ≡ true → (not (pops_now (seen a) (flag_now a.kind (slice_get outs n)))
          || ltb (a.ordinal - 1) (length (values_at channels a.channel))) ≡ true → is_some (value_now channels a) ≡ true
      value k m = let there = some_there 0 (values_at channels a.channel) (a.ordinal - 1) in grind arith
