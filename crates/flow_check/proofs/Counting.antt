-- What stands before a statement, counted statement by statement.
use Rattle.std.proofs.Common.{◌≡◌, ℕ, suc, ◌+◌, ◌<◌, ◌≤◌, List, [], ◌∷◌, length, take, drop, get_or, Option, None, Some, option_map, Bool}
use Rattle.std.proofs.Common.{false, cond, refl, sym, ap, ◌∙◌, arith, add-one}
use Rattle.std.proofs.{Math.Seq.take-suc, Math.Seq.drop-cons, lemmas.List.reverse-append}
use Rattle.std.proofs.lemmas.List.Sums.{take_while-cons, sum_by-cons}
use Rattle.std.specs.Prelude.{reverse}
use Rattle.flow_check.specs.{Statement, is_no_module, is_no_block, is_operation, in_body, Item, CountsBefore, place_where, counts}
use Rattle.flow_check.specs.{counts_more, item_after, items_after, items_of, is_item}

-- ---- one statement more

pub counted : (earlier : List Statement) (st : Statement) → counts (st ∷ earlier) ≡ counts_more (counts earlier) st
counted earlier st =
    let own = take_while-cons is_no_module st earlier in
    let body = take_while-cons is_no_block st earlier in
    let more = sum_by-cons (λ t. cond (is_operation t) 1 0) st (in_body earlier) in
    grind arith

-- ---- each count is at most that of the statements

pub record IsFew (before : CountsBefore) (most : ℕ) : Type 0 where
  pub channels : before.channels ≤ most
  pub modules : before.modules ≤ most
  pub blocks : before.blocks ≤ most
  pub operations : before.operations ≤ most

few_more : (before : CountsBefore) (most : ℕ) (st : Statement) → IsFew before most → IsFew (counts_more before st) (most + 1)
few_more before most st few =
    record { channels = grind arith; modules = grind arith; blocks = grind arith; operations = grind arith }

-- ---- the search for an item

-- none of the statements so far stands for the item
pub record IsSought (statements : List Statement) (item : Item) (at : ℕ) (before : CountsBefore) : Type 0 where
  pub few : IsFew before at
  pub counts : before ≡ counts (reverse (take at statements))
  pub rest : place_where (is_item item) (items_of statements)
      ≡ option_map (λ k. at + k) (place_where (is_item item) (items_after (reverse (take at statements)) (drop at statements)))

module _ (statements : List Statement) (item : Item) (at : ℕ) (before : CountsBefore) (d : Statement) (there : at < length statements)
    (sought : IsSought statements item at before) where
  abbrev pub earlier : List Statement
  earlier = reverse (take at statements)

  abbrev pub st : Statement
  st = get_or statements at d

  one_more : reverse (take (at + 1) statements) ≡ st ∷ earlier
  one_more = ap (λ (n : ℕ). reverse (take n statements)) (add-one at) ∙ ap reverse (take-suc statements at d there)
      ∙ reverse-append (take at statements) (st ∷ [])

  opened : place_where (is_item item) (items_after earlier (drop at statements))
      ≡ cond (is_item item (item_after before st)) (Some 0)
      (option_map (λ k. k + 1) (place_where (is_item item) (items_after (reverse (take (at + 1) statements)) (drop (at + 1) statements))))
  opened =
      let later : List Statement → List Statement → Option ℕ
      = λ e r. option_map (λ k. k + 1) (place_where (is_item item) (items_after e r)) in
      ap (λ (l : List Statement). place_where (is_item item) (items_after earlier l)) (drop-cons statements at d there)
      ∙ ap (λ (k : CountsBefore). cond (is_item item (item_after k st)) (Some 0) (later (st ∷ earlier) (drop (suc at) statements)))
      (sym sought.counts)
      ∙ ap (λ (e : List Statement). cond (is_item item (item_after before st)) (Some 0) (later e (drop (suc at) statements)))
      (sym one_more)
      ∙ ap (λ (n : ℕ). cond (is_item item (item_after before st)) (Some 0)
      (later (reverse (take (at + 1) statements)) (drop n statements)))
      (sym (add-one at))

  -- it does not
  pub sought_more : is_item item (item_after before st) ≡ false → IsSought statements item (at + 1) (counts_more before st)
  sought_more h = record {
    few = few_more before at st sought.few;
    counts = ap (λ (k : CountsBefore). counts_more k st) sought.counts ∙ sym (counted earlier st) ∙ ap counts (sym one_more);
    rest = sought.rest ∙ ap (option_map (λ k. at + k)) (opened
        ∙ ap (λ (b : Bool). cond b (Some 0)
        (option_map (λ k. k + 1) (place_where (is_item item)
        (items_after (reverse (take (at + 1) statements)) (drop (at + 1) statements))))) h)
        ∙ option_next (place_where (is_item item) (items_after (reverse (take (at + 1) statements)) (drop (at + 1) statements)));
  }
    where
      option_next : (o : Option ℕ) → option_map (λ k. at + k) (option_map (λ k. k + 1) o) ≡ option_map (λ k. (at + 1) + k) o
      option_next None = refl
      option_next (Some k) = ap Some (omega arith)
