-- Plans with a query, and plans without one.
use Rattle.std.proofs.Common.{◌≡◌, sym, ◌∙◌, Bool, false, true≢false, cond, ap, ℕ, List, get_or}
use Rattle.std.proofs.lemmas.Bool.{false_from_ne_true, true_from_ne_false}
use Rattle.std.proofs.lemmas.List.Folds.{list_any_at, list_any_none}
use Rattle.std.specs.{Prelude.All, List.list_any}
use Rattle.whole_answer.specs.{Block, Plan, is_query, AsksNothing, has_query_operation, fewest_bits, least_told, not_taken}
use Rattle.flow_design.specs.declared.design.Module.{Module}

-- what holds of no element
all_false : {X : Type 0} (p : X → Bool) (xs : List X) → list_any p xs ≡ false → All (λ x. p x ≡ false) xs
all_false p xs none i d l = false_from_ne_true (p (get_or xs i d)) (λ here. true≢false (sym (list_any_at p xs i d l here) ∙ none))

abbrev block_asks : Block → Bool
block_asks b = list_any (λ t. is_query t.op) b.ops

abbrev module_asks : Module → Bool
module_asks m = list_any block_asks m.blocks

asks_nothing : (p : Plan) → has_query_operation p.design ≡ false → AsksNothing p
unfolding has_query_operation
asks_nothing p none i m l j b k =
    all_false (λ t. is_query t.op) _ (all_false block_asks _ (all_false module_asks p.design.modules none i m l) j b k)

has_none : (p : Plan) → AsksNothing p → has_query_operation p.design ≡ false
unfolding has_query_operation
has_none p quiet =
    list_any_none module_asks p.design.modules (λ i m l. list_any_none block_asks _ (λ j b k.
    list_any_none (λ t. is_query t.op) _ (quiet i m l j b k)))

module _ (slack : ℕ) (p : Plan) where
  -- a plan without a query is answered
  pub answered : AsksNothing p → fewest_bits slack p ≡ least_told slack p
  unfolding least_told
  answered quiet = sym (ap (λ (b : Bool). cond b (not_taken 22) (fewest_bits slack p)) (has_none p quiet))

  -- a plan with one is refused
  pub refused : (AsksNothing p → ⊥) → not_taken 22 ≡ least_told slack p
  unfolding least_told
  refused asks =
      sym (ap (λ (b : Bool). cond b (not_taken 22) (fewest_bits slack p))
      (true_from_ne_false (has_query_operation p.design) (λ none. asks (asks_nothing p none))))
