-- The statements of the session one by one: what their numbers and expressions keep.
use Rattle.std.proofs.Common.{◌≡◌, ℕ, zero, suc, ◌+◌, ◌-◌, ◌*◌, ◌<◌, ◌≤◌, ◌^◌, List, [], ◌∷◌, ◌++◌, length, None, Bool, true, refl, ◌∙◌, ap}
use Rattle.std.proofs.Common.{ap₂, arith, length-append, subst}
use Rattle.std.proofs.{lemmas.Bool.and_from, lemmas.Bool.and_parts, lemmas.Bool.le-leb, lemmas.List.Folds.list_all-append}
use Rattle.std.specs.{Prelude.max, Prelude.nat_le, Prelude.codes, List.AllByRecursion, List.list_all}
use Rattle.flow_design.specs.declared.limits.TheConstants.{BLOCK_CLOCKS, EXPRESSION_DEPTH, EXPRESSION_NODES, FIFO_DEPTH, STANDARD}
use Rattle.flow_design.specs.{declared.limits.Scale.TheVariants.Standard, declared.expr.Op.TheVariants.Set}
use Rattle.flow_design.specs.{declared.expr.Op.TheVariants.Write, declared.expr.BinOp.TheVariants.Add, declared.expr.BinOp.TheVariants.LtU}
use Rattle.flow_design.specs.declared.session.Statement.TheVariants.{Flow, Source, Sink, Block, Loop, At, Input, End}
use Rattle.flow_design.specs.declared.expr.Expr.TheVariants.{Number, Var, Binary}
use Rattle.flow_gen.specs.{Statement, Expr, BinOp, nodes, depth, layer_nodes, layer_depth, Name, binary_word, is_in_range, is_sized}
use Rattle.flow_gen.specs.{is_small, has_room, Part, plain, parts, expr_parts, drawn, drawn_from, each, fifo_after, first_clock, head_of}
use Rattle.flow_gen.specs.{module_statements, second_clock, generated_session, state_after, generated_values, Drawn}
use Rattle.flow_grammar.specs.Parts.{Word, Use, AVariable}
use Rattle.flow_grammar.proofs.SpellingLaws.{parts_Number, parts_Var, parts_Binary}
use Rattle.flow_grammar.proofs.Trees.{folded-Number, folded-Var, folded-Binary}
use Rattle.flow_gen.proofs.Passing.{has_place, most_parts, seen, variables}

-- ---- expressions

-- an expression over these variables: what holds of short words, of numbers and of the variables holds of its parts; and its size
record IsFine (e : Expr Name) (size height : ℕ) : Type 0 where
  covers : (q : Part → Bool) → ((w : List ℕ) → nat_le (length w) 64 ≡ true → q (Word w) ≡ true)
      → ((n : ℕ) → n < 2 ^ 64 → q (plain n) ≡ true)
      → list_all q variables ≡ true → list_all q (expr_parts e) ≡ true
  size_is : nodes e ≡ size
  height_is : depth e ≡ height
  count_is : length (expr_parts e) ≡ size

number : (n : ℕ) → n < 2 ^ 64 → IsFine (Number n) 1 1
unfolding nodes depth
number n below = record {
  covers = λ q w p v. let here = p n below in rw (parts_Number n, here) refl;
  size_is = folded-Number Name ℕ layer_nodes n;
  height_is = folded-Number Name ℕ layer_depth n;
  count_is = ap length (parts_Number n);
}

variable : (x : Name) → ((q : Part → Bool) → list_all q variables ≡ true → q (Use AVariable x) ≡ true) → IsFine (Var x) 1 1
unfolding nodes depth
variable x is_one = record {
  covers = λ q w p v. let here = is_one q v in rw (parts_Var x, here) refl;
  size_is = folded-Var Name ℕ layer_nodes x;
  height_is = folded-Var Name ℕ layer_depth x;
  count_is = ap length (parts_Var x);
}

binary : (o : BinOp) (a b : Expr Name) (s t h k : ℕ) → nat_le (length (binary_word o)) 64 ≡ true → IsFine a s h → IsFine b t k
    → IsFine (Binary o a b) (1 + (s + t)) (1 + max h k)
unfolding nodes depth
binary o a b s t h k short f g = record {
  covers = λ q w p v.
      let word = w (binary_word o) short in
      let one = f.covers q w p v in
      let two = g.covers q w p v in
      rw (parts_Binary o a b, word, list_all-append q (expr_parts a) (expr_parts b), one, two) refl;
  size_is = folded-Binary Name ℕ layer_nodes o a b ∙ ap₂ (λ (m n : ℕ). 1 + (m + n)) f.size_is g.size_is;
  height_is = folded-Binary Name ℕ layer_depth o a b ∙ ap₂ (λ (m n : ℕ). 1 + max m n) f.height_is g.height_is;
  count_is = ap length (parts_Binary o a b) ∙ omega (arith, length-append (expr_parts a) (expr_parts b), f.count_is, g.count_is);
}

of_n : IsFine (Var (codes "n")) 1 1
of_n = variable (codes "n") (λ q v. (and_parts _ _ v).0)

of_x : IsFine (Var (codes "x")) 1 1
of_x = variable (codes "x") (λ q v. (and_parts _ _ (and_parts _ _ v).1).0)

of_e : IsFine (Var (codes "e")) 1 1
of_e = variable (codes "e") (λ q v. (and_parts _ _ (and_parts _ _ (and_parts _ _ v).1).1).0)

in_word : (n : ℕ) → n < 2 ^ 64 → is_in_range (plain n) ≡ true
in_word n below = and_from _ _ (le-leb 0 n (omega arith)) (le-leb n (2 ^ 64 - 1) (omega arith))

-- ---- statements

-- a loop whose iteration takes at least two clocks, and an operation in the first two
abbrev pub IsPaced : Statement → Type 0
IsPaced (Loop n ii len again) = (2 ≤ len) × (ii ≤ len) × (len ≤ STANDARD.live_iterations * ii)
IsPaced (Block n len) = 2 ≤ len
IsPaced (At off guard o) = off < 2
IsPaced s = Unit {0}

-- what a statement keeps, whatever stands before it
pub record Fits (s : Statement) : Type 0 where
  pub covers : (q : Part → Bool) → ((w : List ℕ) → nat_le (length w) 64 ≡ true → q (Word w) ≡ true)
      → ((n : ℕ) → n < 2 ^ 64 → q (plain n) ≡ true)
      → list_all q (seen s) ≡ true → list_all q (parts s) ≡ true
  pub room : (earlier : List Statement) → has_place earlier s ≡ true → has_room Standard earlier s ≡ true
  pub ranges : list_all is_in_range (parts s) ≡ true
  pub sized : is_sized Standard s ≡ true
  pub few : length (parts s) ≤ most_parts s
  pub paced : IsPaced s

whole : (s : Statement) → seen s ≡ parts s → ((earlier : List Statement) → has_place earlier s ≡ true → has_room Standard earlier s ≡ true)
    → list_all is_in_range (parts s) ≡ true → is_sized Standard s ≡ true → length (parts s) ≤ most_parts s → IsPaced s → Fits s
whole s same room ranges sized few paced = record {
  covers = λ q w p h. subst (λ (ps : List Part). list_all q ps ≡ true) same h;
  room = room;
  ranges = ranges;
  sized = sized;
  few = few;
  paced = paced;
}

-- an expression that is within the limits, and whose numbers are
is_small_by : (e : Expr Name) (s h : ℕ) → IsFine e s h → s ≤ 5 → h ≤ 5 → is_small e ≡ true
is_small_by e s h f a b = and_from _ _ (le-leb (nodes e) EXPRESSION_NODES (omega (arith, f.size_is)))
    (le-leb (depth e) EXPRESSION_DEPTH (omega (arith, f.height_is)))

setting : (r : Name) (e : Expr Name) (s h : ℕ) → IsFine e s h → s ≤ 5 → h ≤ 5 → Fits (At 0 None (Set r e))
setting r e s h f a b = record {
  covers = λ q w p v.
      let both = and_parts _ _ v in
      and_from _ _ (w _ refl) (and_from _ _ (p 0 (omega arith)) (and_from _ _ (w _ refl)
      (and_from _ _ both.0 (f.covers q w p both.1))));
  room = λ earlier place. and_from _ _ place (is_small_by e s h f a b);
  ranges = f.covers is_in_range (λ w short. refl) in_word refl;
  sized = refl;
  few = omega (arith, f.count_is);
  paced = omega arith;
}

writing : (output : Name) (e : Expr Name) (s h : ℕ) → IsFine e s h → s ≤ 5 → h ≤ 5 → Fits (At 1 None (Write output e))
writing output e s h f a b = record {
  covers = λ q w p v.
      let both = and_parts _ _ v in
      and_from _ _ (w _ refl) (and_from _ _ (p 1 (omega arith)) (and_from _ _ (w _ refl)
      (and_from _ _ both.0 (f.covers q w p both.1))));
  room = λ earlier place. and_from _ _ place (is_small_by e s h f a b);
  ranges = f.covers is_in_range (λ w short. refl) in_word refl;
  sized = refl;
  few = omega (arith, f.count_is);
  paced = omega arith;
}

-- ---- the session

-- a draw within its ranges
record IsDrawn (d : Drawn) : Type 0 where
  least : 1 ≤ d.interval
  most : d.interval ≤ 3
  small : d.addend < 256
  some_depth : 1 ≤ d.depth
  few : d.depth ≤ 4

from_state : (state : ℕ) → IsDrawn (drawn_from state)
from_state state = record { least = omega arith; most = omega arith; small = omega arith; some_depth = omega arith; few = omega arith }

abbrev pub AllFit : List Statement → Type 0
AllFit ss = AllByRecursion Fits ss

both_fit : (xs ys : List Statement) → AllFit xs → AllFit ys → AllFit (xs ++ ys)
both_fit [] ys f g = g
both_fit (x ∷ xs) ys f g = (f.0, both_fit xs ys f.1 g)

each_fits : (statements : ℕ → Drawn → List Statement) (draws : ℕ → Drawn) (n : ℕ) → ((k : ℕ) → AllFit (statements k (draws k)))
    → AllFit (each statements draws n)
unfolding each
each_fits statements draws zero f = tt
each_fits statements draws (suc n) f = both_fit (each statements draws n) _ (each_fits statements draws n f) (f n)

fifo_fits : (k : ℕ) (d : Drawn) → IsDrawn d → AllFit (fifo_after k d)
fifo_fits k d drawn =
    let low = le-leb 1 d.depth drawn.some_depth in
    let high = le-leb d.depth FIFO_DEPTH (omega (arith, drawn.few)) in
    let sized = le-leb d.depth STANDARD.fifo_depth (omega (arith, drawn.few)) in
    (whole _ refl (λ e h. h) (and_from _ _ (and_from _ _ low high) refl) sized (omega arith) tt, tt)

module_fits : (modules k : ℕ) (d : Drawn) → IsDrawn d → AllFit (module_statements modules k d)
unfolding head_of first_clock second_clock
module_fits modules k d drawn =
    let at_least = le-leb 1 d.interval drawn.least in
    let at_most = le-leb d.interval BLOCK_CLOCKS (omega (arith, drawn.most)) in
    let longer = and_from _ _ (le-leb 1 (d.interval + 1) (omega arith))
    (le-leb (d.interval + 1) BLOCK_CLOCKS (omega (arith, drawn.most))) in
    let sized = and_from _ _ at_most (le-leb (d.interval + 1) BLOCK_CLOCKS (omega (arith, drawn.most))) in
    let counted = binary Add (Var (codes "n")) (Number 1) 1 1 1 1 refl of_n (number 1 (omega arith)) in
    let compared = binary LtU (Var (codes "n")) (Number 999) 1 1 1 1 refl of_n (number 999 (omega arith)) in
    let added = binary Add (Number d.addend) (Var (codes "e")) 1 1 1 1 refl (number d.addend (omega (arith, drawn.small))) of_e in (
      whole _ refl (λ e h. h) refl refl (omega arith) tt,
      (
        whole _ refl (λ e h. h) refl refl (omega arith) tt,
        (
          whole _ refl (λ e h. h) refl refl (omega arith) tt,
          (
            whole _ refl (λ e h. h) refl refl (omega arith) tt,
            (
              whole _ refl (λ e h. h) refl refl (omega arith) tt,
              (
                whole _ refl (λ e h. h) (and_from _ _ (and_from _ _ at_least at_most) (and_from _ _ longer refl)) sized (omega arith)
                    (omega (arith, drawn.least), omega arith, omega (arith, drawn.least)),
                (
                  whole _ refl (λ e h. and_from _ _ h refl) refl refl (omega arith) (omega arith),
                  (
                    whole _ refl (λ e h. and_from _ _ h refl) refl refl (omega arith) (omega arith),
                    (
                      setting _ _ 3 2 counted (omega arith) (omega arith),
                      (
                        setting _ _ 3 2 compared (omega arith) (omega arith),
                        (
                          writing _ _ 5 3 (binary Add (Var (codes "x")) _ 1 3 1 2 refl of_x added) (omega arith) (omega arith),
                          (whole _ refl (λ e h. h) refl refl (omega arith) tt, tt),
                        ),
                      ),
                    ),
                  ),
                ),
              ),
            ),
          ),
        ),
      ),
    )

pub session_fits : (seed modules : ℕ) → AllFit (generated_session (drawn seed) modules)
unfolding generated_values
session_fits seed modules =
    let good : (k : ℕ) → IsDrawn (drawn seed k) = λ k. from_state (state_after seed (3 * k)) in
    both_fit (Flow 1 ∷ Source (codes "a") 32 ∷ Sink (codes "y") 32 ∷ []) _ (
      whole _ refl (λ e h. h) refl refl (omega arith) tt,
      (
        whole _ refl (λ e h. h) refl refl (omega arith) tt,
        (whole _ refl (λ e h. h) refl refl (omega arith) tt, tt),
      ),
    )
    (both_fit (each fifo_after (drawn seed) (modules - 1)) _
    (each_fits fifo_after (drawn seed) (modules - 1) (λ k. fifo_fits k (drawn seed k) (good k)))
    (both_fit (each (module_statements modules) (drawn seed) modules) (Input (codes "a") generated_values ∷ End ∷ [])
    (each_fits (module_statements modules) (drawn seed) modules (λ k. module_fits modules k (drawn seed k) (good k)))
    (whole _ refl (λ e h. h) refl refl (omega arith) tt, (whole _ refl (λ e h. h) refl refl (omega arith) tt, tt))))
