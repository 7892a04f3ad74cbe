-- Lines that grow.
use Rattle.std.proofs.Common.{◌≡◌, ℕ, zero, suc, ◌+◌, ◌<◌, List, ◌∷◌, ◌++◌, refl, sym, ap, ap₂, ◌∙◌, arith, length, append_assoc}
use Rattle.std.specs.List.{flat_map, range_with_len}
use Rattle.path_text.specs.{Side, Design, Token, line, text_of_lines, module_name, channel_name, spend_lines, cross_lines, polled_lines}
use Rattle.path_text.specs.{lines_at, all_spend_lines, channel_lines}
use Rattle.flow_word.specs.declared.access.Side.TheVariants.{Pop, Push}
use Rattle.report_text.proofs.LineLemmas.{text-append}

-- two groups of lines
pub two_groups : (first text next : List ℕ) (xs ys : List (List Token)) → text ≡ first ++ text_of_lines xs
    → next ≡ text ++ text_of_lines ys → next ≡ first ++ text_of_lines (xs ++ ys)
two_groups first text next xs ys e r =
    r ∙ (ap (λ (t : List ℕ). t ++ text_of_lines ys) e
    ∙ (append_assoc first (text_of_lines xs) (text_of_lines ys) ∙ ap (λ (t : List ℕ). first ++ t) (sym (text-append xs ys))))

-- two lines and then two groups of lines
pub whole : (a b : List Token) (xs ys : List (List Token)) (s t u v : List ℕ) → s ≡ line a → t ≡ s ++ line b
    → u ≡ t ++ text_of_lines xs → v ≡ u ++ text_of_lines ys → v ≡ text_of_lines (a ∷ b ∷ xs ++ ys)
whole a b xs ys s t u v e f g h =
    two_groups t u v xs ys g h
    ∙ (ap (λ (l : List ℕ). l ++ text_of_lines (xs ++ ys)) (f ∙ ap (λ (l : List ℕ). l ++ line b) e)
    ∙ append_assoc (line a) (line b) (text_of_lines (xs ++ ys)))

-- ---- lines by equal numbers

flat_same : {X : Type 0} (f g : ℕ → List X) (a n : ℕ) → ((k : ℕ) → k < a + n → f k ≡ g k)
    → flat_map f (range_with_len a n) ≡ flat_map g (range_with_len a n)
flat_same {X} f g a zero h = refl
flat_same {X} f g a (suc n) h =
    ap₂ (λ (x y : List X). x ++ y) (h a (omega arith)) (flat_same f g (a + 1) n (λ k l. h k (omega arith)))

pub modules_same : (design : Design) (f g : ℕ → ℕ) → ((m : ℕ) → m < length design.modules → f m ≡ g m)
    → all_spend_lines design f ≡ all_spend_lines design g
modules_same design f g h =
    flat_same (λ m. spend_lines (module_name design m) (f m)) (λ m. spend_lines (module_name design m) (g m)) 0 (length design.modules)
    (λ k l. ap (spend_lines (module_name design k)) (h k (omega arith)))

pub channels_same : (design : Design) (f g : Side → ℕ → ℕ) (polls times waits waited : ℕ → ℕ)
    → ((k : ℕ) → k < length design.channels → f Pop k ≡ g Pop k) → ((k : ℕ) → k < length design.channels → f Push k ≡ g Push k)
    → ((k : ℕ) → k < length design.channels → polls k ≡ times k) → ((k : ℕ) → k < length design.channels → waits k ≡ waited k)
    → channel_lines design f polls waits ≡ channel_lines design g times waited
channels_same design f g polls times waits waited popped pushed polled waiting =
    flat_same (λ k. lines_at (channel_name design k) (λ side. f side k) (polls k) (waits k))
    (λ k. lines_at (channel_name design k) (λ side. g side k) (times k) (waited k)) 0 (length design.channels)
    (λ k l.
    let name = channel_name design k in
    ap₂ (λ (xs ys : List (List Token)). xs ++ ys)
    (ap₂ (λ (x y : ℕ). cross_lines Pop name x ++ cross_lines Push name y) (popped k (omega arith)) (pushed k (omega arith)))
    (ap₂ (polled_lines name) (polled k (omega arith)) (waiting k (omega arith))))
