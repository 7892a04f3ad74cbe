-- The first of a list that is made item by item.
use Rattle.std.proofs.Common.{◌≡◌, ℕ, suc, ◌+◌, ◌<◌, List, [], ◌∷◌, ◌++◌, length, map, drop, get_or, Option, Some, None, Bool, true, false}
use Rattle.std.proofs.Common.{cond, refl, ◌∙◌, add-one, drop-cons}
use Rattle.std.specs.{List.filter, List.flat_map, List.find, List.enumerate_from, Option.option_or, Option.option_map}
use Rattle.serial_order.specs.{Timed, Block, Order, Used, head, numbers_where, writes_late, lates_of, is_wide, things_of, wides_of}
use Rattle.serial_order.specs.{faults_by, declared.order.Order.TheVariants.Late, declared.order.Order.TheVariants.Wide}
use Rattle.flow_design.specs.{declared.design.Module.Module, declared.design.BlockKind.TheVariants.Loop}

-- none passes before number n
abbrev pub NoneBefore : (Timed → Bool) → List Timed → ℕ → Type 0
NoneBefore test ts n = head (numbers_where test ts) ≡ head (map (λ t. t.0) (filter (λ t. test t.1) (enumerate_from n (drop n ts))))

-- ---- the first of what the blocks have

-- nothing comes of the blocks before number n
abbrev pub Nothing : (ℕ × Block → List Order) → List Block → ℕ → Type 0
Nothing of bs n = head (flat_map of (enumerate_from 0 bs)) ≡ head (flat_map of (enumerate_from n (drop n bs)))

head-append : {A : Type 0} (xs ys : List A) → head (xs ++ ys) ≡ option_or (head xs) (head ys)
head-append [] ys = refl
head-append (x ∷ xs) ys = refl

split_here : (of : ℕ × Block → List Order) (bs : List Block) (n : ℕ) (b : Block) → n < length bs → b ≡ get_or bs n b
    → Nothing of bs n
    → head (flat_map of (enumerate_from 0 bs))
    ≡ option_or (head (of (n, b))) (head (flat_map of (enumerate_from (n + 1) (drop (n + 1) bs))))
split_here of bs n b l at before =
    before ∙ rw (drop-cons bs n b l, ← at, add-one) (head-append (of (n, b)) (flat_map of (enumerate_from (suc n) (drop (suc n) bs))))

-- ---- the first fault of a loop

pub head-filter : {A : Type 0} (test : A → Bool) (xs : List A) → head (filter test xs) ≡ find test xs
head-filter test [] = refl
head-filter test (x ∷ xs) = by (test x) (head-filter test xs)
  where
    by : (t : Bool) → head (filter test xs) ≡ find test xs
        → head (cond t (x ∷ filter test xs) (filter test xs)) ≡ cond t (Some x) (find test xs)
    by true rest = refl
    by false rest = rest

head-map : {A B : Type 0} (f : A → B) (xs : List A) → head (map f xs) ≡ option_map f (head xs)
head-map f [] = refl
head-map f (x ∷ xs) = refl

pub head-loop : (channels : ℕ) (m : Module) (number ii again : ℕ) (ops : List Timed)
    → head (faults_by channels m number ops (Loop ii again))
    ≡ option_or (option_map (Late number) (head (numbers_where (writes_late ii again) ops)))
    (option_map (Wide number) (find (is_wide ii ops) (things_of channels m)))
head-loop channels m number ii again ops =
    head-append (lates_of number ii again ops) (wides_of channels m number ii ops)
    ∙ rw (
      head-map (Late number) (numbers_where (writes_late ii again) ops),
      head-map (Wide number) (filter (is_wide ii ops) (things_of channels m)),
      head-filter (is_wide ii ops) (things_of channels m),
    ) refl

pub loop_late : (channels : ℕ) (m : Module) (number ii again : ℕ) (ops : List Timed) (op : ℕ)
    → head (numbers_where (writes_late ii again) ops) ≡ Some op
    → head (faults_by channels m number ops (Loop ii again)) ≡ Some (Late number op)
loop_late channels m number ii again ops op e = head-loop channels m number ii again ops ∙ rw e refl

pub loop_wide : (channels : ℕ) (m : Module) (number ii again : ℕ) (ops : List Timed) (o : Option Used)
    → head (numbers_where (writes_late ii again) ops) ≡ None → find (is_wide ii ops) (things_of channels m) ≡ o
    → head (faults_by channels m number ops (Loop ii again)) ≡ option_map (Wide number) o
loop_wide channels m number ii again ops o e f = head-loop channels m number ii again ops ∙ rw (e, f) refl
