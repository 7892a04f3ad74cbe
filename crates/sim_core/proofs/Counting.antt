-- What marks take, counted port by port.
use Rattle.std.proofs.Common.{◌≡◌, refl, sym, ap, ◌∙◌, ℕ, zero, suc, ◌+◌, ◌<◌, ◌≤◌, inl, inr, cond, List, [], ◌∷◌, map, take, drop, length}
use Rattle.std.proofs.Common.{get_or, replicate, arith}
use Rattle.std.proofs.{lemmas.Bool.Decides.eqb_tells, lemmas.Option.slice_get-get_or, lemmas.List.Recursion.is_sum_by}
use Rattle.std.proofs.lemmas.List.Sums.{sum_by_more, sum_by-cons, sum_by-take-drop}
use Rattle.std.proofs.lemmas.List.{take_all, length-replicate}
use Rattle.std.specs.{Prelude.sum_by, List.Sorted.IsNonDecreasingBy}
use Rattle.sim_core.specs.{Access, Port, Side, Advance, MarkHead, AreParts, marks_in, takers, takes_at, seen, rank_of, taken_at}
use Rattle.sim_core.specs.{taken_by_marks, AreAdded, ArePortsInOrder, AreTakenByMarks, few_step}
use Rattle.module_interp.specs.declared.marks.MarkHead.TheVariants.{Few, Whole}
use Rattle.flow_design.specs.declared.state.Advance.TheVariants.{Step}

-- ports in order do not fall
pub rises : (ports : List Port) → ArePortsInOrder ports → IsNonDecreasingBy rank_of ports
rises ports order i j d l inside = elim (eqb_tells i j) [
  | inl e ↦ let same = e.1 in rw same (omega arith)
  | inr e ↦
      let other = e.1 in
      let less = order i j (get_or ports i d) (get_or ports j d) (omega arith) (slice_get-get_or ports i d (omega arith))
      (slice_get-get_or ports j d inside) in
      omega arith
]

-- ---- numbers of ports

pub added_more : {ports : List Port} {first then both : Port → ℕ} {xs ys zs : List ℕ} → AreAdded ports first xs ys
    → AreAdded ports then ys zs → ((port : Port) → both port ≡ first port + then port) → AreAdded ports both xs zs
added_more {ports} a b sum = record {
  count = b.count ∙ a.count;
  each = λ i port there. let x = a.each i port there in let y = b.each i port there in let z = sum port in omega arith;
}

-- ---- the accesses of a step

takers_sum : (side : Side) (c : ℕ) (xs : List Access)
    → takers side c (map seen xs) ≡ sum_by (λ (a : Access). cond (takes_at side c (seen a)) 1 0) xs
takers_sum side c xs =
    is_sum_by (λ (ys : List Access). takers side c (map seen ys)) (λ (a : Access). cond (takes_at side c (seen a)) 1 0) refl
    (λ a ys. refl) xs

pub takers_more : (side : Side) (c : ℕ) (xs : List Access) (i : ℕ) (d : Access) → i < length xs
    → takers side c (map seen (take (i + 1) xs))
    ≡ takers side c (map seen (take i xs)) + cond (takes_at side c (seen (get_or xs i d))) 1 0
takers_more side c xs i d l =
    let at = λ (a : Access). cond (takes_at side c (seen a)) 1 0 in
    takers_sum side c (take (i + 1) xs)
    ∙ (sum_by_more at xs i d l ∙ ap (λ (n : ℕ). n + at (get_or xs i d)) (sym (takers_sum side c (take i xs))))

takers_split : (side : Side) (c : ℕ) (n : ℕ) (xs : List Access)
    → takers side c (map seen (take n xs)) + takers side c (map seen (drop n xs)) ≡ takers side c (map seen xs)
takers_split side c n xs =
    let at = λ (a : Access). cond (takes_at side c (seen a)) 1 0 in
    rw (takers_sum side c xs, takers_sum side c (take n xs), takers_sum side c (drop n xs)) (sum_by-take-drop at xs n)

-- ---- marks

-- what marks take is what the accesses of their few steps take, and what the others take
taken_in_parts : (side : Side) (c : ℕ) (heads : List MarkHead) (accesses : List Access) (others : List Advance)
    → AreParts heads accesses others
    → taken_by_marks side c (marks_in heads accesses others) ≡ takers side c (map seen accesses) + taken_by_marks side c others
unfolding marks_in AreParts
taken_in_parts side c [] accesses others (none, no_others) = rw (none, no_others) refl
taken_in_parts side c (Few gap first count ∷ heads) accesses others (inside, (few, parts)) =
    let more = taken_in_parts side c heads (drop count accesses) others parts in
    let one = sum_by-cons (taken_at side c) (Step (few_step gap first count accesses)) (marks_in heads (drop count accesses) others) in
    let split = takers_split side c count accesses in
    omega arith
taken_in_parts side c (Whole ∷ heads) accesses [] parts = absurd parts
taken_in_parts side c (Whole ∷ heads) accesses (mark ∷ others) parts =
    let more = taken_in_parts side c heads accesses others parts in
    let one = sum_by-cons (taken_at side c) mark (marks_in heads accesses others) in
    let first = sum_by-cons (taken_at side c) mark others in
    omega arith

-- what the accesses of few steps take, and so many of the other marks
abbrev pub taken_first : List Access → List Advance → ℕ → Port → ℕ
taken_first accesses others n port =
    takers port.side port.channel (map seen accesses) + taken_by_marks port.side port.channel (take n others)

pub taken_more : {ports : List Port} (accesses : List Access) (others : List Advance) (i : ℕ) (mark : Advance) {zeros xs ys : List ℕ}
    → i < length others → mark ≡ get_or others i mark → AreAdded ports (taken_first accesses others i) zeros xs
    → AreAdded ports (λ (port : Port). taken_at port.side port.channel mark) xs ys
    → AreAdded ports (taken_first accesses others (i + 1)) zeros ys
taken_more {ports} accesses others i mark l is are more =
    added_more are more (λ port.
    let z = sum_by_more (taken_at port.side port.channel) others i mark l in
    let w = ap (taken_at port.side port.channel) is in
    omega arith)

no_count : (n k : ℕ) → let none : ℕ = 0 in get_or (replicate n none) k none ≡ none
no_count zero k = refl
no_count (suc n) zero = refl
no_count (suc n) (suc k) = no_count n k

pub taken_all : {ports : List Port} (heads : List MarkHead) (accesses : List Access) (others : List Advance) (n : ℕ) {zeros xs : List ℕ}
    → AreParts heads accesses others → length others ≤ n → zeros ≡ replicate (length ports) 0
    → AreAdded ports (taken_first accesses others n) zeros xs → AreTakenByMarks ports (marks_in heads accesses others) xs
taken_all {ports} heads accesses others n {zeros} parts l none are = record {
  count = are.count ∙ (ap (λ (ns : List ℕ). length ns) none ∙ length-replicate (length ports) 0);
  each = λ k port there.
      let x = are.each k port there in
      let zero = ap (λ (ns : List ℕ). get_or ns k 0) none ∙ no_count (length ports) k in
      let all = ap (taken_by_marks port.side port.channel) (take_all n others l) in
      let parts_are = taken_in_parts port.side port.channel heads accesses others parts in
      omega arith;
}
