-- Running flat code.
use Rattle.std.proofs.Common.{◌≡◌, refl, sym, ◌∙◌, ap, arith, ℕ, suc, ◌+◌, ◌<◌, ◌≤◌, List, [], ◌∷◌, ◌++◌, length, take, drop, get_or, set}
use Rattle.std.proofs.Common.{subst}
use Rattle.std.proofs.lemmas.List.{drop_more, take_more_set, length-append, get_or_append_left}
use Rattle.std.proofs.Math.Seq.{get_or-append_seam}
use Rattle.module_code.specs.{Argument, Instruction, argument_value, result_of, ran, IsArgumentSound, IsInstructionSound, AreSound}
use Rattle.module_code.specs.declared.flat.Argument.TheVariants.{Number, Var, VarNumber, VarVar, Result}

-- an instruction more
pub ran_more : (registers temps before : List ℕ) (i : Instruction) (is : List Instruction)
    → ran registers temps before (i ∷ is) ≡ ran registers temps (before ++ result_of registers temps before i ∷ []) is
unfolding ran
ran_more registers temps before i is = refl

pub sound_first : (places results : ℕ) (i : Instruction) (is : List Instruction)
    → AreSound places results (i ∷ is) → IsInstructionSound places results i
unfolding AreSound
sound_first places results i is sound = sound.0

pub sound_rest : (places results : ℕ) (i : Instruction) (is : List Instruction)
    → AreSound places results (i ∷ is) → AreSound places (results + 1) is
unfolding AreSound
sound_rest places results i is sound = sound.1

pub ran_none : (registers temps before : List ℕ) → ran registers temps before [] ≡ before
unfolding ran
ran_none registers temps before = refl

-- one more of a list's code, which the i-th instruction begins
pub left_more : (code : List Instruction) (at : ℕ) (d i : Instruction) → at < length code → get_or code at d ≡ i
    → drop at code ≡ i ∷ drop (at + 1) code
left_more code at d i within is = drop_more code at d within ∙ ap (λ (x : Instruction). x ∷ drop (at + 1) code) is

-- the results of one more instruction are there
pub rest_more : (registers temps scratch goal : List ℕ) (code : List Instruction) (at word : ℕ) (i : Instruction)
    → at < length scratch → drop at code ≡ i ∷ drop (at + 1) code → word ≡ result_of registers temps (take at scratch) i
    → ran registers temps (take at scratch) (drop at code) ≡ goal
    → ran registers temps (take (at + 1) (set scratch at word)) (drop (at + 1) code) ≡ goal
rest_more registers temps scratch goal code at word i within front is rest =
    ap (λ (rs : List ℕ). ran registers temps rs (drop (at + 1) code)) (take_more_set scratch at word within)
    ∙ (ap (λ (w : ℕ). ran registers temps (take at scratch ++ w ∷ []) (drop (at + 1) code)) is
    ∙ (sym (ran_more registers temps (take at scratch) i (drop (at + 1) code))
    ∙ (ap (λ (is : List Instruction). ran registers temps (take at scratch) is) (sym front) ∙ rest)))

pub sound_at : (places at : ℕ) (code : List Instruction) (i : Instruction) → drop at code ≡ i ∷ drop (at + 1) code
    → AreSound places at (drop at code) → IsInstructionSound places at i × AreSound places (at + 1) (drop (at + 1) code)
sound_at places at code i front sound =
    let all : AreSound places at (i ∷ drop (at + 1) code) = subst (λ (is : List Instruction). AreSound places at is) front sound in
    (sound_first places at i (drop (at + 1) code) all, sound_rest places at i (drop (at + 1) code) all)

-- ---- code after code

pub ran_append : (registers temps before : List ℕ) (a b : List Instruction)
    → ran registers temps before (a ++ b) ≡ ran registers temps (ran registers temps before a) b
unfolding ran
ran_append registers temps before [] b = refl
ran_append registers temps before (i ∷ is) b = ran_append registers temps (before ++ result_of registers temps before i ∷ []) is b

count_more : (before : List ℕ) (w n : ℕ) → length (before ++ w ∷ []) + n ≡ length before + suc n
count_more before w n =
    let one : length (before ++ w ∷ []) ≡ length before + 1 = length-append before (w ∷ []) in
    ap (λ (k : ℕ). k + n) one ∙ omega arith

pub ran_count : (registers temps before : List ℕ) (code : List Instruction)
    → length (ran registers temps before code) ≡ length before + length code
unfolding ran
ran_count registers temps before [] = omega arith
ran_count registers temps before (i ∷ is) =
    ran_count registers temps (before ++ result_of registers temps before i ∷ []) is
    ∙ count_more before (result_of registers temps before i) (length is)

-- the results so far stay
pub ran_keeps : (registers temps before : List ℕ) (code : List Instruction) (k : ℕ) → k < length before
    → get_or (ran registers temps before code) k 0 ≡ get_or before k 0
unfolding ran
ran_keeps registers temps before [] k within = refl
ran_keeps registers temps before (i ∷ is) k within =
    let w = result_of registers temps before i in
    let longer : length (before ++ w ∷ []) ≡ length before + 1 = length-append before (w ∷ []) in
    let still : k < length (before ++ w ∷ []) = subst (λ (n : ℕ). k < n) (sym longer) (omega arith) in
    ran_keeps registers temps (before ++ w ∷ []) is k still ∙ get_or_append_left before (w ∷ []) 0 k within

from_start : (registers temps : List ℕ) (code : List Instruction) → length (ran registers temps [] code) ≡ length code
from_start registers temps code = ran_count registers temps [] code ∙ omega arith

-- what an argument stands for stays where code goes on
pub stays : (registers temps : List ℕ) (places : ℕ) (code more after : List Instruction) (arg : Argument) → after ≡ code ++ more
    → IsArgumentSound places (length code) arg
    → argument_value registers temps (ran registers temps [] after) arg ≡ argument_value registers temps (ran registers temps [] code) arg
stays registers temps places code more after (Number n) is there = refl
stays registers temps places code more after (Var at) is there = refl
stays registers temps places code more after (VarNumber op at n) is there = refl
stays registers temps places code more after (VarVar op at other) is there = refl
stays registers temps places code more after (Result k) is there =
    ap (λ (c : List Instruction). get_or (ran registers temps [] c) k 0) is
    ∙ (ap (λ (rs : List ℕ). get_or rs k 0) (ran_append registers temps [] code more)
    ∙ ran_keeps registers temps (ran registers temps [] code) more k
    (subst (λ (n : ℕ). k < n) (sym (from_start registers temps code)) there))

-- the last instruction's result stands after all others
pub last_result : (registers temps : List ℕ) (code after : List Instruction) (i : Instruction) → after ≡ code ++ i ∷ []
    → argument_value registers temps (ran registers temps [] after) (Result (length code))
    ≡ result_of registers temps (ran registers temps [] code) i
last_result registers temps code after i is =
    let rs = ran registers temps [] code in
    let w = result_of registers temps rs i in
    ap (λ (c : List Instruction). get_or (ran registers temps [] c) (length code) 0) is
    ∙ (ap (λ (x : List ℕ). get_or x (length code) 0)
    (ran_append registers temps [] code (i ∷ []) ∙ (ran_more registers temps rs i [] ∙ ran_none registers temps (rs ++ w ∷ [])))
    ∙ (ap (λ (n : ℕ). get_or (rs ++ w ∷ []) n 0) (sym (from_start registers temps code)) ∙ get_or-append_seam rs w [] 0))

-- ---- what is looked up is there

pub argument_later : (places n m : ℕ) (arg : Argument) → n ≤ m → IsArgumentSound places n arg → IsArgumentSound places m arg
argument_later places n m (Number v) most there = tt
argument_later places n m (Var at) most there = there
argument_later places n m (VarNumber op at v) most there = there
argument_later places n m (VarVar op at other) most there = there
argument_later places n m (Result k) most there = omega arith

same_place : (places n m : ℕ) (i : Instruction) → n ≡ m → IsInstructionSound places n i → IsInstructionSound places m i
same_place places n m i same there = subst (λ (k : ℕ). IsInstructionSound places k i) same there

sound_append : (places n : ℕ) (code : List Instruction) (i : Instruction) → AreSound places n code
    → IsInstructionSound places (n + length code) i → AreSound places n (code ++ i ∷ [])
unfolding AreSound
sound_append places n [] i all last = (same_place places (n + length {A = Instruction} []) n i (omega arith) last, tt)
sound_append places n (j ∷ js) i all last =
    (all.0, sound_append places (n + 1) js i all.1 (same_place places (n + length (j ∷ js)) (n + 1 + length js) i (omega arith) last))

pub sound_added : (places : ℕ) (code after : List Instruction) (i : Instruction) → after ≡ code ++ i ∷ []
    → AreSound places 0 code → IsInstructionSound places (length code) i → AreSound places 0 after
sound_added places code after i is all last =
    subst (λ (c : List Instruction). AreSound places 0 c) (sym is) (sound_append places 0 code i all (same_place places (length code) (0
    + length code) i (omega arith) last))

pub longer : (code after : List Instruction) (i : Instruction) → after ≡ code ++ i ∷ [] → length code < length after
longer code after i is =
    let count : length after ≡ length code + 1 = ap length is ∙ length-append code (i ∷ []) in
    omega arith

pub no_shorter : (code more after : List Instruction) → after ≡ code ++ more → length code ≤ length after
no_shorter code more after is =
    let count : length after ≡ length code + length more = ap length is ∙ length-append code more in
    omega arith
