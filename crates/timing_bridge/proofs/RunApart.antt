-- What is done at one module permits no Run of another that shares no channel with it.
use Rattle.std.proofs.Common.{◌≡◌, refl, sym, ap, ap₂, ◌∙◌, ℕ, zero, suc, Bool, true, false, not, ◌&&◌, ◌||◌, List, [], ◌∷◌, length, ◌++◌}
use Rattle.std.proofs.Common.{subst}
use Rattle.std.specs.Prelude.{ltb}
use Rattle.timing_bridge.specs.{Side, other_side, same_side, Access, Design, Each, takes_in, values_in, bare_replies, core_accesses}
use Rattle.timing_bridge.specs.{core_pushed, core_tally, core_values, all_below, values_there, MayRun, ActsAll, runs, after_run}
use Rattle.timing_bridge.specs.{after_assign, after_answer, emit_over, AreApart}
use Rattle.flow_word.specs.declared.access.Side.TheVariants.{Pop, Push}
use Rattle.event_timing.specs.Core.{Core}
use Rattle.event_timing.proofs.Assigning.{put_other, put_at_other}
use Rattle.event_timing.proofs.{Fronts.tally_same, Fronts.pushed_same, Running.emit, Running.run_cases}

-- ---- pops among so many elements

-- an access that is no pop asks for no element
one_below : (side : Side) (takes b : Bool) (t u r s : ℕ) → t ≡ u → (side ≡ Pop → r ≡ s)
    → (not (takes && (same_side side Pop && b)) || ltb t r) ≡ (not (takes && (same_side side Pop && b)) || ltb u s)
one_below Pop takes b t u r s e f = ap₂ (λ p q. not (takes && (same_side Pop Pop && b)) || ltb p q) e (f refl)
one_below Push true b t u r s e f = refl
one_below Push false b t u r s e f = refl

below_same : (t u r s : ℕ → ℕ) (xs : List Access) (bs : List Bool) → Each (λ a. t a.channel ≡ u a.channel) xs
    → Each (λ a. a.side ≡ Pop → r a.channel ≡ s a.channel) xs → all_below r t xs bs ≡ all_below s u xs bs
below_same t u r s [] bs e f = refl
below_same t u r s (a ∷ xs) [] e f = refl
below_same t u r s (a ∷ xs) (b ∷ bs) (e, es) (f, fs) =
    ap₂ (λ p q. p && q) (one_below a.side a.takes b (t a.channel) (u a.channel) (r a.channel) (s a.channel) e f)
    (below_same t u r s xs bs es fs)

each_map : (P Q : Access → Type 0) (xs : List Access) → ((a : Access) → P a → Q a) → Each P xs → Each Q xs
each_map P Q [] f e = tt
each_map P Q (a ∷ xs) f (here, more) = (f a here, each_map P Q xs f more)

each_any : (P : Access → Type 0) (xs : List Access) → ((a : Access) → P a) → Each P xs
each_any P [] f = tt
each_any P (a ∷ xs) f = (f a, each_any P xs f)

-- ---- two cores

module _ {S : Type 0} (d : Design S) (x y : Core S) where
  -- the marks of a module and their outcomes are the same
  pub record SameMarks (w : ℕ) : Type 0 where
    pub emitted : y.emitted w ≡ x.emitted w
    pub over : y.over w ≡ x.over w
    pub state : (k : ℕ) → y.state w k ≡ x.state w k
    pub flags : (k : ℕ) → y.flags w k ≡ x.flags w k
    pub answered : (k : ℕ) → y.answered w k ≡ x.answered w k

  values_same : (ch : ℕ) → SameMarks (d.owner Push ch) → core_values d y ch ≡ core_values d x ch
  values_same ch s =
      let w : ℕ = d.owner Push ch in
      ap (λ (p : List ℕ). d.inputs ch ++ p)
      (ap (core_pushed d y w ch) s.emitted
      ∙ pushed_same (core_accesses d y w) (core_accesses d x w) (λ j. bare_replies (y.flags w j)) (λ j. bare_replies (x.flags w j)) ch
      (x.emitted w) (λ k l. ap₂ (λ (p : S) (f : List Bool). values_in ch (d.accesses w p) (bare_replies f)) (s.state k) (s.flags k)))

  pops_same : (n k ch : ℕ) → SameMarks n → core_tally d y n Pop ch k ≡ core_tally d x n Pop ch k
  pops_same n k ch s =
      tally_same (core_accesses d y n) (core_accesses d x n) (λ j. bare_replies (y.flags n j)) (λ j. bare_replies (x.flags n j)) Pop ch k
      (λ j l. ap₂ (λ (p : S) (b : List Bool). takes_in Pop ch (d.accesses n p) (bare_replies b)) (s.state j) (s.flags j))

  there_same : (n k : ℕ) → SameMarks n
      → Each (λ a. SameMarks (d.owner (other_side a.side) a.channel)) (d.accesses n (x.state n k))
      → values_there d y n k ≡ values_there d x n k
  there_same n k s others =
      ap₂ (λ (p : S) (b : List Bool). all_below (λ ch. length (core_values d y ch)) (λ ch. core_tally d y n Pop ch k) (d.accesses n p) b)
      (s.state k) (s.flags k)
      ∙ below_same (λ ch. core_tally d y n Pop ch k) (λ ch. core_tally d x n Pop ch k) (λ ch. length (core_values d y ch))
      (λ ch. length (core_values d x ch)) (d.accesses n (x.state n k)) (x.flags n k)
      (each_any _ (d.accesses n (x.state n k)) (λ a. pops_same n k a.channel s))
      (each_map _ _ (d.accesses n (x.state n k)) by others)
    where
      by : (a : Access) → SameMarks (d.owner (other_side a.side) a.channel) → a.side ≡ Pop
          → length (core_values d y a.channel) ≡ length (core_values d x a.channel)
      by a m e = ap (λ (v : List ℕ). length v) (values_same a.channel
          (subst (λ (side : Side). SameMarks (d.owner (other_side side) a.channel)) e m))

  may_same : (n : ℕ) → SameMarks n
      → ((k : ℕ) → Each (λ a. SameMarks (d.owner (other_side a.side) a.channel)) (d.accesses n (x.state n k)))
      → MayRun d y n → MayRun d x n
  may_same n s others may = record {
    inside = may.inside;
    lives = sym s.over ∙ may.lives;
    answered = λ k e. sym (s.answered k) ∙ may.answered k (e ∙ sym s.emitted);
    there = λ k e. sym (there_same n k s (others k)) ∙ may.there k (e ∙ sym s.emitted);
  }

-- ---- what an action leaves

module _ {S : Type 0} (d : Design S) (x : Core S) (m : ℕ) where
  assign_marks : (c w : ℕ) → SameMarks d x (after_assign x m c) w
  assign_marks c w = record { emitted = refl; over = refl; state = λ k. refl; flags = λ k. refl; answered = λ k. refl }

  answer_marks : (c w : ℕ) → (w ≡ m → ⊥) → SameMarks d x (after_answer d x m c) w
  answer_marks c w other = record {
    emitted = refl;
    over = refl;
    state = λ k. refl;
    flags = λ k. put_at_other x.flags m (x.timed m) _ w k (λ e f. other e);
    answered = λ k. put_at_other x.answered m (x.timed m) true w k (λ e f. other e);
  }

  over_marks : (w : ℕ) → (w ≡ m → ⊥) → SameMarks d x (emit_over x m) w
  over_marks w other = record {
    emitted = refl;
    over = put_other x.over m true w other;
    state = λ k. refl;
    flags = λ k. refl;
    answered = λ k. refl;
  }

  emit_marks : (w : ℕ) → (w ≡ m → ⊥) → SameMarks d x (emit d x m) w
  emit_marks w other = record {
    emitted = put_other x.emitted m _ w other;
    over = refl;
    state = λ k. put_at_other x.state m (x.emitted m) _ w k (λ e f. other e);
    flags = λ k. put_at_other x.flags m (x.emitted m) _ w k (λ e f. other e);
    answered = λ k. put_at_other x.answered m (x.emitted m) _ w k (λ e f. other e);
  }

  run_marks : (w : ℕ) → (w ≡ m → ⊥) → SameMarks d x (after_run d x m) w
  run_marks w other = run_cases d x m (λ y. SameMarks d x y w) (λ e. over_marks w other) (λ e. emit_marks w other)

-- ---- what another module may do

module _ {S : Type 0} (d : Design S) (x : Core S) (m n : ℕ) (other : n ≡ m → ⊥) (apart : AreApart d m n) where
  opposite : (y : Core S) → ((w : ℕ) → (w ≡ m → ⊥) → SameMarks d x y w) → (k : ℕ)
      → Each (λ a. SameMarks d x y (d.owner (other_side a.side) a.channel)) (d.accesses n (x.state n k))
  opposite y same k = each_map _ _ (d.accesses n (x.state n k)) (λ a o. same (d.owner (other_side a.side) a.channel) o) (apart (x.state n
      k))

  run_no_run : MayRun d (after_run d x m) n → MayRun d x n
  run_no_run = may_same d x (after_run d x m) n (run_marks d x m n other) (opposite (after_run d x m) (run_marks d x m))

  pub answer_no_run : (c : ℕ) → MayRun d (after_answer d x m c) n → MayRun d x n
  answer_no_run c =
      may_same d x (after_answer d x m c) n (answer_marks d x m c n other) (opposite (after_answer d x m c) (answer_marks d x m c))

-- a cycle permits no Run of any module
pub assign_no_run : {S : Type 0} (d : Design S) (x : Core S) (m n c : ℕ) → MayRun d (after_assign x m c) n → MayRun d x n
assign_no_run {S} d x m n c =
    may_same d x (after_assign x m c) n (assign_marks d x m c n)
    (λ k. each_any _ (d.accesses n (x.state n k)) (λ a. assign_marks d x m c (d.owner (other_side a.side) a.channel)))

-- and so do any number of Runs
pub runs_no_run : {S : Type 0} (d : Design S) (limit m n : ℕ) → (n ≡ m → ⊥) → AreApart d m n → (x : Core S) (count : ℕ) (y : Core S)
    → ActsAll d limit x (runs count m) y → MayRun d y n → MayRun d x n
runs_no_run {S} d limit m n other apart x zero y is may = subst (λ (z : Core S). MayRun d z n) is may
runs_no_run {S} d limit m n other apart x (suc count) y (z, (permitted, is), more) may =
    run_no_run d x m n other apart (subst (λ (q : Core S). MayRun d q n) is (runs_no_run d limit m n other apart z count y more may))
