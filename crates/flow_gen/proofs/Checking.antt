-- The session has no fault of checking.
use Rattle.std.proofs.Common.{◌≡◌, ℕ, zero, suc, ◌≤◌, List, [], ◌∷◌, map, Option, None, option_map, Bool, true, not, refl, ap, arith}
use Rattle.std.proofs.Common.{is_some}
use Rattle.std.proofs.{lemmas.Bool.and_parts, lemmas.Bool.cond_both, lemmas.Bool.Decides.nat_tests, lemmas.List.Sums.take_while-cons}
use Rattle.std.specs.{Prelude.take_while, List.AllByRecursion, List.filter_map}
use Rattle.flow_design.specs.{declared.limits.Scale.TheVariants.Standard, declared.design.Module.Module}
use Rattle.flow_design.specs.declared.session.Statement.TheVariants.{Block, Loop, At}
use Rattle.flow_gen.specs.{Statement, Code, Scope, timed, Level, block, channel_names, len_of, plan_module, plan_of, scope_of, begins}
use Rattle.flow_gen.specs.{sections, fault_on_line, fault_of, first_in, place_where, broken_by, checking_fault, in_module, is_too_late}
use Rattle.flow_gen.specs.{spot, spot_in, drawn, session, generated_session}
use Rattle.session_plan.specs.Sections.{declared}
use Rattle.flow_check.specs.declared.item.Spot.TheVariants.{Operation}
use Rattle.flow_gen.proofs.{Passing.checks, Passing.all_checked, Fitting.AllFit, Fitting.Fits, Fitting.IsPaced, Fitting.session_fits}
use Rattle.flow_grammar.specs.declared.fault.Code.TheVariants as code
use Rattle.session_plan.specs.declared.section.Level.TheVariants as level
use Rattle.session_plan.specs.declared.section.Sort.TheVariants as sort

abbrev Section : Type 0
Section = Statement × List Statement

-- a section of statements that fit
abbrev IsSection : Level → Section → Type 0
IsSection l x = (begins l x.0 ≡ true) × Fits x.0 × AllFit x.1

body_fits : (begin : Statement → Bool) (ss : List Statement) → AllFit ss → AllFit (take_while begin ss)
body_fits begin [] f = tt
body_fits begin (s ∷ ss) f =
    rw (take_while-cons begin s ss) (cond_both (begin s) _ _ AllFit (λ e. (f.0, body_fits begin ss f.1)) (λ e. tt))

sections_fit : (l : Level) (ss : List Statement) → AllFit ss → AllByRecursion (IsSection l) (sections l ss)
sections_fit l [] f = tt
sections_fit l (s ∷ ss) f =
    let later = sections_fit l ss f.1 in
    cond_both (begins l s) _ _ (AllByRecursion (IsSection l))
    (λ e. ((e, f.0, body_fits (λ t. not (begins l t)) ss f.1), later)) (λ e. later)

-- nothing is found where no section gives anything
none_in : {A B : Type 0} (l : Level) (f : A → Option B) (g : Section → A) (xs : List Section)
    → ((x : Section) → IsSection l x → f (g x) ≡ None) → AllByRecursion (IsSection l) xs → first_in f (map g xs) ≡ None
none_in l f g [] none h = refl
none_in l f g (x ∷ xs) none h =
    let own = none x h.0 in
    let later = none_in l f g xs none h.1 in
    rw (own, later) refl

-- ---- the two rules on a loop's clocks

loop_kept : (m : Module) (scope : Scope) (x : Section) → Fits x.0 → spot Standard code.BadLoop m (block scope x) ≡ None
unfolding block
loop_kept m scope (Loop n ii len again, body) f = let paced = f.paced in grind (arith, nat_tests)
loop_kept m scope (s, body) f = refl

long_enough : (s : Statement) → begins level.Blocks s ≡ true → IsPaced s → 2 ≤ len_of s
long_enough (Block n len) e p = p
long_enough (Loop n ii len again) e p = p.0
long_enough s e p = absurd cc

in_time : (scope : Scope) (len : ℕ) → 2 ≤ len → (body : List Statement) → AllFit body
    → place_where (is_too_late len) (filter_map (timed scope) body) ≡ None
in_time scope len least [] f = refl
in_time scope len least (At off guard o ∷ body) f =
    let early = f.0.paced in let later = in_time scope len least body f.1 in grind (arith, nat_tests)
in_time scope len least (s ∷ body) f = in_time scope len least body f.1

offsets_kept : (m : Module) (scope : Scope) (x : Section) → IsSection level.Blocks x → spot Standard code.BadOffset m (block scope x) ≡ None
unfolding block
offsets_kept m scope x p = ap (option_map Operation)
    (in_time (record scope { temps = filter_map (declared sort.Temps) x.1 }) (len_of x.0) (long_enough x.0 p.0 p.1.paced) x.1 p.2)

-- a rule that each block keeps
kept : (rule : Code) → ((m : Module) (scope : Scope) (x : Section) → IsSection level.Blocks x → spot Standard rule m (block scope x) ≡ None)
    → (ss : List Statement) → AllFit ss
    → option_map in_module (first_in (spot_in Standard rule) (map (plan_module (channel_names ss)) (sections level.Modules ss)))
    ≡ None
unfolding plan_module
kept rule keeps ss f =
    ap (option_map in_module) (none_in level.Modules (spot_in Standard rule) (plan_module (channel_names ss)) (sections level.Modules ss)
    (λ x p. none_in level.Blocks (spot Standard rule (plan_module (channel_names ss) x)) (block (scope_of (channel_names ss) x.1))
    (sections level.Blocks x.1) (keeps (plan_module (channel_names ss) x) (scope_of (channel_names ss) x.1))
    (sections_fit level.Blocks x.1 p.2)) (sections_fit level.Modules ss f))

-- ---- all rules

none_of : {X : Type 0} (o : Option X) → not (is_some o) ≡ true → o ≡ None
none_of o h = grind arith

pub faultless : (seed modules : ℕ) → 1 ≤ modules → modules ≤ 64 → checking_fault Standard (plan_of Standard (session seed modules)) ≡ None
unfolding session checks checking_fault plan_of
faultless seed zero some most = absurd (omega arith)
faultless seed (suc n) some most =
    let ss : List Statement = generated_session (drawn seed) (suc n) in
    let fits : AllFit ss = session_fits seed (suc n) in
    let names = and_parts _ _ (all_checked (drawn seed) n (omega arith)) in
    let limits = and_parts _ _ names.1 in let ends = and_parts _ _ limits.1 in let ports = and_parts _ _ ends.1 in
    rw (
      none_of (broken_by Standard (plan_of Standard ss) code.UnknownName) names.0,
      none_of (broken_by Standard (plan_of Standard ss) code.BadLimit) limits.0,
      none_of (broken_by Standard (plan_of Standard ss) code.Ends) ends.0,
      none_of (broken_by Standard (plan_of Standard ss) code.PortClash) ports.0,
      kept code.BadLoop (λ m scope x p. loop_kept m scope x p.1) ss fits,
      kept code.BadOffset offsets_kept ss fits,
      none_of (broken_by Standard (plan_of Standard ss) code.WrongSide) (and_parts _ _ ports.1).0,
    ) refl

pub checked : (seed modules : ℕ) (lines : List ℕ) → 1 ≤ modules → modules ≤ 64 → fault_of Standard (session seed modules) lines ≡ None
checked seed modules lines some most = ap (option_map (fault_on_line (session seed modules) lines)) (faultless seed modules some most)
