-- The code of a tree, from that of its parts.
use Rattle.std.proofs.Common.{◌≡◌, refl, sym, ◌∙◌, ap, subst, arith, ℕ, ◌≤◌, ◌%◌, ◌^◌, ◌==◌, cond, List, [], ◌∷◌, ◌++◌, length, add_comm}
use Rattle.std.proofs.Common.{mul_comm}
use Rattle.std.proofs.{lemmas.List.append_assoc, lemmas.Nat.and_comm, lemmas.Nat.or_comm, lemmas.Nat.xor_comm}
use Rattle.module_code.specs.{Expr, UnOp, BinOp, unary, binary, extended, variable, value, reach, Argument, Instruction, argument_value}
use Rattle.module_code.specs.{result_of, ran, IsArgumentSound, IsCodeOf}
use Rattle.flow_design.specs.declared.expr.Expr.{Number, Var, Unary, Binary, Sext, Pick}
use Rattle.flow_design.specs.declared.expr.BinOp.TheVariants.{Add, Mul, And, Or, Xor}
use Rattle.flow_design.proofs.Values.{value_number, value_var, value_unary, value_binary, value_sext, value_pick}
use Rattle.module_code.proofs.Reaches.{var_below, unary_part, sext_part, binary_first, binary_second, pick_first, pick_second, pick_third}
use Rattle.module_code.proofs.Flats.{stays, last_result, argument_later, sound_added, longer, no_shorter}
use Rattle.module_code.specs.declared.flat.Argument.TheVariants as arg
use Rattle.module_code.specs.declared.flat.Instruction.TheVariants as ins

none_more : (code : List Instruction) → code ≡ code ++ []
none_more [] = refl
none_more (i ∷ is) = ap (λ (x : List Instruction). i ∷ x) (none_more is)

pub number_code : (code : List Instruction) (n : ℕ) → IsCodeOf code code (arg.Number n) (Number n)
number_code code n = record {
  more = [];
  grown = none_more code;
  values = λ registers temps. sym (value_number registers temps n);
  there = λ places wide. tt;
  sound = λ places wide all. all;
}

pub var_code : (code : List Instruction) (at : ℕ) → IsCodeOf code code (arg.Var at) (Var at)
var_code code at = record {
  more = [];
  grown = none_more code;
  values = λ registers temps. sym (value_var registers temps at);
  there = λ places wide. var_below at places wide;
  sound = λ places wide all. all;
}

pub var_number_code : (op : BinOp) (at n : ℕ) (code : List Instruction)
    → IsCodeOf code code (arg.VarNumber op at n) (Binary op (Var at) (Number n))
var_number_code op at n code = record {
  more = [];
  grown = none_more code;
  values = λ registers temps. sym (value_binary registers temps op (Var at) (Number n)
      ∙ (ap (λ (v : ℕ). binary op v (value registers temps (Number n))) (value_var registers temps at)
      ∙ ap (λ (v : ℕ). binary op (variable registers temps at) v) (value_number registers temps n)));
  there = λ places wide. var_below at places (binary_first op (Var at) (Number n) places wide);
  sound = λ places wide all. all;
}

pub var_var_code : (op : BinOp) (at other : ℕ) (code : List Instruction)
    → IsCodeOf code code (arg.VarVar op at other) (Binary op (Var at) (Var other))
var_var_code op at other code = record {
  more = [];
  grown = none_more code;
  values = λ registers temps. sym (value_binary registers temps op (Var at) (Var other)
      ∙ (ap (λ (v : ℕ). binary op v (value registers temps (Var other))) (value_var registers temps at)
      ∙ ap (λ (v : ℕ). binary op (variable registers temps at) v) (value_var registers temps other)));
  there = λ places wide. (
    var_below at places (binary_first op (Var at) (Var other) places wide),
    var_below other places (binary_second op (Var at) (Var other) places wide),
  );
  sound = λ places wide all. all;
}

pub number_var_code : (op : BinOp) (at n : ℕ) (code : List Instruction) → ((a b : ℕ) → binary op a b ≡ binary op b a)
    → IsCodeOf code code (arg.VarNumber op at n) (Binary op (Number n) (Var at))
number_var_code op at n code either = record {
  more = [];
  grown = none_more code;
  values = λ registers temps. either (variable registers temps at) n ∙ sym (value_binary registers temps op (Number n) (Var at)
      ∙ (ap (λ (v : ℕ). binary op v (value registers temps (Var at))) (value_number registers temps n)
      ∙ ap (λ (v : ℕ). binary op n v) (value_var registers temps at)));
  there = λ places wide. var_below at places (binary_second op (Number n) (Var at) places wide);
  sound = λ places wide all. all;
}

pub ruleset the_pairs = (var_number_code, var_var_code, number_var_code)

-- operators that give the same for two words in either order
pub sums : (op : BinOp) (a b : ℕ) → op ≡ Add → binary op a b ≡ binary op b a
sums op a b e = rw e (ap (λ (n : ℕ). n % 2 ^ 64) (add_comm a b))

pub products : (op : BinOp) (a b : ℕ) → op ≡ Mul → binary op a b ≡ binary op b a
products op a b e = rw e (ap (λ (n : ℕ). n % 2 ^ 64) (mul_comm a b))

pub meets : (op : BinOp) (a b : ℕ) → op ≡ And → binary op a b ≡ binary op b a
meets op a b e = rw e (and_comm a b)

pub joins : (op : BinOp) (a b : ℕ) → op ≡ Or → binary op a b ≡ binary op b a
joins op a b e = rw e (or_comm a b)

pub differences : (op : BinOp) (a b : ℕ) → op ≡ Xor → binary op a b ≡ binary op b a
differences op a b e = rw e (xor_comm a b)

pub ruleset the_commuting = (sums, products, meets, joins, differences)

-- an instruction after code that grew
code_grown : (before more middle after : List Instruction) (i : Instruction) → middle ≡ before ++ more → after ≡ middle ++ i ∷ []
    → after ≡ before ++ (more ++ i ∷ [])
code_grown before more middle after i grown is =
    is ∙ (ap (λ (c : List Instruction). c ++ i ∷ []) grown ∙ append_assoc before more (i ∷ []))

-- its result stands after it
result_after : (registers temps : List ℕ) (middle after : List Instruction) (i : Instruction) (y : Argument)
    → after ≡ middle ++ i ∷ [] → y ≡ arg.Result (length middle)
    → argument_value registers temps (ran registers temps [] after) y ≡ result_of registers temps (ran registers temps [] middle) i
result_after registers temps middle after i y is at =
    ap (λ (z : Argument). argument_value registers temps (ran registers temps [] after) z) at
    ∙ last_result registers temps middle after i is

there_after : (places : ℕ) (middle after : List Instruction) (i : Instruction) (y : Argument) → after ≡ middle ++ i ∷ []
    → y ≡ arg.Result (length middle) → IsArgumentSound places (length after) y
there_after places middle after i y is at =
    subst (λ (z : Argument). IsArgumentSound places (length after) z) (sym at) (longer middle after i is)

-- what the code of one part says where the code of another stands after it
kept_value : (registers temps : List ℕ) (before middle later : List Instruction) (x y : Argument) (a b : Expr ℕ)
    → IsCodeOf before middle x a
    → IsCodeOf middle later y b → argument_value registers temps (ran registers temps [] later) x ≡ value registers temps a
kept_value registers temps before middle later x y a b of next =
    stays registers temps (reach a) middle next.more later x next.grown (of.there (reach a) (omega arith)) ∙ of.values registers temps

kept_there : (places : ℕ) (before middle later : List Instruction) (x y : Argument) (a b : Expr ℕ) → IsCodeOf before middle x a
    → IsCodeOf middle later y b → reach a ≤ places → IsArgumentSound places (length later) x
kept_there places before middle later x y a b of next wide =
    argument_later places (length middle) (length later) x (no_shorter middle next.more later next.grown) (of.there places wide)

-- two pieces of code are one
joined : (before middle later first second : List Instruction) → middle ≡ before ++ first → later ≡ middle ++ second
    → later ≡ before ++ (first ++ second)
joined before middle later first second one two =
    two ∙ (ap (λ (c : List Instruction). c ++ second) one ∙ append_assoc before first second)

-- ---- operators

pub unary_code : (before middle after : List Instruction) (op : UnOp) (x y : Argument) (a : Expr ℕ) → IsCodeOf before middle x a
    → after ≡ middle ++ ins.Unary op x ∷ [] → y ≡ arg.Result (length middle) → IsCodeOf before after y (Unary op a)
unary_code before middle after op x y a of is at =
    let i = ins.Unary op x in
    record {
      more = of.more ++ i ∷ [];
      grown = code_grown before of.more middle after i of.grown is;
      values = λ registers temps. result_after registers temps middle after i y is at
          ∙ (ap (λ (v : ℕ). unary op v) (of.values registers temps) ∙ sym (value_unary registers temps op a));
      there = λ places wide. there_after places middle after i y is at;
      sound = λ places wide all. sound_added places middle after i is (of.sound places (unary_part op a places wide) all)
          (of.there places (unary_part op a places wide));
    }

pub sext_code : (before middle after : List Instruction) (k : ℕ) (x y : Argument) (a : Expr ℕ) → IsCodeOf before middle x a
    → after ≡ middle ++ ins.Sext k x ∷ [] → y ≡ arg.Result (length middle) → IsCodeOf before after y (Sext k a)
sext_code before middle after k x y a of is at =
    let i = ins.Sext k x in
    record {
      more = of.more ++ i ∷ [];
      grown = code_grown before of.more middle after i of.grown is;
      values = λ registers temps. result_after registers temps middle after i y is at
          ∙ (ap (λ (v : ℕ). extended k (v % 2 ^ k)) (of.values registers temps) ∙ sym (value_sext registers temps k a));
      there = λ places wide. there_after places middle after i y is at;
      sound = λ places wide all. sound_added places middle after i is (of.sound places (sext_part k a places wide) all)
          (of.there places (sext_part k a places wide));
    }

pub binary_code : (before middle later after : List Instruction) (op : BinOp) (x y z : Argument) (a b : Expr ℕ) → IsCodeOf before middle x a
    → IsCodeOf middle later y b → after ≡ later ++ ins.Binary op x y ∷ [] → z ≡ arg.Result (length later)
    → IsCodeOf before after z (Binary op a b)
binary_code before middle later after op x y z a b of next is at =
    let i = ins.Binary op x y in
    record {
      more = (of.more ++ next.more) ++ i ∷ [];
      grown = code_grown before (of.more ++ next.more) later after i (joined before middle later of.more next.more of.grown next.grown) is;
      values = λ registers temps. result_after registers temps later after i z is at
          ∙ (ap (λ (v : ℕ). binary op v (argument_value registers temps (ran registers temps [] later) y))
          (kept_value registers temps before middle later x y a b of next)
          ∙ (ap (λ (v : ℕ). binary op (value registers temps a) v) (next.values registers temps)
          ∙ sym (value_binary registers temps op a b)));
      there = λ places wide. there_after places later after i z is at;
      sound = λ places wide all. sound_added places later after i is
          (next.sound places (binary_second op a b places wide) (of.sound places (binary_first op a b places wide) all)) (
            kept_there places before middle later x y a b of next (binary_first op a b places wide),
            next.there places (binary_second op a b places wide),
          );
    }

pub pick_code : (before middle later last after : List Instruction) (x y w z : Argument) (a b c : Expr ℕ) → IsCodeOf before middle x a
    → IsCodeOf middle later y b → IsCodeOf later last w c → after ≡ last ++ ins.Pick x y w ∷ [] → z ≡ arg.Result (length last)
    → IsCodeOf before after z (Pick a b c)
pick_code before middle later last after x y w z a b c of next final is at =
    let i = ins.Pick x y w in
    let both : last ≡ middle ++ (next.more ++ final.more) = joined middle later last next.more final.more next.grown final.grown in
    record {
      more = (of.more ++ (next.more ++ final.more)) ++ i ∷ [];
      grown = code_grown before (of.more ++ (next.more ++ final.more)) last after i
          (joined before middle last of.more (next.more ++ final.more) of.grown both) is;
      values = λ registers temps.
          let one : argument_value registers temps (ran registers temps [] last) x ≡ value registers temps a =
          stays registers temps (reach a) middle (next.more ++ final.more) last x both (of.there (reach a) (omega arith))
          ∙ of.values registers temps in
          let two : argument_value registers temps (ran registers temps [] last) y ≡ value registers temps b =
          kept_value registers temps middle later last y w b c next final in
          let three : argument_value registers temps (ran registers temps [] last) w
          ≡ value registers temps c = final.values registers temps in
          result_after registers temps last after i z is at
          ∙ (ap (λ (v : ℕ). cond (v == 0) (argument_value registers temps (ran registers temps [] last) w)
          (argument_value registers temps (ran registers temps [] last) y)) one
          ∙ (ap (λ (v : ℕ). cond (value registers temps a == 0) v (argument_value registers temps (ran registers temps [] last) y)) three
          ∙ (ap (λ (v : ℕ). cond (value registers temps a == 0) (value registers temps c) v) two
          ∙ sym (value_pick registers temps a b c))));
      there = λ places wide. there_after places last after i z is at;
      sound = λ places wide all. sound_added places last after i is
          (final.sound places (pick_third a b c places wide)
          (next.sound places (pick_second a b c places wide) (of.sound places (pick_first a b c places wide) all))) (
            argument_later places (length middle) (length last) x (no_shorter middle (next.more ++ final.more) last both)
                (of.there places (pick_first a b c places wide)),
            (
              kept_there places middle later last y w b c next final (pick_second a b c places wide),
              final.there places (pick_third a b c places wide),
            ),
          );
    }

pub ruleset the_code = (number_code, var_code, unary_code, sext_code, binary_code, pick_code)
