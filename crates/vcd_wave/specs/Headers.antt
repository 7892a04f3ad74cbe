-- What comes in a wave before its later clocks.
use Rattle.std.specs.Prelude.{ℕ, ◌≡◌, ◌+◌, zero, suc, IsTrue, List, [], ◌∷◌, ◌++◌, map, length, codes}
use Rattle.std.specs.List.{enumerate_from, AllByRecursion}
use Rattle.flow_design.specs.{is_name}
use Rattle.report_text.specs.{text_of_lines}
use Rattle.vcd_wave.specs.{Wave.Change, WaveText.var_tokens, WaveText.change_tokens, Digits.numeral}

-- a text that begins with the line that declares FIFO n under this name
abbrev pub declaring : ℕ → List ℕ → List ℕ → List ℕ
declaring n name rest = codes "$var wire 32 f" ++ (numeral 10 n ++ 32 ∷ (name ++ 32 ∷ (codes "$end\n" ++ rest)))

-- the text declares FIFOs, from number n on and up to `count`; then comes `$u`, and then the rest
pub record NamesFrom (n : ℕ) (text : List ℕ) (count : ℕ) (rest : List ℕ) : Type 0 where
  pub names : List (List ℕ)
  pub all : AllByRecursion (λ x. IsTrue (is_name x)) names
  pub counted : count ≡ n + length names
  pub is_text : text ≡ text_of_lines (map var_tokens (enumerate_from n names)) ++ 36 ∷ 117 ∷ rest

-- changes that say that this many FIFOs, from number n on, are empty
abbrev pub empty_from : ℕ → ℕ → List Change
empty_from n zero = []
empty_from n (suc more) = record { fifo = n; fill = 0 } ∷ empty_from (n + 1) more

abbrev pub empty_text : ℕ → ℕ → List ℕ
empty_text n more = text_of_lines (map change_tokens (empty_from n more))

-- the text declares `count` FIFOs, then says that they are empty in clock 0, and then comes the rest
pub record Headed (text : List ℕ) (count : ℕ) (rest : List ℕ) : Type 0 where
  pub body : List ℕ
  pub is_text : text ≡ codes "$timescale 1 ns $end\n$scope module flow $end\n" ++ body
  pub names : NamesFrom 0 body count (codes "pscope $end\n$enddefinitions $end\n#0\n" ++ (empty_text 0 count ++ rest))
