-- FIFOs without their delay or depth, and the values of an input.
use Rattle.std.proofs.Common.{◌≡◌, ℕ, List, Bool, true, refl, arith, ◌-◌, [], ◌∷◌, ◌++◌, map, Option, Some, Result, ap, subst, ◌∙◌}
use Rattle.std.specs.{Prelude.codes, Prelude.◌&&◌, List.list_all}
use Rattle.flow_text.specs.{Statement, Name, default_depth, default_delay, plain, only_if, Code, LineFail, is_in_range, LineGives}
use Rattle.flow_text.specs.{is_number, token_is_name, number_of, Tables, is_plain, words_within, input_reading, is_new_in, is_known_in}
use Rattle.flow_text.specs.{fault_by, reading_by}
use Rattle.flow_design.specs.declared.session.Statement.TheVariants.{Fifo, Input}

module _ (n w : List ℕ) where
  -- the tests of a FIFO whose depth and delay are these tokens, and the FIFO
  abbrev tests : List ℕ → List ℕ → Bool
  tests depth delay = token_is_name n && (is_number w && (is_number depth && is_number delay))

  abbrev fifo : List ℕ → List ℕ → Statement
  fifo depth delay = Fifo n (number_of w) (number_of depth) (number_of delay)

  pub without_delay : (depth : List ℕ) → only_if (tests depth (codes "1")) (fifo depth (codes "1"))
      ≡ only_if (token_is_name n && (is_number w && is_number depth)) (Fifo n (number_of w) (number_of depth) default_delay)
  unfolding is_number
  without_delay depth = grind arith

  pub without_depth : only_if (tests (codes "2") (codes "1")) (fifo (codes "2") (codes "1"))
      ≡ only_if (token_is_name n && is_number w) (Fifo n (number_of w) default_depth default_delay)
  unfolding is_number
  without_depth = grind arith

-- ---- the values of an input pass the tests of its parts

plain_ranged : (ns : List ℕ) → list_all is_in_range (map plain ns) ≡ list_all is_plain ns
plain_ranged [] = refl
plain_ranged (n ∷ ns) = ap (λ (b : Bool). is_plain n && b) (plain_ranged ns)

module _ (t : Tables) where
  plain_new : (ns : List ℕ) → list_all (is_new_in t) (map plain ns) ≡ true
  plain_new [] = refl
  plain_new (n ∷ ns) = plain_new ns

  plain_known : (ns : List ℕ) → list_all (is_known_in t) (map plain ns) ≡ true
  plain_known [] = refl
  plain_known (n ∷ ns) = plain_known ns

  input_is : (n : Name) (values : List ℕ) → input_reading t n (words_within values) ≡ reading_by t (Some (Input n values))
  unfolding fault_by
  input_is n values =
      let ranged = plain_ranged values in let new = plain_new values in let known = plain_known values in grind arith

  fits : (b c : Bool) (s : Statement) → b ≡ true → c ≡ true → reading_by t (Some s) ≡ reading_by t (only_if (b && c) s)
  fits b c s h k = grind arith

  pub input_read : (n : Name) (tokens : List (List ℕ)) (words : Option (List ℕ)) (result : Result Statement LineFail)
      → token_is_name n ≡ true → list_all is_number tokens ≡ true → words ≡ words_within (map number_of tokens)
      → LineGives (λ s. s) result (input_reading t n words)
      → LineGives (λ s. s) result (reading_by t (only_if (token_is_name n && list_all is_number tokens) (Input n (map number_of tokens))))
  input_read n tokens words result h k e g =
      subst (λ (r : Result Statement Code). LineGives (λ s. s) result r)
      (ap (input_reading t n) e ∙ input_is n (map number_of tokens)
      ∙ fits (token_is_name n) (list_all is_number tokens) (Input n (map number_of tokens)) h k)
      g

-- ---- reading the values one after the other

module _ {A : Type 0} (f : A → List ℕ) where
  abbrev numbers : List A → List ℕ
  numbers xs = map number_of (map f xs)

  -- the words so far, and the tokens that are left
  pub record Reading (all : List A) (words : List ℕ) (left : List A) : Type 0 where
    pub numerals : list_all is_number (map f left) ≡ true
    pub so_far : words ++ numbers left ≡ numbers all
    pub passed : list_all is_plain (numbers left) ≡ list_all is_plain (numbers all)
