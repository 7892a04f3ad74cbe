-- The inputs that the statements so far have given.
use Rattle.std.proofs.Common.{◌≡◌, ℕ, ◌<◌, List, [], ◌∷◌, ◌++◌, length, map, get_or, sym, ap, ◌∙◌, arith, append-nil}
use Rattle.std.proofs.lemmas.List.{map-append, get_or-map, ext_get_or, length-map}
use Rattle.std.proofs.{lemmas.List.FromFn.get_or-enumerate_from, lemmas.List.FromFn.length-enumerate_from, lemmas.Grind.flat_map-append}
use Rattle.std.specs.List.{flat_map, enumerate_from}
use Rattle.session_plan.specs.{Statement, Channel, no_channel, cut_to, ChannelKind, Name, values_for, cut_inputs, inputs_for}

-- what channel number f takes of values
abbrev pub taken : List Channel → ℕ → List ℕ → List ℕ
taken channels f values = cut_inputs (get_or channels f no_channel).kind (get_or channels f no_channel).width values

pub inputs_append : (kind : ChannelKind) (width : ℕ) (a b : List ℕ)
    → cut_inputs kind width (a ++ b) ≡ cut_inputs kind width a ++ cut_inputs kind width b
inputs_append kind width a b = let cut = map-append (cut_to width) a b in grind arith

-- each channel has what these statements give it
pub record AreGiven (names : List Name) (channels : List Channel) (statements : List Statement) (inputs : List (List ℕ)) : Type 0 where
  pub long : length inputs ≡ length channels
  pub each : (f : ℕ) → f < length channels → get_or inputs f [] ≡ taken channels f (flat_map (values_for names f) statements)

-- one more statement
pub given_more : (names : List Name) (channels : List Channel) (before : List Statement) (s : Statement) (old new : List (List ℕ))
    → AreGiven names channels before old → length new ≡ length old
    → ((f : ℕ) → f < length channels → get_or new f [] ≡ get_or old f [] ++ taken channels f (values_for names f s))
    → AreGiven names channels (before ++ s ∷ []) new
given_more names channels before s old new given long added = record {
  long = long ∙ given.long;
  each = λ f there.
      let c = get_or channels f no_channel in
      added f there ∙ ap (λ (l : List ℕ). l ++ taken channels f (values_for names f s)) (given.each f there)
      ∙ sym (simp (flat_map-append, append-nil)
      (inputs_append c.kind c.width (flat_map (values_for names f) before) (values_for names f s)));
}

pub numbered_at : {A : Type 0} (xs : List A) (d : A) (i : ℕ) → i < length xs → get_or (enumerate_from 0 xs) i (0, d) ≡ (i, get_or xs i d)
numbered_at xs d i there = get_or-enumerate_from 0 xs i (0, d) there ∙ ap (λ (k : ℕ). (k, get_or xs i d)) (omega arith)

-- all of them
pub given_all : (names : List Name) (channels : List Channel) (statements : List Statement) (inputs : List (List ℕ))
    → AreGiven names channels statements inputs → inputs ≡ map (inputs_for names statements) (enumerate_from 0 channels)
given_all names channels statements inputs given =
    let g : ℕ × Channel → List ℕ = inputs_for names statements in
    let long : length (map g (enumerate_from 0 channels)) ≡ length channels = simp (length-map, length-enumerate_from) in
    ext_get_or [] inputs (map g (enumerate_from 0 channels)) (given.long ∙ sym long) (λ f there.
    let below : f < length channels = omega (arith, given.long) in
    given.each f below
    ∙ sym (get_or-map g (enumerate_from 0 channels) f (0, no_channel) [] (rw length-enumerate_from below)
    ∙ ap g (numbered_at channels no_channel f below)))
