-- The lines of the outputs, channel after channel.
use Rattle.std.proofs.Common.{◌≡◌, ℕ, ◌+◌, ◌<◌, ◌≤◌, ◌∙◌, ap, true, false, List, ◌∷◌, ◌++◌, length, drop, get_or, append_assoc, add-one}
use Rattle.std.proofs.Common.{suc, length-take, arith}
use Rattle.std.proofs.{lemmas.List.take-append-le, Math.Seq.drop-cons}
use Rattle.std.specs.Io.{StartsWith}
use Rattle.report_text.specs.{Channel, is_sink, line, text_of_lines, sink_names, output_lines, output_tokens}

-- what is printed, with what the channels and outputs from some places on give, is the whole
pub record IsPrinting (first text : List ℕ) (channels : List Channel) (outputs : List (List ℕ)) (i at : ℕ) : Type 0 where
  pub printed : text ++ text_of_lines (output_lines (drop i channels) (drop at outputs)) ≡ first ++ text_of_lines
      (output_lines channels outputs)
  pub left : at + length (sink_names (drop i channels)) ≡ length outputs
  pub begins : StartsWith text first

-- a text that grows still begins with what it began with
grown : (first text more : List ℕ) → StartsWith text first → StartsWith (text ++ more) first
grown first text more h =
    let shorter : length first ≤ length text = omega (arith, ap length h, length-take (length first) text) in
    take-append-le (length first) text more shorter ∙ h

-- a channel that is no sink
passed : (c : Channel) (cs : List Channel) (os : List (List ℕ)) → is_sink c.kind ≡ false
    → text_of_lines (output_lines (c ∷ cs) os) ≡ text_of_lines (output_lines cs os)
passed c cs os e = rw e

-- a sink and its output
printed_one : (c : Channel) (cs : List Channel) (o : List ℕ) (os : List (List ℕ)) → is_sink c.kind ≡ true
    → text_of_lines (output_lines (c ∷ cs) (o ∷ os)) ≡ line (output_tokens (c.name, o)) ++ text_of_lines (output_lines cs os)
printed_one c cs o os e = rw e

counted : (c : Channel) (cs : List Channel) → is_sink c.kind ≡ true → length (sink_names (c ∷ cs)) ≡ suc (length (sink_names cs))
counted c cs e = rw e

not_counted : (c : Channel) (cs : List Channel) → is_sink c.kind ≡ false → length (sink_names (c ∷ cs)) ≡ length (sink_names cs)
not_counted c cs e = rw e

-- the channels from a place on
from_place : (channels : List Channel) (i : ℕ) (c : Channel) → i < length channels → c ≡ get_or channels i c
    → drop i channels ≡ c ∷ drop (i + 1) channels
from_place channels i c h e = rw (add-one, drop-cons channels i c h) (rw (← e))

-- a sink still has its output
pub has_output : (first text : List ℕ) (channels : List Channel) (outputs : List (List ℕ)) (i at : ℕ) (c : Channel)
    → i < length channels → c ≡ get_or channels i c
    → is_sink c.kind ≡ true → IsPrinting first text channels outputs i at → at < length outputs
has_output first text channels outputs i at c h e s p =
    let n = rw (from_place channels i c h e, counted c (drop (i + 1) channels) s) at p.left in
    omega (arith, n)

-- past a channel that is no sink
pub passed_more : (first text : List ℕ) (channels : List Channel) (outputs : List (List ℕ)) (i at : ℕ) (c : Channel)
    → i < length channels → c ≡ get_or channels i c
    → is_sink c.kind ≡ false → IsPrinting first text channels outputs i at → IsPrinting first text channels outputs (i + 1) at
passed_more first text channels outputs i at c h e s p = record {
  printed = rw (from_place channels i c h e, passed c (drop (i + 1) channels) (drop at outputs) s) at p.printed;
  left = rw (from_place channels i c h e, not_counted c (drop (i + 1) channels) s) at p.left;
  begins = p.begins;
}

-- past a sink whose line is printed
pub printed_more : (first text : List ℕ) (channels : List Channel) (outputs : List (List ℕ)) (i at : ℕ) (c : Channel) (o : List ℕ)
    → i < length channels → c ≡ get_or channels i c
    → is_sink c.kind ≡ true → at < length outputs → o ≡ get_or outputs at o → IsPrinting first text channels outputs i at
    → IsPrinting first (text ++ line (output_tokens (c.name, o))) channels outputs (i + 1) (at + 1)
printed_more first text channels outputs i at c o h e s g f p = record {
  printed =
      let rest : drop at outputs ≡ o ∷ drop (at + 1) outputs = rw (add-one, drop-cons outputs at o g) (rw (← f)) in
      let whole = rw (from_place channels i c h e, rest, printed_one c (drop (i + 1) channels) o (drop (at + 1) outputs) s) at p.printed in
      rw (append_assoc text (line (output_tokens (c.name, o))) (text_of_lines
      (output_lines (drop (i + 1) channels) (drop (at + 1) outputs)))) whole;
  left =
      let n = rw (from_place channels i c h e, counted c (drop (i + 1) channels) s) at p.left in
      omega (arith, n);
  begins = grown first text (line (output_tokens (c.name, o))) p.begins;
}
