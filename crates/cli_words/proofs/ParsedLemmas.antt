-- What the parser's clauses say of one command, carried over to its literal form.
use Rattle.std.proofs.Common.{◌≡◌, ◌∙◌, ◌≤◌, refl, sym, ap, subst, List, [], ◌∷◌, Result, Ok, Err, Bool, true, false, Option, Some, None}
use Rattle.std.proofs.Common.{map, length, codes, arith, inl, inr}
use Rattle.std.proofs.lemmas.Str.{IsUtf8-string_bytes}
use Rattle.std.specs.{Prelude.slice_get, Prelude.string_bytes, Prelude.String, Prelude.IfOk, List.AllByRecursion, Str.IsUtf8}
use Rattle.clap.specs.{Walk.first_of, Walk.one_of, Walk.Text, Walk.rows_of, Values.bool_text, Values.kind_of, Matches.first_value}
use Rattle.clap.specs.{Matches.one_text, Matches.found_of, Kinds.HasKind, Kinds.IsAmong, Kinds.Kinds, Faults.fault_of}
use Rattle.clap.specs.{declared.parser.matches.Found.Found, declared.error.Error.Error, declared.parser.matches.ArgMatches.ArgMatches}
use Rattle.clap.specs.Simple.{App, HasMatchesOf, is_simple, matches_of}
use Rattle.clap.proofs.WalkLemmas.{first_value-rows, one_text-rows}
use Rattle.cli_words.specs.{parser, WordFault, Arguments, accepted, command_of, IsGivenBy, positionals_of, said_of, text_of}
use Rattle.cli_words.specs.{declared.parser.Given.Given, CommandWords.Events, CommandWords.Large, CommandWords.Polls}
use Rattle.cli_words.proofs.RowLemmas.{AtCommand, AtCycles, AtOps, AtSlack, AtSecond, AtThird}
use Rattle.cli_words.proofs.{WalkSteps.some_kind, ParserLemmas.Agrees, ParserLemmas.agrees, ParserLemmas.refuses, ParserLemmas.takes}
use Rattle.clap.specs.declared.error.kind.ErrorKind.TheVariants as kind
use Rattle.cli_words.specs.declared.WordFault.TheVariants as fault

pub rows_by : (a b : App) (words : List Text) (r : Result ArgMatches Error) → a ≡ b → is_simple b ≡ true
    → IfOk r (HasMatchesOf a words) → IfOk r (λ m. rows_of (found_of m) ≡ matches_of b words)
rows_by a b words (Ok m) same simple h = (h (ap is_simple same ∙ simple)).0 ∙ ap (λ x. matches_of x words) same
rows_by a b words (Err e) same simple h = tt

-- ---- what is given

pub all_utf8 : {Z : Type 0} (xs : List (String Z)) → AllByRecursion IsUtf8 (map string_bytes xs)
all_utf8 [] = tt
all_utf8 (x ∷ xs) = (IsUtf8-string_bytes x, all_utf8 xs)

three : (ps : List Text) → length ps ≤ 3
    → positionals_of (slice_get ps 0) (slice_get ps 1) (slice_get ps 2) ≡ ps
three [] few = refl
three (a ∷ []) few = refl
three (a ∷ b ∷ []) few = refl
three (a ∷ b ∷ c ∷ []) few = refl
three (a ∷ b ∷ c ∷ d ∷ rest) few = absurd (omega arith)

said_by : (e e' l l' b b' : Bool) (c c' o o' s s' : Option Text) (p q r : Option Text) (ps : List Text) → e ≡ e' → l ≡ l' → b ≡ b'
    → c ≡ c' → o ≡ o' → s ≡ s' → p ≡ slice_get ps 0 → q ≡ slice_get ps 1 → r ≡ slice_get ps 2 → length ps ≤ 3
    → ◌≡◌ {A = Arguments} (record { events = e; polls = l; large = b; cycles = c; ops = o; slack = s; positionals = positionals_of p q r })
    (record { events = e'; polls = l'; large = b'; cycles = c'; ops = o'; slack = s'; positionals = ps })
said_by e e' l l' b b' c c' o o' s s' p q r ps he hl hb hc ho hs hp hq hr few =
    let at : positionals_of p q r ≡ ps = (λ i. positionals_of (hp i) (hq i) (hr i)) ∙ three ps few in
    λ i. record { events = he i; polls = hl i; large = hb i; cycles = hc i; ops = ho i; slack = hs i; positionals = at i }

-- what the getters gave, of a parse that went well
pub given_ok : (words : List Text) → AllByRecursion IsUtf8 words → (f : Found) → fault_of parser words ≡ []
    → rows_of f ≡ matches_of parser words → (g : Given)
    → ((b : Bool) → one_text f (codes "events") ≡ Some (bool_text b) → g.events ≡ b)
    → ((b : Bool) → one_text f (codes "polls") ≡ Some (bool_text b) → g.polls ≡ b)
    → ((b : Bool) → one_text f (codes "large") ≡ Some (bool_text b) → g.large ≡ b)
    → text_of g.cycles ≡ first_value f (codes "cycles") → text_of g.ops ≡ first_value f (codes "ops")
    → text_of g.slack ≡ first_value f (codes "slack")
    → text_of g.command ≡ first_value f (codes "command") → text_of g.second ≡ first_value f (codes "second")
    → text_of g.third ≡ first_value f (codes "third")
    → accepted words ≡ command_of (said_of g)
given_ok words u f clear rows g events polls large cycles ops slack command second third = go (agrees words u)
  where
    read : (id : Text) → first_value f id ≡ first_of id (matches_of parser words)
    read id = first_value-rows f id ∙ ap (first_of id) rows

    go : Agrees words → accepted words ≡ command_of (said_of g)
    go (refuses bad none) = absurd (bad clear)
    go (takes said few none final same) =
        same ∙ ap command_of
        (sym (said_by g.events said.events g.polls said.polls g.large said.large (text_of g.cycles) said.cycles (text_of g.ops) said.ops
        (text_of g.slack) said.slack
        (text_of g.command) (text_of g.second) (text_of g.third) said.positionals
        (events said.events (one_text-rows f (codes "events") ∙ ap (one_of (codes "events")) rows ∙ final.flags Events))
        (polls said.polls (one_text-rows f (codes "polls") ∙ ap (one_of (codes "polls")) rows ∙ final.flags Polls))
        (large said.large (one_text-rows f (codes "large") ∙ ap (one_of (codes "large")) rows ∙ final.flags Large))
        (cycles ∙ read (codes "cycles") ∙ final.values AtCycles refl refl refl)
        (ops ∙ read (codes "ops") ∙ final.values AtOps refl refl refl)
        (slack ∙ read (codes "slack") ∙ final.values AtSlack refl refl refl)
        (command ∙ read (codes "command") ∙ final.values AtCommand refl refl refl)
        (second ∙ read (codes "second") ∙ final.values AtSecond refl refl refl)
        (third ∙ read (codes "third") ∙ final.values AtThird refl refl refl) few))

either_way : (words : List Text) (w : WordFault) → accepted words ≡ None → IsGivenBy words (Err w)
either_way words fault.Refused e = e
either_way words fault.OutOfMemory e = tt

-- an error of the parser
pub given_err : (words : List Text) → AllByRecursion IsUtf8 words → (e : Error) (w : WordFault)
    → HasKind (fault_of parser words) e → (kind_of e ≡ kind.OutOfMemory → w ≡ fault.OutOfMemory)
    → IsGivenBy words (Err w)
given_err words u e w (inl memory) is = subst (λ x. IsGivenBy words (Err x)) (sym (is memory)) tt
given_err words u e w (inr among) is = go (agrees words u)
  where
    some : (ks : Kinds) → IsAmong (kind_of e) ks → ks ≡ [] → ⊥
    some [] h none = h
    some (k ∷ ks) h none = some_kind k ks none

    go : Agrees words → IsGivenBy words (Err w)
    go (refuses bad none) = either_way words w none
    go (takes said few none final same) = absurd (some (fault_of parser words) among none)

pub by_flag : (o : Option Text) (r : Bool) → (o ≡ Some (codes "true") → r ≡ true)
    → (o ≡ Some (codes "false") → r ≡ false) → (b : Bool) → o ≡ Some (bool_text b) → r ≡ b
by_flag o r yes_text no_text b e = grind arith
