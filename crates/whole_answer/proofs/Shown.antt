-- What is shown of a plan, of which a part was written.
use Rattle.std.proofs.Common.{◌≡◌, ◌∙◌, ap, subst, ℕ, List}
use Rattle.std.specs.declared.option.Option.{Option}
use Rattle.whole_answer.specs.{Plan, Verdict, report, verdict, AppendsPrefix, IsTold, Options, ViewName, Ending, IsRest, ending_of, shown}
use Rattle.whole_answer.specs.{view_text}

-- the rest of the text, and the ending
pub shown_rest : (view : ViewName) (o : Options) (p q : Plan) (old new : Option (List ℕ)) (text : List ℕ) (v : Verdict) (s : Ending) → q ≡ p
    → IsTold old new text (view_text view o q) → v ≡ verdict q → s ≡ ending_of v
    → IsRest (shown view o p) old new (record { text = text; ending = s })
unfolding shown report
shown_rest view o p q old new text v s same told is ending = record {
  text = subst (λ (x : Plan). IsTold old new text (view_text view o x)) same told;
  ending = ending ∙ ap ending_of (is ∙ ap verdict same);
}

-- and where a fault came first
pub shown_prefix : (view : ViewName) (o : Options) (p q : Plan) (old new : Option (List ℕ)) → q ≡ p
    → AppendsPrefix old new (view_text view o q) → AppendsPrefix old new (shown view o p).text
unfolding shown
shown_prefix view o p q old new same h = subst (λ (x : Plan). AppendsPrefix old new (view_text view o x)) same h
