-- The lines of a log.
use Rattle.std.proofs.Common.{◌≡◌, refl, sym, ◌∙◌, ap, ℕ, ◌+◌, ◌<◌, List, [], ◌∷◌, ◌++◌, map, length, take, get_or, append-nil}
use Rattle.std.proofs.Common.{append_assoc}
use Rattle.std.proofs.{lemmas.List.get_or_default, lemmas.List.map-append, lemmas.List.Concat.flat_map-append}
use Rattle.std.specs.{Prelude.codes, List.flat_map, List.join_with_byte}
use Rattle.trace_text.specs.{Design, Plan, clock_of, Token, Verdict, HistoryStep, history, report, verdict, line, text_of_lines}
use Rattle.trace_text.specs.{verdict_tokens, LoggedAccess, log_of, logged, logged_in, access_tokens, log_text}
use Rattle.report_text.proofs.LineLemmas.{line_of_four, lines_more, text-append}

-- tokens joined by spaces
pub joined : (first : Token) (tokens : List Token) → join_with_byte 32 (first ∷ tokens) ≡ first ++ flat_map (λ t. 32 ∷ t) tokens
joined first [] = sym (append-nil first)
joined first (t ∷ tokens) = ap (λ (rest : List ℕ). first ++ 32 ∷ rest) (joined t tokens)

three : (text b c d : List ℕ) → ((text ++ 32 ∷ b) ++ 32 ∷ c) ++ 32 ∷ d ≡ text ++ 32 ∷ (b ++ 32 ∷ (c ++ 32 ∷ d))
three text b c d = append_assoc (text ++ 32 ∷ b) (32 ∷ c) (32 ∷ d) ∙ append_assoc text (32 ∷ b) (32 ∷ (c ++ 32 ∷ d))

and_more : (b c d more : List ℕ) → (b ++ 32 ∷ (c ++ 32 ∷ d)) ++ more ≡ b ++ 32 ∷ (c ++ 32 ∷ (d ++ more))
and_more b c d more = append_assoc b (32 ∷ (c ++ 32 ∷ d)) more ∙ ap (λ (t : List ℕ). b ++ 32 ∷ t) (append_assoc c (32 ∷ d) more)

-- a line of six tokens and further ones
pub access_line : (text a b c d e f : List ℕ) (tokens : List Token)
    → (((((((text ++ a) ++ 32 ∷ b) ++ 32 ∷ c) ++ 32 ∷ d) ++ 32 ∷ e) ++ 32 ∷ f) ++ flat_map (λ t. 32 ∷ t) tokens) ++ 10 ∷ []
    ≡ text ++ line (a ∷ b ∷ c ∷ d ∷ e ∷ f ∷ tokens)
access_line text a b c d e f tokens =
    let more : List ℕ = flat_map (λ (t : Token). 32 ∷ t) tokens in
    let middle : List ℕ = b ++ 32 ∷ (c ++ 32 ∷ d) in
    rw (joined f tokens)
    (ap (λ (t : List ℕ). (((t ++ 32 ∷ e) ++ 32 ∷ f) ++ more) ++ 10 ∷ []) (three (text ++ a) b c d)
    ∙ (ap (λ (t : List ℕ). t ++ 10 ∷ []) (append_assoc (((text ++ a) ++ 32 ∷ middle) ++ 32 ∷ e) (32 ∷ f) more)
    ∙ (line_of_four text a middle e (f ++ more)
    ∙ ap (λ (t : List ℕ). text ++ ((a ++ 32 ∷ t) ++ 10 ∷ [])) (and_more b c d (32 ∷ (e ++ 32 ∷ (f ++ more)))))))

-- the lines before an access, and that one's
pub access_more : (design : Design) (first : List ℕ) (log : List LoggedAccess) (k : ℕ) (d : LoggedAccess) → k < length log
    → (first ++ text_of_lines (map (access_tokens design) (take k log))) ++ line (access_tokens design (get_or log k d))
    ≡ first ++ text_of_lines (map (access_tokens design) (take (k + 1) log))
access_more design first log k d inside =
    lines_more (access_tokens design) first log k (get_or log k d) inside (get_or_default log k d (get_or log k d) inside)

-- ---- step by step

-- the lines of these steps
abbrev pub step_lines : Plan → List HistoryStep → List ℕ
step_lines p steps = text_of_lines (map (access_tokens p.design) (logged_in steps))

pub steps_more : (p : Plan) (first : List ℕ) (steps more : List HistoryStep)
    → (first ++ step_lines p steps) ++ step_lines p more ≡ first ++ step_lines p (steps ++ more)
steps_more p first steps more =
    append_assoc first (step_lines p steps) (step_lines p more)
    ∙ ap (λ (t : List ℕ). first ++ t)
    (sym (text-append (map (access_tokens p.design) (logged_in steps)) (map (access_tokens p.design) (logged_in more)))
    ∙ ap text_of_lines
    (sym (map-append (access_tokens p.design) (logged_in steps) (logged_in more))
    ∙ ap (map (access_tokens p.design)) (sym (flat_map-append (λ (s : HistoryStep). map (logged s) s.exchanges) steps more))))

-- the lines of the history are those of the log
pub history_lines : (p : Plan) → step_lines p (history p (clock_of (verdict p))) ≡ text_of_lines (map (access_tokens p.design) (log_of p))
unfolding log_of
history_lines p = refl

-- the whole text, with the verdict as it is read
pub whole_log : (p : Plan) (v : Verdict) (first second : List ℕ) → first ≡ codes "log\n" → second ≡ first ++ line (verdict_tokens v)
    → v ≡ verdict p → second ++ text_of_lines (map (access_tokens p.design) (log_of p)) ≡ log_text p
unfolding log_text report
whole_log p v first second named told of_plan =
    let accesses : List ℕ = text_of_lines (map (access_tokens p.design) (log_of p)) in
    ap (λ (t : List ℕ). t ++ accesses) (told ∙ ap (λ (t : List ℕ). t ++ line (verdict_tokens v)) named)
    ∙ (append_assoc (codes "log\n") (line (verdict_tokens v)) accesses
    ∙ ap (λ (u : Verdict). codes "log\n" ++ (line (verdict_tokens u) ++ accesses)) of_plan)
