-- Lines that grow.
use Rattle.std.proofs.Common.{◌≡◌, ◌≢◌, ℕ, zero, suc, ◌+◌, ◌<◌, List, [], ◌∷◌, ◌++◌, refl, sym, ap, ap₂, ◌∙◌, arith, length, get_or}
use Rattle.std.proofs.Common.{append_assoc, Bool, true, false, cond, map}
use Rattle.std.proofs.{lemmas.Bool.ne_eqb, lemmas.List.append-nil, lemmas.List.map-append, lemmas.List.Elements.filter-append}
use Rattle.std.specs.{Prelude.codes, Prelude.decimal, List.flat_map, List.filter, List.range_with_len}
use Rattle.stall_text.specs.{Side, Kind, is_blocking, line, text_of_lines, kind_token, stall_word, query_lines, at_each_query, port_word}
use Rattle.stall_text.specs.{cause_lines, port_lines, last_after, at_each_side, Token}
use Rattle.flow_word.specs.declared.access.Side.TheVariants.{Pop, Push}
use Rattle.flow_word.specs.declared.access.Kind.TheVariants.{TryRead, TryWrite, Empty, Full}
use Rattle.report_text.proofs.LineLemmas.{line_of_five, text-append, numbers_more}
use Rattle.flow_word.proofs.Ranges.{range_last}

pub text-one : (l : List Token) → text_of_lines (l ∷ []) ≡ line l
text-one l = append-nil (line l)

-- ---- one line

five_pushed : (text a b c d e t u v w x y : List ℕ) → t ≡ text ++ a → u ≡ t ++ 32 ∷ b → v ≡ u ++ 32 ∷ c → w ≡ v ++ 32 ∷ d
    → x ≡ w ++ 32 ∷ e → y ≡ x ++ 10 ∷ [] → y ≡ text ++ line (a ∷ b ∷ c ∷ d ∷ e ∷ [])
five_pushed text a b c d e t u v w x y p q r s o n =
    n
    ∙ (ap (λ (l : List ℕ). l ++ 10 ∷ []) (o
    ∙ ap (λ (l : List ℕ). l ++ 32 ∷ e) (s
    ∙ ap (λ (l : List ℕ). l ++ 32 ∷ d) (r ∙ ap (λ (l : List ℕ). l ++ 32 ∷ c) (q ∙ ap (λ (l : List ℕ). l ++ 32 ∷ b) p))))
    ∙ line_of_five text a b c d e)

pub cause_line : (text name channel word t u v w x y : List ℕ) (side : Side) (clocks : ℕ) → clocks ≢ 0 → word ≡ stall_word side
    → t ≡ text ++ codes "stall" → u ≡ t ++ 32 ∷ name → v ≡ u ++ 32 ∷ word → w ≡ v ++ 32 ∷ channel → x ≡ w ++ 32 ∷ decimal clocks
    → y ≡ x ++ 10 ∷ [] → y ≡ text ++ text_of_lines (cause_lines name channel side clocks)
cause_line text name channel word t u v w x y side clocks some is p q r s o n =
    let tokens = codes "stall" ∷ name ∷ stall_word side ∷ channel ∷ decimal clocks ∷ [] in
    five_pushed text (codes "stall") name (stall_word side) channel (decimal clocks) t u v w x y p q
    (r ∙ ap (λ (l : List ℕ). u ++ 32 ∷ l) is) s o n
    ∙ ap (λ (l : List ℕ). text ++ l)
    (sym (text-one tokens) ∙ sym (ap (λ (b : Bool). text_of_lines (cond b [] (tokens ∷ []))) (ne_eqb clocks 0 some)))

line_of_six : (text a b c d e f : List ℕ)
    → ((((((text ++ a) ++ 32 ∷ b) ++ 32 ∷ c) ++ 32 ∷ d) ++ 32 ∷ e) ++ 32 ∷ f) ++ 10 ∷ [] ≡ text ++ line (a ∷ b ∷ c ∷ d ∷ e ∷ f ∷ [])
line_of_six text a b c d e f =
    let four = (((text ++ a) ++ 32 ∷ b) ++ 32 ∷ c) ++ 32 ∷ d in
    ap (λ (l : List ℕ). l ++ 10 ∷ []) (append_assoc four (32 ∷ e) (32 ∷ f)) ∙ line_of_five text a b c d (e ++ 32 ∷ f)

pub query_line : (text name channel word t u v w x y z : List ℕ) (of : Kind) (tried missed : ℕ) → tried ≢ 0 → word ≡ kind_token of
    → t ≡ text ++ codes "poll" → u ≡ t ++ 32 ∷ name → v ≡ u ++ 32 ∷ word → w ≡ v ++ 32 ∷ channel → x ≡ w ++ 32 ∷ decimal tried
    → y ≡ x ++ 32 ∷ decimal missed → z ≡ y ++ 10 ∷ [] → z ≡ text ++ text_of_lines (query_lines name of channel tried missed)
query_line text name channel word t u v w x y z of tried missed some is p q r s a b d =
    let tokens = codes "poll" ∷ name ∷ kind_token of ∷ channel ∷ decimal tried ∷ decimal missed ∷ [] in
    d
    ∙ (ap (λ (l : List ℕ). l ++ 10 ∷ []) (b
    ∙ ap (λ (l : List ℕ). l ++ 32 ∷ decimal missed) (a
    ∙ ap (λ (l : List ℕ). l ++ 32 ∷ decimal tried) (s
    ∙ ap (λ (l : List ℕ). l ++ 32 ∷ channel) (r ∙ ap₂ (λ (l k : List ℕ). l ++ 32 ∷ k) (q ∙ ap (λ (l : List ℕ). l ++ 32 ∷ name) p) is))))
    ∙ (line_of_six text (codes "poll") name (kind_token of) channel (decimal tried) (decimal missed)
    ∙ ap (λ (l : List ℕ). text ++ l)
    (sym (text-one tokens) ∙ sym (ap (λ (b : Bool). text_of_lines (cond b [] (tokens ∷ []))) (ne_eqb tried 0 some)))))

line_of_seven : (text a b c d e f g : List ℕ)
    → (((((((text ++ a) ++ 32 ∷ b) ++ 32 ∷ c) ++ 32 ∷ d) ++ 32 ∷ e) ++ 32 ∷ f) ++ 32 ∷ g) ++ 10 ∷ []
    ≡ text ++ line (a ∷ b ∷ c ∷ d ∷ e ∷ f ∷ g ∷ [])
line_of_seven text a b c d e f g =
    let four = (((text ++ a) ++ 32 ∷ b) ++ 32 ∷ c) ++ 32 ∷ d in
    ap (λ (l : List ℕ). l ++ 10 ∷ [])
    (append_assoc (four ++ 32 ∷ e) (32 ∷ f) (32 ∷ g) ∙ append_assoc four (32 ∷ e) (32 ∷ (f ++ 32 ∷ g)))
    ∙ line_of_five text a b c d (e ++ 32 ∷ (f ++ 32 ∷ g))

last_is : (x : ℕ) (xs : List ℕ) → last_after x xs ≡ get_or (x ∷ xs) (length xs) 0
last_is x [] = refl
last_is x (y ∷ ys) = last_is y ys

port_tokens : (name channel : Token) (side : Side) (clocks : List ℕ) (last : ℕ) → last + 1 ≡ length clocks
    → text_of_lines (port_lines name channel side clocks)
    ≡ line (codes "port" ∷ name ∷ port_word side ∷ channel ∷ decimal (length clocks) ∷ decimal (get_or clocks 0 0)
    ∷ decimal (get_or clocks last 0) ∷ [])
port_tokens name channel side [] last e = absurd (omega arith)
port_tokens name channel side (x ∷ xs) last e =
    let there : length xs ≡ last = omega arith in
    text-one (codes "port" ∷ name ∷ port_word side ∷ channel ∷ decimal (length (x ∷ xs)) ∷ decimal x ∷ decimal (last_after x xs) ∷ [])
    ∙ ap (λ (n : ℕ). line (codes "port" ∷ name ∷ port_word side ∷ channel ∷ decimal (length (x ∷ xs)) ∷ decimal x ∷ decimal n ∷ []))
    (last_is x xs ∙ ap (λ (k : ℕ). get_or (x ∷ xs) k 0) there)

pub port_line : (text name channel word : List ℕ) (side : Side) (clocks : List ℕ) (last : ℕ) (t u v w x y z n : List ℕ)
    → last + 1 ≡ length clocks → word ≡ port_word side
    → t ≡ text ++ codes "port" → u ≡ t ++ 32 ∷ name → v ≡ u ++ 32 ∷ word → w ≡ v ++ 32 ∷ channel
    → x ≡ w ++ 32 ∷ decimal (length clocks) → y ≡ x ++ 32 ∷ decimal (get_or clocks 0 0) → z ≡ y ++ 32 ∷ decimal (get_or clocks last 0)
    → n ≡ z ++ 10 ∷ [] → n ≡ text ++ text_of_lines (port_lines name channel side clocks)
port_line text name channel word side clocks last t u v w x y z n some is p q r s a b d e =
    e
    ∙ (ap (λ (l : List ℕ). l ++ 10 ∷ []) (d
    ∙ ap (λ (l : List ℕ). l ++ 32 ∷ decimal (get_or clocks last 0)) (b
    ∙ ap (λ (l : List ℕ). l ++ 32 ∷ decimal (get_or clocks 0 0)) (a
    ∙ ap (λ (l : List ℕ). l ++ 32 ∷ decimal (length clocks)) (s
    ∙ ap (λ (l : List ℕ). l ++ 32 ∷ channel) (r ∙ ap₂ (λ (l k : List ℕ). l ++ 32 ∷ k) (q ∙ ap (λ (l : List ℕ). l ++ 32 ∷ name) p) is)))))
    ∙ (line_of_seven text (codes "port") name (port_word side) channel (decimal (length clocks)) (decimal (get_or clocks 0 0))
    (decimal (get_or clocks last 0))
    ∙ ap (λ (l : List ℕ). text ++ l) (sym (port_tokens name channel side clocks last some))))

-- ---- many

pub two_more : (text t u : List ℕ) (xs ys : List (List Token)) → t ≡ text ++ text_of_lines xs → u ≡ t ++ text_of_lines ys
    → u ≡ text ++ text_of_lines (xs ++ ys)
two_more text t u xs ys p q =
    q ∙ (ap (λ (l : List ℕ). l ++ text_of_lines ys) p
    ∙ (append_assoc text (text_of_lines xs) (text_of_lines ys) ∙ ap (λ (l : List ℕ). text ++ l) (sym (text-append xs ys))))

-- the lines of both sides of one channel more
pub sides_more : (lines : ℕ → Side → List (List Token)) (n : ℕ) (first text t u : List ℕ)
    → text ≡ first ++ text_of_lines (at_each_side n lines) → t ≡ text ++ text_of_lines (lines n Pop) → u ≡ t ++ text_of_lines (lines n Push)
    → u ≡ first ++ text_of_lines (at_each_side (n + 1) lines)
sides_more lines n first text t u e p q =
    numbers_more (λ f. lines f Pop ++ lines f Push) n first text u e (two_more text t u (lines n Pop) (lines n Push) p q)

-- the lines of all kinds of queries on one channel more
pub queries_more : (lines : ℕ → Kind → List (List Token)) (n : ℕ) (first text t u v w : List ℕ)
    → text ≡ first ++ text_of_lines (at_each_query n lines) → t ≡ text ++ text_of_lines (lines n TryRead)
    → u ≡ t ++ text_of_lines (lines n TryWrite) → v ≡ u ++ text_of_lines (lines n Empty) → w ≡ v ++ text_of_lines (lines n Full)
    → w ≡ first ++ text_of_lines (at_each_query (n + 1) lines)
queries_more lines n first text t u v w e p q r s =
    numbers_more (λ f. ((lines f TryRead ++ lines f TryWrite) ++ lines f Empty) ++ lines f Full) n first text w e
    (two_more text v w ((lines n TryRead ++ lines n TryWrite) ++ lines n Empty) (lines n Full)
    (two_more text u v (lines n TryRead ++ lines n TryWrite) (lines n Empty)
    (two_more text t u (lines n TryRead) (lines n TryWrite) p q) r) s)

same_from : (g h : ℕ → List (List Token)) (a n : ℕ) → ((f : ℕ) → f < a + n → g f ≡ h f)
    → flat_map g (range_with_len a n) ≡ flat_map h (range_with_len a n)
same_from g h a zero e = refl
same_from g h a (suc n) e =
    ap₂ (λ (xs ys : List (List Token)). xs ++ ys) (e a (omega arith)) (same_from g h (a + 1) n (λ f l. e f (omega arith)))

pub same_sides : (n : ℕ) (g h : ℕ → Side → List (List Token)) → ((f : ℕ) → f < n → (side : Side) → g f side ≡ h f side)
    → at_each_side n g ≡ at_each_side n h
same_sides n g h e =
    same_from _ _ 0 n (λ f l. ap₂ (λ (xs ys : List (List Token)). xs ++ ys) (e f (omega arith) Pop) (e f (omega arith) Push))

pub same_queries : (n : ℕ) (g h : ℕ → Kind → List (List Token)) → ((f : ℕ) → f < n → (kind : Kind) → is_blocking kind ≡ false
    → g f kind ≡ h f kind) → at_each_query n g ≡ at_each_query n h
same_queries n g h e =
    same_from _ _ 0 n (λ f l.
    let inside : f < n = omega arith in
    λ i. ((e f inside TryRead refl i ++ e f inside TryWrite refl i) ++ e f inside Empty refl i) ++ e f inside Full refl i)

-- the line of one number more that passes a test
pub tested_more : (g : ℕ → List Token) (test : ℕ → Bool) (n : ℕ) (first text next : List ℕ)
    → text ≡ first ++ text_of_lines (map g (filter test (range_with_len 0 n))) → next ≡ text ++ cond (test n) (line (g n)) []
    → next ≡ first ++ text_of_lines (map g (filter test (range_with_len 0 (n + 1))))
tested_more g test n first text next e r =
    two_more first text next (map g (filter test (range_with_len 0 n))) (map g (cond (test n) (n ∷ []) [])) e
    (r ∙ ap (λ (l : List ℕ). text ++ l) (by_test (test n)))
    ∙ ap (λ (l : List (List Token)). first ++ text_of_lines l)
    (sym (map-append g (filter test (range_with_len 0 n)) (cond (test n) (n ∷ []) []))
    ∙ ap (map g) (sym (filter-append test (range_with_len 0 n) (n ∷ [])) ∙ ap (filter test) (sym (range_last n))))
  where
    by_test : (b : Bool) → cond b (line (g n)) [] ≡ text_of_lines (map g (cond b (n ∷ []) []))
    by_test true = sym (text-one (g n))
    by_test false = refl
