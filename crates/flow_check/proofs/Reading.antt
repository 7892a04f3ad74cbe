-- What the rules of reading give of a plan and of its edits.
use Rattle.std.proofs.Common.{◌≡◌, ℕ, ◌+◌, ◌<◌, ◌≤◌, List, [], ◌∷◌, ◌++◌, length, map, is_some, IfSome, Bool, true, false, cond, refl, sym}
use Rattle.std.proofs.Common.{ap, subst, ◌∙◌, arith, length-append, Option, Some, None, true≢false, append_assoc, append-nil, sum_by}
use Rattle.std.proofs.Common.{get_or}
use Rattle.std.proofs.{lemmas.List.Elements.All-nil, lemmas.List.Elements.All-cons, lemmas.Bool.and_parts, lemmas.List.Concat.flat_map-cons}
use Rattle.std.proofs.{lemmas.Bool.Decides.nat_tests, lemmas.List.FromFn.length-enumerate_from, lemmas.Slice.Eq.bytes_eq-Decides}
use Rattle.std.proofs.lemmas.List.{length-map, reverse-append, get_or-map}
use Rattle.std.proofs.lemmas.List.Sums.{sum_by-cons, take_while-cons}
use Rattle.std.specs.List.{All, filter_map, cons_option, flat_map, enumerate_from}
use Rattle.std.specs.{Prelude.IsTrue, Prelude.reverse, Prelude.nat_le, Prelude.if◌then◌else◌, Str.bytes_eq}
use Rattle.flow_check.specs.{Port, Scale, limits_at, Statement, Timed, Next, Block, Memory, is_name, Name, ChannelKind, Channel, no_channel}
use Rattle.flow_check.specs.{is_fifo, EditFits, Edit, places_written, expressions_of, memory_used, port_of, IsExpressionSound}
use Rattle.flow_check.specs.{AreEntriesSound, temp_name, is_among, declared_channel, register_name, memory_name, block_name, blocks}
use Rattle.flow_check.specs.{statements_in_module, input_count, input_values, declared_module, channels, modules, declared_fifo}
use Rattle.flow_check.specs.{token_is_name, is_complete, KeepsReadingRules, place_reached, may_stand, may_follow, Scope, name_number, timed}
use Rattle.flow_check.specs.{terminator, Level, first_or, kind_of, block, memory, scope_of, plan_module, values_for, cut_inputs, inputs_for}
use Rattle.flow_check.specs.{channel, depth_in, channels_of, channel_names, plan_of, edit, edits_of, begins, body_of, sections}
use Rattle.flow_check.specs.{declared_width, IsTimedRead, IsKindRead, IsNextRead, IsBlockRead, IsMemoryRead, IsModuleRead, IsPlanRead}
use Rattle.flow_check.specs.{some_passes}
use Rattle.session_plan.specs.Sections.{declared}
use Rattle.flow_design.specs.declared.limits.TheConstants.{MEMORY_WORDS, FIFO_DEPTH, FIFO_DELAY}
use Rattle.flow_design.specs.{declared.design.Module.Module, declared.session.Statement.TheVariants.Input}
use Rattle.flow_grammar.specs.declared.place.SessionPlace.TheVariants.{AmongRegisters, AtEnd}
use Rattle.flow_check.proofs.Bodies.{Keeps, Follow, Plain, plain_body, follow_body, inside, nothing_inside, grows, at_most, as_many, Heard}
use Rattle.flow_check.proofs.Bodies.{heard_none, Grows, Both, both_more, all_follow, temp_same, heard_all, Hears, hears_more, hears_body}
use Rattle.flow_check.proofs.Bodies.{plain_later, TimedRead, ops_read, next_read, few_temps, few_operations, len_read, kind_read}
use Rattle.flow_check.proofs.Bodies.{register_same, memory_same, heard_body, channel_same, in_range, at_most_as}
use Rattle.session_plan.proofs.{Counts.names_long, Giving.numbered_at}
use Rattle.flow_design.specs.declared.session.Statement.TheVariants as s
use Rattle.flow_design.specs.declared.design.Next.TheVariants as next
use Rattle.session_plan.specs.declared.section.Level.TheVariants as level
use Rattle.session_plan.specs.declared.section.Sort.TheVariants as sort
use Rattle.flow_design.specs.declared.design.ChannelKind.TheVariants as kind

hears_own : (scope : Scope) (names : List Name) (earlier rest : List Statement) → Hears scope earlier rest
    → Hears (record scope { temps = names }) earlier rest
hears_own scope names earlier rest h = record { channels = h.channels; registers = h.registers; memories = h.memories }

-- so many temps have names as have widths
temps_long : (body : List Statement) → length (filter_map (declared sort.Temps) body) ≡ length (filter_map (declared_width sort.Temps) body)
temps_long body = as_many _ _ (λ x. grind arith) body

module _ (scale : Scale) (count : ℕ) (m : Module) (scope : Scope) (chans : length scope.channels ≡ count)
    (regs : length scope.registers ≡ length m.registers) (mems : length scope.memories ≡ length m.memories) where
  timed_read : (names : List Name) (b : Block) → length names ≡ length b.temps → (t : Timed)
      → TimedRead (record scope { temps = names }) t → IsTimedRead count m b t
  timed_read names b long t h =
      let total : length (scope.registers ++ names) ≡ length m.registers + length b.temps = length-append scope.registers names
      ∙ omega arith in
      record {
        guard = subst (λ (n : ℕ). IfSome t.guard (λ g. g < n)) total h.0;
        places = subst (λ (n : ℕ). All (λ x. x < n) (places_written t.op)) total h.1.at;
        expressions = subst (λ (n : ℕ). All (IsExpressionSound n) (expressions_of t.op)) total h.1.expressions;
        memory = subst (λ (n : ℕ). IfSome (memory_used t.op) (λ k. k < n)) mems h.1.memory;
        channel = subst (λ (n : ℕ). IfSome (port_of t.op) (λ (a : Port). a.channel < n)) chans h.1.channel;
      }

  block_read : (earlier : List Statement) (head : Statement) (rest : List Statement) → begins level.Blocks head ≡ true
      → begins level.Modules head ≡ false → Keeps scale earlier head
      → Follow scale (head ∷ earlier) rest → Plain level.Modules rest → Hears scope earlier (head ∷ rest)
      → IsBlockRead scale count m (block scope (head, body_of level.Blocks rest))
  unfolding block
  block_read earlier head rest b plain keeps follow pm hears =
      let body : List Statement = body_of level.Blocks rest in
      let e0 : List Statement = head ∷ earlier in
      let names : List Name = filter_map (declared sort.Temps) body in
      let own : Scope = record scope { temps = names } in
      let nothing : inside level.Blocks e0 ≡ [] = nothing_inside level.Blocks head b earlier in
      let heard : Hears own e0 body = hears_own scope names e0 body
      (hears_body scope e0 level.Blocks rest (hears_more scope earlier head rest plain hears)) in
      let follows : Follow scale e0 body = follow_body scale level.Blocks e0 rest follow in
      let no_modules : Plain level.Modules body = plain_later level.Modules level.Blocks rest pm in
      let no_blocks : Plain level.Blocks body = plain_body level.Blocks rest in
      let ops : List Timed = filter_map (timed own) body in
      let all : All (TimedRead own) ops
      = ops_read scale own e0 body follows no_modules no_blocks heard
      (rw nothing (heard_none temp_name names, heard_all temp_name (declared sort.Temps) temp_same body)) in
      let few : length names ≤ (limits_at scale).temps
      = at_most scale (inside level.Blocks) (declared sort.Temps) (limits_at scale).temps (few_temps scale) e0 body nothing follows
      (grows level.Blocks body no_blocks) in
      let fewer : length ops ≤ (limits_at scale).operations
      = at_most scale (inside level.Blocks) (timed own) (limits_at scale).operations (few_operations scale own) e0 body nothing follows
      (grows level.Blocks body no_blocks) in
      let after : Next = first_or next.Stop (filter_map (terminator own) body) in
      let leads : IsNextRead (length scope.registers) after = next_read scale own e0 body follows no_modules heard in
      let len = len_read scale earlier head b keeps in
      record {
        least = len.0;
        most = len.1;
        kind = subst (λ (n : ℕ). IsKindRead n (kind_of scope head)) regs (kind_read scale scope earlier head keeps hears.registers.0);
        temps = subst (λ (n : ℕ). n ≤ (limits_at scale).temps) (temps_long body) few;
        count = fewer;
        operations = λ i d there. timed_read names (block scope (head, body)) (temps_long body) _ (all i d there);
        next = subst (λ (n : ℕ). IsNextRead n after) regs leads;
      }

  pub blocks_read : (earlier body : List Statement) → Follow scale earlier body → Plain level.Modules body → Hears scope earlier body
      → All (IsBlockRead scale count m) (map (block scope) (sections level.Blocks body))
  blocks_read earlier [] follow pm hears = All-nil (IsBlockRead scale count m)
  blocks_read earlier (x ∷ body) follow pm hears =
      by (begins level.Blocks x) refl (blocks_read (x ∷ earlier) body follow.1 pm.1 (hears_more scope earlier x body pm.0 hears))
    where
      by : (b : Bool) → begins level.Blocks x ≡ b → All (IsBlockRead scale count m) (map (block scope) (sections level.Blocks body))
          → All (IsBlockRead scale count m) (map (block scope)
          (cond b ((x, body_of level.Blocks body) ∷ sections level.Blocks body) (sections level.Blocks body)))
      by true e later = All-cons (IsBlockRead scale count m) _ (map (block scope) (sections level.Blocks body))
          (block_read earlier x body e pm.0 follow.0 follow.1 pm.1 hears) later
      by false e later = later

-- ---- what the rules of reading give of modules

-- ---- a session is over

abbrev pub Over : List Statement → List Statement → Type 0
Over earlier [] = place_reached earlier ≡ AtEnd
Over earlier (x ∷ rest) = Over (x ∷ earlier) rest

over_after : (earlier rest : List Statement) → place_reached (reverse rest ++ earlier) ≡ AtEnd → Over earlier rest
over_after earlier [] h = h
over_after earlier (x ∷ rest) h =
    over_after (x ∷ earlier) rest
    (ap place_reached (sym (ap (λ (l : List Statement). l ++ earlier) (reverse-append (x ∷ []) rest)
    ∙ append_assoc (reverse rest) (x ∷ []) earlier)) ∙ h)

ends : (statements : List Statement) → is_complete statements ≡ true → place_reached (reverse statements) ≡ AtEnd
unfolding is_complete
ends statements h = grind arith

pub all_over : (statements : List Statement) → is_complete statements ≡ true → Over [] statements
all_over statements h = over_after [] statements (ap place_reached (append-nil (reverse statements)) ∙ ends statements h)

-- a module has a block
some_block : (scale : Scale) (earlier rest : List Statement) → place_reached earlier ≡ AmongRegisters → Follow scale earlier rest
    → Over earlier rest
    → 1 ≤ length (sections level.Blocks (body_of level.Modules rest))
unfolding may_follow
some_block scale earlier [] here follow over = absurd cc
some_block scale earlier (s.Reg n w ∷ rest) here follow over
    = rw take_while-cons (some_block scale (s.Reg n w ∷ earlier) rest refl follow.1 over)
some_block scale earlier (s.Mem n w len ∷ rest) here follow over
    = rw take_while-cons (some_block scale (s.Mem n w len ∷ earlier) rest refl follow.1 over)
some_block scale earlier (s.Block n len ∷ rest) here follow over = rw take_while-cons (omega arith)
some_block scale earlier (s.Loop n ii len again ∷ rest) here follow over = rw take_while-cons (omega arith)
some_block scale earlier (x ∷ rest) here follow over = absurd (true≢false (sym (sym (ap (may_stand x) here) ∙ follow.0.permitted)))

-- ---- counts

pub sections_long : (l : Level) (name : Statement → Option Name) → ((x : Statement) → is_some (name x) ≡ begins l x) → (xs : List Statement)
    → length (sections l xs) ≡ length (filter_map name xs)
sections_long l name same [] = refl
sections_long l name same (x ∷ xs) = let one = same x in let later = sections_long l name same xs in grind arith

few_registers : (scale : Scale) (earlier : List Statement) (x : Statement) → Keeps scale earlier x
    → is_some (declared sort.Registers x) ≡ true
    → length (filter_map (declared sort.Registers) (inside level.Modules earlier)) < (limits_at scale).registers
few_registers scale earlier x keeps h =
    let room = keeps.room in
    let long = as_many register_name (declared sort.Registers) (λ y. ap is_some (register_same y)) (statements_in_module earlier) in
    grind (arith, nat_tests)

few_memories : (scale : Scale) (earlier : List Statement) (x : Statement) → Keeps scale earlier x
    → is_some (declared sort.Memories x) ≡ true
    → length (filter_map (declared sort.Memories) (inside level.Modules earlier)) < (limits_at scale).memories
few_memories scale earlier x keeps h =
    let room = keeps.room in
    let long = as_many memory_name (declared sort.Memories) (λ y. ap is_some (memory_same y)) (statements_in_module earlier) in
    grind (arith, nat_tests)

few_blocks : (scale : Scale) (earlier : List Statement) (x : Statement) → Keeps scale earlier x → is_some (block_name x) ≡ true
    → length (blocks earlier) < (limits_at scale).blocks
few_blocks scale earlier x keeps h = let room = keeps.room in grind (arith, nat_tests)

-- ---- memories

words_more : (scale : Scale) (earlier : List Statement) (x : Statement) → Keeps scale earlier x → (later : List Memory)
    → All (IsMemoryRead scale) later
    → All (IsMemoryRead scale) (cons_option (memory x) later)
words_more scale earlier (s.Mem n w len) keeps later h =
    let first = and_parts _ _ keeps.ranged in let range = and_parts _ _ first.1 in let words = in_range 1 len MEMORY_WORDS range.0 in
    let most = at_most_as len (limits_at scale).memory_words keeps.sized in
    All-cons (IsMemoryRead scale) (record { width = w; len = len }) later (record { least = words.0; most = most }) h
words_more scale earlier x keeps later h = h

words_read : (scale : Scale) (earlier body : List Statement) → Follow scale earlier body → All (IsMemoryRead scale) (filter_map memory body)
words_read scale earlier [] follow = All-nil (IsMemoryRead scale)
words_read scale earlier (x ∷ body) follow =
    words_more scale earlier x follow.0 (filter_map memory body) (words_read scale (x ∷ earlier) body follow.1)

registers_long : (body : List Statement)
    → length (filter_map (declared sort.Registers) body) ≡ length (filter_map (declared_width sort.Registers) body)
registers_long body = as_many _ _ (λ x. grind arith) body

memories_long : (body : List Statement) → length (filter_map (declared sort.Memories) body) ≡ length (filter_map memory body)
memories_long body = as_many _ _ (λ x. grind arith) body

-- ---- modules

module_read : (scale : Scale) (names : List Name) (earlier : List Statement) (n : Name) (rest : List Statement)
    → Keeps scale earlier (s.Module n)
    → Follow scale (s.Module n ∷ earlier) rest
    → Over (s.Module n ∷ earlier) rest → Both declared_channel names (s.Module n ∷ earlier) rest
    → IsModuleRead scale (length names) (plan_module names (s.Module n, body_of level.Modules rest))
unfolding plan_module token_is_name
module_read scale names earlier n rest keeps follow over heard =
    let body : List Statement = body_of level.Modules rest in
    let e0 : List Statement = s.Module n ∷ earlier in
    let own : Scope = scope_of names body in
    let nothing : inside level.Modules e0 ≡ [] = nothing_inside level.Modules (s.Module n) refl earlier in
    let follows : Follow scale e0 body = follow_body scale level.Modules e0 rest follow in
    let plain : Plain level.Modules body = plain_body level.Modules rest in
    let hears : Hears own e0 body = record {
      channels = (heard.0, heard_body declared_channel names level.Modules rest heard.1);
      registers = (heard_none register_name own.registers, heard_all register_name (declared sort.Registers) register_same body);
      memories = (heard_none memory_name own.memories, heard_all memory_name (declared sort.Memories) memory_same body);
    } in
    let m : Module = plan_module names (s.Module n, body) in
    let grown : Grows (inside level.Modules) body = grows level.Modules body plain in
    let a : length (filter_map (declared sort.Registers) body) ≤ (limits_at scale).registers
    = at_most scale (inside level.Modules) (declared sort.Registers) (limits_at scale).registers (few_registers scale) e0 body nothing
    follows grown in
    let b : length (filter_map (declared sort.Memories) body) ≤ (limits_at scale).memories
    = at_most scale (inside level.Modules) (declared sort.Memories) (limits_at scale).memories (few_memories scale) e0 body nothing follows
    grown in
    let c : length (filter_map block_name body) ≤ (limits_at scale).blocks
    = at_most scale (inside level.Modules) block_name (limits_at scale).blocks (few_blocks scale) e0 body nothing follows grown in
    let long_a = registers_long body in
    let long_b = memories_long body in
    let long_c = sections_long level.Blocks block_name (λ y. grind arith) body in
    let long_d : length (map (block own) (sections level.Blocks body)) ≡ length (sections level.Blocks body) = simp length-map in
    let some : 1 ≤ length (sections level.Blocks body) = some_block scale e0 rest refl follow over in
    record {
      name = (and_parts _ _ keeps.named).0;
      registers = omega arith;
      memories = omega arith;
      words = words_read scale e0 body follows;
      some = omega arith;
      count = omega arith;
      blocks = blocks_read scale (length names) m own refl (registers_long body) (memories_long body) e0 body follows plain hears;
    }

pub modules_read : (scale : Scale) (names : List Name) (earlier rest : List Statement) → Follow scale earlier rest → Over earlier rest
    → Both declared_channel names earlier rest
    → All (IsModuleRead scale (length names)) (map (plan_module names) (sections level.Modules rest))
modules_read scale names earlier [] follow over heard = All-nil (IsModuleRead scale (length names))
modules_read scale names earlier (x ∷ rest) follow over heard =
    let next = both_more declared_channel names x earlier rest heard in
    more x follow.0 follow.1 over next (modules_read scale names (x ∷ earlier) rest follow.1 over next)
  where
    more : (x : Statement) → Keeps scale earlier x → Follow scale (x ∷ earlier) rest → Over (x ∷ earlier) rest
        → Both declared_channel names (x ∷ earlier) rest
        → All (IsModuleRead scale (length names)) (map (plan_module names) (sections level.Modules rest))
        → All (IsModuleRead scale (length names)) (map (plan_module names) (sections level.Modules (x ∷ rest)))
    more (s.Module n) keeps follow over heard h =
        All-cons (IsModuleRead scale (length names)) _ (map (plan_module names) (sections level.Modules rest))
        (module_read scale names earlier n rest keeps follow over heard) h
    more y keeps follow over heard h = h

-- ---- how many input values a session has

-- the values that are given for the channels from number a on
abbrev given_from : List Name → ℕ → Statement → ℕ
given_from names a (Input n values) = if nat_le a (name_number names n) then length values else 0
given_from names a x = 0

abbrev amount : List Name → ℕ → List Statement → ℕ
amount names a [] = 0
amount names a (x ∷ rest) = given_from names a x + amount names a rest

-- one channel takes what is given for it alone
one_taken : (names : List Name) (a : ℕ) (statements : List Statement)
    → length (flat_map (values_for names a) statements) + amount names (a + 1) statements ≤ amount names a statements
one_taken names a [] = omega arith
one_taken names a (x ∷ rest) =
    let later = one_taken names a rest in let own = flat_map-cons (values_for names a) x rest in
    let long = length-append (values_for names a x) (flat_map (values_for names a) rest) in grind (arith, nat_tests)

kept : (k : ChannelKind) (width : ℕ) (values : List ℕ) → length (cut_inputs k width values) ≤ length values
kept kind.Source width values = simp length-map (omega arith)
kept k width values = omega arith

taken_most : (names : List Name) (statements : List Statement) (a : ℕ) (cs : List Channel)
    → sum_by length (map (inputs_for names statements) (enumerate_from a cs)) ≤ amount names a statements
taken_most names statements a [] = omega arith
taken_most names statements a (c ∷ cs) =
    let more = sum_by-cons length (inputs_for names statements (a, c)) (map (inputs_for names statements) (enumerate_from (a + 1) cs)) in
    let later = taken_most names statements (a + 1) cs in let one = one_taken names a statements in
    let own = kept c.kind c.width (flat_map (values_for names a) statements) in
    omega arith

-- at most as many as the scale has
amount_most : (scale : Scale) (names : List Name) (earlier rest : List Statement) → Follow scale earlier rest
    → input_values earlier ≤ (limits_at scale).input_values
    → input_values earlier + amount names 0 rest ≤ (limits_at scale).input_values
amount_most scale names earlier [] follow h = omega arith
amount_most scale names earlier (x ∷ rest) follow h =
    let more = sum_by-cons input_count x earlier in let room = follow.0.room in
    let later = amount_most scale names (x ∷ earlier) rest follow.1 in grind (arith, nat_tests)

-- ---- what the rules of reading give of a plan and of its edits

-- ---- counts

grows_all : (rest : List Statement) → Grows (λ l. l) rest
grows_all [] = tt
grows_all (x ∷ rest) = (λ earlier. refl, grows_all rest)

few_channels : (scale : Scale) (earlier : List Statement) (x : Statement) → Keeps scale earlier x → is_some (declared_channel x) ≡ true
    → length (channels earlier) < (limits_at scale).channels
few_channels scale earlier x keeps h = let room = keeps.room in grind (arith, nat_tests)

channels_long : (xs : List Statement) → length (channels_of xs) ≡ length (channels xs)
channels_long xs = as_many _ _ (λ x. grind arith) xs

few_modules : (scale : Scale) (earlier : List Statement) (x : Statement) → Keeps scale earlier x → is_some (declared_module x) ≡ true
    → length (modules earlier) < (limits_at scale).modules
few_modules scale earlier x keeps h = let room = keeps.room in grind (arith, nat_tests)

-- ---- channels

abbrev IsKindOf : Scale → ChannelKind → Type 0
IsKindOf scale kind.Source = Unit {0}
IsKindOf scale kind.Sink = Unit {0}
IsKindOf scale (kind.Fifo d l) = (1 ≤ d) × (d ≤ FIFO_DEPTH) × (1 ≤ l) × (l ≤ FIFO_DELAY) × (d ≤ (limits_at scale).fifo_depth)

abbrev ChannelRead : Scale → Channel → Type 0
ChannelRead scale c = IsTrue (is_name c.name) × IsKindOf scale c.kind

channel_more : (scale : Scale) (earlier : List Statement) (x : Statement) → Keeps scale earlier x → (later : List Channel)
    → All (ChannelRead scale) later
    → All (ChannelRead scale) (cons_option (channel x) later)
unfolding token_is_name
channel_more scale earlier (s.Source n w) keeps later h = All-cons (ChannelRead scale) _ later ((and_parts _ _ keeps.named).0, tt) h
channel_more scale earlier (s.Sink n w) keeps later h = All-cons (ChannelRead scale) _ later ((and_parts _ _ keeps.named).0, tt) h
channel_more scale earlier (s.Fifo n w d l) keeps later h =
    let first = and_parts _ _ keeps.ranged in let second = and_parts _ _ first.1 in let third = and_parts _ _ second.1 in
    let depth = in_range 1 d FIFO_DEPTH second.0 in let within = at_most_as d (limits_at scale).fifo_depth keeps.sized in
    let delay = in_range 1 l FIFO_DELAY third.0 in
    All-cons (ChannelRead scale) _ later ((and_parts _ _ keeps.named).0, (depth.0, depth.1, delay.0, delay.1, within)) h
channel_more scale earlier x keeps later h = h

channels_read : (scale : Scale) (earlier rest : List Statement) → Follow scale earlier rest
    → All (ChannelRead scale) (filter_map channel rest)
channels_read scale earlier [] follow = All-nil (ChannelRead scale)
channels_read scale earlier (x ∷ rest) follow
    = channel_more scale earlier x follow.0 (filter_map channel rest) (channels_read scale (x ∷ earlier) rest follow.1)

entries : (scale : Scale) (k : ChannelKind) (width : ℕ) (values : List ℕ) → IsKindOf scale k
    → AreEntriesSound k (cut_inputs k width values) (depth_in k)
entries scale kind.Source width values h = refl
entries scale kind.Sink width values h = (refl, refl)
entries scale (kind.Fifo d l) width values h = (refl, h.0, h.1, h.2, h.3)

depth_kept : (scale : Scale) (k : ChannelKind) → IsKindOf scale k → depth_in k ≤ (limits_at scale).fifo_depth
depth_kept scale kind.Source h = omega arith
depth_kept scale kind.Sink h = omega arith
depth_kept scale (kind.Fifo d l) h = h.4

pub plan_read : (scale : Scale) (statements : List Statement) → KeepsReadingRules scale statements
    → IsPlanRead scale (plan_of scale statements)
unfolding plan_of
plan_read scale statements rules =
    let follow : Follow scale [] statements = all_follow scale statements rules in
    let cs : List Channel = channels_of statements in
    let names : List Name = channel_names statements in
    let a : length (channels statements) ≤ (limits_at scale).channels
    = at_most scale (λ l. l) declared_channel (limits_at scale).channels (few_channels scale) [] statements refl follow
    (grows_all statements) in
    let b : length (modules statements) ≤ (limits_at scale).modules
    = at_most scale (λ l. l) declared_module (limits_at scale).modules (few_modules scale) [] statements refl follow
    (grows_all statements) in
    let long_a : length cs ≡ length (channels statements) = channels_long statements in
    let long_b = sections_long level.Modules declared_module (λ y. grind arith) statements in
    let long_c : length (map (plan_module names) (sections level.Modules statements)) ≡ length (sections level.Modules statements)
    = simp length-map in
    let long_d : length (map (inputs_for names statements) (enumerate_from 0 cs)) ≡ length cs = simp (length-map, length-enumerate_from) in
    let long_e : length (map (λ (c : Channel). depth_in c.kind) cs) ≡ length cs = simp length-map in
    let read : All (ChannelRead scale) cs = channels_read scale [] statements follow in
    let most = amount_most scale names [] statements follow (omega arith) in
    let took = taken_most names statements 0 cs in
    let heard : Heard declared_channel names statements = heard_all declared_channel (declared sort.Channels) channel_same statements in
    record {
      channel_count = omega arith;
      module_count = omega arith;
      inputs = long_d;
      depths = long_e;
      input_count = omega arith;
      names = λ f there. (read f no_channel there).0;
      entries = λ f there.
          let c : Channel = get_or cs f no_channel in
          let at : get_or (map (inputs_for names statements) (enumerate_from 0 cs)) f [] ≡ inputs_for names statements (f, c)
          = get_or-map (inputs_for names statements) (enumerate_from 0 cs) f (0, no_channel) [] (rw length-enumerate_from there)
          ∙ ap (inputs_for names statements) (numbered_at cs no_channel f there) in
          let deep : get_or (map (λ (d : Channel). depth_in d.kind) cs) f 0 ≡ depth_in c.kind
          = get_or-map (λ (d : Channel). depth_in d.kind) cs f no_channel 0 there in
          subst (λ (l : List ℕ). AreEntriesSound c.kind l (get_or (map (λ (d : Channel). depth_in d.kind) cs) f 0)) (sym at)
          (subst (AreEntriesSound c.kind (inputs_for names statements (f, c))) (sym deep)
          (entries scale c.kind c.width _ (read f no_channel there).1));
      deep = λ f none there.
          let within : f < length cs = omega (arith, long_e) in
          subst (λ (d : ℕ). d ≤ (limits_at scale).fifo_depth)
          (sym (get_or-map (λ (d : Channel). depth_in d.kind) cs f no_channel none within))
          (depth_kept scale (get_or cs f no_channel).kind (read f no_channel within).1);
      modules = subst (λ (n : ℕ). All (IsModuleRead scale n) (map (plan_module names) (sections level.Modules statements)))
          (names_long statements)
          (modules_read scale names [] statements follow (all_over statements rules.over) (heard_none declared_channel names, heard));
    }

-- ---- the edits of a session that was read are those of FIFOs of its plan

abbrev name : Channel → Name
name c = c.name

-- the kind of the first channel of a name
abbrev first_kind : Name → List Channel → Option ChannelKind
first_kind n [] = None
first_kind n (c ∷ cs) = cond (bytes_eq n c.name) (Some c.kind) (first_kind n cs)

-- it stands at the name's place
kind_placed : (n : Name) (cs : List Channel) → some_passes is_fifo (first_kind n cs) ≡ true
    → (name_number (map name cs) n < length cs) × (is_fifo (get_or cs (name_number (map name cs) n) no_channel).kind ≡ true)
kind_placed n [] h = absurd (true≢false (sym h))
kind_placed n (c ∷ cs) h = let later = kind_placed n cs in (grind arith, grind arith)

names_are : (statements : List Statement) → channel_names statements ≡ map name (channels_of statements)
names_are [] = refl
names_are (x ∷ rest) = let later = names_are rest in grind arith

-- ---- a name stands for one channel

-- no FIFO after has the name of a channel before
no_later : (scale : Scale) (n : Name) (earlier rest : List Statement) → Follow scale earlier rest → is_among (channels earlier) n ≡ true
    → is_among (filter_map declared_fifo rest) n ≡ false
no_later scale n earlier [] follow h = refl
no_later scale n earlier (x ∷ rest) follow h =
    let fresh = follow.0.fresh in let later = no_later scale n (x ∷ earlier) rest follow.1 in grind (arith, bytes_eq-Decides)

-- the first channel of a FIFO's name is a FIFO
fifo_first : (scale : Scale) (n : Name) (earlier rest : List Statement) → Follow scale earlier rest
    → is_among (filter_map declared_fifo rest) n ≡ true
    → some_passes is_fifo (first_kind n (filter_map channel rest)) ≡ true
fifo_first scale n earlier [] follow h = absurd (true≢false (sym h))
fifo_first scale n earlier (x ∷ rest) follow h =
    let none = no_later scale n (x ∷ earlier) rest follow.1 in let later = fifo_first scale n (x ∷ earlier) rest follow.1 in grind arith

-- ---- edits

edit_fits : (scale : Scale) (statements : List Statement) → Follow scale [] statements → (n : Name) (depth : ℕ)
    → is_among (filter_map declared_fifo statements) n ≡ true → 1 ≤ depth → depth ≤ FIFO_DEPTH
    → EditFits (plan_of scale statements) (record { channel = name_number (channel_names statements) n; depth = depth })
unfolding plan_of
edit_fits scale statements follow n depth there least most =
    let placed = rw (← names_are statements) at (kind_placed n (channels_of statements) (fifo_first scale n [] statements follow there)) in
    record { fifo = placed.1; entry = simp length-map placed.0; least = least; most = most }

edit_more : (scale : Scale) (statements earlier : List Statement) → Follow scale [] statements
    → Heard declared_fifo (filter_map declared_fifo statements) earlier
    → (x : Statement) → Keeps scale earlier x
    → (later : List Edit) → All (EditFits (plan_of scale statements)) later
    → All (EditFits (plan_of scale statements)) (cons_option (edit (channel_names statements) x) later)
edit_more scale statements earlier follow heard (s.Depth n depth) keeps later h =
    let known = and_parts _ _ keeps.known in let range = and_parts _ _ keeps.ranged in let within = in_range 1 depth FIFO_DEPTH range.0 in
    All-cons (EditFits (plan_of scale statements)) _ later
    (edit_fits scale statements follow n depth (heard n known.0) within.0 within.1) h
edit_more scale statements earlier follow heard x keeps later h = h

edits_from : (scale : Scale) (statements earlier rest : List Statement) → Follow scale [] statements → Follow scale earlier rest
    → Both declared_fifo (filter_map declared_fifo statements) earlier rest
    → All (EditFits (plan_of scale statements)) (filter_map (edit (channel_names statements)) rest)
edits_from scale statements earlier [] whole follow heard = All-nil (EditFits (plan_of scale statements))
edits_from scale statements earlier (x ∷ rest) whole follow heard =
    edit_more scale statements earlier whole heard.0 x follow.0 (filter_map (edit (channel_names statements)) rest)
    (edits_from scale statements (x ∷ earlier) rest whole follow.1
    (both_more declared_fifo (filter_map declared_fifo statements) x earlier rest heard))

pub edits_fit : (scale : Scale) (statements : List Statement) → KeepsReadingRules scale statements
    → All (EditFits (plan_of scale statements)) (edits_of statements)
unfolding edits_of
edits_fit scale statements rules =
    let follow : Follow scale [] statements = all_follow scale statements rules in
    edits_from scale statements [] statements follow follow (heard_none declared_fifo (filter_map declared_fifo statements), λ n h. h)

-- ---- the depths of edits

abbrev IsWithin : Scale → Edit → Type 0
IsWithin scale edit = edit.depth ≤ (limits_at scale).fifo_depth

edit_within : (scale : Scale) (names : List Name) (earlier : List Statement) (x : Statement) → Keeps scale earlier x
    → (later : List Edit) → All (IsWithin scale) later → All (IsWithin scale) (cons_option (edit names x) later)
edit_within scale names earlier (s.Depth n depth) keeps later h =
    All-cons (IsWithin scale) _ later (at_most_as depth (limits_at scale).fifo_depth keeps.sized) h
edit_within scale names earlier x keeps later h = h

within_from : (scale : Scale) (names : List Name) (earlier rest : List Statement) → Follow scale earlier rest
    → All (IsWithin scale) (filter_map (edit names) rest)
within_from scale names earlier [] follow = All-nil (IsWithin scale)
within_from scale names earlier (x ∷ rest) follow =
    edit_within scale names earlier x follow.0 (filter_map (edit names) rest) (within_from scale names (x ∷ earlier) rest follow.1)

pub edits_within : (scale : Scale) (statements : List Statement) → KeepsReadingRules scale statements
    → All (λ edit. edit.depth ≤ (limits_at scale).fifo_depth) (edits_of statements)
unfolding edits_of
edits_within scale statements rules = within_from scale (channel_names statements) [] statements (all_follow scale statements rules)
