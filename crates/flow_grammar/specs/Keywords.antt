-- The words that begin statements and operations: one table, for reading them and for spelling them.
use Rattle.std.specs.{Prelude.ℕ, Prelude.List, Prelude.[], Prelude.◌∷◌, Prelude.codes, Prelude.Option, List.find}
use Rattle.flow_grammar.specs.{declared.keyword.Keyword.Keyword, declared.keyword.Verb.Verb, Tokens.is_word}
use Rattle.flow_design.specs.{Token}
use Rattle.flow_grammar.specs.declared.keyword.Keyword.TheVariants as keyword
use Rattle.flow_grammar.specs.declared.keyword.Verb.TheVariants as verb

-- the word of each kind of statement
abbrev pub keyword_word : Keyword → List ℕ
keyword_word keyword.Flow = codes "flow"
keyword_word keyword.Source = codes "source"
keyword_word keyword.Sink = codes "sink"
keyword_word keyword.Fifo = codes "fifo"
keyword_word keyword.Module = codes "module"
keyword_word keyword.Reg = codes "reg"
keyword_word keyword.Mem = codes "mem"
keyword_word keyword.Block = codes "block"
keyword_word keyword.Loop = codes "loop"
keyword_word keyword.Temp = codes "temp"
keyword_word keyword.At = codes "at"
keyword_word keyword.Goto = codes "goto"
keyword_word keyword.Branch = codes "branch"
keyword_word keyword.Stop = codes "stop"
keyword_word keyword.Input = codes "input"
keyword_word keyword.Limits = codes "limits"
keyword_word keyword.Depth = codes "depth"
keyword_word keyword.End = codes "end"

abbrev pub keywords : List Keyword
keywords =
    keyword.Flow ∷ keyword.Source ∷ keyword.Sink ∷ keyword.Fifo ∷ keyword.Module ∷ keyword.Reg ∷ keyword.Mem ∷ keyword.Block ∷ keyword.Loop
    ∷ keyword.Temp ∷ keyword.At ∷ keyword.Goto ∷ keyword.Branch ∷ keyword.Stop ∷ keyword.Input ∷ keyword.Limits ∷ keyword.Depth ∷
    keyword.End
    ∷ []

-- the keyword that a token is, if it is one
unfoldable pub keyword_of : Token → Option Keyword
keyword_of token = find (λ k. is_word token (keyword_word k)) keywords

-- the word of each kind of operation
abbrev pub verb_word : Verb → List ℕ
verb_word verb.Set = codes "set"
verb_word verb.Load = codes "load"
verb_word verb.Store = codes "store"
verb_word verb.Read = codes "read"
verb_word verb.Write = codes "write"
verb_word verb.TryRead = codes "tryread"
verb_word verb.TryWrite = codes "trywrite"
verb_word verb.Empty = codes "empty"
verb_word verb.Full = codes "full"

abbrev pub verbs : List Verb
verbs =
    verb.Set ∷ verb.Load ∷ verb.Store ∷ verb.Read ∷ verb.Write ∷ verb.TryRead ∷ verb.TryWrite ∷ verb.Empty
    ∷ verb.Full ∷ []

-- the verb that a token is, if it is one
unfoldable pub verb_of : Token → Option Verb
verb_of token = find (λ k. is_word token (verb_word k)) verbs
