-- What a history tells of its plan.
use Rattle.std.proofs.Common.{◌≡◌, sym, ap, ◌∙◌, List, [], ◌++◌, append_assoc}
use mathlib.Core.List.{IsPrefix}
use Rattle.run_threads.specs.{Plan, HubEntry, HubTurn, history_of}

pub prefix_trans : (xs ys zs : List HubEntry) → IsPrefix xs ys → IsPrefix ys zs → IsPrefix xs zs
prefix_trans xs ys zs a b = (a.0 ++ b.0, sym (append_assoc xs a.0 b.0) ∙ (ap (λ (l : List HubEntry). l ++ b.0) a.1 ∙ b.1))

-- a history that begins with a plan's opening is one of this plan
pub one_plan : (p q : Plan) (turns : List HubTurn) (log : List HubEntry) → IsPrefix (history_of p []) log → log ≡ history_of q turns → p ≡ q
one_plan p q turns log begins e = head begins.0 (begins.1 ∙ e)
  where
    head : (rest : List HubEntry) → history_of p [] ++ rest ≡ history_of q turns → p ≡ q
    head rest f = cc f
