-- The log of a plan.
use Rattle.std.specs.Prelude.{ℕ, ◌<◌, length, List, [], ◌∷◌, Option, None, Some, codes, decimal, map}
use Rattle.std.specs.Int.{from_bool}
use Rattle.flow_design.specs.{Design, Plan, Token}
use Rattle.lockstep_defs.specs.{report}
use Rattle.report_text.specs.{text_of_lines, verdict_tokens, channel_name, kind_token, module_name}
use Rattle.sim_core.specs.{LoggedAccess, log_of}

-- the token of the value of the element that moved, if one moved
abbrev pub value_tokens : Option ℕ → List Token
value_tokens None = []
value_tokens (Some value) = decimal value ∷ []

-- the tokens of `access MODULE KIND CHANNEL CLOCK OUTCOME`, and of the value, if an element moved
abbrev pub access_tokens : Design → LoggedAccess → List Token
access_tokens design a =
    codes "access" ∷ module_name design a.event.module ∷ kind_token a.event.kind ∷ channel_name design a.event.channel
    ∷ decimal a.event.cycle ∷ decimal (from_bool a.outcome) ∷ value_tokens a.value

-- the module and the channel of an access are the design's
abbrev pub IsOfDesign : Design → LoggedAccess → Type 0
IsOfDesign design a = (a.event.module < length design.modules) × (a.event.channel < length design.channels)

-- the log of a plan: the verdict, and a line for each access that was done
unfoldable pub log_text : Plan → List ℕ
log_text p =
    text_of_lines ((codes "log" ∷ []) ∷ verdict_tokens (report p).verdict ∷ map (access_tokens p.design) (log_of p))
