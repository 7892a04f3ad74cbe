-- The serial run of a module: the iterations of a loop run one after another, and pops take their values from a list per channel.
use Rattle.std.specs.Prelude.{◌≡◌, ℕ, zero, suc, ◌<◌, ◌++◌, ◌==◌, ◌&&◌, Bool, true, false, not, if◌then◌else◌, IsTrue, List, [], ◌∷◌}
use Rattle.std.specs.Prelude.{length, flat_map, slice_index, slice_index_or}
use Rattle.flow_word.specs.declared.access.Side.TheVariants.{Pop, Push}
use Rattle.flow_design.specs.{Block, Channel, Design, Plan, ModuleState, Reply, Request, block_of, is_loop, declared.design.Module.Module}
use Rattle.lockstep_defs.specs.{requests, committed, again_of, fresh_temps, followed, opened, Exchange, reply_by, moved_by, OwnStep, Own}
use Rattle.lockstep_defs.specs.{own_run, paired}
use Rattle.serial_order.specs.Orders.{module_in}

-- ---- replies from lists

-- the n-th value of a channel, given a list of values per channel; 0 after the end of its list
abbrev pub value_given : List (List ℕ) → ℕ → ℕ → ℕ
value_given lists f n = slice_index (slice_index_or lists f []) n

-- the reply to a request after these exchanges: nothing waits, and a pop after n pops of its channel gives its n-th value
abbrev pub serial_reply : List (List ℕ) → List Exchange → Request → Reply
serial_reply lists done r = reply_by r.kind true (value_given lists r.channel (length (moved_by Pop r.channel done)))

-- the replies to the requests of a local clock, each after the exchanges of those before it
abbrev pub all_given : List (List ℕ) → List Exchange → List Request → List Reply
all_given lists done [] = []
all_given lists done (r ∷ rs) =
    let reply = serial_reply lists done r in reply ∷ all_given lists (done ++ record { request = r; reply = reply } ∷ []) rs

-- ---- the serial run

-- the progress of a run: the module's state, and what the module has done at its channels
pub record SerialProgress : Type 0 where
  pub state : ModuleState
  pub done : List Exchange

-- the state with a single live iteration, which is of this age
abbrev pub alone_at : ℕ → ModuleState → ModuleState
alone_at age s = record s { control = record { block = s.control.block; clock = age; newest = 0; looping = false } }

-- the progress after one local clock: all operations that are due in it commit together
abbrev pub clock_made : List (List ℕ) → List Channel → Module → ModuleState → List Exchange → SerialProgress
clock_made lists channels m s done =
    let asked = requests channels m s in
    record { state = committed m s (all_given lists done asked); done = done ++ paired asked (all_given lists done asked) }

-- the progress after this many offsets of an iteration, which starts with its temps at 0
unfoldable pub iteration : List (List ℕ) → List Channel → Module → ℕ → SerialProgress → SerialProgress
iteration lists channels m zero x = record x { state = record x.state { temps = fresh_temps (block_of m x.state) ∷ [] } }
iteration lists channels m (suc age) x =
    let y = iteration lists channels m age x in clock_made lists channels m (alone_at age y.state) y.done

-- the block is a loop whose register is not 0
abbrev pub goes_again : Block → ModuleState → Bool
goes_again b s = is_loop b.kind && not (slice_index s.registers (again_of b.kind) == 0)

-- the state after an iteration: a loop starts another one while its register is not 0; otherwise the terminator leads to the next
-- block
abbrev pub moved_on : Module → ModuleState → ModuleState
moved_on m s = if goes_again (block_of m s) s then s else followed m (block_of m s).next s

-- the progress after one more iteration with all its offsets; a module that has ended stays as it is
abbrev pub iterated : List (List ℕ) → List Channel → Module → SerialProgress → SerialProgress
iterated lists channels m x =
    if x.state.ended then x
    else (let y = iteration lists channels m (block_of m x.state).len x in record y { state = moved_on m y.state })

-- the serial run of a module after this many iterations
unfoldable pub serial : List (List ℕ) → List Channel → Module → ℕ → SerialProgress
serial lists channels m zero = record { state = opened m; done = [] }
serial lists channels m (suc n) = iterated lists channels m (serial lists channels m n)

-- ---- own runs with the values of lists

-- the replies to these steps are those that the lists give, after the exchanges done before
abbrev pub AreGiven : List (List ℕ) → List Exchange → List OwnStep → Type 0
AreGiven lists done [] = Unit {0}
AreGiven lists done (s ∷ ss) = (s.replies ≡ all_given lists done s.requests) × AreGiven lists (done ++ paired s.requests s.replies) ss

-- what an own run has done at its channels
abbrev pub exchanges_of : Own → List Exchange
exchanges_of o = flat_map (λ s. paired s.requests s.replies) o.steps

-- ---- serial modules

-- the serial run has ended with the results of the own run: on each channel the same pushes in the same order and the same number
-- of pops, and the same registers and memories
pub record EndsAlike (channels : ℕ) (x : SerialProgress) (o : Own) : Type 0 where
  pub ended : IsTrue x.state.ended
  pub pushes : (f : ℕ) → f < channels → moved_by Push f x.done ≡ moved_by Push f (exchanges_of o)
  pub pops : (f : ℕ) → f < channels → length (moved_by Pop f x.done) ≡ length (moved_by Pop f (exchanges_of o))
  pub registers : x.state.registers ≡ o.state.registers
  pub memories : x.state.memories ≡ o.state.memories

-- for all lists of values: if the module's own run on them ends, the serial run ends too, with the same results
abbrev pub EqualsPlainLoops : Design → ℕ → Type 0
EqualsPlainLoops design i =
    (p : Plan) → p.design ≡ design → (lists : List (List ℕ)) (replies : List (List Reply)) (n : ℕ)
    → AreGiven lists [] (own_run p i replies n).steps → IsTrue (own_run p i replies n).state.ended
    → (k : ℕ) × EndsAlike (length design.channels) (serial lists design.channels (module_in design i) k) (own_run p i replies n)

-- ---- runs that have not ended

-- the first list is a prefix of the second
abbrev pub IsPrefixOf : List ℕ → List ℕ → Type 0
IsPrefixOf front whole = (more : List ℕ) × (whole ≡ front ++ more)

-- the serial run has done at least what the own run has: on each channel, the own run's pushes and pops are a prefix of its own
pub record GetsAsFar (channels : ℕ) (x : SerialProgress) (o : Own) : Type 0 where
  pub pushes : (f : ℕ) → f < channels → IsPrefixOf (moved_by Push f (exchanges_of o)) (moved_by Push f x.done)
  pub pops : (f : ℕ) → f < channels → IsPrefixOf (moved_by Pop f (exchanges_of o)) (moved_by Pop f x.done)

-- for all lists of values: at each point of the module's own run on them, the serial run gets at least as far
abbrev pub KeepsToPlainLoops : Design → ℕ → Type 0
KeepsToPlainLoops design i =
    (p : Plan) → p.design ≡ design → (lists : List (List ℕ)) (replies : List (List Reply)) (n : ℕ)
    → AreGiven lists [] (own_run p i replies n).steps
    → (k : ℕ) × GetsAsFar (length design.channels) (serial lists design.channels (module_in design i) k) (own_run p i replies n)
