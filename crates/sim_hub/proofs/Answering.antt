-- What a call answers, from what its turn did.
use Rattle.std.proofs.Common.{◌≡◌, inl, inr, ℕ, ◌+◌, ◌<◌, refl, sym, ap, ◌∙◌, subst, append_assoc, append-nil, List, [], ◌∷◌, ◌++◌, Some}
use Rattle.std.proofs.Common.{Bool, true, false, length}
use Rattle.std.specs.Coded.{le_prop}
use mathlib.Core.Logic.{∥∥₁_elim, ∥∥₁_map}
use mathlib.Core.List.{IsPrefix}
use Rattle.sim_hub.specs.{Plan, ModuleState, FitsEngine, design, HubTurn, HubEntry, lent_at, after_short, TurnsOf, AreOfOthers, turned_by}
use Rattle.sim_hub.specs.{bearer, history_of, Stands, PassView, entries_of, Owns, BeginsTurn, EndsTurn, Continues, Desk, PerfAnswer}
use Rattle.sim_hub.specs.{HoldsAfter, IsLegal, IsPlace, HasModule, HasModules, HasAdded, HasLooked, HasMadeAll, HasNoDesk, IsLater, IsHeld}
use Rattle.sim_hub.specs.{IsHubIdle, IsHubDone, WasShort, HadMemory, FoundShort, DeskIs, PerfIs, ReturnIs, Adds, ShortIs, LendingIs, BackIs}
use Rattle.sim_hub.specs.{TimingIs, MayAdd, IsTurnEnd}
use Rattle.timing_bridge.specs.{declared.entry.HubEntry.TheVariants.Turn, Turned.Turned}
use Rattle.timing_bridge.specs.declared.turn.HubTurn.TheVariants.{Lent, Ran, Timed, Short}
use Rattle.sim_hub.proofs.Histories.{plan_since, turns_since, others_later, lent_first, stands_next, mapped_some}
use Rattle.sim_hub.proofs.Keeping.{history-snoc, same_entries}
use Rattle.sim_hub.specs.declared.answer.Desk.TheVariants as desk
use Rattle.sim_hub.specs.declared.answer.PerfAnswer.TheVariants as perf

-- ---- what stands after a history

pub stands_more : (p : Plan) (log more : List HubEntry) (v w : Turned ModuleState) (turn : HubTurn) → Stands p log v
    → turned_by p v turn ≡ Some w → Adds turn log more → Stands p more w
stands_more p log more v w turn s next added = record {
  turns = s.turns ++ turn ∷ [];
  entries = added ∙ ap (λ (es : List HubEntry). es ++ Turn turn ∷ []) s.entries ∙ sym (history-snoc p s.turns turn);
  standing = stands_next p s.turns v w turn s.standing next;
}

-- after a want of memory, by what stands before it
pub short_after_log : (q : ℕ) (log more : List HubEntry) (P : Plan → Turned ModuleState → Type 0) → HoldsAfter log P
    → Adds (Short q) log more → HoldsAfter more WasShort
short_after_log q log more P (p, at, s, holds) added =
    (p, after_short at q, stands_more p log more at (after_short at q) (Short q) s refl added, refl)

pub home_after_short : (m : ℕ) (log more : List HubEntry) (P : Plan → Turned ModuleState → Type 0) → HoldsAfter log P
    → Adds (Short (m + 1)) log more → HasNoDesk m more
home_after_short m log more P (p, at, s, holds) added = (
  p,
  after_short at (m + 1),
  stands_more p log more at (after_short at (m + 1)) (Short (m + 1)) s refl added,
  λ lent. (mapped_some (m + 1) m (m + 1) at.lent_to lent).1 refl,
)

-- a want of memory of a module's pass, where the turns before are these
pub short_added : (p q : Plan) (turns same : List HubTurn) (log : List HubEntry) (pass m : ℕ) → q ≡ p → same ≡ turns → pass ≡ m + 1
    → Adds (Short pass) (history_of q same) log → Adds (Short (m + 1)) (history_of p turns) log
short_added p q turns same log pass m plan is number added =
    added ∙ ap (λ (es : List HubEntry). es ++ Turn (Short pass) ∷ []) (same_entries p q turns same plan is)
    ∙ ap (λ n. history_of p turns ++ Turn (Short n) ∷ []) number

pub module_later : (m : ℕ) (seen log : List HubEntry) → HasModule m seen → IsPrefix seen log → IsLegal log → HasModule m log
module_later m seen log there begins k =
    ∥∥₁_map there
    (λ (l, inside). (
      k,
      subst (λ (p : Plan). m < length p.design.modules) (plan_since l.plan k.plan seen log l.at k.at l.stands k.stands begins)
          inside,
    ))

pub modules_later : (count : ℕ) (seen log : List HubEntry) → HasModules count seen → IsPrefix seen log → IsLegal log → HasModules count log
modules_later count seen log there begins k =
    ∥∥₁_map there
    (λ (l, same). (
      k,
      subst (λ (p : Plan). length p.design.modules ≡ count) (plan_since l.plan k.plan seen log l.at k.at l.stands k.stands begins)
          same,
    ))

-- by what has been seen the module is one of the plan's
pub module_inside : (p : Plan) (log : List HubEntry) (v : Turned ModuleState) → Stands p log v → (m : ℕ) (seen : List HubEntry)
    → HasModule m seen → IsPrefix seen log → m < length p.design.modules
module_inside p log v t m seen there begins =
    ∥∥₁_elim there le_prop
    (λ (l, inside). subst (λ (q : Plan). m < length q.design.modules) (plan_since l.plan p seen log l.at v l.stands t begins) inside)

-- ---- a pass comes back to the history

module _ (p : Plan) (fits : FitsEngine p) (log : List HubEntry) (now : Turned ModuleState) (t : Stands p log now) (v : PassView HubEntry)
    (c : Continues bearer v log) where
  -- what was seen is of this plan, and the turns since are of others
  pub come_back : (P : Plan → Turned ModuleState → Type 0) → HoldsAfter v.seen P
      → (at : Turned ModuleState) × Stands p v.seen at × P p at
      × ((later : List HubTurn) × AreOfOthers v.number later × TurnsOf (design p) p.cycles at later now)
  come_back P (q, at, s, holds) =
      let same : q ≡ p = plan_since q p v.seen log at now s t c.begins in
      let s' : Stands p v.seen at = subst (λ (r : Plan). Stands r v.seen at) same s in
      let (later, are, turns) = turns_since p v.seen log at now s' t fits c.begins.0 c.begins.1 in
      let none = ap (entries_of bearer v.number) (sym are) ∙ c.since c.begins.0 c.begins.1 in
      (at, s', subst (λ (r : Plan). P r at) same holds, (later, others_later v.number later none, turns))

  -- with no desk, it still has none
  pub home_since : (m : ℕ) → v.number ≡ m + 1 → HasNoDesk m v.seen → HasNoDesk m log
  home_since m number home =
      let (at, s, none, (later, others, turns)) = come_back (λ q u. lent_at u m ≡ Some (m + 1) → ⊥) home in (
        p,
        now,
        t,
        λ lent. none
            (lent_first (design p) p.cycles at now (m + 1) m later (subst (λ (q : ℕ). AreOfOthers q later) number others) turns lent),
      )

-- ---- from a turn to its answer

-- what was added
ended : (q : ℕ) (added : Bool) (log more : List HubEntry) (t w : PassView HubEntry) → MayAdd q added log more → IsTurnEnd added log more t w
    → (es : List HubEntry) × (more ≡ log ++ es) × EndsTurn es more t w
ended q true log more t w (turn, adds, of) e = (Turn turn ∷ [], adds, e turn adds)
ended q false log more t w same e = ([], same ∙ sym (append-nil log), e)

-- the pass that ended a turn has seen a legal history with its own entries
pub ended_place : (q : ℕ) (es more : List HubEntry) (t w : PassView HubEntry) → EndsTurn es more t w → t.number ≡ q
    → (w.settled ≡ true → Owns bearer w.seen w) → IsLegal more → IsPlace q w
ended_place q es more t w end number owns legal = record {
  own = (owns end.settled).own ∙ ap (λ n. entries_of bearer n w.seen) (end.same.number ∙ number);
  legal = subst IsLegal (sym end.seen) legal;
}

-- the pass has seen all of it
pub end_seen : (q : ℕ) (added : Bool) (log more : List HubEntry) (t w : PassView HubEntry) → MayAdd q added log more
    → IsTurnEnd added log more t w
    → w.seen ≡ more
end_seen q added log more t w may e = let (es, longer, end) = ended q added log more t w may e in end.seen

pub is_later : (q tries : ℕ) (added : Bool) (log more : List HubEntry) (v t w : PassView HubEntry) → BeginsTurn bearer tries log v t
    → MayAdd q added log more → IsTurnEnd added log more t w → IsLater v w
is_later q tries added log more v t w b may e =
    let (es, longer, end) = ended q added log more t w may e in
    let (before, is) = b.continues.begins in record {
      begins = (before ++ es, sym (append_assoc v.seen before es) ∙ ap (λ (l : List HubEntry). l ++ es) is ∙ sym longer ∙ sym end.seen);
      turns = end.turns ∙ ap (λ n. n + 1) b.turns;
      number = end.same.number ∙ b.same.number;
      made = end.same.made ∙ b.same.made;
      joined = end.same.joined ∙ b.same.joined;
    }

module _ (tries : ℕ) (log more : List HubEntry) (v t w : PassView HubEntry) (b : BeginsTurn bearer tries log v t) where
  has_added : (turn : HubTurn) → Adds turn log more → IsTurnEnd true log more t w → HasAdded turn log v w
  has_added turn adds e =
      record {
        tries = tries;
        turn = t;
        began = b;
        ended = subst (λ (es : List HubEntry). EndsTurn (Turn turn ∷ []) es t w) adds (e turn adds);
      }

  has_looked : more ≡ log → IsTurnEnd false log more t w → HasLooked v w
  has_looked same e = record {
    tries = tries;
    turn = t;
    began = subst (λ (es : List HubEntry). BeginsTurn bearer tries es v t) (sym (e.seen ∙ same)) b;
    ended = subst (λ (es : List HubEntry). EndsTurn [] es t w) (sym e.seen ∙ sym (append-nil w.seen)) e;
  }

  found_short : (q : ℕ) (added : Bool) → ShortIs q log more added → IsTurnEnd added log more t w → FoundShort q v w
  found_short q true (adds, before) e =
      let end = e (Short q) adds in (
        subst (λ (es : List HubEntry). HoldsAfter es WasShort) (sym end.seen) (short_after_log q log more HadMemory before adds),
        inr (log, has_added (Short q) adds e, before),
      )
  found_short q false (same, before) e =
      (subst (λ (es : List HubEntry). HoldsAfter es WasShort) (sym (e.seen ∙ same)) before, inl (has_looked same e))

  pub desk_answer : (m : ℕ) (answer : Desk) (added : Bool) → LendingIs m log more answer added → IsTurnEnd added log more t w
      → DeskIs m v w answer
  desk_answer m (desk.Run task) true (is, adds, lent) e = (log, has_added (Lent (m + 1) m) adds e, lent)
  desk_answer m (desk.Run task) false (is, adds, lent) e = absurd (cc)
  desk_answer m (desk.Held n) true (is, same, count, held) e = absurd (cc)
  desk_answer m (desk.Held n) false (is, same, count, held) e =
      let seen = sym (e.seen ∙ same) in
      (has_looked same e, count ∙ ap length seen, subst (λ (es : List HubEntry). HoldsAfter es (IsHeld m)) seen held)
  desk_answer m desk.Over true (is, same, over) e = absurd (cc)
  desk_answer m desk.Over false (is, same, over) e =
      (has_looked same e, subst (λ (es : List HubEntry). HoldsAfter es IsHubDone) (sym (e.seen ∙ same)) over)
  desk_answer m desk.Short added short e = found_short (m + 1) added short e

  pub perf_answer : (answer : PerfAnswer) (added : Bool) → TimingIs log more answer added → IsTurnEnd added log more t w → PerfIs v w answer
  perf_answer (perf.Did n) true (is, adds) e = (log, has_added (Timed 0 n) adds e)
  perf_answer (perf.Did n) false (is, adds) e = absurd (cc)
  perf_answer (perf.Idle n) true (is, same, count, idle) e = absurd (cc)
  perf_answer (perf.Idle n) false (is, same, count, idle) e =
      let seen = sym (e.seen ∙ same) in
      (has_looked same e, count ∙ ap length seen, subst (λ (es : List HubEntry). HoldsAfter es IsHubIdle) seen idle)
  perf_answer perf.Over true (is, same, over) e = absurd (cc)
  perf_answer perf.Over false (is, same, over) e =
      (has_looked same e, subst (λ (es : List HubEntry). HoldsAfter es IsHubDone) (sym (e.seen ∙ same)) over)
  perf_answer perf.Short added short e = found_short 0 added short e

  pub back_answer : (m n : ℕ) (made : Bool) → BackIs m n log more made → IsTurnEnd true log more t w → ReturnIs m n v w made
  back_answer m n true adds e = (log, has_added (Ran (m + 1) m n) adds e)
  back_answer m n false adds e = (log, has_added (Short (m + 1)) adds e)

-- ---- a turn is of its pass

pub lending_adds : (m : ℕ) (log more : List HubEntry) (answer : Desk) (added : Bool) → LendingIs m log more answer added
    → MayAdd (m + 1) added log more
lending_adds m log more (desk.Run task) true (is, adds, lent) = (Lent (m + 1) m, adds, refl)
lending_adds m log more (desk.Run task) false (is, adds, lent) = absurd (cc)
lending_adds m log more (desk.Held n) true (is, same, count, held) = absurd (cc)
lending_adds m log more (desk.Held n) false (is, same, count, held) = same
lending_adds m log more desk.Over true (is, same, over) = absurd (cc)
lending_adds m log more desk.Over false (is, same, over) = same
lending_adds m log more desk.Short true (adds, rest) = (Short (m + 1), adds, refl)
lending_adds m log more desk.Short false (same, rest) = same

pub timing_adds : (log more : List HubEntry) (answer : PerfAnswer) (added : Bool) → TimingIs log more answer added
    → MayAdd 0 added log more
timing_adds log more (perf.Did n) true (is, adds) = (Timed 0 n, adds, refl)
timing_adds log more (perf.Did n) false (is, adds) = absurd (cc)
timing_adds log more (perf.Idle n) true (is, same, count, idle) = absurd (cc)
timing_adds log more (perf.Idle n) false (is, same, count, idle) = same
timing_adds log more perf.Over true (is, same, over) = absurd (cc)
timing_adds log more perf.Over false (is, same, over) = same
timing_adds log more perf.Short true (adds, rest) = (Short 0, adds, refl)
timing_adds log more perf.Short false (same, rest) = same

pub back_adds : (m n : ℕ) (log more : List HubEntry) (made : Bool) → BackIs m n log more made → MayAdd (m + 1) true log more
back_adds m n log more true adds = (Ran (m + 1) m n, adds, refl)
back_adds m n log more false adds = (Short (m + 1), adds, refl)

-- ---- a turn of the performance pass

-- the turn found the first history, left the second one, and led from the pass v to the pass w
module _ (tries : ℕ) (log more begun : List HubEntry) (v t w : PassView HubEntry) (b : BeginsTurn bearer tries log v t) (same : begun ≡ log)
    (answer : PerfAnswer) (added : Bool) (timing : TimingIs log more answer added) (e : IsTurnEnd added begun more t w) where
  pub perf_adds : MayAdd 0 added log more
  perf_adds = timing_adds log more answer added timing

  end_here : IsTurnEnd added log more t w
  end_here = subst (λ (x : List HubEntry). IsTurnEnd added x more t w) same e

  pub perf_later : IsLater v w
  perf_later = is_later 0 tries added log more v t w b perf_adds end_here

  pub perf_seen : w.seen ≡ more
  perf_seen = end_seen 0 added log more t w perf_adds end_here

  pub perf_is : PerfIs v w answer
  perf_is = perf_answer tries log more v t w b answer added timing end_here

  -- it is still the pass that made all others
  pub perf_made : IsLegal more → ∥ HasMadeAll v ∥₁ → ∥ HasMadeAll w ∥₁
  perf_made legal made =
      ∥∥₁_map made
      (λ all. record {
        made = subst (λ (n : ℕ). HasModules n w.seen) (sym perf_later.made)
            (modules_later v.made v.seen w.seen all.made perf_later.begins (subst IsLegal (sym perf_seen) legal));
        joined = perf_later.joined ∙ all.joined;
      })
