-- What was seen, once the hub is closed.
use Rattle.std.proofs.Common.{◌≡◌, ℕ, ◌+◌, ◌<◌, ◌≤◌, inl, inr, refl, sym, ap, ◌∙◌, subst, arith, List, [], ◌∷◌, ◌++◌, false, length, map}
use Rattle.std.proofs.Common.{pred, sub-one, append-nil}
use Rattle.std.proofs.{lemmas.Grind.merely, lemmas.List.nil_from_length}
use Rattle.std.specs.Coded.{le_prop}
use mathlib.Core.List.{IsPrefix}
use mathlib.Core.Logic.{∥∥₁_elim, ∥∥₁_map}
use Rattle.sim_hub.specs.{FitsEngine, Plan, ModuleState, IsFinal, design, HubEntry, opening_turned, bearer, history_of, Stands, PassView}
use Rattle.sim_hub.specs.{entries_of, AreAllMade, ShowsAll, ShowsEach, ShowsPass, ModulePass, PerfPass, HasModule, HasModules, HasNoDesk}
use Rattle.sim_hub.specs.{IsLegal, ComesHome, AreFrom, HasEachModule, IsWholeHistory, IsOverAt, module_of, module_hub, module_view}
use Rattle.sim_hub.specs.{perf_view}
use Rattle.timing_bridge.specs.Turned.{Turned}
use Rattle.turn_lock.specs.Passes.{TableId}
use Rattle.turn_lock.proofs.{Histories.none_later, Histories.prefix_self, Joins.after_joins, Joins.shows_each}
use Rattle.timing_bridge.proofs.Lending.{final_stays}
use Rattle.sim_hub.proofs.{Lists.get_mapped, Lists.get_snoc, Answering.modules_later}
use Rattle.sim_hub.proofs.Histories.{plan_since, turns_since, short_stays}

-- once all is over it stays so: until memory is wanted the core is final
pub final_since : (p : Plan) (fits : FitsEngine p) (seen log : List HubEntry) (now : Turned ModuleState) → Stands p log now
    → IsPrefix seen log
    → IsOverAt seen → now.short ≡ false → IsFinal (design p) p.cycles now.core
final_since p fits seen log now t (more, all) (inl (q, at, s, over)) memory =
    let same : q ≡ p = plan_since q p seen log at now s t (more, all) in
    let s' : Stands p seen at = subst (λ (r : Plan). Stands r seen at) same s in
    let final = subst (λ (r : Plan). IsFinal (design r) r.cycles at.core) same over.final in
    let (later, are, turns) = turns_since p seen log at now s' t fits more all in
    subst (IsFinal (design p) p.cycles) (sym (final_stays (design p) p.cycles at now final later turns)) final
final_since p fits seen log now t (more, all) (inr (q, at, s, short)) memory =
    let same : q ≡ p = plan_since q p seen log at now s t (more, all) in
    let s' : Stands p seen at = subst (λ (r : Plan). Stands r seen at) same s in
    let (later, are, turns) = turns_since p seen log at now s' t fits more all in
    let z = sym memory ∙ short_stays (design p) p.cycles at now later turns short in
    absurd (cc)

-- a module's pass that is shown has come home
pub comes_home : (log : List HubEntry) (m : ℕ) (p : ModulePass) → module_of p ≡ m → ShowsPass bearer log (module_view p)
    → HasNoDesk (module_of p) (module_view p).seen → ∥ ComesHome m log ∥₁
comes_home log m p which shown home =
    let v = module_view p in
    let number : v.number ≡ m + 1 = p.place.numbered ∙ p.is ∙ ap (λ n. n + 1) which in
    ∥∥₁_map p.place.good
    (λ good. record {
      before = v;
      number = number;
      continues = record {
        begins = shown.seen;
        owns = record { own = sym shown.own; unborn = λ zeroth. absurd (omega arith) };
        since = λ later all.
            none_later bearer v.number v.seen later log all
            (shown.own ∙ good.own ∙ ap (λ n. entries_of bearer n v.seen) (sym p.place.numbered));
      };
      within = subst (λ n. HasModule n v.seen) which p.within;
      home = subst (λ n. HasNoDesk n v.seen) which home;
    })

-- one pass more, in order
pub from_more : (id : TableId) (seen : List HubEntry) (passes : List ModulePass) (p : ModulePass) → AreFrom id seen passes
    → module_of p ≡ length passes → module_hub p ≡ id → (module_view p).seen ≡ seen → AreFrom id seen (passes ++ p ∷ [])
from_more id seen passes p all which lock same = λ k q at.
    elim (get_snoc passes p q k at) [
      | inl there ↦ all k q there
      | inr (last, is) ↦ subst (λ (r : ModulePass). (module_of r ≡ k) × (module_hub r ≡ id) × ((module_view r).seen ≡ seen)) is
          (which ∙ sym last, lock, same)
    ]

-- the passes of all modules are all that the performance pass made
pub all_made : (perf : PerfPass) (passes : List ModulePass) → HasEachModule perf passes
    → AreAllMade (perf_view perf) (map module_view passes)
all_made perf passes each n above below =
    let m : ℕ = pred n in
    let is : m + 1 ≡ n = omega (arith, sub-one) in
    let (k, p, at, which) = each m (omega (arith, sub-one)) in
    (k, module_view p, get_mapped module_view passes k p at, p.place.numbered ∙ p.is ∙ ap (λ i. i + 1) which ∙ is)

-- ---- how many passes there are

same_count : (a b : ℕ) (seen : List HubEntry) → HasModules a seen → HasModules b seen → a ≡ b
same_count a b seen x y =
    let low : a ≤ b = ∥∥₁_elim x le_prop (λ (l, e). ∥∥₁_elim y le_prop (λ (k, f). let same = one l k in omega arith)) in
    let high : b ≤ a = ∥∥₁_elim x le_prop (λ (l, e). ∥∥₁_elim y le_prop (λ (k, f). let same = one l k in omega arith)) in
    omega arith
  where
    one : (l k : IsLegal seen) → length l.plan.design.modules ≡ length k.plan.design.modules
    one l k =
        ap (λ (p : Plan). length p.design.modules) (plan_since l.plan k.plan seen seen l.at k.at l.stands k.stands (prefix_self seen))

-- the performance pass has made one pass for each module of the plan
pub made_count : (p : Plan) (log : List HubEntry) (now : Turned ModuleState) → Stands p log now → (perf : PerfPass)
    → IsPrefix (perf_view perf).seen log → (perf_view perf).made ≡ length p.design.modules
made_count p log now t perf begins =
    let v = perf_view perf in
    let there : HasModules v.made v.seen = ∥∥₁_elim perf.made (hlevel) (λ m. m.made) in
    let k : IsLegal log = record { plan = p; at = now; stands = t } in
    same_count v.made (length p.design.modules) log (modules_later v.made v.seen log there begins k) (merely (k, refl))

-- a history that was just opened
pub opened_count : (p : Plan) (n : ℕ) → n ≡ length p.design.modules → HasModules n (history_of p [])
opened_count p n same =
    merely
    (record { plan = p; at = opening_turned (design p); stands = record { turns = []; entries = refl; standing = refl } }, sym same)

-- ---- after the loop

-- all passes were joined, once no pass is left
pub joined_all : (v u : PassView HubEntry) (passes yielded rest : List ModulePass) → u ≡ after_joins v (map module_view yielded)
    → passes ≡ yielded ++ rest → length rest ≡ 0 → u ≡ after_joins v (map module_view passes)
joined_all v u passes yielded rest is all none =
    is ∙ ap (λ (ps : List ModulePass). after_joins v (map module_view ps))
    (sym (all ∙ ap (λ (ps : List ModulePass). yielded ++ ps) (nil_from_length rest none) ∙ append-nil yielded))

pub shown_each : (log : List HubEntry) (v u : PassView HubEntry) (passes : List ModulePass) → v.number ≡ 0
    → u ≡ after_joins v (map module_view passes) → ShowsAll bearer u log → ShowsEach bearer v (map module_view passes) log
shown_each log v u passes zeroth is all =
    shows_each bearer log v (map module_view passes) zeroth (subst (λ (w : PassView HubEntry). ShowsAll bearer w log) is all)

-- the history is whole
pub whole : (perf : PerfPass) (passes : List ModulePass) (log : List HubEntry) → IsLegal log
    → ShowsEach bearer (perf_view perf) (map module_view passes) log
    → ((n : ℕ) → (perf_view perf).made < n → length (entries_of bearer n log) ≡ 0) → IsWholeHistory perf passes log
whole perf passes log legal shown none_else = record {
  legal = legal;
  first = shown.first.seen;
  first_own = ap (λ n. entries_of bearer n log) (sym (perf.place.numbered ∙ perf.first)) ∙ shown.first.own;
  others = λ k p at.
      let one = shown.others k (module_view p) (get_mapped module_view passes k p at) in
      (one.seen, ap (λ n. entries_of bearer n log) (sym (p.place.numbered ∙ p.is)) ∙ one.own);
  none_else = λ n above. nil_from_length (entries_of bearer n log) (none_else n above);
}
