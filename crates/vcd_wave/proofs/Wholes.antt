-- A text that is read is that of a wave, and each text of a wave is read.
use Rattle.std.proofs.Common.{◌≡◌, ℕ, zero, suc, ◌+◌, ◌^◌, ◌<◌, ◌≤◌, List, [], ◌∷◌, ◌++◌, map, length, refl, sym, ◌∙◌, ap, ap₂, arith}
use Rattle.std.proofs.Common.{subst}
use Rattle.std.proofs.{lemmas.List.Elements.recursion_from_All, lemmas.List.Elements.All-from_recursion, lemmas.Fmt.decimal_digit}
use Rattle.std.specs.{Prelude.IsTrue, Prelude.codes, List.All, List.AllByRecursion, List.AllPairs, List.range_with_len}
use Rattle.vcd_wave.specs.{is_name, Change, Instant, Probe, Scan, IsChange, TellsFill, Varies, told_in, told_fill, last_or, Headed}
use Rattle.vcd_wave.specs.{empty_from, empty_text, ChangesLead, InstantsLead, ScanLeads, LeadsFor, opening_scan, Wave.Wave}
use Rattle.vcd_wave.proofs.OneWave.{changes_text, instants_text, opening_text, vars_from, scope, end_of_scope, wave_parts, names_long}
use Rattle.vcd_wave.proofs.OneWave.{instants_same, IsTimed, IsWritten, both, timed}
use Rattle.vcd_wave.proofs.Orders.{changes_told, InstantsTold, instants_told, instants_go}
use Rattle.timelines.proofs.Acts.{all_map}

abbrev last_clock : List Instant → ℕ
last_clock is = last_or 0 (map (λ i. i.clock) is)

record Opened (a : Probe) (text : List ℕ) (r : Scan) : Type 0 where
  later : List Instant
  is_text : text ≡ instants_text later
  told : InstantsTold a (opening_scan a.count) later r

opened_from : (a : Probe) (text : List ℕ) (r middle : Scan) (cs : List Change) (is : List Instant)
    → text ≡ changes_text cs ++ instants_text is → ChangesLead a (opening_scan a.count) cs middle → InstantsLead a middle is r
    → Opened a text r
opened_from a text r middle [] is e c i = record {
  later = is;
  is_text = e;
  told = subst (λ (t : Scan). InstantsTold a t is r) (sym c) (instants_told a middle is r i);
}
opened_from a text r middle (x ∷ cs) is e c i =
    let t = changes_told a (opening_scan a.count) (x ∷ cs) middle c in absurd (omega (arith, t.low.0, t.is.0.declared))

opened : (a : Probe) (text : List ℕ) (r : Scan) → ScanLeads a (opening_scan a.count) text r → Opened a text r
opened a text r h = opened_from a text r h.middle h.changes h.later h.is_text h.now h.onward

timed_by : (a : Probe) (text : List ℕ) (r : Scan) (o : Opened a text r) → a.count < 2 ^ 64 → AllByRecursion IsTimed o.later
timed_by a text r o few =
    both (λ (i : Instant). i.clock < 2 ^ 64) (λ (i : Instant). AllByRecursion IsWritten i.changes) o.later o.told.clocks
    (all_map (λ (i : Instant). All (IsChange a.count) i.changes) (λ (i : Instant). AllByRecursion IsWritten i.changes)
    (λ i all. all_map (IsChange a.count) IsWritten (λ c g. omega (arith, g.declared, few)) i.changes
    (recursion_from_All (IsChange a.count) i.changes all)) o.later o.told.changes)

empties : (k n : ℕ) → empty_from k n ≡ map (λ i. let x : Change = record { fifo = i; fill = 0 } in x) (range_with_len k n)
empties k zero = refl
empties k (suc n) = ap (λ (l : List Change). record { fifo = k; fill = 0 } ∷ l) (empties (k + 1) n)

opening_is : (n : ℕ) → opening_text n ≡ codes "#0\n" ++ empty_text 0 n
opening_is n =
    ap₂ (λ (d : List ℕ) (cs : List Change). ((35 ∷ d) ++ 10 ∷ []) ++ changes_text cs) (decimal_digit 0 (omega arith)) (sym (empties 0 n))

pub tells : (text : List ℕ) (a : Probe) (rest : List ℕ) (r : Scan) → a.count < 2 ^ 64 → a.fifo < a.count → Headed text a.count rest
    → ((f : ℕ) → f < a.count → LeadsFor a f rest) → ScanLeads a (opening_scan a.count) rest r → a.clock ≤ r.clock
    → TellsFill text a.fifo a.clock r.told
unfolding told_fill
tells text a rest r few declared hd all h le =
    let o = opened a rest r h in
    let names = hd.names.names in
    let w : Wave = record { names = names; later = o.later } in
    let count : a.count ≡ length names = omega (arith, hd.names.counted) in
    let after = ap (λ (t : List ℕ). end_of_scope ++ t) (ap (λ (t : List ℕ). codes "#0\n" ++ (empty_text 0 a.count ++ t)) o.is_text
    ∙ (ap (λ (l : List ℕ). l ++ instants_text o.later) (sym (opening_is a.count))
    ∙ ap (λ (n : ℕ). opening_text n ++ instants_text o.later) count)) in
    record {
      wave = w;
      is_wave = record {
        names = All-from_recursion (λ (x : List ℕ). IsTrue (is_name x)) names hd.names.all;
        later_first_one = All-from_recursion (λ (i : Instant). 0 < i.clock) o.later o.told.after;
        clocks = All-from_recursion (λ (i : Instant). i.clock < 2 ^ 64) o.later o.told.clocks;
        rising = o.told.rising;
        some = o.told.some;
        changes = subst (λ (n : ℕ). All (λ (i : Instant). All (IsChange n) i.changes) o.later) count
            (All-from_recursion (λ (i : Instant). All (IsChange a.count) i.changes) o.later o.told.changes);
        in_order = All-from_recursion (λ (i : Instant). AllPairs (λ (x y : Change). x.fifo < y.fifo) i.changes) o.later
            o.told.in_order;
        other = λ f l.
            let b : Probe = record { count = a.count; fifo = f; clock = a.clock } in
            let lead = all f (omega (arith, l, count)) in
            let p = opened b rest lead.0 lead.1 in
            subst (λ (is : List Instant). Varies 0 (told_in f is))
            (instants_same p.later o.later (timed_by b rest lead.0 p few) (timed_by a rest r o few) (sym p.is_text ∙ o.is_text))
            p.told.varies;
      };
      its_text = hd.is_text
          ∙ (ap (λ (t : List ℕ). scope ++ t)
          (hd.names.is_text ∙ ap (λ (t : List ℕ). vars_from 0 names ++ 36 ∷ 117 ∷ t) after) ∙ sym (wave_parts w));
      declared = omega (arith, declared, count);
      within = omega (arith, le, o.told.last);
      says = sym (o.told.told (omega arith));
    }

pub record Back (text : List ℕ) (i c : ℕ) : Type 0 where
  pub count : ℕ
  pub rest : List ℕ
  pub headed : Headed text count rest
  pub declared : i < count
  pub leads : (f : ℕ) → f < count → LeadsFor (record { count = count; fifo = i; clock = c }) f rest
  pub last : (r : Scan) → ScanLeads (record { count = count; fifo = i; clock = c }) (opening_scan count) rest r → c ≤ r.clock

pub back : (text : List ℕ) (i c v : ℕ) → length text < 2 ^ 64 → TellsFill text i c v → Back text i c
back text i c v small h =
    let w = h.wave in
    let m = length w.names in
    let few : m < 2 ^ 64 = omega (arith, names_long w, ap length h.its_text, small) in
    let rest = instants_text w.later in
    record {
      count = m;
      rest = rest;
      headed = record {
        body = vars_from 0 w.names ++ 36 ∷ 117 ∷ (end_of_scope ++ (opening_text m ++ rest));
        is_text = h.its_text ∙ wave_parts w;
        names = record {
          names = w.names;
          all = recursion_from_All (λ (x : List ℕ). IsTrue (is_name x)) w.names h.is_wave.names;
          counted = omega arith;
          is_text = ap (λ (t : List ℕ). vars_from 0 w.names ++ 36 ∷ 117 ∷ (end_of_scope ++ (t ++ rest))) (opening_is m);
        };
      };
      declared = h.declared;
      leads = λ f l.
          let b : Probe = record { count = m; fifo = f; clock = c } in
          let go = instants_go b (opening_scan m) w.later few
          (recursion_from_All (λ (i : Instant). i.clock < 2 ^ 64) w.later h.is_wave.clocks)
          (recursion_from_All (λ (i : Instant). 0 < i.clock) w.later h.is_wave.later_first_one) h.is_wave.rising
          (recursion_from_All (λ (i : Instant). All (IsChange m) i.changes) w.later h.is_wave.changes)
          (recursion_from_All (λ (i : Instant). AllPairs (λ (x y : Change). x.fifo < y.fifo) i.changes) w.later h.is_wave.in_order)
          (λ n. refl) h.is_wave.some (h.is_wave.other f l) in
          (go.0, record { changes = []; later = w.later; middle = opening_scan m; is_text = refl; now = refl; onward = go.1 });
      last = λ r l.
          let a : Probe = record { count = m; fifo = i; clock = c } in
          let o = opened a rest r l in
          let same = instants_same o.later w.later (timed_by a rest r o few) (timed w h.is_wave few) (sym o.is_text) in
          subst (λ (n : ℕ). c ≤ n) o.told.last (subst (λ (n : List Instant). c ≤ last_clock n) (sym same) h.within);
    }

pub record Found (i c count : ℕ) (rest : List ℕ) : Type 0 where
  pub declared : i < count
  pub leads : (f : ℕ) → f < count → LeadsFor (record { count = count; fifo = i; clock = c }) f rest
  pub last : (r : Scan) → ScanLeads (record { count = count; fifo = i; clock = c }) (opening_scan count) rest r → c ≤ r.clock

-- what was read is what stands there
pub found : (text : List ℕ) (i c count : ℕ) (later : List ℕ) (b : Back text i c) → (count ≡ b.count) × (later ≡ b.rest)
    → Found i c count later
found text i c count later b e =
    subst (λ (n : ℕ). Found i c n later) (sym e.0)
    (subst (λ (t : List ℕ). Found i c b.count t) (sym e.1) (record { declared = b.declared; leads = b.leads; last = b.last }))
