-- A core as it is stored: a module's run is taken out or put back; room is made for a module's marks, and Runs of that module follow.
use Rattle.std.proofs.Common.{◌≡◌, sym, subst, ◌∙◌, ℕ, ◌<◌, List, [], length, get_or, set, Option, None, Some, arith}
use Rattle.std.specs.Prelude.{All, IfSome, slice_index_or}
use Rattle.sim_core.specs.{Port, Plan, ModuleState, ModuleRun, IsAdded, Candidate, Design, core_values, ActsAll, design, Engine, held_in}
use Rattle.sim_core.specs.{core_of, EngineHasModule, IsSameButRoom, IsRoomy, AreAllPorts, DueModules, Wiring, AreListed, AreDue, IsSpread}
use Rattle.sim_core.specs.{ports_to, core_in, AreUnread, IsHeldAlike, IsMember, IsRunOf, IsOut, IsCore, IsWired, IsStoredCore, lent_of}
use Rattle.sim_core.specs.declared.unread.Unread.{Unread}
use Rattle.engine_view.specs.Held.{Held}
use Rattle.sim_core.proofs.{Asking.asking_ran, QueryRoom.bodies_told, Listing.listed_ran, Waking.waking_ran, Marking.table_count}
use Rattle.event_timing.specs.Actions as actions
use Rattle.sim_core.proofs.Leaving as leaving
use Rattle.sim_core.proofs.Lending as lending
use Rattle.sim_core.proofs.Ports as ports

-- ---- a run that is taken out or put back

module _ {p : Plan} {s : Engine} {runs : List (Option ModuleRun)} {wiring : Wiring}
    {unread : List Unread} {due : DueModules} {candidates : List Candidate}
    (k : IsStoredCore p s runs wiring unread due candidates) (m : ℕ) (inside : m < length p.design.modules) where
  pub stored_lent : (o : Option ModuleRun) → ((run : ModuleRun) → o ≡ Some run → IsRunOf p (core_in p s) m run)
      → IsStoredCore p s (set runs m o) wiring unread due candidates
  stored_lent o f = record {
    core = lending.core_lent p s runs m o k.core (let n = k.core.sound.lanes in omega arith) f;
    wired = k.wired;
    unread_are = k.unread_are;
    due_are = k.due_are;
    listed_are = k.listed_are;
  }

  -- a run that was there is out
  pub run_out : (o : Option ModuleRun) → get_or runs m None ≡ o
      → IfSome o (λ run. IsOut (record { plan = p; held = held_in s; lent = lent_of (set runs m None) }) m run)
  run_out None e = tt
  run_out (Some run) e = record { inside = inside; lent = lending.lent_set runs m; run_is = k.core.runs_are m run e }

-- ---- what is told of a module

pub member : {p : Plan} {w : Wiring} → IsWired p w → (m : ℕ) → m < length p.design.modules → {own : List Port} {most : ℕ}
    → own ≡ get_or w.ports m [] → most ≡ get_or w.bodies m 0 → IsMember p m own most
member {p} {w} k m inside {own} {most} ports body = record {
  inside = inside;
  ports_are = ports ∙ k.ports_are.each m inside;
  bodies_are = bodies_told p k.bodies_are m inside body (omega arith);
}

-- ---- room for a module's marks

module _ {p : Plan} {s : Engine} {runs : List (Option ModuleRun)} (k : IsCore p s runs) (m : ℕ)
    (inside : m < length p.design.modules) (own : List Port) (own_is : own ≡ ports_to p m (length p.design.channels)) where
  channels : length s.fifos.channels ≡ length p.design.channels
  channels = table_count p s.fifos.channels k.table

  -- ---- what it asks to make room

  pub has_module : EngineHasModule s m
  has_module =
      let lanes = k.sound.lanes in
      let logs = k.sound.logs in
      let count = k.counted in
      record { lane = omega arith; log = omega arith; credit = omega arith }

  pub ports_inside : All (λ (port : Port). port.channel < length s.fifos.channels) own
  ports_inside = ports.all_within p m (length s.fifos.channels) own channels own_is

  -- ---- with room

  module _ (t : Engine) (same : IsSameButRoom m s t) (room : (d : Design ModuleState)
      → AreAllPorts d m (length s.fifos.channels) own → IsRoomy d s → IsRoomy d t) where
    pub held_same : IsHeldAlike s t
    held_same = lending.held_same s t same.lanes same.channels same.logs same.ends

    pub core : IsCore p t runs
    core = lending.core_roomed p s runs t k held_same same.ends same.count
        (room (design p) (ports.all_there p m (length s.fifos.channels) own channels own_is) k.room)

-- ---- after Runs of a module

module _ {p : Plan} {s : Engine} {runs : List (Option ModuleRun)} {wiring : Wiring}
    {unread : List Unread} {due : DueModules} {candidates : List Candidate}
    (k : IsStoredCore p s runs wiring unread due candidates) (m : ℕ) (inside : m < length p.design.modules)
    (f : Engine) where
  -- where there were none
  pub stored_alike : IsHeldAlike s f → (runs' : List (Option ModuleRun)) → IsCore p f runs'
      → IsStoredCore p f runs' wiring unread due candidates
  stored_alike same runs' core' = record {
    core = core';
    wired = k.wired;
    unread_are = leaving.unread_same p (held_in s) (held_in f) unread same k.unread_are;
    due_are = subst (λ (h : Held). AreDue p (core_of (design p) h) due) (sym same) k.due_are;
    listed_are = subst (λ (h : Held). AreListed p (core_of (design p) h) due candidates) (sym same) k.listed_are;
  }

  module _ (count : ℕ) (acts : ActsAll (design p) p.cycles (core_in p s) (actions.runs count m) (core_in p f)) where
    pub unread_ran : AreUnread (core_values (design p) (core_in p f)) (length p.design.channels) unread
    unread_ran = leaving.unread_ran p s runs k.core unread k.unread_are m count (core_in p f) acts

    pub stored_ran : (runs' : List (Option ModuleRun)) → IsCore p f runs' → (unread' : List Unread)
        → AreUnread (core_values (design p) (core_in p f)) (length p.design.channels) unread'
        → (now : DueModules) → IsAdded due.asking m now.asking → IsSpread due.running (slice_index_or wiring.hints m []) m now.running
        → now.unlisted ≡ due.unlisted → IsStoredCore p f runs' wiring unread' now candidates
    stored_ran runs' core' unread' are now added spread same_unlisted = record {
      core = core';
      wired = k.wired;
      unread_are = are;
      due_are = record {
        asking_are = asking_ran p k.core.fits (core_in p s) due.asking k.due_are.asking_are k.core.agreed m count
            (core_in p f) acts now.asking added;
        running_are = waking_ran p (core_in p s) due.running k.due_are.running_are wiring.hints k.wired.beside_are m inside
            now.running spread count (core_in p f) acts;
      };
      listed_are = listed_ran p (core_in p s) due candidates k.listed_are m now k.due_are.asking_are.room added
          same_unlisted k.core.fits k.core.agreed count (core_in p f) acts;
    }
