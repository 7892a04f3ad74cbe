-- What a turn at a module leaves of all that a core keeps.
use Rattle.std.proofs.Common.{◌≡◌, ◌≢◌, sym, ap, ◌∙◌, ℕ, ◌<◌, true, List, [], Option, length, arith}
use Rattle.std.specs.Prelude.{slice_index_or}
use Rattle.sim_core.specs.{Plan, ModuleRun, Has, HasMask, capacity, Candidate, IsQuiet, design, Engine, Timing, core_of, held_in, kinds_in}
use Rattle.sim_core.specs.{HasTimed, KeepsRoom, is_progress, left, Lacks, AreCandidates, IsWoken, HasTurned, CoreView, Wiring, IsStoredCore}
use Rattle.sim_core.specs.{lent_of, DueModules, declared.unread.Unread.Unread}
use Rattle.engine_view.specs.declared.turn.Timing.TheVariants.{Nothing}
use Rattle.sim_core.proofs.{Asking.asking_turned, Asking.still_room, Waking.waking_turned, Listing.asking_none, Listing.listed_turned}
use Rattle.sim_core.proofs.Turning as turning

-- the engine after the turn, and of whom something may be permitted then
module _ {p : Plan} {s : Engine} {runs : List (Option ModuleRun)} {wiring : Wiring} {unread : List Unread}
    {due : DueModules} {candidates : List Candidate} (k : IsStoredCore p s runs wiring unread due candidates) (m : ℕ)
    (inside : m < length p.design.modules) (t : Engine) (r : Timing) (done : HasTimed r p.cycles m s t) (room : KeepsRoom s t)
    (kinds : kinds_in t.fifos.channels ≡ kinds_in s.fifos.channels) (less : is_progress r ≡ true → left t < left s) where
  abbrev seen : Engine → CoreView
  seen e = record { plan = p; held = held_in e; lent = lent_of runs }

  pub turned : HasTurned r (seen s) m (seen t)
  turned =
      let core = turning.core_timed k.core t m r done room kinds in
      turning.turned k.core t m r (lent_of runs) done (λ cycle e.
      turning.changed (design p) s t (core.sound.lanes ∙ sym k.core.sound.lanes) (less (ap is_progress e)))

  pub stored : (now : DueModules) → length now.asking ≡ length due.asking → ((n : ℕ) → n ≢ m → Lacks now.asking n → Lacks due.asking n)
      → (r ≢ Nothing → Lacks now.asking m → Lacks due.asking m) → (is_progress r ≡ true → m < capacity due.asking → Has now.asking m)
      → (is_progress r ≡ true → (n : ℕ) → n < capacity due.asking → Lacks now.asking n → HasMask (slice_index_or wiring.hints m []) n → ⊥)
      → IsWoken r due.running (slice_index_or wiring.hints m []) m now.running → length now.unlisted ≡ length due.unlisted
      → ((n : ℕ) → n < capacity due.unlisted → Lacks now.asking n → Lacks now.unlisted n → Lacks due.asking n × Lacks due.unlisted n)
      → IsStoredCore p t runs wiring unread now candidates
  stored now roomed others own acted beside woken roomed' listed = record {
    core = turning.core_timed k.core t m r done room kinds;
    wired = k.wired;
    unread_are = turning.unread_timed k.core t m r unread done k.unread_are;
    due_are = record {
      asking_are =
          let room = k.due_are.asking_are.room in
          asking_turned (seen s) (seen t) k.core.fits due.asking k.due_are.asking_are wiring.hints k.wired.beside_are m inside now.asking
          roomed others r turned own (λ e. acted e (omega arith)) (λ e n l. beside e n (omega arith));
      running_are = waking_turned (seen s) (seen t) due.running k.due_are.running_are wiring.hints k.wired.beside_are m inside now.running r
          turned woken;
    };
    listed_are =
        let room = k.due_are.asking_are.room in
        let room' = k.listed_are.room in
        listed_turned (seen s) (seen t) due candidates k.listed_are wiring.hints k.wired.beside_are m inside now roomed'
        (λ n l (asks, rest). listed n (omega arith) asks rest) r turned (λ e. acted e (omega arith)) (λ e n l. beside e n (omega arith));
  }

-- where nothing is permitted and each candidate is right, none is asking and each is listed
pub relisted : {p : Plan} {s : Engine} {runs : List (Option ModuleRun)} {wiring : Wiring}
    {unread : List Unread} {due : DueModules} {candidates : List Candidate} → IsStoredCore p s runs wiring unread due candidates
    → IsQuiet (design p) p.cycles (core_of (design p) (held_in s)) → (now : DueModules) (anew : List Candidate)
    → length now.asking ≡ length due.asking → now.running ≡ due.running → length now.unlisted ≡ length due.unlisted
    → length anew ≡ length s.graph.lanes → AreCandidates s.graph.lanes s.fifos.channels p.cycles (length s.graph.lanes) anew
    → IsStoredCore p s runs wiring unread now anew
relisted {p} {s} {runs} {wiring} {unread} {due} {candidates} k quiet now anew roomed same roomed' count all = record {
  core = k.core;
  wired = k.wired;
  unread_are = k.unread_are;
  due_are = record {
    asking_are = asking_none p _ quiet now.asking (still_room p due.asking now.asking roomed k.due_are.asking_are.room);
    running_are = rw same k.due_are.running_are;
  };
  listed_are = turning.listed_anew k.core quiet anew count all now (still_room p due.unlisted now.unlisted roomed' k.listed_are.room);
}
