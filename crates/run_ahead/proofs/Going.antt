-- How a burst goes on, mark by mark.
use Rattle.std.proofs.Common.{◌≡◌, refl, ◌∙◌, ℕ, Bool, true, false, List, [], ◌∷◌, ◌++◌, None, inl, inr, append_assoc, append-nil}
use Rattle.run_ahead.specs.{Plan, Advance, Own, ModuleRun, StandsAt, waits, is_step, next_rest, accesses_at, Mail, Task, replies_in}
use Rattle.run_ahead.specs.{taken_after, none_taken, IsLeft, IsPast, RunsOn, IsBurstFrom, IsFed, IsEmitted, IsSoFar, burst_of, task_of}
use Rattle.run_ahead.proofs.Finding.{left_none}

pub so_far_none : (p : Plan) (i : ℕ) (mail : Mail) (o : Own) (told : ℕ) (taken : ℕ → ℕ) (run : ModuleRun) (left : Mail)
    → StandsAt p i o run → IsLeft mail taken left → IsSoFar p i mail o told taken [] run told left
so_far_none p i mail o told taken run left s k = record {
  at = o;
  taken_now = taken;
  stands = s;
  is_left = k;
  follows = λ short last more g. g;
}

module _ (p : Plan) (i : ℕ) (mail : Mail) (o : Own) (told₀ : ℕ) (taken₀ : ℕ → ℕ) (told : ℕ) (left : Mail) (marks : List Advance)
    (run : ModuleRun) (s : IsSoFar p i mail o told₀ taken₀ marks run told left) where
  -- no memory for the next mark
  pub stop_short : (marks' : List Advance) (run' : ModuleRun) → StandsAt p i s.at run' → waits run' ≡ false → marks' ≡ marks
      → RunsOn p i mail true (task_of run' left) o told₀ taken₀ marks'
  stop_short marks' run' t w e =
      rw (e, ← (append-nil marks)) (s.follows true (task_of run' left) [] (record { stands = t; goes = w; left = s.is_left }, refl))

  module _ (marks' : List Advance) (run' : ModuleRun) (t : StandsAt p i s.at run') (step : Bool) (e : IsEmitted run run' marks marks' step)
    where
      -- where a mark is added, what follows from after it
      past : (short : Bool) (last : Task) (more : List Advance)
          → IsPast (is_step e.mark) p i mail short last s.at told s.taken_now more
          (λ o' told' taken'. RunsOn p i mail short last o' told' taken' more)
          → RunsOn p i mail short last o told₀ taken₀ (marks' ++ more)
      past short last more g =
          rw (e.added, append_assoc marks (e.mark ∷ []) more)
          (s.follows short last (e.mark ∷ more) (e.is p i s.at s.stands, e.sound p i s.at s.stands, g))

      pub stop_over : step ≡ false → RunsOn p i mail false (task_of run' left) o told₀ taken₀ marks'
      stop_over k =
          rw (← (append-nil marks'))
          (past false (task_of run' left) [] (rw (e.kind, k) (refl, record { stands = t; goes = e.waits ∙ k; left = s.is_left })))

      pub stop_waiting : step ≡ true → (short : Bool) (last : Task) → last.run ≡ run' → last.mail ≡ left
          → (short ≡ false → replies_in mail told s.taken_now (accesses_at p i s.at) ≡ None)
          → RunsOn p i mail short last o told₀ taken₀ marks'
      stop_waiting k short last l m missing =
          rw (← (append-nil marks'))
          (past short last [] (rw (e.kind, k) (inl (
            refl,
            record { stands = rw l t; waits = rw l (e.waits ∙ k); missing = missing; left = rw m s.is_left },
          ))))

      pub go_more : step ≡ true → (last : ModuleRun) (now : ℕ) (rest : Mail) → IsFed p i s.at mail told s.taken_now last now rest
          → IsSoFar p i mail o told₀ taken₀ marks' last now rest
      go_more k last now rest f = record {
        at = next_rest p i s.at f.replies;
        taken_now = taken_after s.taken_now (accesses_at p i s.at) f.replies;
        stands = f.stands;
        is_left = f.left;
        follows = λ short q more g. past short q more (rw (e.kind, k) (inr (f.replies, (f.found, rw f.number at g))));
      }

-- ---- the beginning

-- it waits from the start
pub begin_waiting : (p : Plan) (i : ℕ) (o : Own) (mail : Mail) (short : Bool) (run : ModuleRun) (last : Task) → StandsAt p i o run
    → waits run ≡ true → last.run ≡ run → last.mail ≡ mail
    → (short ≡ false → replies_in mail 0 none_taken (accesses_at p i o) ≡ None)
    → IsBurstFrom (waits run) p i o mail (burst_of last [] short)
begin_waiting p i o mail short run last s w l m missing =
    rw w (inl (refl, record { stands = rw l s; waits = rw l w; missing = missing; left = rw m (left_none mail) }))

-- it has its replies, and goes on
pub begin_fed : (p : Plan) (i : ℕ) (o : Own) (mail : Mail) (short : Bool) (run fed : ModuleRun) (last : Task) (now : ℕ) (left : Mail)
    (marks : List Advance) → waits run ≡ true
    → (f : IsFed p i o mail 0 none_taken fed now left)
    → RunsOn p i mail short last (next_rest p i o f.replies) now (taken_after none_taken (accesses_at p i o) f.replies) marks
    → IsBurstFrom (waits run) p i o mail (burst_of last marks short)
begin_fed p i o mail short run fed last now left marks w f g = rw w (inr (f.replies, (f.found, rw f.number at g)))

pub begin_going : (p : Plan) (i : ℕ) (o : Own) (mail : Mail) (short : Bool) (run : ModuleRun) (last : Task) (marks : List Advance)
    → waits run ≡ false → RunsOn p i mail short last o 0 none_taken marks
    → IsBurstFrom (waits run) p i o mail (burst_of last marks short)
begin_going p i o mail short run last marks w g = rw w g
