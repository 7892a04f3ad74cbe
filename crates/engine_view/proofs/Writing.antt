-- The loop that adds a step's outcomes.
use Rattle.std.proofs.Common.{◌≡◌, sym, ap, ◌∙◌, ℕ, ◌+◌, ◌<◌, ◌≤◌, Bool, true, false, cond, ◌||◌, List, [], ◌∷◌, length, drop, get_or}
use Rattle.std.proofs.Common.{arith, length-append}
use Rattle.std.proofs.lemmas.List.{drop_more, length-set, get_or-set_same}
use Rattle.engine_view.specs.{is_blocking, Access, Lane, Channel, RoomedLogs, no_log, log_at, verified_more, with_outcome, with_outcomes}
use Rattle.engine_view.specs.{when_possible, answer, queries_in, as_known, found_flags, outcome_by, outcomes_of}
use Rattle.query_log.proofs.Adding.{outcomes_more}

-- the outcomes of the queries before this index were added
pub record WritesOn (lanes : List Lane) (channels : List Channel) (cycle owner : ℕ) (accesses : List Access) (old now : RoomedLogs)
    (index : ℕ) : Type 0 where
  pub logs : with_outcomes now.logs owner (outcomes_of (drop index accesses) (found_flags lanes channels cycle (drop index accesses)))
      ≡ with_outcomes old.logs owner (outcomes_of accesses (found_flags lanes channels cycle accesses))
  pub inside : owner < length now.logs
  pub verified : (log_at now.logs owner).verified ≡ length (log_at now.logs owner).outcomes
  pub room : queries_in (drop index accesses) ≤ get_or now.rooms owner 0
  pub own_room : get_or old.rooms owner 0 + queries_in (drop index accesses) ≤ get_or now.rooms owner 0 + queries_in accesses
  pub other_rooms : (k : ℕ) → (k ≡ owner → ⊥) → get_or old.rooms k 0 ≤ get_or now.rooms k 0

module _ (lanes : List Lane) (channels : List Channel) (c m : ℕ) (xs : List Access) (old now : RoomedLogs) (i : ℕ) (d : Access)
    (r : WritesOn lanes channels c m xs old now i) (l : i < length xs) where
  abbrev a : Access
  a = get_or xs i d

  abbrev rest : List Access
  rest = drop (i + 1) xs

  abbrev late : List Bool
  late = outcomes_of rest (found_flags lanes channels c rest)

  abbrev found : Bool
  found = outcome_by a.kind (answer (as_known (when_possible lanes channels a)) c)

  first : (b : Bool) → is_blocking a.kind ≡ b
      → outcomes_of (drop i xs) (found_flags lanes channels c (drop i xs)) ≡ cond b late (found ∷ late)
  first b e =
      ap (λ (ys : List Access). outcomes_of ys (found_flags lanes channels c ys)) (drop_more xs i d l)
      ∙ by (is_blocking a.kind) b e
    where
      by : (q b : Bool) → q ≡ b
          → cond q late (outcome_by a.kind (q || answer (as_known (when_possible lanes channels a)) c) ∷ late) ≡ cond b late (found ∷ late)
      by q b e = grind arith

  queries_first : (b : Bool) → is_blocking a.kind ≡ b → queries_in (drop i xs) ≡ cond b 0 1 + queries_in rest
  queries_first b e = let one = drop_more xs i d l in grind arith

  pub writes_not : is_blocking a.kind ≡ true → WritesOn lanes channels c m xs old now (i + 1)
  writes_not e =
      let q = queries_first true e in
      record {
        logs = ap (with_outcomes now.logs m) (sym (first true e)) ∙ r.logs;
        inside = r.inside;
        verified = r.verified;
        room = let k = r.room in omega arith;
        own_room = let k = r.own_room in omega arith;
        other_rooms = r.other_rooms;
      }

  pub writes_one : (next : RoomedLogs) (u₀ : Bool) → is_blocking a.kind ≡ false → u₀ ≡ found → next.logs ≡ with_outcome now.logs m u₀
      → get_or now.rooms m 0 ≤ get_or next.rooms m 0 + 1
      → ((k : ℕ) → (k ≡ m → ⊥) → get_or now.rooms k 0 ≤ get_or next.rooms k 0) → WritesOn lanes channels c m xs old next (i + 1)
  writes_one next u₀ e is logs own others =
      let q = queries_first false e in
      let here = get_or-set_same now.logs m (verified_more (log_at now.logs m) u₀) no_log r.inside in
      let many = length-set now.logs m (verified_more (log_at now.logs m) u₀) in
      let longer = length-append (log_at now.logs m).outcomes (u₀ ∷ []) in
      record {
        logs = rw (logs, outcomes_more now.logs m u₀ late r.inside, is, ← (first false e)) r.logs;
        inside = rw (logs, many) r.inside;
        verified = rw (logs, here) (let v = r.verified in omega arith);
        room = let k = r.room in omega arith;
        own_room = let k = r.own_room in omega arith;
        other_rooms = λ k f. let w = r.other_rooms k f in let v = others k f in omega arith;
      }
