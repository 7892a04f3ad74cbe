-- The verified outcomes of all logs stay prefixes.
use Rattle.std.proofs.Common.{◌≡◌, refl, Bool, ℕ, ◌<◌, List, length, get_or, arith}
use Rattle.std.proofs.{Math.ListN.set, lemmas.List.Elements.All-set}
use Rattle.std.proofs.lemmas.List.{map-set, get_or-map, length-map, length_push}
use Rattle.std.specs.Prelude.{All}
use Rattle.query_log.specs.{RoomyLog, Log, no_log, log_at, IsSoundLog, verified_more, bare_log, logs_of}

-- where one log is replaced by a sound one
pub replaced : (items : List RoomyLog) (owner : ℕ) (new : RoomyLog) → All IsSoundLog (logs_of items) → IsSoundLog (bare_log new)
    → All IsSoundLog (logs_of (set items owner new))
replaced items owner new sound here =
    rw (map-set bare_log items owner new) (All-set IsSoundLog (logs_of items) owner (bare_log new) here sound)

-- a log that was read
pub read_sound : (items : List RoomyLog) (owner : ℕ) (old : RoomyLog) → owner < length items → old ≡ get_or items owner old
    → All IsSoundLog (logs_of items) → IsSoundLog (bare_log old)
read_sound items owner old there is sound =
    let shown = get_or-map bare_log items owner old (bare_log old) there in
    let here = sound owner (bare_log old) (rw (length-map items bare_log) there) in
    rw (shown, ← is) at here

-- the log of a module, as it was read
pub read_log : (items : List RoomyLog) (owner : ℕ) (old : RoomyLog) → owner < length items → old ≡ get_or items owner old
    → log_at (logs_of items) owner ≡ bare_log old
read_log items owner old there is = rw (get_or-map bare_log items owner old no_log there, ← is) refl

-- a sound log with a verified outcome more
pub answered_sound : (old new : Log) (outcome : Bool) → new ≡ verified_more old outcome → IsSoundLog old → IsSoundLog new
answered_sound old new outcome e sound = rw e (omega (arith, length_push old.outcomes outcome))
