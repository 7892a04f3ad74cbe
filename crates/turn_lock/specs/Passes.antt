-- What a clause says about a lock, its passes and its turns.
use Rattle.std.specs.Prelude.{List}
use Rattle.turn_lock.specs.{declared.kept.Kept.Ghosts, declared.view.PassView.PassView, declared.pass.TurnLock.TurnLock}
use Rattle.turn_lock.specs.{declared.pass.Pass.Pass, declared.pass.Turn.Turn, declared.pass.Tried.Tried}
use Rattle.turn_lock.specs.declared.pass.Tried.TheVariants.{Won, Lost}
pub use Rattle.atomic_table.specs.Seated.{TableId}

-- the identity of a lock
abbrev pub lock_id : {K E : Type 0} → TurnLock K E → TableId
lock_id l = l.table.shared.table_id

module _ {K E : Type 0} {G : Ghosts K E} where
  -- what a pass knows, and the identity of its lock
  abbrev pub view_of : Pass K E G → PassView E
  view_of p = p.seat.me.0

  abbrev pub pass_lock : Pass K E G → TableId
  pass_lock p = p.seat.table_id

  -- what a pass knows in a turn, and the identity of its lock
  abbrev pub turn_view : Turn K E G → PassView E
  turn_view t = t.hold.seat.me.0

  abbrev pub turn_lock_of : Turn K E G → TableId
  turn_lock_of t = t.hold.seat.table_id

  -- the history with which the turn began
  abbrev pub begun_at : Turn K E G → List E
  begun_at t = t.hold.seat.me.0.history

  -- one fact where the try won the turn, another where it lost
  abbrev pub MatchTried : Tried K E G → (Turn K E G → Type 0) → (Pass K E G → Type 0) → Type 0
  MatchTried (Won t) won lost = won t
  MatchTried (Lost p) won lost = lost p
