use Rattle.std.proofs.Common.{◌≡◌, ◌+◌, ◌≤◌, false, List, [], ap, subst}
use Rattle.module_interp.specs.{Reply, move, is_over, gone_on, Path, RequestsNothing}
use Rattle.module_interp.specs.declared.path.Stage.TheVariants.{Begun, Ticked}
use Rattle.module_interp.proofs.Ways.{Passes, has_begun, one_passes, passes_keep, passes_nearer}
use Rattle.module_interp.proofs.path.Path.pass.Goals as goal

pub commit_due-requires-clause-answer : goal.commit_due-requires-clause-answer
commit_due-requires-clause-answer c =
    let h = has_begun c.args.self.now c.requires.path c.requires.begun c.requires.alive in
    record { state = h.sound; noted = c.requires.noted; clock = h.clock; count = h.count }

passed : (x y : Path) → y ≡ record x { state = y.state; stage = Ticked }
    → x.stage ≡ Begun → is_over x.limit x.state ≡ false → RequestsNothing x
    → gone_on y.of y.state ≡ move x.of x.state [] → y.state.control.block ≡ x.state.control.block
    → y.state.control.newest ≤ y.state.control.clock
    → Passes x (record y { since = y.since + 1 }) 0
passed x y f begun alive none moved block started =
    one_passes x (record y { since = y.since + 1 })
    (record {
      of = ap (λ (z : Path). z.of) f;
      limit = ap (λ (z : Path). z.limit) f;
      codes = ap (λ (z : Path). z.codes) f;
    })
    begun (ap (λ (z : Path). z.stage) f) (ap (λ (z : Path). z.since + 1) f) alive none moved block started

-- the move is one on no reply
on_none : (x y : Path) (rs : List Reply) → rs ≡ [] → gone_on y.of y.state ≡ move x.of x.state rs
    → gone_on y.of y.state ≡ move x.of x.state []
on_none x y rs none moved = subst (λ (qs : List Reply). gone_on y.of y.state ≡ move x.of x.state qs) none moved

pub returns-clause-kept : goal.returns-clause-kept
returns-clause-kept c =
    let x = c.args.self.now in
    let h = c.commit_due.ensures in
    passes_keep x _ 0
    (passed x c.commit_due.new.self h.frame c.requires.begun c.requires.alive c.requires.none
    (on_none x c.commit_due.new.self _ c.new.ensures h.moved) h.block h.started)

pub returns-clause-nearer : goal.returns-clause-nearer
returns-clause-nearer c =
    let x = c.args.self.now in
    let h = c.commit_due.ensures in
    passes_nearer x _ 0 c.requires.path
    (passed x c.commit_due.new.self h.frame c.requires.begun c.requires.alive c.requires.none
    (on_none x c.commit_due.new.self _ c.new.ensures h.moved) h.block h.started)
