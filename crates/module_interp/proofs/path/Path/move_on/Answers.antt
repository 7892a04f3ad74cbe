use Rattle.module_interp.specs.{block_of}
use Rattle.module_interp.proofs.Ways.{has_begun, stands, code_read}
use Rattle.module_interp.proofs.path.Path.move_on.Goals as goal

pub next_due-next-requires : goal.next_due-next-requires
next_due-next-requires c =
    let x = c.args.self.now in
    let inside = (has_begun x c.requires.path c.requires.begun c.requires.alive).sound.state.block in
    let read =
    code_read x c.requires.path.is.codes c.as_slice.result.now c.index-as_slice-self.result c.as_slice.ensures c.index-as_slice-self.is
    inside in
    (block_of x.of x.state, (read.schedule, stands x c.requires.path c.requires.begun c.requires.alive))

pub jump-requires-clause-next : goal.jump-requires-clause-next
jump-requires-clause-next c =
    let x = c.args.self.now in
    let inside = (has_begun x c.requires.path c.requires.begun c.requires.alive).sound.state.block in
    let read =
    code_read x c.requires.path.is.codes c.as_slice.result.now c.index-as_slice-self.result c.as_slice.ensures c.index-as_slice-self.is
    inside in
    c.next_due-next.ensures (block_of x.of x.state) read.schedule (stands x c.requires.path c.requires.begun c.requires.alive)
