use Rattle.std.proofs.Common.{◌∙◌, sym, subst, arith}
use Rattle.module_interp.specs.{Side, value_in, HasPort}
use Rattle.flow_word.specs.declared.access.Side.TheVariants.{Pop, Push}
use Rattle.module_interp.proofs.Tallies.{moved_few, counted_here, popped_same, pushed_same}
use Rattle.module_interp.proofs.tally.Tally.count_moved.Goals as goal

pub add-requires-clause-sound : goal.add-requires-clause-sound
add-requires-clause-sound c = let (before, (h, small)) = c.requires.tally in h.popped_sound

pub add-requires-clause-there : goal.add-requires-clause-there
add-requires-clause-there c =
    subst (λ (s : Side). HasPort s c.args.request.channel c.args.self.now) (sym c.side.ensures ∙ c.in-Pop.is) c.requires.port

pub add-requires-clause-small : goal.add-requires-clause-small
add-requires-clause-small c =
    let (before, (h, small)) = c.requires.tally in
    omega (arith, h.popped_are c.args.request.channel, moved_few Pop c.args.request.channel before, c.popped.ensures.most)

pub add-requires-in-Push-clause-sound : goal.add-requires-in-Push-clause-sound
add-requires-in-Push-clause-sound c = let (before, (h, small)) = c.requires.tally in h.pushed_sound

pub add-requires-in-Push-clause-there : goal.add-requires-in-Push-clause-there
add-requires-in-Push-clause-there c =
    subst (λ (s : Side). HasPort s c.args.request.channel c.args.self.now) (sym c.side.ensures ∙ c.in-Push.is) c.requires.port

pub add-requires-in-Push-clause-small : goal.add-requires-in-Push-clause-small
add-requires-in-Push-clause-small c =
    let (before, (h, small)) = c.requires.tally in
    omega (arith, h.pushed_are c.args.request.channel, moved_few Push c.args.request.channel before, c.pushed.ensures.most)

pub returns-in-Pop-clause-popped : goal.returns-in-Pop-clause-popped
returns-in-Pop-clause-popped c =
    let (before, (h, small)) = c.requires.tally in
    counted_here Pop (record { request = c.args.request; reply = c.args.reply }) c.args.self.now.popped c.add.new.self h.popped_sound
    (subst (λ (s : Side). HasPort s c.args.request.channel c.args.self.now) (sym c.side.ensures ∙ c.in-Pop.is) c.requires.port)
    c.add.ensures.same (rw (c.popped.ensures.count (value_in c.args.reply)) at c.add.ensures.counts)

pub returns-in-Pop-clause-pushed : goal.returns-in-Pop-clause-pushed
returns-in-Pop-clause-pushed c =
    let (before, (h, small)) = c.requires.tally in
    pushed_same (record { request = c.args.request; reply = c.args.reply }) c.args.self.now.pushed h.pushed_sound
    (sym c.side.ensures ∙ c.in-Pop.is)

pub returns-in-Push-clause-pushed : goal.returns-in-Push-clause-pushed
returns-in-Push-clause-pushed c =
    let (before, (h, small)) = c.requires.tally in
    counted_here Push (record { request = c.args.request; reply = c.args.reply }) c.args.self.now.pushed c.add-in-Push.new.self
    h.pushed_sound
    (subst (λ (s : Side). HasPort s c.args.request.channel c.args.self.now) (sym c.side.ensures ∙ c.in-Push.is) c.requires.port)
    c.add-in-Push.ensures.same (rw (c.pushed.ensures.count c.args.request.value) at c.add-in-Push.ensures.counts)

pub returns-in-Push-clause-popped : goal.returns-in-Push-clause-popped
returns-in-Push-clause-popped c =
    let (before, (h, small)) = c.requires.tally in
    popped_same (record { request = c.args.request; reply = c.args.reply }) c.args.self.now.popped h.popped_sound
    (sym c.side.ensures ∙ c.in-Push.is)
