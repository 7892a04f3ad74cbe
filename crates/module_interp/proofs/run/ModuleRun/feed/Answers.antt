use Rattle.std.proofs.Common.{◌≡◌, ◌+◌, ◌^◌, ◌<◌, ◌++◌, ◌∙◌, List, length, map, ap, sym, subst, arith}
use Rattle.std.specs.Prelude.{All}
use Rattle.module_interp.specs.{Access, side_of, Reply, module_at, move, paired, gone_on, accesses_at, done_in, replies_told, Path}
use Rattle.module_interp.specs.{request_from, CanAnswer, IsPathOf, IsTallyOf, HasPort}
use Rattle.module_interp.proofs.Tallies.{same_ports}
use Rattle.module_interp.proofs.Feeding.{HasCommitted, asked_stage, waits_at, can_count, listed_few, fed_stands}
use Rattle.module_interp.proofs.run.ModuleRun.feed.Goals as goal

-- the accesses are those of the path in the box
asked_in : (x z : Path) (xs : List Access) → z ≡ x → xs ≡ z.asked → xs ≡ x.asked
asked_in x z xs is asked = asked ∙ ap (λ (p : Path). p.asked) is

pub count_step-requires-clause-tally : goal.count_step-requires-clause-tally
count_step-requires-clause-tally g c =
    let (p, (i, (o, (s, fit)))) = c.requires.stands in
    let r = c.args.self.now in
    let can = can_count p i o r s (asked_stage r.path.value.stage c.requires.waits) in
    let asked = asked_in r.path.value _ _ c.as_mut-path.ensures.value c.as_slice-accesses.ensures in
    (done_in o.steps, (s.tally, subst (λ (xs : List Access). length (done_in o.steps) + length xs < 2 ^ 40) (sym asked) can.few))

pub count_step-requires-clause-ports : goal.count_step-requires-clause-ports
count_step-requires-clause-ports g c =
    let (p, (i, (o, (s, fit)))) = c.requires.stands in
    let r = c.args.self.now in
    let can = can_count p i o r s (asked_stage r.path.value.stage c.requires.waits) in
    let asked = asked_in r.path.value _ _ c.as_mut-path.ensures.value c.as_slice-accesses.ensures in
    subst (All (λ (a : Access). HasPort (side_of a.kind) a.channel r.tally)) (sym asked) can.ports

pub count_step-requires-clause-known : goal.count_step-requires-clause-known
count_step-requires-clause-known g c =
    let (p, (i, (o, (s, fit)))) = c.requires.stands in
    let r = c.args.self.now in
    let few = listed_few p i o r s (asked_stage r.path.value.stage c.requires.waits) in
    let asked = asked_in r.path.value _ _ c.as_mut-path.ensures.value c.as_slice-accesses.ensures in
    rw (c.new.ensures.answers, c.new.ensures.accesses, c.new.ensures.place, c.new.ensures.asked, asked)
    (c.requires.knows, (omega arith, omega arith))

pub commit_asked-requires-clause-path : goal.commit_asked-requires-clause-path
commit_asked-requires-clause-path g c =
    let (p, (i, (o, (s, fit)))) = c.requires.stands in
    record { plan = p; number = i; is = subst (λ (x : Path). IsPathOf p i x) (sym c.as_mut-path.ensures.value) s.leads.path }

pub commit_asked-requires-clause-answer : goal.commit_asked-requires-clause-answer
commit_asked-requires-clause-answer g c =
    let (p, (i, (o, (s, fit)))) = c.requires.stands in
    subst (λ (x : Path). CanAnswer x) (sym c.as_mut-path.ensures.value)
    (waits_at p i o c.args.self.now.path.value s.leads (asked_stage c.args.self.now.path.value.stage c.requires.waits)).can.answer

pub commit_asked-requires-clause-knows : goal.commit_asked-requires-clause-knows
commit_asked-requires-clause-knows g c =
    subst (λ (x : Path). All (g.A.Answers.knows c.args.answers.now) x.asked) (sym c.as_mut-path.ensures.value) c.requires.knows

pub commit_asked-requires-clause-few : goal.commit_asked-requires-clause-few
commit_asked-requires-clause-few g c =
    let (p, (i, (o, (s, fit)))) = c.requires.stands in
    subst (λ (x : Path). length x.asked < 2 ^ 40) (sym c.as_mut-path.ensures.value)
    (listed_few p i o c.args.self.now s (asked_stage c.args.self.now.path.value.stage c.requires.waits))

pub returns-clause-listed : goal.returns-clause-listed
returns-clause-listed g c =
    ap (λ (x : Path). x.asked) c.commit_asked.ensures.frame ∙ ap (λ (x : Path). x.asked) c.as_mut-path.ensures.value

pub returns-clause-stands : goal.returns-clause-stands
returns-clause-stands g c p i o s =
    let r = c.args.self.now in
    let stage = asked_stage r.path.value.stage c.requires.waits in
    let reply = g.A.Answers.reply c.args.answers.now in
    let qs = replies_told reply 0 0 (accesses_at p i o) in
    let told = ap (λ (xs : List Access). replies_told reply 0 0 xs) (s.accesses stage) in
    let asked = asked_in r.path.value _ _ c.as_mut-path.ensures.value c.as_slice-accesses.ensures in
    let left : replies_told (g.A.Answers.reply c.new.result.answers.now) c.new.result.place c.new.result.asked c.new.result.accesses.now
    ≡ qs = rw (c.new.ensures.answers, c.new.ensures.accesses, c.new.ensures.place, c.new.ensures.asked, asked) told in
    let again : replies_told reply 0 0 c.as_mut-path.result.now.asked ≡ qs =
    ap (λ (x : Path). replies_told reply 0 0 x.asked) c.as_mut-path.ensures.value ∙ told in
    let counted = subst (λ (rs : List Reply). IsTallyOf (done_in o.steps ++ paired (map request_from c.as_slice-accesses.result.now) rs)
    c.count_step.new.self) left (c.count_step.ensures.tally (done_in o.steps) s.tally) in
    let tally = subst (λ (xs : List Access). IsTallyOf (done_in o.steps ++ paired (map request_from xs) qs) c.count_step.new.self) asked
    counted in
    let ports = same_ports (module_at p i) r.tally c.count_step.new.self c.count_step.ensures.popped c.count_step.ensures.pushed s.ports in
    let h = c.commit_asked.ensures in
    let moved = subst (λ (rs : List Reply). gone_on c.commit_asked.new.self.of c.commit_asked.new.self.state
    ≡ move c.as_mut-path.result.now.of c.as_mut-path.result.now.state rs) again h.moved in
    let committed = subst (λ (x : Path). HasCommitted x c.commit_asked.new.self qs) c.as_mut-path.ensures.value
    (record { frame = h.frame; moved = moved; block = h.block; has_started = h.started }) in
    fed_stands p i o r c.commit_asked.new.self qs c.count_step.new.self s stage committed tally ports
