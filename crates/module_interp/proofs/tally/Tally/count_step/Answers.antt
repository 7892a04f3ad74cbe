use Rattle.std.proofs.Common.{◌≡◌, ◌+◌, ◌<◌, ◌≤◌, ◌++◌, ◌∙◌, ℕ, List, length, map, take, get_or, refl, sym, ap, subst, arith, append_assoc}
use Rattle.std.proofs.Common.{length-append}
use Rattle.std.proofs.lemmas.List.{append-nil, get_or-map, length-map, length-take, take_all}
use Rattle.module_interp.specs.{is_blocking, side_of, Request, Reply, Exchange, paired, request_from, IsTallyOf, HasPort}
use Rattle.flow_design.specs.declared.state.Reply.TheVariants.{Done}
use Rattle.module_interp.proofs.Tallies.{paired_more, length-paired, same_port, next_reply, drop_next, tally_on}
use Rattle.module_interp.proofs.tally.Tally.count_step.Goals as goal

pub loop-access-init : goal.loop-access-init
loop-access-init g c = record {
  tally = λ before h. subst (λ (xs : List Exchange). IsTallyOf xs c.args.self.now) (sym (append-nil before)) h;
  popped = refl;
  pushed = refl;
  known = c.requires.known;
  left = refl;
}

shorter : (before : List Exchange) (rs : List Request) (qs : List Reply) (i : ℕ)
    → length (before ++ paired (take i rs) qs) ≤ length before + length rs
shorter before rs qs i = omega (arith, length-append before (paired (take i rs) qs), length-paired (take i rs) qs, length-take i rs)

pub count-requires : goal.count-requires
count-requires g c =
    let (before, (h, small)) = c.requires.tally in
    let i = c.loop-access.access-index in
    let qs = g.R.Replies.left c.args.replies.now in
    let rs = map request_from c.args.accesses.now in
    let now = before ++ paired (take i rs) qs in
    let few = shorter before rs qs i in
    let as_many = length-map c.args.accesses.now request_from in
    record {
      tally = (now, (c.loop-access.invariant.tally before h, omega arith));
      port = subst (λ (r : Request). HasPort (side_of r.kind) r.channel c.loop-access.self) (sym c.request_from.ensures)
          (same_port c.args.self.now c.loop-access.self c.loop-access.invariant.popped c.loop-access.invariant.pushed _ _
          (c.requires.ports i _ c.loop-access-test.true));
    }

pub loop-access-preserved : goal.loop-access-preserved
loop-access-preserved g c =
    let xs = c.args.accesses.now in
    let rs = map request_from xs in
    let qs = g.R.Replies.left c.args.replies.now in
    let i = c.loop-access.access-index in
    let old = g.R.Replies.left c.loop-access.replies in
    let reply = get_or old 0 Done in
    let r = c.request_from.result in
    let inside : i < length rs = let test = c.loop-access-test.true in omega (arith, length-map xs request_from) in
    let read : r ≡ get_or rs i r = c.request_from.ensures ∙ sym (get_or-map request_from xs i _ r c.loop-access-test.true) in
    record {
      tally = λ before h.
          let now = before ++ paired (take i rs) qs in
          subst (λ (zs : List Exchange). IsTallyOf zs c.count.new.self)
          (append_assoc before (paired (take i rs) qs) _
          ∙ ap (λ (zs : List Exchange). before ++ zs) (sym (paired_more rs qs i r r reply inside read
          (next_reply qs old reply i c.loop-access.invariant.left refl))))
          (tally_on now r c.deciding_reply-reply.result reply c.count.new.self
          (λ e. c.deciding_reply-reply.ensures.reply (ap (λ (q : Request). is_blocking q.kind) (sym c.request_from.ensures) ∙ e))
          (c.count.ensures.tally now (c.loop-access.invariant.tally before h)));
      popped = c.count.ensures.popped ∙ c.loop-access.invariant.popped;
      pushed = c.count.ensures.pushed ∙ c.loop-access.invariant.pushed;
      known = c.deciding_reply-reply.ensures.known;
      left = drop_next qs old (g.R.Replies.left c.deciding_reply-reply.new.replies) i c.loop-access.invariant.left
          c.deciding_reply-reply.ensures.left;
    }

pub returns-clause-tally : goal.returns-clause-tally
returns-clause-tally g c before h =
    let rs = map request_from c.args.accesses.now in
    let all = c.loop-access-test.false in
    subst (λ (qs : List Request). IsTallyOf (before ++ paired qs (g.R.Replies.left c.args.replies.now)) c.loop-access.self)
    (take_all c.loop-access.access-index rs (omega (arith, length-map c.args.accesses.now request_from)))
    (c.loop-access.invariant.tally before h)
