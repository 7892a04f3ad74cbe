-- An edit of a final core that agrees with its history.
use Rattle.std.proofs.Common.{◌≡◌, sym, ◌∙◌, ℕ, ◌≤◌, inl, inr, get_or, arith}
use Rattle.std.proofs.lemmas.Option.{slice_get_within, get_or_from_slice_get}
use Rattle.retime.specs.{Place, Edit, lane_at, channel_at, depth_of, places_of, Design, Trace, IsHistory, IsAgreed, edited, after_edit}
use Rattle.retime.specs.{IsUntouchedByCycles, core_of, IsFirstTouched, IsFinalOf, IsEditFrom}
use Rattle.flow_word.specs.declared.access.Side.TheVariants.{Push}
use Rattle.event_timing.specs.Core.{Core}
use Rattle.event_timing.proofs.{Editing.edit_agrees, Touched.before_first, Touched.untouched}
use Rattle.engine_view.specs.Held.{Held}
use Rattle.retime.proofs.{Filling.clock_of, Filling.clock_within, Tallied.start_is, Tallied.never_before, Tallied.never_at_all}

module _ {S : Type 0} (d : Design S) (y : Trace S) (limit : ℕ) (h : Held) (f : IsFinalOf d y limit h) (edit : Edit) (t : ℕ)
    (e : IsEditFrom h.lanes h.channels edit limit t) where
  abbrev x : Core S
  x = core_of d h

  -- the first touched clock is not after the limit
  within_limit : IsFirstTouched h.lanes (channel_at h.channels edit.channel) edit.depth t → t ≤ limit
  within_limit touched =
      let (i, u, at, is) = touched.after in
      let places = places_of Push (channel_at h.channels edit.channel) in
      let place = get_or places i first in
      let there = sym (clock_of h.lanes places i first (clock_within h.lanes places i u at)) ∙ at in
      let l = f.agreed.time.below place.module place.step (slice_get_within (lane_at h.lanes place.module).cycles place.step u there) in
      let v = get_or_from_slice_get (lane_at h.lanes place.module).cycles place.step u 0 there in
      omega (arith, l, v, is)
    where
      first : Place
      first = record { «module» = 0; step = 0 }

  start_now : d.start Push edit.channel ≡ depth_of (channel_at h.channels edit.channel).kind
  start_now = start_is d h f.sound edit.channel e.inside e.is_fifo

  -- neither edit.depth was felt
  pub not_felt : (t ≤ limit) × IsUntouchedByCycles d x edit.channel edit.depth t
  not_felt = elim e.from [
    | inl touched ↦ (
      within_limit touched,
      before_first d y f.design f.history limit x f.agreed f.final edit.channel edit.depth t (within_limit touched)
          (let s = start_now in let l = e.stood in omega arith) e.least
          (never_before d h f.sound edit.channel e.inside edit.depth t e.is_fifo touched),
    )
    | inr never ↦
        let le : t ≤ limit = omega (arith, never.1) in (
          le,
          before_first d y f.design f.history limit x f.agreed f.final edit.channel edit.depth t le
              (let s = start_now in let l = e.stood in omega arith) e.least
              (λ c l. never_at_all d h f.sound edit.channel e.inside edit.depth e.is_fifo e.changes never.0 c),
        )
  ]

  -- the theory's core after the edit agrees with the edited design
  pub cut_agrees : ((c : ℕ) → d.lag Push c ≡ 1) → (z : Trace S) → IsHistory (edited d edit.channel edit.depth) z
      → IsAgreed (edited d edit.channel edit.depth) z limit (after_edit d x t)
  cut_agrees one z w =
      edit_agrees d y z f.design f.history edit.channel edit.depth t w one
      (untouched d y f.design f.history limit x f.agreed f.final edit.channel edit.depth t not_felt.0 not_felt.1) limit x f.agreed
