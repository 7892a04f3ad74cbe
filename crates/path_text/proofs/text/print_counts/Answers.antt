use Rattle.std.proofs.Common.{◌∙◌, ap, ap₂, arith, ℕ, List, ◌++◌, slice_index, Result, Ok, Err}
use Rattle.std.specs.Prelude.{OnOk}
use Rattle.flow_word.specs.declared.access.Side.TheVariants.{Pop, Push}
use Rattle.path_text.specs.{text_of_lines, Link, Polled, all_spend_lines, channel_lines, clocks_spent, clocks_waited, crossings, at_sides}
use Rattle.path_text.specs.{times_polled}
use Rattle.path_text.proofs.Printed.{two_groups, modules_same, channels_same}
use Rattle.path_text.proofs.text.print_counts.Goals as goal

if_ok : {T E A B : Type 0} (r : Result T E) → (A → B) → OnOk r A → OnOk r B
if_ok (Ok x) f h = f h
if_ok (Err e) f h = tt

pub returns : goal.returns
returns c =
    let design = c.args.design.now in
    let links = c.args.path.now.links in
    let polls = c.args.path.now.polls in
    let clocks = c.as_slice.result.now in
    let popped = c.as_slice-2.result.now in
    let pushed = c.as_slice-3.result.now in
    let polled = c.as_slice-4.result.now in
    let waited = c.as_slice-5.result.now in
    let modules = modules_same design (slice_index clocks) (clocks_spent links)
    (λ m l. ap (λ (xs : List ℕ). slice_index xs m) c.as_slice.ensures
    ∙ (c.in_ok-clocks.ensures.each m (omega (arith, c.len.ensures))
    ∙ ap (λ (ls : List Link). clocks_spent ls m) c.as_slice-links.ensures)) in
    let channels = channels_same design (at_sides popped pushed) (crossings links) (slice_index polled) (times_polled polls)
    (slice_index waited) (clocks_waited polls)
    (λ f l. ap (λ (xs : List ℕ). slice_index xs f) c.as_slice-2.ensures
    ∙ (c.in_ok-popped.ensures.each f (omega (arith, c.len-channels.ensures))
    ∙ ap (λ (ls : List Link). crossings ls Pop f) c.as_slice-links.ensures))
    (λ f l. ap (λ (xs : List ℕ). slice_index xs f) c.as_slice-3.ensures
    ∙ (c.in_ok-pushed.ensures.each f (omega (arith, c.len-channels.ensures))
    ∙ ap (λ (ls : List Link). crossings ls Push f) c.as_slice-links.ensures))
    (λ f l. ap (λ (xs : List ℕ). slice_index xs f) c.as_slice-4.ensures
    ∙ (c.in_ok-polled.ensures.each f (omega (arith, c.len-channels.ensures))
    ∙ ap (λ (qs : List Polled). times_polled qs f) c.as_slice-polls.ensures))
    (λ f l. ap (λ (xs : List ℕ). slice_index xs f) c.as_slice-5.ensures
    ∙ (c.in_ok-waited.ensures.each f (omega (arith, c.len-channels.ensures))
    ∙ ap (λ (qs : List Polled). clocks_waited qs f) c.as_slice-polls.ensures)) in
    if_ok c.print_channels.result
    (λ is. two_groups c.args.text.now c.print_modules.new.text c.print_channels.new.text (all_spend_lines design (slice_index clocks))
    (channel_lines design (at_sides popped pushed) (slice_index polled) (slice_index waited)) c.in_ok-print_modules.ensures is
    ∙ ap₂ (λ (xs ys : List (List (List ℕ))). c.args.text.now ++ text_of_lines (xs ++ ys)) modules channels) c.print_channels.ensures
