-- The FIFOs of a plan, and other depths for them.
use Rattle.std.proofs.Common.{◌≡◌, sym, ◌∙◌, ap, subst, arith, ℕ, ◌+◌, ◌<◌, ◌≤◌, Bool, true, false, cond, List, [], ◌∷◌, ◌++◌, length}
use Rattle.std.proofs.Common.{get_or, take, All, add-one, zero-add, append-nil}
use Rattle.std.proofs.lemmas.List.{take_more, take_all, length-append, length-map, get_or-map}
use Rattle.std.proofs.lemmas.List.Elements.{filter-append, filter_passes, All-filter, All-get_or, All-from_get_or}
use Rattle.std.proofs.lemmas.List.FromFn.{length-enumerate_from, length-range_with_len, get_or-range_with_len}
use Rattle.std.proofs.lemmas.List.Sums.{length-filter, count_by-le-length}
use Rattle.std.proofs.lemmas.Slice.Zip.{length-zip, get_or-zip}
use Rattle.std.specs.List.{range_with_len, filter, zip, enumerate_from}
use Rattle.flow_design.specs.declared.limits.TheConstants.{FIFO_DEPTH}
use Rattle.depth_sweep.specs.{Plan, Edit, is_fifo, kind_at, with_depth, EditFits, FitsEngine, depth_after, plan_after, fifos, depth_edits}
use Rattle.depth_sweep.specs.{with_fifo_depths}
use Rattle.flow_word.proofs.Ranges.{range_more}

-- ---- the FIFOs that were passed

module _ (p : ℕ → Bool) where
  -- one number more is passed
  passed_more : (n : ℕ) → filter p (range_with_len 0 (n + 1)) ≡ filter p (range_with_len 0 n) ++ cond (p n) (n ∷ []) []
  passed_more n =
      ap (λ (k : ℕ). filter p (range_with_len 0 k)) (add-one n)
      ∙ (ap (filter p) (range_more 0 n ∙ ap (λ (k : ℕ). range_with_len 0 n ++ k ∷ []) (zero-add n))
      ∙ filter-append p (range_with_len 0 n) (n ∷ []))

  pub kept_more : (n : ℕ) (b : Bool) → b ≡ p n → b ≡ true → filter p (range_with_len 0 (n + 1)) ≡ filter p (range_with_len 0 n) ++ n ∷ []
  kept_more n b is kept = passed_more n ∙ ap (λ (t : Bool). filter p (range_with_len 0 n) ++ cond t (n ∷ []) []) (sym is ∙ kept)

  pub left_out : (n : ℕ) (b : Bool) → b ≡ p n → b ≡ false → filter p (range_with_len 0 (n + 1)) ≡ filter p (range_with_len 0 n)
  left_out n b is left =
      passed_more n ∙ (ap (λ (t : Bool). filter p (range_with_len 0 n) ++ cond t (n ∷ []) []) (sym is ∙ left)
      ∙ append-nil (filter p (range_with_len 0 n)))

  pub few_kept : (n : ℕ) → length (filter p (range_with_len 0 n)) ≤ n
  few_kept n =
      omega (arith, length-filter p (range_with_len 0 n), count_by-le-length p (range_with_len 0 n), length-range_with_len 0 n)

  pub counted_more : (n count new : ℕ) (b : Bool) → count ≡ length (filter p (range_with_len 0 n)) → b ≡ p n → b ≡ true
      → new ≡ count + 1 → new ≡ length (filter p (range_with_len 0 (n + 1)))
  counted_more n count new b so_far is kept added =
      let longer = length-append (filter p (range_with_len 0 n)) (n ∷ []) in
      added ∙ (omega (arith, so_far, longer) ∙ sym (ap length (kept_more n b is kept)))

-- ---- edits of all FIFOs

module _ (p : Plan) (channels : List ℕ) (are : channels ≡ fifos p) where
  -- a FIFO's number is one of a FIFO
  fifo_at : (i d : ℕ) → i < length channels
      → (is_fifo (kind_at p (get_or channels i d)) ≡ true) × (get_or channels i d < length p.design.channels)
  fifo_at i d inside =
      let n = length p.design.channels in
      let numbers : All (λ (f : ℕ). f < n) (range_with_len 0 n) =
      All-from_get_or (λ (f : ℕ). f < n) (range_with_len 0 n) 0
      (λ k l. let short : k < n = omega (arith, l, length-range_with_len 0 n) in
      subst (λ (f : ℕ). f < n) (sym (get_or-range_with_len 0 n k 0 short)) (omega arith)) in
      let there : i < length (fifos p) = subst (λ (xs : List ℕ). i < length xs) are inside in
      subst (λ (xs : List ℕ). (is_fifo (kind_at p (get_or xs i d)) ≡ true) × (get_or xs i d < n)) (sym are) (
        All-get_or (λ (f : ℕ). is_fifo (kind_at p f) ≡ true) (fifos p) i d there
            (filter_passes (λ f. is_fifo (kind_at p f)) (range_with_len 0 n)),
        All-get_or (λ (f : ℕ). f < n) (fifos p) i d there
            (All-filter (λ f. is_fifo (kind_at p f)) (λ (f : ℕ). f < n) (range_with_len 0 n) numbers),
      )

  -- the edit of the FIFO at a place fits the plan after the edits before
  pub edit_fits : (now : Plan) (k : ℕ) (depths : List ℕ) → FitsEngine p → now ≡ plan_after p (take k (depth_edits channels depths))
      → k < length channels → length depths ≡ length channels → All (λ depth. (1 ≤ depth) × (depth ≤ FIFO_DEPTH)) depths
      → EditFits now (record { channel = get_or channels k 0; depth = get_or depths k 0 })
  unfolding plan_after
  edit_fits now k depths fits is inside count limits =
      let edits = take k (depth_edits channels depths) in
      let fifo = fifo_at k 0 inside in
      let limit = All-get_or (λ (depth : ℕ). (1 ≤ depth) × (depth ≤ FIFO_DEPTH)) depths k 0 (omega arith) limits in
      let entries = length-map (enumerate_from 0 p.depths) (λ entry. depth_after edits entry.0 entry.1) in
      let numbered = length-enumerate_from 0 p.depths in
      subst (λ (q : Plan). EditFits q (record { channel = get_or channels k 0; depth = get_or depths k 0 })) (sym is) (record {
        fifo = fifo.0;
        entry = omega (arith, entries, numbered, fifo.1, fits.depths);
        least = limit.0;
        most = limit.1;
      })

  edits_long : (depths : List ℕ) → length depths ≡ length channels → length (depth_edits channels depths) ≡ length channels
  edits_long depths count =
      let edit : ℕ × ℕ → Edit = λ e. record { channel = e.0; depth = e.1 } in
      omega (arith, length-map (zip channels depths) edit, length-zip channels depths)

  edit_at : (k : ℕ) (depths : List ℕ) (other : Edit) → k < length channels → length depths ≡ length channels
      → get_or (depth_edits channels depths) k other ≡ record { channel = get_or channels k 0; depth = get_or depths k 0 }
  edit_at k depths other inside count =
      let edit : ℕ × ℕ → Edit = λ e. record { channel = e.0; depth = e.1 } in
      let long = length-zip channels depths in
      get_or-map edit (zip channels depths) k (0, 0) other (omega (arith, long))
      ∙ ap edit (get_or-zip channels depths k (0, 0) inside (omega arith))

  -- one edit more
  pub one_edit_more : ((q : Plan) (es : List Edit) (e : Edit) → e.channel < length q.depths
      → plan_after q (es ++ e ∷ []) ≡ with_depth (plan_after q es) e.channel e.depth)
      → (now next : Plan) (k : ℕ) (depths : List ℕ) → FitsEngine p → now ≡ plan_after p (take k (depth_edits channels depths))
      → k < length channels → length depths ≡ length channels → next ≡ with_depth now (get_or channels k 0) (get_or depths k 0)
      → next ≡ plan_after p (take (k + 1) (depth_edits channels depths))
  one_edit_more step now next k depths fits is inside count edited =
      let edits = depth_edits channels depths in
      let edit : Edit = record { channel = get_or channels k 0; depth = get_or depths k 0 } in
      let entry : edit.channel < length p.depths = omega (arith, (fifo_at k 0 inside).1, fits.depths) in
      edited ∙ (ap (λ (q : Plan). with_depth q edit.channel edit.depth) is
      ∙ (sym (step p (take k edits) edit entry)
      ∙ ap (plan_after p) (ap (λ (e : Edit). take k edits ++ e ∷ []) (sym (edit_at k depths edit inside count))
      ∙ sym (take_more edits k edit (omega (arith, edits_long depths count))))))

  -- all edits are made
  pub all_edited : (now : Plan) (k : ℕ) (depths : List ℕ) → now ≡ plan_after p (take k (depth_edits channels depths))
      → length channels ≤ k → length depths ≡ length channels → now ≡ with_fifo_depths p depths
  unfolding with_fifo_depths
  all_edited now k depths is over count =
      is ∙ (ap (plan_after p) (take_all k (depth_edits channels depths) (omega (arith, edits_long depths count)))
      ∙ ap (λ (xs : List ℕ). plan_after p (depth_edits xs depths)) are)
