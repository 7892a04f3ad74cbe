use Rattle.std.proofs.Common.{◌≡◌, ◌∙◌, ◌+◌, ◌<◌, ◌++◌, ◌∷◌, [], List, ℕ, length, map, take, drop, get_or, ap, ap₂, sym, arith, add-zero}
use Rattle.std.proofs.{Math.ListN.set, lemmas.Simd.map-map}
use Rattle.std.proofs.lemmas.List.{drop-drop, drop-set-lt, get_or-drop, map_more, take_all, take_more_set}
use Rattle.module_interp.specs.{Access, access_of, request_from}
use Rattle.module_code.proofs.DueNotes.{refilled}
use Rattle.module_interp.proofs.tally.Tally.number_all.Goals as goal

-- one item more was written
module _ (f : Access → Access) (xs now : List Access) (i : ℕ) (d v : Access) (inside : i < length xs) (same : length now ≡ length xs)
    (rest : drop i now ≡ drop i xs) where
  at : (zs : List Access) → get_or (drop i zs) 0 d ≡ get_or zs i d
  at zs = get_or-drop i zs 0 d ∙ ap (λ (k : ℕ). get_or zs k d) (add-zero i)

  written : take i now ≡ map f (take i xs) → v ≡ f (get_or now i d) → take (i + 1) (set now i v) ≡ map f (take (i + 1) xs)
  written before is =
      take_more_set now i v (omega arith)
      ∙ (ap₂ (λ (as' : List Access) (a : Access). as' ++ a ∷ []) before
      (is ∙ ap f (sym (at now) ∙ (ap (λ (zs : List Access). get_or zs 0 d) rest ∙ at xs)))
      ∙ sym (map_more f xs i d inside))

  left : drop (i + 1) (set now i v) ≡ drop (i + 1) xs
  left =
      drop-set-lt (i + 1) now i v (omega arith)
      ∙ (sym (drop-drop 1 i now) ∙ (ap (drop 1) rest ∙ drop-drop 1 i xs))

pub loop-access-preserved : goal.loop-access-preserved
loop-access-preserved c =
    let xs = c.as_mut_slice-items.result.now in
    let now = c.loop-access.items in
    let i = c.loop-access.access-index in
    let v = c.number.new.access in
    record {
      numbered = λ before h.
          written (λ a. access_of before (request_from a)) xs now i _ v c.loop-access-test.true c.loop-access.auto.items
          c.loop-access.invariant.rest (c.loop-access.invariant.numbered before h) (c.number.ensures before h);
      rest = left (λ a. a) xs now i v v c.loop-access-test.true c.loop-access.auto.items c.loop-access.invariant.rest;
    }

pub returns : goal.returns
returns c before h =
    let f = λ (a : Access). access_of before (request_from a) in
    let xs = c.as_mut_slice-items.result.now in
    let now = c.loop-access.items in
    let i = c.loop-access.access-index in
    let value = c.as_mut_slice-items.ensures.value in
    let as_many = c.loop-access.auto.items in
    let end = c.loop-access-test.false in
    refilled now c.args.accesses.now (as_many ∙ ap (λ (zs : List Access). length zs) value)
    ∙ (sym (take_all i now (omega arith))
    ∙ (c.loop-access.invariant.numbered before h
    ∙ (ap (map f) (take_all i xs end ∙ value) ∙ sym (map-map (access_of before) request_from c.args.accesses.now))))
