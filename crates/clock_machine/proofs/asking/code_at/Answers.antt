use Rattle.std.proofs.Common.{◌≡◌, ◌<◌, ℕ, ◌∙◌, List, length, sym, ap, subst, arith, get_or, []}
use Rattle.std.proofs.lemmas.List.{get_or_default}
use Rattle.clock_machine.specs.{Plan, block_of, module_at, BlockCode, IsBlockCodeOf, AreCodesOf, AreCodes}
use Rattle.clock_machine.proofs.asking.code_at.Goals as goal

own_codes : (p : Plan) (codes : List (List BlockCode)) (i : ℕ) (own : List BlockCode) → AreCodes p codes → i < length p.design.modules
    → own ≡ get_or codes i own → AreCodesOf p.design.channels (module_at p i) own
own_codes p codes i own are inside is = subst (AreCodesOf p.design.channels (module_at p i)) (sym is) (are.each i own inside)

pub bounds-as_slice-state : goal.bounds-as_slice-state
bounds-as_slice-state c =
    let p = c.args.of.now.plan.now in
    let own = own_codes p c.args.of.now.codes.now c.args.i c.index-of-i.result c.requires.codes c.requires.within c.index-of-i.is in
    let count = own.count in
    let same = ap length c.index-of-i.is in
    let block = c.requires.block in
    rw c.as_slice.ensures (omega arith)

pub returns-clause-own : goal.returns-clause-own
returns-clause-own c =
    let p = c.args.of.now.plan.now in
    let own = own_codes p c.args.of.now.codes.now c.args.i c.index-of-i.result c.requires.codes c.requires.within c.index-of-i.is in
    let s = c.args.state.now in
    let code = c.index-as_slice-state.result in
    subst (IsBlockCodeOf p.design.channels (module_at p c.args.i) (block_of (module_at p c.args.i) s))
    (sym (c.index-as_slice-state.is ∙ ap (λ (cs : List BlockCode). get_or cs s.control.block code)
    (c.as_slice.ensures ∙ sym c.index-of-i.is)))
    (own.each s.control.block code c.requires.block)

pub returns-clause-code : goal.returns-clause-code
returns-clause-code c d =
    let codes = c.args.of.now.codes.now in
    let block = c.args.state.now.control.block in
    let mine = c.index-of-i.result in
    let code = c.index-as_slice-state.result in
    let own = own_codes c.args.of.now.plan.now codes c.args.i mine c.requires.codes c.requires.within c.index-of-i.is in
    let there : c.args.i < length codes = omega (arith, c.requires.codes.count, c.requires.within) in
    let inside : block < length mine = omega (arith, own.count, c.requires.block) in
    c.index-as_slice-state.is ∙ (ap (λ (cs : List BlockCode). get_or cs block code) (c.as_slice.ensures ∙ sym c.index-of-i.is)
    ∙ (get_or_default mine block code d inside
    ∙ ap (λ (cs : List BlockCode). get_or cs block d) (c.index-of-i.is ∙ get_or_default codes c.args.i mine [] there)))
