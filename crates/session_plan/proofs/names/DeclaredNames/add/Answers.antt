use Rattle.std.proofs.Common.{rules, ◌≡◌, ◌++◌, ◌∷◌, [], ap, List, map, length, Some, None, arith, Bor, cond, length-append}
use Rattle.std.proofs.lemmas.List.{length-map, map-append}
use Rattle.std.specs.{Option.option_or, Str.bytes_eq}
use Rattle.session_plan.specs.{number_at, Name}
use Rattle.session_plan.proofs.NameLemmas.{place_after}
use Rattle.session_plan.proofs.names.DeclaredNames.add.Goals as goal

abbrev view : Bor Name → Name
view k = k.now

pub invariant_of-self-else-is_err : goal.invariant_of-self-else-is_err
invariant_of-self-else-is_err c =
    let all : List (Bor Name) = c.self.inside.all in
    let pushed : c.push.new.self ≡ all ++ c.args.name ∷ [] = search rules in
    let long : length (map view all) ≡ length all = simp length-map in
    let longer = map-append view all (c.args.name ∷ []) in
    let told : (n : Name) → number_at c.note.new.numbers n
    ≡ option_or (number_at c.self.inside.numbers n) (cond (bytes_eq n c.args.name.now) (Some c.len-number.result) None)
    = search rules in (
      omega (arith, ap length pushed, length-append all (c.args.name ∷ [])),
      λ n.
          let known = c.self.invariant.1 n in let more = told n in
          let placed = place_after (map view all) c.args.name.now n in grind (arith, c.len-number.ensures),
    )
