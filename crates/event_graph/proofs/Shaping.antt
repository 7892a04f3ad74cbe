-- A shape more among those of a list.
use Rattle.std.proofs.Common.{◌≡◌, refl, ap, ap₂, ◌∙◌, ℕ, ◌+◌, ◌-◌, ◌≤◌, Bool, List, [], ◌∷◌, ◌++◌, length, map, take, drop, arith}
use Rattle.std.proofs.Common.{length-append, length-drop}
use Rattle.std.proofs.lemmas.List.{map-append, drop-append-le, take-append-le, drop_at, take_all, take_at, get_or_push, length-map}
use Rattle.std.proofs.lemmas.List.Elements.{All-head, All-tail}
use Rattle.std.specs.Prelude.{All}
use Rattle.flow_word.specs.{Roomed}
use Rattle.event_graph.specs.{Access, Shape, access_slot, places_for, Form, no_form, step_form, form_in, IsShapeIn, room_in, IsNumbered}

-- ---- more slots

form_more : (slots more : List ℕ) (shape : Shape) → IsShapeIn slots shape → form_in (slots ++ more) shape ≡ form_in slots shape
form_more slots more shape here =
    let n : ℕ = (shape.at + shape.count) - shape.at in
    let first : shape.at ≤ length slots = omega arith in
    ap (λ (xs : List ℕ). record { slots = xs; counted = shape.counted })
    (ap (take n) (drop-append-le shape.at slots more first)
    ∙ take-append-le n (drop shape.at slots) more (omega (arith, length-drop shape.at slots)))

forms_more : (slots more : List ℕ) (shapes : List Shape) → All (IsShapeIn slots) shapes
    → map (form_in (slots ++ more)) shapes ≡ map (form_in slots) shapes
forms_more slots more [] inside = refl
forms_more slots more (shape ∷ shapes) inside =
    ap₂ (λ (f : Form) (fs : List Form). f ∷ fs) (form_more slots more shape (All-head (IsShapeIn slots) shape shapes inside))
    (forms_more slots more shapes (All-tail (IsShapeIn slots) shape shapes inside))

-- ---- a shape more

module _ (slots slots' : List ℕ) (shapes shapes' : List Shape) (shape : Shape) (accesses : List Access) (counted : Bool)
    (are : All (IsShapeIn slots) shapes) (added : slots' ≡ slots ++ map access_slot accesses) (pushed : shapes' ≡ shapes ++ shape ∷ [])
    (is : shape ≡ record { at = length slots; count = length accesses; counted = counted }) where
  its_form : form_in (slots ++ map access_slot accesses) shape ≡ step_form accesses counted
  its_form =
      rw is (ap (λ (xs : List ℕ). record { slots = xs; counted = counted })
      (ap (take ((length slots + length accesses) - length slots)) (drop_at slots (map access_slot accesses) (length slots) refl)
      ∙ take_all ((length slots + length accesses) - length slots) (map access_slot accesses)
      (omega (arith, length-map accesses access_slot))))

  forms_with : map (form_in slots') shapes' ≡ map (form_in slots) shapes ++ step_form accesses counted ∷ []
  forms_with =
      rw (added, pushed) (map-append (form_in (slots ++ map access_slot accesses)) shapes (shape ∷ [])
      ∙ ap₂ (λ (fs : List Form) (f : Form). fs ++ f ∷ []) (forms_more slots (map access_slot accesses) shapes are) its_form)

  pub numbered_with : IsNumbered (map (form_in slots) shapes) (map (form_in slots') shapes') (step_form accesses counted) (length shapes)
  numbered_with =
      let forms = map (form_in slots) shapes in
      let form = step_form accesses counted in
      let one : length (forms ++ form ∷ []) ≡ length shapes + 1 =
      omega (arith, length-append forms (form ∷ []), length-map shapes (form_in slots)) in
      rw forms_with (record {
        there = omega (arith, one);
        is = get_or_push forms form no_form (length shapes) (length-map shapes (form_in slots));
        kept = take_at forms (form ∷ []) (length forms) refl;
        more = omega (arith, one, length-map shapes (form_in slots));
      })

-- room for slots is room for shapes
pub room_left : (shapes shapes' : Roomed Shape) (slots slots' : Roomed ℕ) (count : ℕ) → shapes.room ≤ shapes'.room + 1
    → slots.room ≤ slots'.room + count → length slots'.items ≡ length slots.items + count
    → room_in shapes slots ≤ room_in shapes' slots' + places_for count
room_left shapes shapes' slots slots' count s t l = omega arith
