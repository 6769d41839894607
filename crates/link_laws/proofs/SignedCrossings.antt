-- Crossings with their signs in another order: the crossings stand in it too, and as many are positive.
use Rattle.std.proofs.Common.{◌≡◌, ℕ, ◌-◌, ◌∙◌, List, [], ◌∷◌, length, map, refl, sym, subst, ap, ap₂, arith, Bool}
use Rattle.std.specs.List.{count_by, zip}
use Rattle.std.proofs.lemmas.List.{length-map}
use Rattle.std.proofs.lemmas.List.FromFn.{length-range_with_len}
use Rattle.kh_types.specs.Code.{Code, crossing_numbers}
use Rattle.kh_types.specs.Directions.{is_positive, minus_count, plus_count}
use Rattle.kh_types.proofs.Lists.{count_by-map}
use Rattle.order_laws.specs.Orders.{IsReordered}
use Rattle.order_laws.proofs.Reordered.{reordered-count, reordered-length, reordered-map}
use Rattle.link_laws.specs.Links.{HasOtherOrder, signed_crossings}

zip-firsts : {A B : Type 0} (xs : List A) (ys : List B) → length xs ≡ length ys → map (λ (pair : A × B). pair.0) (zip xs ys) ≡ xs
zip-firsts [] ys same = refl
zip-firsts (x ∷ xs) [] same = absurd (omega (arith, same))
zip-firsts {A} (x ∷ xs) (y ∷ ys) same = ap (λ (zs : List A). x ∷ zs) (zip-firsts xs ys (omega (arith, same)))

zip-seconds : {A B : Type 0} (xs : List A) (ys : List B) → length xs ≡ length ys → map (λ (pair : A × B). pair.1) (zip xs ys) ≡ ys
zip-seconds [] [] same = refl
zip-seconds [] (y ∷ ys) same = absurd (omega (arith, same))
zip-seconds (x ∷ xs) [] same = absurd (omega (arith, same))
zip-seconds {A} {B} (x ∷ xs) (y ∷ ys) same = ap (λ (zs : List B). y ∷ zs) (zip-seconds xs ys (omega (arith, same)))

-- the slots and the sign of a crossing with its sign
abbrev slots_part : List ℕ × Bool → List ℕ
slots_part pair = pair.0

abbrev sign_part : List ℕ × Bool → Bool
sign_part pair = pair.1

signs-length : (crossings : List (List ℕ)) → length crossings ≡ length (map (is_positive crossings) (crossing_numbers crossings))
signs-length crossings =
    sym (length-map (crossing_numbers crossings) (is_positive crossings) ∙ length-range_with_len 1 (length crossings))

slots-signed : (crossings : List (List ℕ)) → map slots_part (signed_crossings crossings) ≡ crossings
slots-signed crossings = zip-firsts crossings (map (is_positive crossings) (crossing_numbers crossings)) (signs-length crossings)

plus-signed : (crossings : List (List ℕ)) → plus_count crossings ≡ count_by sign_part (signed_crossings crossings)
plus-signed crossings =
    let test : Bool → Bool = λ b. b in
    sym (count_by-map test (is_positive crossings) (crossing_numbers crossings))
    ∙ ap (count_by test) (sym (zip-seconds crossings (map (is_positive crossings) (crossing_numbers crossings)) (signs-length crossings)))
    ∙ count_by-map test sign_part (signed_crossings crossings)

module _ (old new : Code) (other : HasOtherOrder old new) where
  pub order-slots : IsReordered old.crossings new.crossings
  order-slots =
      subst (λ (xs : List (List ℕ)). IsReordered xs new.crossings) (slots-signed old.crossings)
      (subst (λ (ys : List (List ℕ)). IsReordered (map slots_part (signed_crossings old.crossings)) ys) (slots-signed new.crossings)
      (reordered-map slots_part (signed_crossings old.crossings) (signed_crossings new.crossings) other.order))

  pub order-plus : plus_count new.crossings ≡ plus_count old.crossings
  order-plus =
      plus-signed new.crossings
      ∙ reordered-count sign_part (signed_crossings old.crossings) (signed_crossings new.crossings) other.order
      ∙ sym (plus-signed old.crossings)

  pub order-minus : minus_count new.crossings ≡ minus_count old.crossings
  order-minus = ap₂ (λ (n k : ℕ). n - k) (sym (reordered-length old.crossings new.crossings order-slots)) order-plus
