-- A code in parts that share no arc is a diagram of the same link as the union of the parts.
--
-- Its crossings, each with its sign, stand in another order, those that are kept first; and then its arcs get other numbers.
use Rattle.std.proofs.Common.{◌≡◌, ◌∙◌, ℕ, ◌+◌, List, [], ◌∷◌, length, map, refl, sym, subst, ap, ap₂, arith, Bool, IsTrue}
use Rattle.std.specs.Prelude.{not}
use Rattle.std.specs.List.{range_with_len, zip}
use Rattle.std.proofs.lemmas.Simd.{map-map}
use Rattle.kh_types.specs.Acceptance.{accepted}
use Rattle.kh_types.specs.Code.{Code, crossing_numbers}
use Rattle.kh_types.specs.Directions.{is_positive}
use Rattle.code_passes.specs.Parts.{slots_in}
use Rattle.order_laws.specs.Orders.{IsReordered, listed_by}
use Rattle.order_laws.proofs.Reordered.{reordered-map}
use Rattle.link_algebra.specs.Unions.{union_of}
use Rattle.union_laws.specs.Pieces.{IsCut, kept_first, part_of}
use Rattle.union_laws.proofs.CutCodes.{accepted-cut, accepted-order}
use Rattle.union_laws.proofs.CutNumbers.{cut_number, numbers-cut}
use Rattle.union_laws.proofs.CutSigns.{sign-cut, sign-first}
use Rattle.union_laws.proofs.KeptPlaces.{kept_first-order, kept_order, length-first, length-order, map-places, place_in, reordered-parted}
use Rattle.union_laws.proofs.KeptSearches.{range-later}
use Rattle.union_laws.proofs.ListTests.{range-bounds}
use Rattle.link_laws.specs.Links.{AreOneLink, HasOtherOrder, arcs_renumbered, crossings_reordered, signed_crossings}
use Rattle.link_laws.proofs.Paths.{link-change, link-onward}
use Rattle.view_laws.proofs.Tests.{map-agree}

-- the crossing at a place, with its sign
abbrev signed_at : List (List ℕ) → ℕ → List ℕ × Bool
signed_at crossings place = (slots_in crossings place, is_positive crossings (place + 1))

zip-map : (f : ℕ → List ℕ) (g : ℕ → Bool) (xs : List ℕ) → zip (map f xs) (map g xs) ≡ map (λ x. (f x, g x)) xs
zip-map f g [] = refl
zip-map f g (x ∷ xs) = ap (λ (pairs : List (List ℕ × Bool)). (f x, g x) ∷ pairs) (zip-map f g xs)

-- the signs of crossings, by places
signs-places : (crossings : List (List ℕ)) → map (is_positive crossings) (crossing_numbers crossings)
    ≡ map (λ place. is_positive crossings (place + 1)) (range_with_len 0 (length crossings))
signs-places crossings =
    ap (map (is_positive crossings)) (range-later 0 (length crossings))
    ∙ map-map (is_positive crossings) (λ (k : ℕ). k + 1) (range_with_len 0 (length crossings))

signed-places : (crossings : List (List ℕ)) → signed_crossings crossings ≡ map (signed_at crossings) (range_with_len 0 (length crossings))
signed-places crossings =
    let all = range_with_len 0 (length crossings) in
    ap₂ (λ (xs : List (List ℕ)) (signs : List Bool). zip xs signs) (sym (map-places crossings [])) (signs-places crossings)
    ∙ zip-map (slots_in crossings) (λ place. is_positive crossings (place + 1)) all

module _ (keep : ℕ → Bool) (code : Code) (holds : IsTrue (accepted code)) (cut : IsCut keep code.crossings) where
  abbrev listed : List (List ℕ)
  listed = kept_first keep code.crossings

  abbrev sign_at : ℕ → Bool
  sign_at place = is_positive code.crossings (place + 1)

  -- those that are kept, and the others behind them, each with its sign in the code
  signs-listed : map (is_positive listed) (crossing_numbers listed) ≡ map sign_at (kept_order keep code.crossings)
  signs-listed =
      let n = length code.crossings in
      let all = range_with_len 0 n in
      signs-places listed
      ∙ ap (λ (k : ℕ). map (λ place. is_positive listed (place + 1)) (range_with_len 0 k)) (length-first keep code.crossings)
      ∙ map-agree (λ place. is_positive listed (place + 1)) (λ place. sign_at (place_in keep code.crossings place)) all
      (λ place has. sign-first keep code holds cut place (omega (arith, range-bounds 0 n place has)))
      ∙ sym (map-map sign_at (place_in keep code.crossings) all)
      ∙ ap (λ (k : ℕ). map sign_at (map (place_in keep code.crossings) (range_with_len 0 k))) (sym (length-order keep code.crossings))
      ∙ ap (map sign_at) (map-places (kept_order keep code.crossings) 0)

  signed-listed : signed_crossings listed ≡ map (signed_at code.crossings) (kept_order keep code.crossings)
  signed-listed =
      ap₂ (λ (xs : List (List ℕ)) (signs : List Bool). zip xs signs) (sym (kept_first-order keep code.crossings)) signs-listed
      ∙ zip-map (slots_in code.crossings) sign_at (kept_order keep code.crossings)

  order-kept : HasOtherOrder code (listed_by code listed)
  order-kept =
      let all = range_with_len 0 (length code.crossings) in
      record {
        order =
            subst (λ (xs : List (List ℕ × Bool)). IsReordered xs (signed_crossings listed)) (sym (signed-places code.crossings))
            (subst (λ (ys : List (List ℕ × Bool)). IsReordered (map (signed_at code.crossings) all) ys) (sym signed-listed)
            (reordered-map (signed_at code.crossings) all (kept_order keep code.crossings) (reordered-parted keep all)));
        loops = refl;
      }

  pub link-parts : (loops others : ℕ) → loops + others ≡ code.loops
      → AreOneLink code (union_of (part_of keep code loops) (part_of (λ place. not (keep place)) code others))
  link-parts loops others adds =
      let second = part_of (λ place. not (keep place)) code others in
      let both = union_of (part_of keep code loops) second in
      let accepted_listed = accepted-order keep code loops others holds cut adds in
      link-onward code (listed_by code listed) both
      (link-change code (listed_by code listed) holds accepted_listed (crossings_reordered order-kept))
      (link-change (listed_by code listed) both accepted_listed (accepted-cut keep code loops others holds cut adds)
      (arcs_renumbered (record {
        number = cut_number keep code loops others holds cut adds;
        renumbered = numbers-cut keep code loops others holds cut adds;
        signs = λ crossing is. sign-cut keep code loops others holds cut adds crossing
            (record { positive = is.positive; within = omega (arith, is.within, length-first keep code.crossings) });
      })))
