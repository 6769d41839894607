-- What the seam of an added surface makes of terms is the terms of the new map. Of a term the seam makes a term for each dot set
-- that it chooses, with the product of the components' factors. The product times how often a dot set is chosen is the number of
-- the surface that the crossing adds with this set. So the coefficients of the set add up to the old coefficient times that
-- number, and a sum with the seam's terms is one with a term for each dot set. This is done twice: for the terms of a map, where
-- the faces are the discs between the two old pairings, with the dots of the term, and for the saddle, where they are the discs
-- of one pairing, without marks. A single term with the coefficient 1 is reduced.
use Rattle.std.proofs.Common.{◌≡◌, ℕ, ◌+◌, ◌-◌, ◌*◌, ◌/◌, ◌%◌, ◌^◌, ◌<◌, ◌≤◌, ◌∙◌, List, [], ◌∷◌, ◌++◌, length, map, refl, sym, subst, subst₂, ap, ap₂, arith, Bool, true, false, cond}
use Rattle.std.specs.Prelude.{nat_eq, slice_index}
use Rattle.std.specs.List.{count_by, enumerate_from, range_with_len, AllByRecursion, Contains}
use Rattle.std.proofs.Math.Nat.{zero-div}
use Rattle.std.proofs.lemmas.List.{append-nil, length-map}
use Rattle.std.proofs.lemmas.List.Elements.{All-from_recursion}
use Rattle.std.proofs.lemmas.List.Sums.{sum_by-cons}
use Rattle.std.proofs.lemmas.Nat.{pow_pos}
use Rattle.kh_types.specs.Bits.{bit}
use Rattle.kh_types.specs.Classes.{classes_of}
use Rattle.kh_types.specs.Code.{Code, arc_count}
use Rattle.surface_laws.specs.Points.{discs, least_points}
use Rattle.surface_laws.specs.Sheets.{marked}
use Rattle.surface_laws.specs.Surfaces.{value}
use Rattle.surface_laws.proofs.Components.{AllByRecursion-weaker}
use Rattle.surface_laws.proofs.TwoSides.{AllByRecursion-map}
use Rattle.dotted_maps.specs.declared.term.Term.{Term}
use Rattle.dotted_maps.specs.Maps.{coefficient_in, scaled}
use Rattle.dotted_maps.specs.Parts.{product_over}
use Rattle.dotted_maps.proofs.ChoiceCounts.{choices-below}
use Rattle.dotted_maps.proofs.LeastPoints.{AreJoins, least-contained}
use Rattle.added_crossing_laws.specs.Codes.{arc_there, disc_of, discs_behind, points_at, saddle_strips, step_at}
use Rattle.added_crossing_laws.specs.Entries.{coefficient_sheet, saddle_surface}
use Rattle.added_crossing_laws.specs.Steps.{near}
use Rattle.added_crossing_laws.proofs.CodeSteps.{slot-near}
use Rattle.added_crossing_laws.proofs.Members.{All-contained}
use Rattle.tangle_maps.specs.declared.pairing.TheConstants.{POINTS}
use Rattle.tangle_maps.specs.declared.seam.Seam.{Seam}
use Rattle.tangle_maps.specs.Seams.{seam_behind, seam_listed, seam_terms}
use Rattle.tangle_maps.specs.Sums.{AreReduced, HaveDotsBelow, IsSum, has_dots, dotted_term, dotted_times}
use Rattle.crossing_maps.specs.AddedSeams.{AreMarks, ArePairs, IsSeamAt, joins_there, places_there}
use Rattle.crossing_maps.specs.Counts.{load_at, on}
use Rattle.crossing_maps.specs.NewTerms.{all_terms, first_end, new_map, saddle_map, sets_behind}
use Rattle.crossing_maps.proofs.Placed.{joins-there, near-distinct, opened-near, value-sized, within-there}
use Rattle.crossing_maps.proofs.SeamTerms.{coefficient-chosen, terms-same}
use Rattle.crossing_maps.proofs.SpreadTerms.{HaveCoefficients, IsSum-spread}
use Rattle.crossing_maps.proofs.Values.{factor_at, places-named, sets_at}

-- dots of chosen sets
terms-below : (c limit count : ℕ) (sets : List ℕ) → count ≡ limit → AllByRecursion (λ s. s < count) sets
    → HaveDotsBelow limit (map (dotted_times c) sets)
terms-below c limit count [] same all = tt
terms-below c limit count (s ∷ sets) same all = (omega (arith, same, all.0), terms-below c limit count sets same all.1)

pub coefficients-made : (code : Code) (k first second : ℕ) (m n : List (ℕ × ℕ)) (ds lowers : List ℕ) (label other : ℕ) (seam : Seam)
    (marks : ℕ) (term : Term) → ArePairs code k m n → AllByRecursion (λ x. Contains (near (step_at code k)) x) ds
    → AllByRecursion (λ x. Contains (near (step_at code k)) x) lowers → IsSeamAt code k first second m n ds lowers label other seam marks
    → HaveCoefficients (sets_behind code k first second m n)
    (λ kept. term.coefficient * value 0 0 (coefficient_sheet code k first second m n (marked term.dots ds) lowers label other kept))
    (seam_behind seam (dotted_term marks 1 ∷ []) term)
coefficients-made code k first second m n ds lowers label other seam marks term are all_ds all_lowers is =
    let joins = joins_there code k first second m n in
    let around = near (step_at code k) in
    let class : ℕ → ℕ = slice_index (classes_of POINTS joins) in
    let at = places_there code k first second m n ds lowers in
    let names = least_points POINTS around joins in
    let here = on class at in
    let joined = joins-there code k first second m n are in
    let within = within-there code k first second m n ds lowers are all_ds all_lowers in
    let wide : AreJoins POINTS around joins =
    record {
      below = AllByRecursion-weaker (λ x. x < arc_count code.crossings + 1) (λ x. x < POINTS) around
          (λ x below. omega (arith, below, are.place.fits)) joined.below;
      among = joined.among;
    } in
    let sets = sets_at names here term.dots label other in
    let unit = product_over (factor_at here term.dots label other) names in
    let marked : AreMarks (length here.closed) (length here.others) label other marks =
    subst₂ (λ x y. AreMarks x y label other marks) (sym (length-map at.closed class)) (sym (length-map at.others class)) is.labels in
    let same : seam_behind seam (dotted_term marks 1 ∷ []) term ≡ map (dotted_times (term.coefficient * 1 * unit)) sets =
    append-nil (seam_terms seam term (dotted_term marks 1))
    ∙ terms-same names here label other marks seam term is.added marked (places-named POINTS around joins at.rims wide within.rims) in
    record {
      each = λ kept below.
          ap (λ ts. coefficient_in ts kept) same ∙ coefficient-chosen (term.coefficient * 1 * unit) kept sets
          ∙ grouped term.coefficient unit (count_by (nat_eq kept) sets)
          ∙ ap (λ v. term.coefficient * v)
          (sym (value-sized (arc_count code.crossings + 1) (arc_count code.crossings + code.loops + 1) around joins at kept term.dots label other
          (omega arith) are.place.fits joined (near-distinct code k) within below));
      dots = subst (HaveDotsBelow (sets_behind code k first second m n)) (sym same)
          (terms-below (term.coefficient * 1 * unit) (sets_behind code k first second m n) (2 ^ length here.rims) sets
          (ap (λ i. 2 ^ i) (length-map at.rims class))
          (choices-below names here.rims (λ i. 1 - load_at here term.dots label other i)));
    }
  where
    grouped : (a b c : ℕ) → a * 1 * b * c ≡ a * (b * c)
    grouped a b c = omega arith

-- all terms of a map
pub map_made : (p f : ℕ) (code : Code) (k smoothing : ℕ) (m n : List (ℕ × ℕ)) (label other : ℕ) (seam : Seam) (marks : ℕ)
    (terms old new : List Term)
    → ArePairs code k m n
    → IsSeamAt code k smoothing smoothing m n (discs (points_at code k) m n) (points_at code k).opened label other seam marks
    → IsSum p old (scaled f (seam_listed seam terms (dotted_term marks 1 ∷ []))) new
    → IsSum p old (scaled f (new_map code k smoothing m n label other terms)) new
map_made p f code k smoothing m n label other seam marks terms old new are is sum =
    let points = points_at code k in
    let Near : ℕ → Type 0 = λ x. Contains (near (step_at code k)) x in
    let lowers : AllByRecursion Near points.opened = All-contained Near points.opened (λ x has. opened-near code k x has) in
    let faces : AllByRecursion Near (discs points m n) =
    AllByRecursion-weaker (λ x. Contains points.opened x) Near (discs points m n) (λ x has. opened-near code k x has)
    (least-contained points.size points.opened (m ++ n)) in
    IsSum-spread p f (sets_behind code k smoothing smoothing m n)
    (λ term kept. term.coefficient
    * value 0 0 (coefficient_sheet code k smoothing smoothing m n (marked term.dots (discs points m n)) points.opened label other kept))
    (seam_behind seam (dotted_term marks 1 ∷ [])) terms old new (pow_pos (length (discs_behind code k smoothing smoothing m n)))
    (λ term. coefficients-made code k smoothing smoothing m n (discs points m n) points.opened label other seam marks term are faces lowers is) sum

-- one term alone is reduced
AreReduced-one : (p dots : ℕ) → 1 < p → AreReduced p (dotted_term dots 1 ∷ [])
AreReduced-one p dots above = record {
  some = All-from_recursion (λ term. 0 < term.coefficient) (dotted_term dots 1 ∷ []) (omega arith, tt);
  below = All-from_recursion (λ term. term.coefficient < p) (dotted_term dots 1 ∷ []) (omega (arith, above), tt);
  once = λ d. few (has_dots d (dotted_term dots 1)) (count_by (has_dots d) (dotted_term dots 1 ∷ []))
      (sum_by-cons (λ (t : Term). cond (has_dots d t) 1 0) (dotted_term dots 1) []);
}
  where
    few : (b : Bool) (n : ℕ) → n ≡ cond b 1 0 + 0 → n ≤ 1
    few true n is = omega (arith, is)
    few false n is = omega (arith, is)

pub AreReduced_one : (p dots : ℕ) (term : Term) → 1 < p → term ≡ dotted_term dots 1 → AreReduced p (term ∷ [])
AreReduced_one p dots term above is = subst (λ t. AreReduced p (t ∷ [])) (sym is) (AreReduced-one p dots above)

-- the saddle's faces have no marks

unmarked : (j : ℕ) (m : List (ℕ × ℕ))
    → map (λ (at : ℕ × ℕ). (at.1, bit 0 at.0)) (enumerate_from j (map first_end m)) ≡ map disc_of m
unmarked j [] = refl
unmarked j (pair ∷ m) = ap₂ (λ (b : ℕ) (xs : List (ℕ × ℕ)). (pair.0, b) ∷ xs) (none (2 ^ j)) (unmarked (j + 1) m)
  where
    none : (x : ℕ) → 0 / x % 2 ≡ 0
    none x = ap (λ z. z % 2) (zero-div x)

terms-alike : (f g : ℕ → ℕ) (xs : List ℕ) → ((x : ℕ) → f x ≡ g x) → map (λ x. dotted_term x (f x)) xs ≡ map (λ x. dotted_term x (g x)) xs
terms-alike f g [] alike = refl
terms-alike f g (x ∷ xs) alike = ap₂ (λ (c : ℕ) (ts : List Term). dotted_term x c ∷ ts) (alike x) (terms-alike f g xs alike)

pub saddle_made : (p f : ℕ) (code : Code) (k : ℕ) (m : List (ℕ × ℕ)) (label other : ℕ) (seam : Seam) (marks : ℕ) (old new : List Term)
    → ArePairs code k m m → IsSeamAt code k 0 1 m m (map first_end m) (saddle_strips code k) label other seam marks
    → IsSum p old (scaled f (seam_listed seam (dotted_term 0 1 ∷ []) (dotted_term marks 1 ∷ []))) new
    → IsSum p old (scaled f (saddle_map code k m label other)) new
saddle_made p f code k m label other seam marks old new are is sum =
    let points = points_at code k in
    let ds = map first_end m in
    let strips = saddle_strips code k in
    let Near : ℕ → Type 0 = λ x. Contains (near (step_at code k)) x in
    let here : Near (arc_there code k) = slot-near code k 0 are.place.twice are.place.crossing (omega arith) in
    let lowers : AllByRecursion Near strips = (here, (here, All-contained Near points.opened (λ x has. opened-near code k x has))) in
    let faces : AllByRecursion Near ds =
    AllByRecursion-map Near first_end m
    (AllByRecursion-weaker (λ pair. Contains points.opened pair.0 × Contains points.opened pair.1) (λ pair. Near pair.0) m
    (λ pair has. opened-near code k pair.0 has.0) are.first) in
    let count = sets_behind code k 0 1 m m in
    let worth : Term → ℕ → ℕ =
    λ term kept. term.coefficient * value 0 0 (coefficient_sheet code k 0 1 m m (marked term.dots ds) strips label other kept) in
    subst (λ ts. IsSum p old (scaled f ts) new)
    (append-nil (all_terms count (worth (dotted_term 0 1)))
    ∙ terms-alike (worth (dotted_term 0 1)) (λ kept. value 0 0 (saddle_surface code k m label other kept)) (range_with_len 0 count)
    (λ kept. one_time (value 0 0 (coefficient_sheet code k 0 1 m m (marked 0 ds) strips label other kept))
    ∙ ap (λ faces. value 0 0 (coefficient_sheet code k 0 1 m m faces strips label other kept)) (unmarked 0 m)))
    (IsSum-spread p f count worth (seam_behind seam (dotted_term marks 1 ∷ [])) (dotted_term 0 1 ∷ []) old new
    (pow_pos (length (discs_behind code k 0 1 m m)))
    (λ term. coefficients-made code k 0 1 m m ds strips label other seam marks term are faces lowers is) sum)
  where
    one_time : (x : ℕ) → 1 * x ≡ x
    one_time x = omega arith
