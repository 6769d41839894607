-- One arc more.
use Rattle.std.proofs.Common.{◌≡◌, ℕ, ◌∙◌, List, [], ◌∷◌, ◌++◌, refl, ap, map}
use Rattle.std.specs.List.{filter, flat_map, fold}
use Rattle.std.proofs.lemmas.List.{map-append}
use Rattle.std.proofs.lemmas.List.Elements.{filter-append}
use Rattle.std.proofs.lemmas.List.Sums.{fold-append}
use Rattle.std.proofs.lemmas.Grind.{flat_map-append}
use Rattle.added_crossing_laws.specs.Steps.{is_mate, pair_with, pairs_at}
use Rattle.crossing_maps.specs.Partners.{paired_up}

pairs_at-append : (xs ys classes : List ℕ) (x : ℕ) → pairs_at (xs ++ ys) classes x ≡ pairs_at xs classes x ++ pairs_at ys classes x
pairs_at-append xs ys classes x =
    ap (map (pair_with x)) (filter-append (is_mate classes x) xs ys)
    ∙ map-append (pair_with x) (filter (is_mate classes x) xs) (filter (is_mate classes x) ys)

pub mates_more : (partners classes xs : List ℕ) (x y : ℕ)
    → fold paired_up partners (pairs_at (xs ++ y ∷ []) classes x)
    ≡ fold paired_up (fold paired_up partners (pairs_at xs classes x)) (pairs_at (y ∷ []) classes x)
mates_more partners classes xs x y =
    ap (λ pairs. fold paired_up partners pairs) (pairs_at-append xs (y ∷ []) classes x)
    ∙ fold-append paired_up partners (pairs_at xs classes x) (pairs_at (y ∷ []) classes x)

append-none : (pairs : List (ℕ × ℕ)) → pairs ++ [] ≡ pairs
append-none [] = refl
append-none (pair ∷ pairs) = ap (λ (ps : List (ℕ × ℕ)). pair ∷ ps) (append-none pairs)

pub pairs_more : (partners classes points xs : List ℕ) (x : ℕ)
    → fold paired_up partners (flat_map (pairs_at points classes) (xs ++ x ∷ []))
    ≡ fold paired_up (fold paired_up partners (flat_map (pairs_at points classes) xs)) (pairs_at points classes x)
pairs_more partners classes points xs x =
    ap (λ pairs. fold paired_up partners pairs)
    (flat_map-append (pairs_at points classes) xs (x ∷ [])
    ∙ ap (λ pairs. flat_map (pairs_at points classes) xs ++ pairs) (append-none (pairs_at points classes x)))
    ∙ fold-append paired_up partners (flat_map (pairs_at points classes) xs) (pairs_at points classes x)
