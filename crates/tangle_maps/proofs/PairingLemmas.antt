-- Pairings of one arc more.
use Rattle.std.proofs.Common.{◌≡◌, ℕ, ◌<◌, ◌+◌, List, [], ◌∷◌, ◌++◌, ap, ◌∙◌, arith, sym, slice_index, map, cond}
use Rattle.std.specs.List.{fold, filter, range_with_len}
use Rattle.std.proofs.lemmas.List.{map-append}
use Rattle.std.proofs.lemmas.List.Elements.{filter-append}
use Rattle.std.proofs.lemmas.List.Sums.{fold-append}
use Rattle.kh_types.specs.Classes.{joined}
use Rattle.kh_types.proofs.Ranges.{filter-range_more}
use Rattle.tangle_maps.specs.declared.pairing.TheConstants.{POINTS}
use Rattle.tangle_maps.specs.Pairings.{ArePartners, is_paired, paired_arcs, joins_of, leads, with_partner}
use Rattle.kh_types.proofs.JoinedClasses.{slice_index-range}

pub joins_of-append : (partners xs ys : List ℕ) → joins_of partners (xs ++ ys) ≡ joins_of partners xs ++ joins_of partners ys
joins_of-append partners xs ys =
    ap (map (with_partner partners)) (filter-append (leads partners) xs ys)
    ∙ map-append (with_partner partners) (filter (leads partners) xs) (filter (leads partners) ys)

pub joins_more : (classes partners xs : List ℕ) (x : ℕ)
    → fold joined classes (joins_of partners (xs ++ x ∷ []))
    ≡ fold joined (fold joined classes (joins_of partners xs)) (joins_of partners (x ∷ []))
joins_more classes partners xs x =
    ap (λ joins. fold joined classes joins) (joins_of-append partners xs (x ∷ []))
    ∙ fold-append joined classes (joins_of partners xs) (joins_of partners (x ∷ []))

at-range : (x : ℕ) → x < POINTS → slice_index (range_with_len 0 POINTS) x ≡ x
at-range x below = slice_index-range POINTS x below

pub ArePartners-none : ArePartners (range_with_len 0 POINTS)
ArePartners-none = record {
  below = λ x below. omega (arith, below, at-range x below);
  back = λ x below. ap (slice_index (range_with_len 0 POINTS)) (at-range x below) ∙ at-range x below;
}

pub arcs_more : (partners : List ℕ) (k : ℕ) (old new : List ℕ) → old ≡ filter (is_paired partners) (range_with_len 0 k)
    → new ≡ old ++ cond (is_paired partners k) (k ∷ []) [] → new ≡ filter (is_paired partners) (range_with_len 0 (k + 1))
arcs_more partners k old new are made =
    made ∙ ap (λ xs. xs ++ cond (is_paired partners k) (k ∷ []) []) are ∙ sym (filter-range_more (is_paired partners) 0 k k (omega arith))

pub arcs_all : (partners : List ℕ) (k : ℕ) (arcs : List ℕ) → arcs ≡ filter (is_paired partners) (range_with_len 0 k) → k ≡ POINTS
    → arcs ≡ paired_arcs partners
arcs_all partners k arcs are all = are ∙ ap (λ n. filter (is_paired partners) (range_with_len 0 n)) all
