-- What is added to nothing has the coefficients of what is added: those of the new map, or of the saddle.
use Rattle.std.proofs.Common.{◌≡◌, ℕ, ◌*◌, ◌%◌, ◌<◌, ◌∙◌, List, [], ◌∷◌, ◌++◌, sym, subst, ap, arith, cond}
use Rattle.std.specs.Prelude.{nat_eq}
use Rattle.std.specs.List.{flat_map, sum_by}
use Rattle.kh_types.specs.Code.{Code}
use Rattle.kh_types.specs.Residues.{Same}
use Rattle.kh_types.proofs.Lists.{AllByRecursion-append}
use Rattle.kh_types.proofs.ListSums.{sum_by-alike, sum_by-flat_map}
use Rattle.surface_laws.specs.Surfaces.{value}
use Rattle.dotted_maps.specs.declared.term.Term.{Term}
use Rattle.dotted_maps.specs.Maps.{coefficient_in, scaled}
use Rattle.added_crossing_laws.specs.Entries.{added_surface, saddle_surface}
use Rattle.tangle_maps.specs.Sums.{HaveDotsBelow, IsSum}
use Rattle.tangle_maps.proofs.SumLemmas.{coefficient-scaled, scaled-below}
use Rattle.crossing_maps.specs.NewTerms.{AreAddedTerms, AreSaddleTerms, all_terms, new_map, saddle_map, sets_behind}
use Rattle.crossing_maps.proofs.SpreadTerms.{all-below, spread-each}

from-nothing : (p f d : ℕ) (list start new : List Term) → start ≡ [] → IsSum p start (scaled f list) new
    → Same p (coefficient_in new d) (f * coefficient_in list d)
from-nothing p f d list start new none is =
    is.coefficients d ∙ ap (λ (xs : List Term). coefficient_in (xs ++ scaled f list) d % p) none
    ∙ ap (λ x. x % p) (coefficient-scaled f list d)

below-from : (p f limit : ℕ) (list start new : List Term) → start ≡ [] → IsSum p start (scaled f list) new → HaveDotsBelow limit list
    → HaveDotsBelow limit new
below-from p f limit list start new none is all =
    is.dots limit (subst (λ xs. HaveDotsBelow limit xs) (sym none) tt) (scaled-below f limit list all)

-- a term for each dot set, for each of some terms
abbrev spread : ℕ → (Term → ℕ → ℕ) → List Term → List Term
spread count worth terms = flat_map (λ term. all_terms count (worth term)) terms

spread-below : (count : ℕ) (worth : Term → ℕ → ℕ) (terms : List Term) → HaveDotsBelow count (spread count worth terms)
spread-below count worth [] = tt
spread-below count worth (t ∷ ts) =
    AllByRecursion-append (λ term. term.dots < count) (all_terms count (worth t)) (spread count worth ts)
    (all-below (worth t) count 0 count (omega arith)) (spread-below count worth ts)

spread-sum : (count kept : ℕ) (worth : Term → ℕ → ℕ) (terms : List Term) → kept < count
    → coefficient_in (spread count worth terms) kept ≡ sum_by (λ term. worth term kept) terms
spread-sum count kept worth terms below =
    sum_by-flat_map (λ term. cond (nat_eq term.dots kept) term.coefficient 0) (λ term. all_terms count (worth term)) terms
    ∙ sum_by-alike (λ term. coefficient_in (all_terms count (worth term)) kept) (λ term. worth term kept)
    (λ term. spread-each count kept (worth term) below) terms

pub added-terms : (p f : ℕ) (code : Code) (k smoothing : ℕ) (m n : List (ℕ × ℕ)) (label other : ℕ) (old start new : List Term)
    → start ≡ [] → f ≡ 1 → IsSum p start (scaled f (new_map code k smoothing m n label other old)) new
    → AreAddedTerms p code k smoothing m n label other old new
added-terms p f code k smoothing m n label other old start new none one is =
    let count = sets_behind code k smoothing smoothing m n in
    let worth : Term → ℕ → ℕ =
    λ term kept. term.coefficient * value 0 0 (added_surface code k smoothing m n term.dots label other kept) in
    let list = spread count worth old in
    record {
      dots = below-from p f count list start new none is (spread-below count worth old);
      coefficients = λ kept below.
          from-nothing p f kept list start new none is
          ∙ ap (λ x. x % p)
          (ap (λ g. g * coefficient_in list kept) one ∙ one_time (coefficient_in list kept) ∙ spread-sum count kept worth old below);
    }
  where
    one_time : (x : ℕ) → 1 * x ≡ x
    one_time x = omega arith

pub saddle-terms : (p f : ℕ) (code : Code) (k : ℕ) (m : List (ℕ × ℕ)) (label other : ℕ) (start new : List Term) → start ≡ []
    → IsSum p start (scaled f (saddle_map code k m label other)) new → AreSaddleTerms p f code k m label other new
saddle-terms p f code k m label other start new none is =
    let count = sets_behind code k 0 1 m m in
    let worth : ℕ → ℕ = λ kept. value 0 0 (saddle_surface code k m label other kept) in
    let list = all_terms count worth in
    record {
      dots = below-from p f count list start new none is (all-below worth count 0 count (omega arith));
      coefficients = λ kept below.
          from-nothing p f kept list start new none is ∙ ap (λ x. f * x % p) (spread-each count kept worth below);
    }
