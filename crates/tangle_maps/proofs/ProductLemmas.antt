-- A product of two dot sets, times a number, is the composition of terms that have these dots: all its terms have one coefficient, which is
-- that of the two terms together times a number of the seam's.
use Rattle.std.proofs.Common.{◌≡◌, ℕ, ◌*◌, ◌%◌, ◌<◌, ◌∙◌, List, [], ◌∷◌, ◌++◌, get_or, length, map, refl, sym, ap, subst, subst₂, arith}
use Rattle.std.proofs.lemmas.List.{get_or_default, get_or_push, length_push}
use Rattle.std.proofs.lemmas.List.Elements.{All-push}
use Rattle.kh_types.specs.Residues.{Same}
use Rattle.kh_types.proofs.Residues.{same-mul, same-scaled}
use Rattle.dotted_maps.specs.declared.term.Term.{Term}
use Rattle.dotted_maps.specs.Choices.{choices}
use Rattle.dotted_maps.specs.Maps.{coefficient_in, scaled}
use Rattle.dotted_maps.specs.Parts.{product_over}
use Rattle.tangle_maps.specs.Products.{AreProductsOver, HasProductAt, IsKeptProduct, IsProduct}
use Rattle.tangle_maps.specs.Seams.{factor_by, left_by, seam_terms}
use Rattle.tangle_maps.specs.Sums.{AreReduced, HaveDotsBelow, IsSum, dotted_term, dotted_times}
use Rattle.tangle_maps.specs.declared.known.Product.{Product}
use Rattle.tangle_maps.specs.declared.seam.Seam.{Seam}
use Rattle.tangle_maps.proofs.SumLemmas.{IsSum-alike, coefficient-scaled, scaled-below}

-- terms with one coefficient

scaled-times : (f c : ℕ) (sets : List ℕ) → scaled f (map (dotted_times c) sets) ≡ map (dotted_times (f * c)) sets
scaled-times f c [] = refl
scaled-times f c (s ∷ sets) = ap (λ (ts : List Term). dotted_term s (f * c) ∷ ts) (scaled-times f c sets)

coefficient-times : (c dots : ℕ) (sets : List ℕ)
    → coefficient_in (map (dotted_times c) sets) dots ≡ c * coefficient_in (map (dotted_times 1) sets) dots
coefficient-times c dots sets =
    ap (λ z. coefficient_in (map (dotted_times z) sets) dots) (once c)
    ∙ ap (λ (ts : List Term). coefficient_in ts dots) (sym (scaled-times c 1 sets))
    ∙ coefficient-scaled c (map (dotted_times 1) sets) dots
  where
    once : (c : ℕ) → c ≡ c * 1
    once c = omega arith

times-below : (c d limit : ℕ) (sets : List ℕ) → HaveDotsBelow limit (map (dotted_times c) sets)
    → HaveDotsBelow limit (map (dotted_times d) sets)
times-below c d limit [] all = tt
times-below c d limit (s ∷ sets) all = (all.0, times-below c d limit sets all.1)

pub product_added : (p f value : ℕ) (seam : Seam) (term other : Term) (known old new : List Term)
    → IsProduct p seam term.dots other.dots known → Same p value (f * (term.coefficient * other.coefficient))
    → IsSum p old (scaled value known) new → IsSum p old (scaled f (seam_terms seam term other)) new
product_added p f value seam term other known old new is is_value sum =
    let parts = product_over (factor_by seam term.dots other.dots) seam.components.items in
    let sets = choices seam.components.items seam.whole.items (left_by seam term.dots other.dots) in
    let c = term.coefficient * other.coefficient in
    let count = λ (dots : ℕ). coefficient_in (map (dotted_times 1) sets) dots in
    IsSum-alike p old (scaled value known) (scaled f (map (dotted_times (c * parts)) sets)) new sum
    (λ dots.
    ap (λ z. z % p) (coefficient-scaled value known dots)
    ∙ same-scaled p value (coefficient_in known dots) (coefficient_in (map (dotted_times (1 * 1 * parts)) sets) dots) (is.sum.coefficients dots)
    ∙ ap (λ z. z % p) (ap (λ z. value * z) (coefficient-times (1 * 1 * parts) dots sets) ∙ first value parts (count dots))
    ∙ same-mul p value (f * c) (parts * count dots) (parts * count dots) is_value refl
    ∙ ap (λ z. z % p) (second f c parts (count dots) ∙ ap (λ z. f * z) (sym (coefficient-times (c * parts) dots sets))
    ∙ sym (coefficient-scaled f (map (dotted_times (c * parts)) sets) dots)))
    (λ limit below.
    scaled-below value limit known
    (is.sum.dots limit tt (times-below (f * (c * parts)) (1 * 1 * parts) limit sets
    (subst (HaveDotsBelow limit) (scaled-times f (c * parts) sets) below))))
  where
    first : (v x n : ℕ) → v * (1 * 1 * x * n) ≡ v * (x * n)
    first v x n = omega arith

    second : (f c x n : ℕ) → f * c * (x * n) ≡ f * (c * x * n)
    second f c x n = omega arith

-- a product that is kept

pub product-found : (p dots others place : ℕ) (seam : Seam) (product : Product) (made : List Product) → place < length made
    → product ≡ get_or made place product → product.dots ≡ dots → product.others ≡ others → AreProductsOver p seam made
    → HasProductAt p seam dots others made place
product-found p dots others place seam product made within there same_dots same_others are = record {
  within = within;
  is = λ d.
      subst (λ (q : Product). IsProduct p seam dots others q.terms.items) (there ∙ get_or_default made place product d within)
      (subst₂ (λ x y. IsProduct p seam x y product.terms.items) same_dots same_others
      (subst (IsKeptProduct p seam) (sym there) (are place product within)));
}

pub products-pushed : (p : ℕ) (seam : Seam) (product : Product) (old new : List Product) → IsKeptProduct p seam product
    → new ≡ old ++ product ∷ [] → AreProductsOver p seam old → AreProductsOver p seam new
products-pushed p seam product old new is pushed are =
    subst (λ (xs : List Product). AreProductsOver p seam xs) (sym pushed) (All-push (IsKeptProduct p seam) old product are is)

pub product-pushed : (p place : ℕ) (seam : Seam) (product : Product) (old new : List Product) → IsKeptProduct p seam product
    → new ≡ old ++ product ∷ [] → place ≡ length old → HasProductAt p seam product.dots product.others new place
product-pushed p place seam product old new is pushed here =
    subst (λ (xs : List Product). HasProductAt p seam product.dots product.others xs place) (sym pushed)
    (record {
      within = omega (arith, here, length_push old product);
      is = λ d.
          subst (λ (q : Product). IsProduct p seam product.dots product.others q.terms.items) (sym (get_or_push old product d place (sym here)))
          is;
    })

-- a product that is made
pub product-made : (p factor dots others : ℕ) (seam : Seam) (term other : Term) (start made : List Term) → start ≡ [] → factor ≡ 1
    → term ≡ dotted_term dots 1 → other ≡ dotted_term others 1 → AreReduced p made
    → IsSum p start (scaled factor (seam_terms seam term other)) made → IsProduct p seam dots others made
product-made p factor dots others seam term other start made none one is_term is_other reduced sum =
    let list = seam_terms seam (dotted_term dots 1) (dotted_term others 1) in
    record {
      reduced = reduced;
      sum = IsSum-alike p [] (scaled 1 list) list made
          (subst₂ (λ (xs : List Term) (f : ℕ). IsSum p xs (scaled f list) made) none one
          (subst₂ (λ (t u : Term). IsSum p start (scaled factor (seam_terms seam t u)) made) is_term is_other sum))
          (λ at. ap (λ z. z % p) (coefficient-scaled 1 list at ∙ once (coefficient_in list at)))
          (λ limit below. scaled-below 1 limit list below);
    }
  where
    once : (n : ℕ) → 1 * n ≡ n
    once n = omega arith
