-- One pivot of a factor, beside every cell of the other, is a family of pivots of the product. What is left is the product of what is
-- left of the factor: a way back that counts goes to the pivot's head and on from its tail beside one cell of the other factor.
use Rattle.std.proofs.lemmas.Bool.Decides.{nat_tests}
use Rattle.std.proofs.Common.{◌≡◌, ◌≢◌, ℕ, inl, inr, ◌+◌, ◌*◌, ◌%◌, ◌<◌, ◌∙◌, ℤ, List, [], ◌∷◌, ◌++◌, map, refl, sym, subst, ap, ap₂, arith, true, false}
use Rattle.std.specs.List.{Contains, sum_by}
use Rattle.std.proofs.lemmas.Bool.{cases_Bool}
use Rattle.std.proofs.Math.Nat.{mod-mod, zero-mod}
use Rattle.std.proofs.lemmas.List.Sums.{sum_by-cons}
use Rattle.std.proofs.lemmas.Simd.{map-map}
use Rattle.kh_types.specs.Rank.{inverse}
use Rattle.kh_types.specs.Residues.{HasInverses, Same}
use Rattle.kh_types.proofs.ListSums.{sum_by-map}
use Rattle.kh_types.proofs.PlainRank.{other-below}
use Rattle.kh_types.proofs.Reduced.{minus_mod-added}
use Rattle.kh_types.proofs.Residues.{same-add, same-cancel, same-equal, same-inverse, same-mul, same-scaled}
use Rattle.cell_laws.specs.Alike.{AreAlike, AreListed, HasNoDoubles}
use Rattle.cell_laws.specs.Cells.{AreComplex, Cells, dimension_at}
use Rattle.cell_laws.specs.Elimination.{ArePivots, all_of, cells_left, eliminated, way_back}
use Rattle.cell_laws.proofs.AlikeCells.{dimension-alike}
use Rattle.cell_laws.proofs.AlikeComplexes.{complex-alike, complex-left_any, dimension-left_any}
use Rattle.cell_laws.proofs.Listings.{listed-same, pivots-without_doubles}
use Rattle.cell_laws.proofs.Members.{Contains-made}
use Rattle.cell_laws.proofs.NoDoubles.{once-map, sum_by-only}
use Rattle.kh_types.proofs.ListSums.{sum_by-zeros}
use Rattle.product_laws.specs.Products.{Factor, IsTest, all_pairs, pair_coefficient, product_complex}
use Rattle.product_laws.proofs.PairCoefficients.{by-first, by-neither, not-first, pair-below}
use Rattle.product_laws.proofs.PairLists.{pairs-listed, pairs-parts, test-apart, test-other}

-- the cells that are left of a factor
abbrev pub factor_left : {A : Type 0} → ℕ → Factor A → List (A × A) → List A → Factor A
factor_left p factor pairs rest =
    record { cells = cells_left p factor.cells pairs rest; same = factor.same; sign = factor.sign }

-- cells whose coefficients are the same modulo p
pub alike-same : {A : Type 0} (p : ℕ) (first second : Cells A) → AreListed (λ (x : A). x) first.list second.list
    → ((x : A) → second.homological x ≡ first.homological x) → ((x : A) → second.quantum x ≡ first.quantum x)
    → ((x y : A) → Contains first.list x → Contains first.list y → Same p (first.coefficient x y) (second.coefficient x y))
    → AreAlike p (λ (x : A). x) (λ (x : A). 1) first second
alike-same p first second listed homological quantum same = grind (arith, nat_tests)

module _ {A B : Type 0} (p : ℕ) (first : Factor A) (second : Factor B) (field : HasInverses p) (test : IsTest first.same)
    (second_test : IsTest second.same) (once : HasNoDoubles second.cells.list)
    (units : (y : B) → Contains second.cells.list y → Same p (second.sign y * second.sign y) 1)
    (below : (x u : A) → first.cells.coefficient x u < p)
    (complex : AreComplex p (product_complex p first second)) (x y : A) (rest : List A) (differ : x ≢ y)
    (listed : AreListed (λ (z : A). z) first.cells.list (x ∷ y ∷ rest)) (some : first.cells.coefficient x y ≢ 0)
    (x_gone : Contains rest x → ⊥) (y_gone : Contains rest y → ⊥) where
  abbrev whole : Cells (A × B)
  whole = product_complex p first second

  abbrev c : A × B → A × B → ℕ
  c = pair_coefficient p first second

  abbrev d : A → A → ℕ
  d = first.cells.coefficient

  abbrev ys : List B
  ys = second.cells.list

  abbrev sign : B → ℕ
  sign = second.sign

  abbrev left : Factor A
  left = factor_left p first ((x, y) ∷ []) rest

  positive : 0 < p
  positive = omega (arith, field.above_one)

  abbrev pivot : B → (A × B) × (A × B)
  pivot b = ((x, b), (y, b))

  abbrev pivots : List ((A × B) × (A × B))
  pivots = map pivot ys

  listed-all : AreListed (λ (z : A × B). z) (all_pairs first.cells.list ys) (all_of pivots (all_pairs rest ys))
  listed-all =
      subst (λ (zs : List (A × B)). AreListed (λ (z : A × B). z) (all_pairs first.cells.list ys) zs)
      (ap₂ (λ (us vs : List (A × B)). us ++ (vs ++ all_pairs rest ys)) (sym (map-map (λ (q : (A × B) × (A × B)). q.0) pivot ys))
      (sym (map-map (λ (q : (A × B) × (A × B)). q.1) pivot ys)))
      (pairs-listed first.cells.list (x ∷ y ∷ rest) ys listed)

  -- a sign is no multiple of p
  unit-times : (b : B) (n : ℕ) → Contains ys b → n < p → n ≢ 0 → second.sign b * n % p ≢ 0
  unit-times b n has n_below other none =
      other-below p n n_below other
      (same-equal p n (1 * n) (omega arith)
      ∙ same-mul p 1 (second.sign b * second.sign b) n n (sym (units b has)) refl
      ∙ same-equal p (second.sign b * second.sign b * n) (second.sign b * (second.sign b * n)) (omega arith)
      ∙ same-scaled p (second.sign b) (second.sign b * n) 0 (none ∙ sym (zero-mod p))
      ∙ same-equal p (second.sign b * 0) 0 (omega arith))

  are : ArePivots c pivots
  are =
      pivots-without_doubles c pivots
      (once-map pivot ys (λ b e same. ap (λ (w : (A × B) × (A × B)). w.0.1) same) once)
      (λ pair has.
      let b = Contains-made pivot ys pair has in
      subst (λ (w : (A × B) × (A × B)). c w.0 w.1 ≢ 0) b.2
      (λ none. unit-times b.0 (d x y) b.1 (below x y) some (sym (by-first p first second x y b.0 b.0 (second_test.self b.0)) ∙ none)))
      (λ pair other has has_other apart.
      let b = Contains-made pivot ys pair has in
      let e = Contains-made pivot ys other has_other in
      ap₂ (λ (w z : (A × B) × (A × B)). c w.0 z.1) (sym b.2) (sym e.2)
      ∙ by-neither p first second x y b.0 e.0
      (test-other second.same b.0 e.0 second_test (λ same. apart (sym b.2 ∙ ap pivot same ∙ e.2)))
      (test-other first.same x y test differ))

  -- the ways back beside a cell
  abbrev way : A → B → A → B → B → ℕ
  way u b v e a = c (u, b) (y, a) * (inverse p (c (x, a) (y, a)) * c (x, a) (v, e))

  gone-first : (u : A) → Contains rest u → first.same u y ≡ false
  gone-first u has = test-other first.same u y test (λ is. y_gone (subst (λ (z : A). Contains rest z) is has))

  gone-second : (v : A) → Contains rest v → first.same x v ≡ false
  gone-second v has = test-other first.same x v test (λ is. x_gone (subst (λ (z : A). Contains rest z) (sym is) has))

  way-none_first : (u : A) (b : B) (v : A) (e a : B) → Contains rest u → second.same b a ≡ false → way u b v e a ≡ 0
  way-none_first u b v e a has other = grind (arith, nat_tests, by-neither, gone-first)

  way-none_second : (u : A) (b : B) (v : A) (e a : B) → Contains rest v → second.same a e ≡ false → way u b v e a ≡ 0
  way-none_second u b v e a has other =
      ap (λ n. c (u, b) (y, a) * (inverse p (c (x, a) (y, a)) * n)) (by-neither p first second x v a e other (gone-second v has))
      ∙ nothing (c (u, b) (y, a)) (inverse p (c (x, a) (y, a)))
    where
      nothing : (m n : ℕ) → m * (n * 0) ≡ 0
      nothing m n = omega arith

  ways : (u : A) (b : B) (v : A) (e : B) → sum_by (way_back p c (u, b) (v, e)) pivots ≡ sum_by (way u b v e) ys
  ways u b v e = sum_by-map (way_back p c (u, b) (v, e)) pivot ys

  -- where the second cells differ, no way back counts
  left-apart : (u : A) (b : B) (v : A) (e : B) → Contains rest u → Contains rest v → second.same b e ≡ false
      → Same p (eliminated p c pivots (u, b) (v, e)) (pair_coefficient p left second (u, b) (v, e))
  left-apart u b v e has_u has_v other =
      let all = sum_by (way_back p c (u, b) (v, e)) pivots in
      let none : all ≡ 0 =
      ways u b v e
      ∙ sum_by-zeros (way u b v e) ys
      (λ a. elim (cases_Bool (second.same b a)) [
        | inr fails ↦ way-none_first u b v e a has_u fails
        | inl passes ↦
            way-none_second u b v e a has_v
            (test-other second.same a e second_test
            (λ is. test-apart second.same b e second_test other (second_test.one b a passes ∙ is)))
      ]) in
      let now = eliminated p c pivots (u, b) (v, e) in
      same-equal p now (0 + now) (omega arith)
      ∙ ap (λ n. (n + now) % p) (sym none)
      ∙ minus_mod-added p (c (u, b) (v, e)) all positive
      ∙ same-equal p (c (u, b) (v, e)) (pair_coefficient p left second (u, b) (v, e))
      (not-first p first second u v b e other ∙ sym (not-first p left second u v b e other))

  inverts : Same p (d x y * inverse p (d x y)) 1
  inverts = same-inverse p (d x y) field (other-below p (d x y) (below x y) some)

  -- where they are one, the way beside it does
  way-here : (u : A) (b : B) (v : A) → Contains ys b → Same p (way u b v b b) (sign b * (d u y * (inverse p (d x y) * d x v)))
  way-here u b v has =
      let s = sign b in
      let m = s * d x y % p in
      let inv = inverse p m in
      let self = second_test.self b in
      let unit : Same p (m * inv) 1 =
      same-inverse p m field (λ none. unit-times b (d x y) has (below x y) some (sym (mod-mod (s * d x y) p) ∙ none ∙ zero-mod p)) in
      let turned : Same p (inv * s) (inverse p (d x y)) =
      same-equal p (inv * s) (inv * s * 1) (times_one (inv * s))
      ∙ same-scaled p (inv * s) 1 (d x y * inverse p (d x y)) (sym inverts)
      ∙ same-equal p (inv * s * (d x y * inverse p (d x y))) (s * d x y * inv * inverse p (d x y))
      (regrouped inv s (d x y) (inverse p (d x y)))
      ∙ same-mul p (s * d x y * inv) 1 (inverse p (d x y)) (inverse p (d x y))
      (same-mul p (s * d x y) m inv inv (sym (mod-mod (s * d x y) p)) refl ∙ unit) refl
      ∙ same-equal p (1 * inverse p (d x y)) (inverse p (d x y)) (one_times (inverse p (d x y))) in
      same-equal p (way u b v b b) (s * d u y % p * (inv * (s * d x v % p)))
      (ap₂ (λ k l. k * (inverse p l * c (x, b) (v, b))) (by-first p first second u y b b self) (by-first p first second x y b b self)
      ∙ ap (λ k. s * d u y % p * (inv * k)) (by-first p first second x v b b self))
      ∙ same-mul p (s * d u y % p) (s * d u y) (inv * (s * d x v % p)) (inv * (s * d x v)) (mod-mod (s * d u y) p)
      (same-scaled p inv (s * d x v % p) (s * d x v) (mod-mod (s * d x v) p))
      ∙ same-equal p (s * d u y * (inv * (s * d x v))) (s * d u y * d x v * (inv * s)) (gathered (s * d u y) inv s (d x v))
      ∙ same-scaled p (s * d u y * d x v) (inv * s) (inverse p (d x y)) turned
      ∙ same-equal p (s * d u y * d x v * inverse p (d x y)) (s * (d u y * (inverse p (d x y) * d x v)))
      (spread s (d u y) (d x v) (inverse p (d x y)))
    where
      times_one : (n : ℕ) → n ≡ n * 1
      times_one n = omega arith

      one_times : (n : ℕ) → 1 * n ≡ n
      one_times n = omega arith

      regrouped : (i s m j : ℕ) → i * s * (m * j) ≡ s * m * i * j
      regrouped i s m j = omega arith

      gathered : (k i s m : ℕ) → k * (i * (s * m)) ≡ k * m * (i * s)
      gathered k i s m = omega arith

      spread : (s k m i : ℕ) → s * k * m * i ≡ s * (k * (i * m))
      spread s k m i = omega arith

  left-beside : (u : A) (b : B) (v : A) (e : B) → Contains rest u → Contains rest v → Contains ys b → second.same b e ≡ true
      → Same p (eliminated p c pivots (u, b) (v, e)) (pair_coefficient p left second (u, b) (v, e))
  left-beside u b v e has_u has_v has_b passes =
      subst (λ (a : B). Same p (eliminated p c pivots (u, b) (v, a)) (pair_coefficient p left second (u, b) (v, a)))
      (second_test.one b e passes)
      (let s = sign b in
      let all = sum_by (way_back p c (u, b) (v, b)) pivots in
      let W = d u y * (inverse p (d x y) * d x v) in
      let now = eliminated p c pivots (u, b) (v, b) in
      let later = eliminated p d ((x, y) ∷ []) u v in
      let one : all ≡ way u b v b b =
      ways u b v b
      ∙ sum_by-only (way u b v b) ys b once has_b
      (λ a has_a other. way-none_second u b v b a has_v (test-other second.same a b second_test other)) in
      let same_way : Same p all (s * W) = same-equal p all (way u b v b b) one ∙ way-here u b v has_b in
      let single : sum_by (way_back p d u v) ((x, y) ∷ []) ≡ W =
      sum_by-cons (way_back p d u v) (x, y) [] ∙ plus_nothing W in
      let self = second_test.self b in
      same-cancel p now (s * later) all positive
      (same-equal p (now + all) (all + now) (omega arith)
      ∙ minus_mod-added p (c (u, b) (v, b)) all positive
      ∙ same-equal p (c (u, b) (v, b)) (s * d u v % p) (by-first p first second u v b b self)
      ∙ mod-mod (s * d u v) p
      ∙ same-scaled p s (d u v) (W + later)
      (sym (ap (λ n. (n + later) % p) (sym single) ∙ minus_mod-added p (d u v) (sum_by (way_back p d u v) ((x, y) ∷ [])) positive))
      ∙ same-equal p (s * (W + later)) (s * W + s * later) (spread s W later)
      ∙ same-add p (s * W) all (s * later) (s * later) (sym same_way) refl
      ∙ same-equal p (all + s * later) (s * later + all) (omega arith))
      ∙ sym (mod-mod (s * later) p)
      ∙ same-equal p (s * later % p) (pair_coefficient p left second (u, b) (v, b)) (sym (by-first p left second u v b b self)))
    where
      plus_nothing : (n : ℕ) → n + 0 ≡ n
      plus_nothing n = omega arith

      spread : (s m n : ℕ) → s * (m + n) ≡ s * m + s * n
      spread s m n = omega arith

  alike : AreAlike p (λ (z : A × B). z) (λ (z : A × B). 1) (cells_left p whole pivots (all_pairs rest ys)) (product_complex p left second)
  alike =
      alike-same p (cells_left p whole pivots (all_pairs rest ys)) (product_complex p left second) (listed-same (all_pairs rest ys))
      (λ z. refl) (λ z. refl)
      (λ z w has_z has_w.
      let z_parts = pairs-parts rest ys z has_z in
      let w_parts = pairs-parts rest ys w has_w in
      elim (cases_Bool (second.same z.1 w.1)) [
        | inl passes ↦ left-beside z.0 z.1 w.0 w.1 z_parts.0 w_parts.0 z_parts.1 passes
        | inr fails ↦ left-apart z.0 z.1 w.0 w.1 z_parts.0 w_parts.0 fails
      ])

  left-complex : AreComplex p (cells_left p whole pivots (all_pairs rest ys))
  left-complex = complex-left_any p whole pivots (all_pairs rest ys) field complex listed-all are

  -- so the product that is left is a complex, and has the same dimensions
  pub complex-one : AreComplex p (product_complex p left second)
  complex-one =
      complex-alike p (λ (z : A × B). z) (λ (z : A × B). 1)
      (cells_left p whole pivots (all_pairs rest ys)) (product_complex p left second) alike
      (pair-below p left second positive) left-complex

  pub dimension-one : (i j : ℤ) → dimension_at p (product_complex p left second) i j ≡ dimension_at p whole i j
  dimension-one i j =
      dimension-alike p (λ (z : A × B). z) (λ (z : A × B). 1)
      (cells_left p whole pivots (all_pairs rest ys)) (product_complex p left second)
      alike field left-complex.below (pair-below p left second positive) i j
      ∙ dimension-left_any p whole pivots (all_pairs rest ys) field complex listed-all are i j
