-- A permutation of which two images are exchanged: two cycles become one, or one becomes two.
use Rattle.std.proofs.Common.{◌≡◌, ◌≢◌, ℕ, ◌⊎◌, inl, inr, ◌<◌, ◌∙◌, List, sym, ap, arith}
use Rattle.std.specs.Prelude.{slice_index}
use Rattle.std.proofs.lemmas.Bool.Decides.{nat_tests}
use Rattle.std.proofs.lemmas.List.{ext_get_or}
use Rattle.kh_types.specs.Classes.{merged, joined}
use Rattle.kh_types.proofs.ClassLemmas.{merged-both, slice_index-joined}
use Rattle.kh_types.proofs.JoinedClasses.{IsNamed-joined, named-le}
use Rattle.kh_types.proofs.WalkLemmas.{AreCycles}
use Rattle.kh_types.specs.Permutations.{AreJoined, IsExchange}
use Rattle.kh_types.proofs.Ways.{IsOneToOne, IsWay-whole}

pub IsExchange-back : (m : ℕ) (f other : ℕ → ℕ) (d e : ℕ) → IsExchange m f other d e → IsExchange m other f d e
IsExchange-back m f other d e exchanged = omega arith

-- what the steps from all numbers keep, said of d, of e and of the others
keeps-each : (m : ℕ) (f g : ℕ → ℕ) (d e : ℕ) → g d ≡ g (f d) → g e ≡ g (f e) → ((y : ℕ) → y < m → y ≢ d → y ≢ e → g y ≡ g (f y))
    → (y : ℕ) → y < m → g y ≡ g (f y)
keeps-each m f g d e at_d at_e others y below = grind (arith, nat_tests)

-- d and e are on two cycles of the one function and on one of the other
pub record ArePartedBy (cycles joined : List ℕ) (d e : ℕ) : Type 0 where
  pub apart : slice_index cycles d ≢ slice_index cycles e
  pub together : slice_index joined d ≡ slice_index joined e

pub parted : (m : ℕ) (f back other other_back : ℕ → ℕ) (cycles others : List ℕ) (d e : ℕ) → AreCycles m f back cycles
    → AreCycles m other other_back others → IsExchange m f other d e → d < m → e < m → d ≢ e
    → ArePartedBy cycles others d e ⊎ ArePartedBy others cycles d e
parted m f back other other_back cycles others d e are others_are exchanged d_below e_below apart =
    let class : ℕ → ℕ = λ x. slice_index cycles x in
    let class_too : ℕ → ℕ = λ x. slice_index others x in
    let is : IsOneToOne m f = record {
      below = are.below;
      one = λ x y x_below y_below same. sym (are.back_f x x_below) ∙ ap back same ∙ are.back_f y y_below;
    } in
    elim (IsWay-whole m f d e is d_below e_below apart) [
      | inl way ↦ inr (record {
        apart = λ same. absurd (omega (
          arith,
          way.at_last,
          way.at_other,
          others_are.finest way.on
              (keeps-each m other way.on d e (way.at_last ∙ sym way.first ∙ ap way.on (sym exchanged.at_x))
              (way.at_other ∙ sym way.not_first ∙ ap way.on (sym exchanged.at_y))
              (λ y below not_d not_e. way.keeps y below not_d not_e ∙ ap way.on (sym (exchanged.others y below not_d not_e))))
              d e d_below e_below same,
        ));
        together = way.together class (λ y below not_d not_e. sym (are.step y below)) ∙ are.step e e_below;
      })
      | inr way ↦ inl (record {
        apart = λ same. absurd (omega (
          arith,
          way.at_last,
          way.at_other,
          are.finest way.on
              (keeps-each m f way.on d e (way.at_other ∙ sym way.not_first) (way.at_last ∙ sym way.first) way.keeps)
              d e d_below e_below same,
        ));
        together = sym (way.together class_too
            (λ y below not_d not_e.
            sym (ap class_too (sym (exchanged.others y below not_d not_e)) ∙ others_are.step y below))
            ∙ ap class_too (sym exchanged.at_x) ∙ others_are.step d d_below);
      })
    ]

-- two classes that are one after two others became one
pub merged-same : (a b c d : ℕ) → merged a b c ≡ merged a b d → (c ≡ d) ⊎ (((c ≡ a) × (d ≡ b)) ⊎ ((c ≡ b) × (d ≡ a)))
merged-same a b c d same = grind (arith, nat_tests)

-- where d and e are on two cycles of f and on one of the other function, the other's cycles are those of f with the two joined
joined-parted : (m : ℕ) (f back other other_back : ℕ → ℕ) (cycles others : List ℕ) (d e : ℕ) → AreCycles m f back cycles
    → AreCycles m other other_back others → IsExchange m f other d e → d < m → e < m → ArePartedBy cycles others d e
    → AreJoined cycles others d e
joined-parted m f back other other_back cycles others d e are others_are exchanged d_below e_below parts =
    let class : ℕ → ℕ = λ x. slice_index cycles x in
    let class_too : ℕ → ℕ = λ x. slice_index others x in
    let one = joined cycles (d, e) in
    let a = class d in
    let b = class e in
    let size = are.named.size in
    let at : (x : ℕ) → x < m → slice_index one x ≡ merged a b (class x) =
    λ x below. slice_index-joined cycles (d, e) x (omega (arith, size, below)) in
    let one_named = IsNamed-joined m cycles (d, e) d_below e_below are.named in
    let coarse : (x y : ℕ) → x < m → y < m → slice_index one x ≡ slice_index one y → class_too x ≡ class_too y =
    λ x y x_below y_below same.
    let keeps = keeps-each m f class_too d e
    (parts.together ∙ sym (others_are.step e e_below) ∙ ap class_too exchanged.at_y)
    (sym parts.together ∙ sym (others_are.step d d_below) ∙ ap class_too exchanged.at_x)
    (λ z below not_d not_e. sym (others_are.step z below) ∙ ap class_too (exchanged.others z below not_d not_e)) in
    elim (merged-same a b (class x) (class y) (sym (at x x_below) ∙ same ∙ at y y_below)) [
      | inl alike ↦ are.finest class_too keeps x y x_below y_below alike
      | inr crossed ↦ elim crossed [
        | inl xy ↦ are.finest class_too keeps x d x_below d_below xy.0 ∙ parts.together
            ∙ are.finest class_too keeps e y e_below y_below (sym xy.1)
        | inr yx ↦ are.finest class_too keeps x e x_below e_below yx.0 ∙ sym parts.together
            ∙ are.finest class_too keeps d y d_below y_below (sym yx.1)
      ]
    ] in
    let fine : (x y : ℕ) → x < m → y < m → class_too x ≡ class_too y → slice_index one x ≡ slice_index one y =
    λ x y x_below y_below same.
    others_are.finest (λ z. slice_index one z)
    (keeps-each m other (λ z. slice_index one z) d e
    (at d d_below ∙ merged-both a b ∙ ap (λ c. merged a b c) (sym (are.step e e_below)) ∙ sym (at (f e) (are.below e e_below))
    ∙ ap (λ z. slice_index one z) (sym exchanged.at_x))
    (at e e_below ∙ sym (merged-both a b) ∙ ap (λ c. merged a b c) (sym (are.step d d_below)) ∙ sym (at (f d) (are.below d d_below))
    ∙ ap (λ z. slice_index one z) (sym exchanged.at_y))
    (λ z below not_d not_e.
    at z below ∙ ap (λ c. merged a b c) (sym (are.step z below)) ∙ sym (at (f z) (are.below z below))
    ∙ ap (λ w. slice_index one w) (sym (exchanged.others z below not_d not_e))))
    x y x_below y_below same in
    record {
      apart = parts.apart;
      one = ext_get_or 0 others one (others_are.named.size ∙ sym one_named.size)
          (λ x within.
          let below : x < m = omega (arith, within, others_are.named.size) in
          omega (
            arith,
            named-le m one others one_named others_are.named coarse x below,
            named-le m others one others_are.named one_named fine x below,
          ));
    }

-- so the cycles of d and e are joined, forwards or backwards
pub AreJoined-exchanged : (m : ℕ) (f back other other_back : ℕ → ℕ) (cycles others : List ℕ) (d e : ℕ) → AreCycles m f back cycles
    → AreCycles m other other_back others → IsExchange m f other d e
    → AreJoined cycles others d e ⊎ AreJoined others cycles d e
AreJoined-exchanged m f back other other_back cycles others d e are others_are exchanged =
    let d_below = exchanged.x_below in
    let e_below = exchanged.y_below in
    elim (parted m f back other other_back cycles others d e are others_are exchanged d_below e_below exchanged.apart) [
      | inl parts ↦
          inl (joined-parted m f back other other_back cycles others d e are others_are exchanged d_below e_below parts)
      | inr parts ↦ inr
          (joined-parted m other other_back f back others cycles d e others_are are (IsExchange-back m f other d e exchanged)
          d_below e_below parts)
    ]
