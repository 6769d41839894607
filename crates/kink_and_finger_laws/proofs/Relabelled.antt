-- Classes of numbers that have other names.
use Rattle.std.proofs.Common.{◌≡◌, ℕ, inl, inr, ◌<◌, ◌∙◌, List, [], ◌∷◌, refl, sym, ap, map, arith}
use Rattle.std.specs.Prelude.{slice_index}
use Rattle.std.specs.List.{fold, range_with_len}
use Rattle.std.proofs.lemmas.Bool.Decides.{nat_tests}
use Rattle.kh_types.specs.Classes.{merged, joined, classes_of, class_count, AreBelow, IsNamed}
use Rattle.kh_types.proofs.ClassLemmas.{slice_index-joined}
use Rattle.kh_types.proofs.JoinedClasses.{IsNamed-joined, IsNamed-range, slice_index-range, class_count-joined, class_count-joined_together}
use Rattle.kh_types.specs.Permutations.{IsPermutation}
use Rattle.kink_and_finger_laws.proofs.Steps.{same_or_other}

-- a pair under other names
abbrev pub renamed : (ℕ → ℕ) → ℕ × ℕ → ℕ × ℕ
renamed name pair = (name pair.0, name pair.1)

-- two lists of classes join the same numbers, under other names, and are as many
pub record IsAlike (n : ℕ) (name : ℕ → ℕ) (classes others : List ℕ) : Type 0 where
  pub named : IsNamed n classes
  pub others_named : IsNamed n others
  pub onward : (x y : ℕ) → x < n → y < n → slice_index classes x ≡ slice_index classes y
      → slice_index others (name x) ≡ slice_index others (name y)
  pub back : (x y : ℕ) → x < n → y < n → slice_index others (name x) ≡ slice_index others (name y)
      → slice_index classes x ≡ slice_index classes y
  pub count : class_count classes ≡ class_count others

-- where equalities among four class numbers hold among four others, joined numbers are equal where the others are
merged_alike : (a b c d p q r s : ℕ) → (c ≡ d → r ≡ s) → (c ≡ a → r ≡ p) → (c ≡ b → r ≡ q) → (d ≡ a → s ≡ p) → (d ≡ b → s ≡ q)
    → (a ≡ b → p ≡ q) → merged a b c ≡ merged a b d → merged p q r ≡ merged p q s
merged_alike a b c d p q r s cd ca cb da db ab same = grind (arith, nat_tests)

IsAlike-joined : (n : ℕ) (name : ℕ → ℕ) (classes others : List ℕ) (pair : ℕ × ℕ) → ((x : ℕ) → x < n → name x < n) → pair.0 < n
    → pair.1 < n → IsAlike n name classes others → IsAlike n name (joined classes pair) (joined others (renamed name pair))
IsAlike-joined n name classes others pair below first_below second_below alike =
    let class : ℕ → ℕ = λ x. slice_index classes x in
    let other : ℕ → ℕ = λ x. slice_index others (name x) in
    let size = alike.named.size in
    let others_size = alike.others_named.size in
    let a = class pair.0 in
    let b = class pair.1 in
    let p = other pair.0 in
    let q = other pair.1 in
    let at : (x : ℕ) → x < n → slice_index (joined classes pair) x ≡ merged a b (class x) =
    λ x x_below. slice_index-joined classes pair x (omega (arith, size, x_below)) in
    let other_at : (x : ℕ) → x < n → slice_index (joined others (renamed name pair)) (name x) ≡ merged p q (other x) =
    λ x x_below. slice_index-joined others (renamed name pair) (name x) (omega (arith, others_size, below x x_below)) in
    record {
      named = IsNamed-joined n classes pair first_below second_below alike.named;
      others_named = IsNamed-joined n others (renamed name pair) (below pair.0 first_below) (below pair.1 second_below) alike.others_named;
      onward = λ x y x_below y_below same.
          other_at x x_below
          ∙ merged_alike a b (class x) (class y) p q (other x) (other y) (alike.onward x y x_below y_below)
          (alike.onward x pair.0 x_below first_below) (alike.onward x pair.1 x_below second_below)
          (alike.onward y pair.0 y_below first_below) (alike.onward y pair.1 y_below second_below)
          (alike.onward pair.0 pair.1 first_below second_below) (sym (at x x_below) ∙ same ∙ at y y_below)
          ∙ sym (other_at y y_below);
      back = λ x y x_below y_below same.
          at x x_below
          ∙ merged_alike p q (other x) (other y) a b (class x) (class y) (alike.back x y x_below y_below)
          (alike.back x pair.0 x_below first_below) (alike.back x pair.1 x_below second_below)
          (alike.back y pair.0 y_below first_below) (alike.back y pair.1 y_below second_below)
          (alike.back pair.0 pair.1 first_below second_below) (sym (other_at x x_below) ∙ same ∙ other_at y y_below)
          ∙ sym (at y y_below);
      count = elim (same_or_other a b) [
        | inl together ↦
            class_count-joined_together classes pair together ∙ alike.count
            ∙ sym (class_count-joined_together others (renamed name pair) (alike.onward pair.0 pair.1 first_below second_below together))
        | inr apart ↦
            let fewer = class_count-joined n classes pair alike.named first_below second_below apart in
            let others_fewer = class_count-joined n others (renamed name pair) alike.others_named (below pair.0 first_below)
            (below pair.1 second_below) (λ same. apart (alike.back pair.0 pair.1 first_below second_below same)) in
            omega (arith, fewer, others_fewer, alike.count)
      ];
    }

IsAlike-fold : (n : ℕ) (name : ℕ → ℕ) (classes others : List ℕ) (pairs : List (ℕ × ℕ)) → ((x : ℕ) → x < n → name x < n)
    → AreBelow n pairs → IsAlike n name classes others
    → IsAlike n name (fold joined classes pairs) (fold joined others (map (renamed name) pairs))
IsAlike-fold n name classes others [] below pairs_below alike = alike
IsAlike-fold n name classes others (pair ∷ pairs) below pairs_below alike =
    IsAlike-fold n name (joined classes pair) (joined others (renamed name pair)) pairs below pairs_below.1
    (IsAlike-joined n name classes others pair below pairs_below.0.0 pairs_below.0.1 alike)

-- under other names there are as many classes, which join the same numbers
pub IsAlike-renamed : (n : ℕ) (name old : ℕ → ℕ) (pairs : List (ℕ × ℕ)) → IsPermutation n name old → AreBelow n pairs
    → IsAlike n name (classes_of n pairs) (classes_of n (map (renamed name) pairs))
IsAlike-renamed n name old pairs permuted pairs_below =
    IsAlike-fold n name (range_with_len 0 n) (range_with_len 0 n) pairs permuted.below pairs_below
    (record {
      named = IsNamed-range n;
      others_named = IsNamed-range n;
      onward = λ x y x_below y_below same.
          ap (λ z. slice_index (range_with_len 0 n) (name z))
          (sym (slice_index-range n x x_below) ∙ same ∙ slice_index-range n y y_below);
      back = λ x y x_below y_below same.
          ap (λ z. slice_index (range_with_len 0 n) z)
          (sym (permuted.back_f x x_below)
          ∙ ap old (sym (slice_index-range n (name x) (permuted.below x x_below)) ∙ same ∙ slice_index-range n (name y) (permuted.below y y_below))
          ∙ permuted.back_f y y_below);
      count = refl;
    })
