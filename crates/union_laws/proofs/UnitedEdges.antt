-- Labels fit along an edge of a union where they fit along the edge of one code, and stay in the other.
use Rattle.std.proofs.Common.{IsTrue, List, [], ◌∷◌, ap, ap₂, arith, Bool, true, false, inl, inr, length, map, refl, subst, sym, ℕ, ◌++◌, ◌+◌, ◌<◌, ◌^◌, ◌∙◌, ◌≡◌, ◌≤◌, ◌&&◌, ◌||◌}
use Rattle.std.specs.Prelude.{nat_eq}
use Rattle.std.specs.List.{list_all, range_with_len}
use Rattle.std.proofs.lemmas.Bool.{both_ways, cases_Bool, eq-eqb, eqb-true}
use Rattle.std.proofs.lemmas.List.Folds.{list_all-append, list_all-map, list_all_at}
use Rattle.kh_types.specs.Acceptance.{accepted}
use Rattle.kh_types.specs.CircleNumbers.{names_to}
use Rattle.kh_types.specs.Circles.{circle_count, circle_names, circles_of}
use Rattle.kh_types.specs.Code.{Code, IsCrossing, arc_count}
use Rattle.kh_types.specs.Differential.{changes_labels, is_merge, is_split, is_touched, keeps_labels, label_of, touched}
use Rattle.kh_types.specs.Generators.{Generator}
use Rattle.kh_types.proofs.Ranges.{range-append}
use Rattle.cell_laws.proofs.CubeCells.{IsMember}
use Rattle.square_laws.proofs.LabelNumbers.{label_of-name_at, name_at}
use Rattle.square_laws.proofs.TouchedCircles.{fits}
use Rattle.std.proofs.lemmas.Nat.Bits.{same_from_bits_below}
use Rattle.std.proofs.lemmas.Simd.{map-map}
use Rattle.link_algebra.proofs.ClassParts.{lifted, range-lifted}
use Rattle.link_algebra.proofs.UnitedCircles.{state_of_both}
use Rattle.link_algebra.specs.Unions.{union_of}
use Rattle.union_laws.proofs.ListTests.{range-bounds}
use Rattle.union_laws.proofs.UnitedLabels.{label-first, label-first_loop, label-second, label-second_loop}
use Rattle.union_laws.specs.Cubes.{united}
use Rattle.union_laws.proofs.UnitedNames.{names-first_loops, names-second_loops}
use Rattle.union_laws.proofs.UnitedTouches.{all-names, name-bounds, name-bounds_second, touched-all, touched-all_second, touched-bounds, touched-bounds_second, touched-first, touched-second, touched-second_before, untouched-loop}
use Rattle.view_laws.proofs.Tests.{map-agree, all-agree}

-- every circle has the same label in two generators
abbrev pub same_labels : Code → Generator → Generator → Bool
same_labels code x y = list_all (λ circle. nat_eq (label_of code x circle) (label_of code y circle)) (circle_names code x.state)

pub labels-self : (code : Code) (x : Generator) → same_labels code x x ≡ true
labels-self code x = by (circle_names code x.state)
  where
    by : (names : List ℕ) → list_all (λ circle. nat_eq (label_of code x circle) (label_of code x circle)) names ≡ true
    by names = all-agree (λ circle. nat_eq (label_of code x circle) (label_of code x circle)) (λ circle. true) names
        (λ c has. eq-eqb (label_of code x c) (label_of code x c) refl) ∙ all-true names
      where
        all-true : (zs : List ℕ) → list_all (λ z. true) zs ≡ true
        all-true [] = refl
        all-true (z ∷ zs) = all-true zs

pub labels-one : (code : Code) (x y : Generator) → IsMember code x → IsMember code y → x.state ≡ y.state → same_labels code x y ≡ true
    → x.label ≡ y.label
labels-one code x y is_x is_y same_state passes =
    let test = λ (circle : ℕ). nat_eq (label_of code x circle) (label_of code y circle) in
    same_from_bits_below (circle_count code x.state) x.label y.label is_x.label
    (subst (λ s. y.label < 2 ^ circle_count code s) (sym same_state) is_y.label)
    (λ i within.
    sym (label_of-name_at code x i within)
    ∙ (elim (cases_Bool (test (name_at code x.state i))) [
      | inl one ↦ eqb-true (label_of code x (name_at code x.state i)) (label_of code y (name_at code x.state i)) one
      | inr fails ↦ absurd (both_ways (same_labels code x y) (list_all_at test (circle_names code x.state) i 0 within fails) passes)
    ])
    ∙ ap (λ s. label_of code y (name_at code s i)) same_state
    ∙ label_of-name_at code y i (subst (λ s. i < circle_count code s) same_state within))

module _ (first second : Code) (first_is : IsTrue (accepted first)) (second_is : IsTrue (accepted second)) where
  abbrev m : ℕ
  m = arc_count first.crossings

  abbrev k : ℕ
  k = arc_count second.crossings

  abbrev both : Code
  both = union_of first second

  -- a test of all circles, in parts
  all-parts : (a b : ℕ) → a < 2 ^ length first.crossings → (P F S : ℕ → Bool)
      → ((z : ℕ) → 1 ≤ z → z ≤ arc_count first.crossings → P z ≡ F z)
      → ((w : ℕ) → 1 ≤ w → w ≤ arc_count second.crossings → P (arc_count first.crossings + w) ≡ S w)
      → ((t : ℕ) → t < first.loops
      → P (arc_count first.crossings + (arc_count second.crossings + 1 + t)) ≡ F (arc_count first.crossings + 1 + t))
      → ((t : ℕ) → t < second.loops
      → P (arc_count first.crossings + (arc_count second.crossings + 1 + (first.loops + t))) ≡ S (arc_count second.crossings + 1 + t))
      → list_all P (circle_names (union_of first second) (state_of_both first a b))
      ≡ (list_all F (circle_names first a) && list_all S (circle_names second b))
  all-parts a b small P F S on_first on_second on_loop on_loop_too =
      let A = names_to (circles_of first a) m in
      let B = names_to (circles_of second b) k in
      let c = m + (k + 1) in
      let la = first.loops in
      let lb = second.loops in
      let R = range_with_len c (la + lb) in
      ap (list_all P) (all-names first second first_is second_is a b small)
      ∙ list_all-append P (A ++ lifted m B) R
      ∙ ap₂ (λ u v. u && v)
      (list_all-append P A (lifted m B)
      ∙ ap₂ (λ u v. u && v)
      (all-agree P F A
      (λ z has. let bounds = name-bounds first second first_is second_is a b small z has in on_first z bounds.0 bounds.1))
      (list_all-map P (λ x. m + x) B
      ∙ all-agree (λ w. P (m + w)) S B
      (λ w has. let bounds = name-bounds_second first second first_is second_is a b small w has in on_second w bounds.0 bounds.1)))
      (ap (list_all P) (range-append c la lb)
      ∙ list_all-append P (range_with_len c la) (range_with_len (c + la) lb)
      ∙ ap₂ (λ u v. u && v)
      (shifted P c la
      ∙ all-agree (λ t. P (c + t)) (λ t. F (m + 1 + t)) (range_with_len 0 la)
      (λ t has.
      let e : c + t ≡ m + (k + 1 + t) = omega arith in
      ap P e ∙ on_loop t (omega (arith, (range-bounds 0 la t has).1)))
      ∙ sym (shifted F (m + 1) la))
      (shifted P (c + la) lb
      ∙ all-agree (λ t. P (c + la + t)) (λ t. S (k + 1 + t)) (range_with_len 0 lb)
      (λ t has.
      let e : c + la + t ≡ m + (k + 1 + (la + t)) = omega arith in
      ap P e ∙ on_loop_too t (omega (arith, (range-bounds 0 lb t has).1)))
      ∙ sym (shifted S (k + 1) lb)))
      ∙ regrouped (list_all F A) (list_all S B) (list_all F (range_with_len (m + 1) la)) (list_all S (range_with_len (k + 1) lb))
      ∙ ap₂ (λ u v. u && v)
      (sym (ap (list_all F) (names-first_loops first second first_is second_is a b small la (omega arith))
      ∙ list_all-append F A (range_with_len (m + 1) la)))
      (sym (ap (list_all S) (names-second_loops first second first_is second_is a b small lb (omega arith))
      ∙ list_all-append S B (range_with_len (k + 1) lb)))
    where
      shifted : (T : ℕ → Bool) (c l : ℕ) → list_all T (range_with_len c l) ≡ list_all (λ t. T (c + t)) (range_with_len 0 l)
      shifted T c l =
          let e : c ≡ c + 0 = omega arith in
          ap (λ d. list_all T (range_with_len d l)) e ∙ ap (list_all T) (range-lifted c 0 l)
          ∙ list_all-map T (λ x. c + x) (range_with_len 0 l)

      regrouped : (u v w z : Bool) → ((u && v) && (w && z)) ≡ ((u && w) && (v && z))
      regrouped true true w z = refl
      regrouped true false true z = refl
      regrouped true false false z = refl
      regrouped false v w z = refl

  module _ (x y u v : Generator) (is_x : IsMember first x) (is_u : IsMember first u) where
    abbrev G : Generator
    G = united first second (x, y)

    abbrev H : Generator
    H = united first second (u, v)

    -- tests of labels
    same-first : (z : ℕ) → 1 ≤ z → z ≤ m
        → nat_eq (label_of both G z) (label_of both H z) ≡ nat_eq (label_of first x z) (label_of first u z)
    same-first z positive within =
        ap₂ nat_eq (label-first first second first_is second_is x.state y.state is_x.state x.label y.label is_x.label z positive within)
        (label-first first second first_is second_is u.state v.state is_u.state u.label v.label is_u.label z positive within)

    same-second : (w : ℕ) → 1 ≤ w → w ≤ k
        → nat_eq (label_of both G (m + w)) (label_of both H (m + w)) ≡ nat_eq (label_of second y w) (label_of second v w)
    same-second w positive within =
        ap₂ nat_eq (label-second first second first_is second_is x.state y.state is_x.state x.label y.label is_x.label w positive within)
        (label-second first second first_is second_is u.state v.state is_u.state u.label v.label is_u.label w positive within)

    same-first_loop : (t : ℕ) → t < first.loops
        → nat_eq (label_of both G (m + (k + 1 + t))) (label_of both H (m + (k + 1 + t)))
        ≡ nat_eq (label_of first x (m + 1 + t)) (label_of first u (m + 1 + t))
    same-first_loop t below =
        ap₂ nat_eq (label-first_loop first second first_is second_is x.state y.state is_x.state x.label y.label is_x.label t below)
        (label-first_loop first second first_is second_is u.state v.state is_u.state u.label v.label is_u.label t below)

    same-second_loop : (t : ℕ) → t < second.loops
        → nat_eq (label_of both G (m + (k + 1 + (first.loops + t)))) (label_of both H (m + (k + 1 + (first.loops + t))))
        ≡ nat_eq (label_of second y (k + 1 + t)) (label_of second v (k + 1 + t))
    same-second_loop t below =
        ap₂ nat_eq (label-second_loop first second first_is second_is x.state y.state is_x.state x.label y.label is_x.label t below)
        (label-second_loop first second first_is second_is u.state v.state is_u.state u.label v.label is_u.label t below)

    -- at a crossing of the first code
    module _ (crossing : ℕ) (is : IsCrossing first.crossings crossing) where
      touches : (z : ℕ) → is_touched both G.state crossing z ≡ is_touched first x.state crossing z
      touches z = touched-first first second first_is second_is x.state y.state is_x.state crossing z is

      untouched : (z : ℕ) → m < z → is_touched first x.state crossing z ≡ false
      untouched z behind = untouched-loop first x.state crossing z first_is is behind

      keeps-first : keeps_labels both G H crossing ≡ (keeps_labels first x u crossing && same_labels second y v)
      keeps-first =
          all-parts x.state y.state is_x.state
          (λ z. is_touched both G.state crossing z || nat_eq (label_of both G z) (label_of both H z))
          (λ z. is_touched first x.state crossing z || nat_eq (label_of first x z) (label_of first u z))
          (λ w. nat_eq (label_of second y w) (label_of second v w))
          (λ z positive within. ap₂ (λ s t. s || t) (touches z) (same-first z positive within))
          (λ w positive within.
          ap₂ (λ s t. s || t) (touches (m + w) ∙ untouched (m + w) (omega (arith, positive))) (same-second w positive within))
          (λ t below.
          ap₂ (λ s t. s || t)
          (touches (m + (k + 1 + t)) ∙ untouched (m + (k + 1 + t)) (omega arith) ∙ sym (untouched (m + 1 + t) (omega arith)))
          (same-first_loop t below))
          (λ t below.
          ap₂ (λ s t. s || t)
          (touches (m + (k + 1 + (first.loops + t))) ∙ untouched (m + (k + 1 + (first.loops + t))) (omega arith))
          (same-second_loop t below))

      changes-first : changes_labels both G H crossing ≡ changes_labels first x u crossing
      changes-first =
          ap₂ (λ (before after : List ℕ). is_merge before after || is_split before after)
          (ap (map (label_of both G)) (touched-all first second first_is second_is x.state y.state is_x.state crossing is)
          ∙ map-agree (label_of both G) (label_of first x) (touched first x.state crossing)
          (λ z has.
          let bounds = touched-bounds first second first_is second_is x.state y.state is_x.state crossing z is has in
          label-first first second first_is second_is x.state y.state is_x.state x.label y.label is_x.label z bounds.0 bounds.1))
          (ap (map (label_of both H)) (touched-all first second first_is second_is u.state v.state is_u.state crossing is)
          ∙ map-agree (label_of both H) (label_of first u) (touched first u.state crossing)
          (λ z has.
          let bounds = touched-bounds first second first_is second_is u.state v.state is_u.state crossing z is has in
          label-first first second first_is second_is u.state v.state is_u.state u.label v.label is_u.label z bounds.0 bounds.1))

      pub fits-first : fits (union_of first second) (united first second (x, y)) (united first second (u, v)) crossing
          ≡ (fits first x u crossing && same_labels second y v)
      fits-first =
          ap₂ (λ s t. s && t) keeps-first changes-first
          ∙ moved (keeps_labels first x u crossing) (same_labels second y v) (changes_labels first x u crossing)
        where
          moved : (a b c : Bool) → ((a && b) && c) ≡ ((a && c) && b)
          moved true true true = refl
          moved true true false = refl
          moved true false true = refl
          moved true false false = refl
          moved false b c = refl

    -- at a crossing of the second
    module _ (crossing : ℕ) (is : IsCrossing second.crossings crossing) where
      abbrev at : ℕ
      at = length first.crossings + crossing

      touches-second : (w : ℕ) → is_touched both G.state at (m + w) ≡ is_touched second y.state crossing w
      touches-second w = touched-second first second first_is second_is x.state y.state is_x.state crossing w is

      untouched-second : (w : ℕ) → k < w → is_touched second y.state crossing w ≡ false
      untouched-second w behind = untouched-loop second y.state crossing w second_is is behind

      keeps-second : keeps_labels both G H at ≡ (same_labels first x u && keeps_labels second y v crossing)
      keeps-second =
          all-parts x.state y.state is_x.state
          (λ z. is_touched both G.state at z || nat_eq (label_of both G z) (label_of both H z))
          (λ z. nat_eq (label_of first x z) (label_of first u z))
          (λ w. is_touched second y.state crossing w || nat_eq (label_of second y w) (label_of second v w))
          (λ z positive within.
          ap₂ (λ s t. s || t) (touched-second_before first second first_is second_is x.state y.state is_x.state crossing z is within)
          (same-first z positive within))
          (λ w positive within. ap₂ (λ s t. s || t) (touches-second w) (same-second w positive within))
          (λ t below.
          ap₂ (λ s t. s || t) (touches-second (k + 1 + t) ∙ untouched-second (k + 1 + t) (omega arith)) (same-first_loop t below))
          (λ t below.
          ap₂ (λ s t. s || t)
          (touches-second (k + 1 + (first.loops + t)) ∙ untouched-second (k + 1 + (first.loops + t)) (omega arith)
          ∙ sym (untouched-second (k + 1 + t) (omega arith)))
          (same-second_loop t below))

      changes-second : changes_labels both G H at ≡ changes_labels second y v crossing
      changes-second =
          ap₂ (λ (before after : List ℕ). is_merge before after || is_split before after)
          (ap (map (label_of both G)) (touched-all_second first second first_is second_is x.state y.state is_x.state crossing is)
          ∙ map-map (label_of both G) (λ z. m + z) (touched second y.state crossing)
          ∙ map-agree (λ w. label_of both G (m + w)) (label_of second y) (touched second y.state crossing)
          (λ w has.
          let bounds = touched-bounds_second first second first_is second_is x.state y.state is_x.state crossing w is has in
          label-second first second first_is second_is x.state y.state is_x.state x.label y.label is_x.label w bounds.0 bounds.1))
          (ap (map (label_of both H)) (touched-all_second first second first_is second_is u.state v.state is_u.state crossing is)
          ∙ map-map (label_of both H) (λ z. m + z) (touched second v.state crossing)
          ∙ map-agree (λ w. label_of both H (m + w)) (label_of second v) (touched second v.state crossing)
          (λ w has.
          let bounds = touched-bounds_second first second first_is second_is u.state v.state is_u.state crossing w is has in
          label-second first second first_is second_is u.state v.state is_u.state u.label v.label is_u.label w bounds.0 bounds.1))

      pub fits-second : fits (union_of first second) (united first second (x, y)) (united first second (u, v))
          (length first.crossings + crossing)
          ≡ (fits second y v crossing && same_labels first x u)
      fits-second =
          ap₂ (λ s t. s && t) keeps-second changes-second
          ∙ moved (same_labels first x u) (keeps_labels second y v crossing) (changes_labels second y v crossing)
        where
          moved : (a b c : Bool) → ((a && b) && c) ≡ ((b && c) && a)
          moved true true true = refl
          moved true true false = refl
          moved true false c = refl
          moved false true true = refl
          moved false true false = refl
          moved false false c = refl
