-- The circles of a diagram round a triangle: those closed inside, and those of the rest with the ends joined.
--
-- Two diagrams are compared, the one round a triangle and the one in which its six ends are joined as a state joins them. A value is given
-- to each class of the first: of a class with an end the class of the second, of a class closed inside one of its own. What both join alike
-- stays alike when the rest is joined (Glued), so the first has the classes of the second and those that are closed inside.
use Rattle.std.proofs.Common.{◌≡◌, ◌≢◌, ℕ, zero, suc, ◌⊎◌, inl, inr, ◌+◌, ◌<◌, ◌≤◌, ◌∙◌, List, [], ◌∷◌, ◌++◌, sym, ap, ap₂, arith, cond}
use Rattle.std.specs.Prelude.{slice_index, nat_eq, nat_lt}
use Rattle.std.proofs.lemmas.Bool.Decides.{nat_tests}
use Rattle.std.proofs.lemmas.List.{map-append}
use Rattle.std.proofs.lemmas.Bool.{eq-eqb, cases_order}
use Rattle.kh_types.specs.Classes.{classes_of, class_count, Respects, AreBelow}
use Rattle.kh_types.specs.Circles.{smoothings_of}
use Rattle.kh_types.proofs.ClassLemmas.{classes-together, classes-finest, AreBelow-append}
use Rattle.kh_types.proofs.JoinedClasses.{IsNamed-classes_of}
use Rattle.kh_types.proofs.ClassCounts.{AreBelow-wider}
use Rattle.gluing_laws.specs.Glue.{renamed, Places, JoinAlike}
use Rattle.gluing_laws.specs.Slides.{ends_joined, closed_inside, IsPlacedTriangle, IsNoSide}
use Rattle.gluing_laws.proofs.OuterPairs.{TouchNoSide, stubs, at_stubs, rest_circles}
use Rattle.gluing_laws.proofs.Ties.{ties_of}
use Rattle.gluing_laws.proofs.Glued.{class_count-glued_parts}
use Rattle.gluing_laws.proofs.Renamed.{AreBelow-renamed, classes_of-turned, class_count-renamed}
use Rattle.gluing_laws.proofs.TiedTable.{IsTied}
use Rattle.gluing_laws.proofs.Stubs.{Respects-renamed, Respects-from_renamed, Respects-through, renamed-kept, renamed-below, renamed-twice, append-three, unstubbed, unstubbed-below, stubs-below, class_count-unstubbed, at_stubs-side, at_stubs-places, unstubbed-at_stubs, end-no_side, at_stubs-apart}

-- what lies outside sees of the triangle only how the ends are joined

-- a value for each class of inside numbers: that of a class with an end is the class of the other diagram
value_of_class : ℕ → (ℕ → ℕ) → ℕ → ℕ
value_of_class limit at class = cond (nat_lt class 7) (at class) (limit + class)

-- and for each number of the diagram, where the sides stand at p, q and r
pub value_of : ℕ → ℕ → ℕ → ℕ → ℕ → ℕ → (ℕ → ℕ) → ℕ → ℕ
value_of p q r at_p at_q at_r other x = cond (nat_eq x p) at_p (cond (nat_eq x q) at_q (cond (nat_eq x r) at_r (other x)))

pub value_of-other : (p q r at_p at_q at_r : ℕ) (other : ℕ → ℕ) (x : ℕ) → x ≢ p → x ≢ q → x ≢ r
    → value_of p q r at_p at_q at_r other x ≡ other x
unfolding value_of
value_of-other p q r at_p at_q at_r other x not_p not_q not_r = chosen p q r at_p at_q at_r (other x) x not_p not_q not_r
  where
    chosen : (p q r at_p at_q at_r y x : ℕ) → x ≢ p → x ≢ q → x ≢ r
        → cond (nat_eq x p) at_p (cond (nat_eq x q) at_q (cond (nat_eq x r) at_r y)) ≡ y
    chosen p q r at_p at_q at_r y x not_p not_q not_r = grind (arith, nat_tests)

pub value_of-first : (p q r at_p at_q at_r : ℕ) (other : ℕ → ℕ) (x : ℕ) → x ≡ p → value_of p q r at_p at_q at_r other x ≡ at_p
unfolding value_of
value_of-first p q r at_p at_q at_r other x is_p = chosen p at_p (cond (nat_eq x q) at_q (cond (nat_eq x r) at_r (other x))) x is_p
  where
    chosen : (p at_p y x : ℕ) → x ≡ p → cond (nat_eq x p) at_p y ≡ at_p
    chosen p at_p y x is_p = grind (arith, nat_tests)

pub value_of-second : (p q r at_p at_q at_r : ℕ) (other : ℕ → ℕ) (x : ℕ) → x ≡ q → p ≢ q
    → value_of p q r at_p at_q at_r other x ≡ at_q
unfolding value_of
value_of-second p q r at_p at_q at_r other x is_q apart =
    chosen p q at_p at_q (cond (nat_eq x r) at_r (other x)) x is_q apart
  where
    chosen : (p q at_p at_q y x : ℕ) → x ≡ q → p ≢ q → cond (nat_eq x p) at_p (cond (nat_eq x q) at_q y) ≡ at_q
    chosen p q at_p at_q y x is_q apart = grind (arith, nat_tests)

pub value_of-third : (p q r at_p at_q at_r : ℕ) (other : ℕ → ℕ) (x : ℕ) → x ≡ r → p ≢ r → q ≢ r
    → value_of p q r at_p at_q at_r other x ≡ at_r
unfolding value_of
value_of-third p q r at_p at_q at_r other x is_r apart apart_too =
    chosen p q r at_p at_q at_r (other x) x is_r apart apart_too
  where
    chosen : (p q r at_p at_q at_r y x : ℕ) → x ≡ r → p ≢ r → q ≢ r
        → cond (nat_eq x p) at_p (cond (nat_eq x q) at_q (cond (nat_eq x r) at_r y)) ≡ at_r
    chosen p q r at_p at_q at_r y x is_r apart apart_too = grind (arith, nat_tests)

value_of_class-end : (limit : ℕ) (at : ℕ → ℕ) (class : ℕ) → class < 7 → value_of_class limit at class ≡ at class
unfolding value_of_class
value_of_class-end limit at class below = chosen class (at class) (limit + class) below
  where
    chosen : (class x y : ℕ) → class < 7 → cond (nat_lt class 7) x y ≡ x
    chosen class x y below = grind (arith, nat_tests)

pub side_is : (i : ℕ) → 7 ≤ i → i < 10 → (i ≡ 7) ⊎ ((i ≡ 8) ⊎ (i ≡ 9))
side_is i from below = grind (arith, nat_tests)

pub end_or_side : (i : ℕ) → (i < 7) ⊎ (7 ≤ i)
end_or_side i = grind (arith, nat_tests)

-- where inside pairs and others join the ends alike, two numbers that are no sides and that the first join, the others join
onward-inside : (n : ℕ) (arcs : ℕ → ℕ) (inside others : List (ℕ × ℕ)) → IsPlacedTriangle n arcs → AreBelow 10 inside → AreBelow 10 others
    → ((x : ℕ) → x < 7 → slice_index (classes_of 10 inside) x ≡ slice_index (classes_of 10 others) x)
    → (x y : ℕ) → x < n + 6 → y < n + 6 → IsNoSide arcs x → IsNoSide arcs y
    → slice_index (classes_of (n + 6) (renamed (at_stubs n arcs) inside)) x
    ≡ slice_index (classes_of (n + 6) (renamed (at_stubs n arcs) inside)) y
    → slice_index (classes_of (n + 6) (renamed (at_stubs n arcs) others)) x
    ≡ slice_index (classes_of (n + 6) (renamed (at_stubs n arcs) others)) y
onward-inside n arcs inside others placed below others_below alike x y x_below y_below x_out y_out same =
    let g = at_stubs n arcs in
    let places = at_stubs-places n arcs placed in
    let c = λ (i : ℕ). slice_index (classes_of 10 inside) i in
    let d = λ (i : ℕ). slice_index (classes_of 10 others) i in
    let c_named = IsNamed-classes_of 10 inside below in
    let wide_below = AreBelow-renamed 10 (n + 6) g inside places below in
    let wide_others_below = AreBelow-renamed 10 (n + 6) g others places others_below in
    let w = λ (z : ℕ). slice_index (classes_of (n + 6) (renamed g others)) z in
    let seen = λ (class : ℕ). value_of_class (n + 6) (λ i. w (g i)) class in
    let v = λ (z : ℕ). value_of (arcs 7) (arcs 8) (arcs 9) (seen (c 7)) (seen (c 8)) (seen (c 9)) w z in
    let out : (z : ℕ) → IsNoSide arcs z → v z ≡ w z =
    λ z z_out. value_of-other (arcs 7) (arcs 8) (arcs 9) (seen (c 7)) (seen (c 8)) (seen (c 9)) w z
    (z_out 7 (omega arith) (omega arith)) (z_out 8 (omega arith) (omega arith)) (z_out 9 (omega arith) (omega arith)) in
    let joined : (i j : ℕ) → i < 10 → j < 10 → d i ≡ d j → w (g i) ≡ w (g j) =
    classes-finest (λ i. w (g i)) 10 others
    (Respects-from_renamed w g others (classes-together (n + 6) (renamed g others) wide_others_below)) others_below in
    let through : (i : ℕ) → i < 10 → v (g i) ≡ seen (c i) =
    λ i i_below. elim (end_or_side i) [
      | inl end ↦
          let least = c_named.least i i_below in
          let own : d i ≡ d (c i) = sym (alike i end) ∙ sym (c_named.own i i_below) ∙ alike (c i) (omega arith) in
          out (g i) (end-no_side n arcs placed i end) ∙ joined i (c i) i_below (omega arith) own
          ∙ sym (value_of_class-end (n + 6) (λ j. w (g j)) (c i) (omega arith))
      | inr side ↦ elim (side_is i side i_below) [
        | inl is ↦
            value_of-first (arcs 7) (arcs 8) (arcs 9) (seen (c 7)) (seen (c 8)) (seen (c 9)) w (g i)
            (at_stubs-side n arcs i side ∙ ap arcs is) ∙ ap (λ k. seen (c k)) (sym is)
        | inr other ↦ elim other [
          | inl is ↦
              value_of-second (arcs 7) (arcs 8) (arcs 9) (seen (c 7)) (seen (c 8)) (seen (c 9)) w (g i)
              (at_stubs-side n arcs i side ∙ ap arcs is) (placed.apart 7 8 (omega arith) (omega arith) (omega arith))
              ∙ ap (λ k. seen (c k)) (sym is)
          | inr is ↦
              value_of-third (arcs 7) (arcs 8) (arcs 9) (seen (c 7)) (seen (c 8)) (seen (c 9)) w (g i)
              (at_stubs-side n arcs i side ∙ ap arcs is) (placed.apart 7 9 (omega arith) (omega arith) (omega arith))
              (placed.apart 8 9 (omega arith) (omega arith) (omega arith)) ∙ ap (λ k. seen (c k)) (sym is)
        ]
      ]
    ] in
    let respects : Respects v (renamed g inside) =
    Respects-renamed v g inside
    (Respects-through 10 c (λ i. v (g i)) seen inside below through (classes-together 10 inside below)) in
    sym (out x x_out) ∙ classes-finest v (n + 6) (renamed g inside) respects wide_below x y x_below y_below same ∙ out y y_out

-- the number 0 in place of a side
seen_at : (ℕ → ℕ) → ℕ → ℕ
seen_at arcs x = value_of (arcs 7) (arcs 8) (arcs 9) 0 0 0 (λ z. z) x

no_side_or_zero : (arcs : ℕ → ℕ) (x : ℕ) → (IsNoSide arcs x) ⊎ ((x ≡ arcs 7) ⊎ ((x ≡ arcs 8) ⊎ (x ≡ arcs 9)))
no_side_or_zero arcs x = elim (cases_order x (arcs 7)) [
  | inl is ↦ inr (inl is)
  | inr not_7 ↦ elim (cases_order x (arcs 8)) [
    | inl is ↦ inr (inr (inl is))
    | inr not_8 ↦ elim (cases_order x (arcs 9)) [
      | inl is ↦ inr (inr (inr is))
      | inr not_9 ↦ inl (λ side from below same. elim (side_is side from below) [
        | inl is ↦ differ x (arcs 7) not_7 (same ∙ ap arcs is)
        | inr other ↦ elim other [
          | inl is ↦ differ x (arcs 8) not_8 (same ∙ ap arcs is)
          | inr is ↦ differ x (arcs 9) not_9 (same ∙ ap arcs is)
        ]
      ])
    ]
  ]
]
  where
    differ : (x y : ℕ) → (x < y) ⊎ (y < x) → x ≡ y → ⊥
    differ x y other same = elim other [ inl less ↦ absurd (omega (arith, less, same)) | inr greater ↦ absurd (omega (arith, greater, same)) ]

seen_at-kept : (arcs : ℕ → ℕ) (x : ℕ) → IsNoSide arcs x → seen_at arcs x ≡ x
unfolding seen_at
seen_at-kept arcs x out =
    value_of-other (arcs 7) (arcs 8) (arcs 9) 0 0 0 (λ z. z) x (out 7 (omega arith) (omega arith)) (out 8 (omega arith) (omega arith))
    (out 9 (omega arith) (omega arith))

seen_at-side : (n : ℕ) (arcs : ℕ → ℕ) → IsPlacedTriangle n arcs → (x : ℕ) → (x ≡ arcs 7) ⊎ ((x ≡ arcs 8) ⊎ (x ≡ arcs 9))
    → seen_at arcs x ≡ 0
unfolding seen_at
seen_at-side n arcs placed x side = elim side [
  | inl is ↦ value_of-first (arcs 7) (arcs 8) (arcs 9) 0 0 0 (λ z. z) x is
  | inr other ↦ elim other [
    | inl is ↦ value_of-second (arcs 7) (arcs 8) (arcs 9) 0 0 0 (λ z. z) x is (placed.apart 7 8 (omega arith) (omega arith) (omega arith))
    | inr is ↦
        value_of-third (arcs 7) (arcs 8) (arcs 9) 0 0 0 (λ z. z) x is (placed.apart 7 9 (omega arith) (omega arith) (omega arith))
        (placed.apart 8 9 (omega arith) (omega arith) (omega arith))
  ]
]

zero-no_side : (n : ℕ) (arcs : ℕ → ℕ) → IsPlacedTriangle n arcs → IsNoSide arcs 0
zero-no_side n arcs placed side from below same = placed.apart 0 side (omega arith) from below (placed.zero_kept ∙ same)

seen_at-no_side : (n : ℕ) (arcs : ℕ → ℕ) → IsPlacedTriangle n arcs → (x : ℕ) → x < n + 6
    → IsNoSide arcs (seen_at arcs x) × (seen_at arcs x < n + 6)
seen_at-no_side n arcs placed x below = elim (no_side_or_zero arcs x) [
  | inl out ↦
      let is = seen_at-kept arcs x out in
      (λ side from side_below same. out side from side_below (sym is ∙ same), omega arith)
  | inr side ↦
      let is = seen_at-side n arcs placed x side in
      (λ other from other_below same. zero-no_side n arcs placed other from other_below (sym is ∙ same), omega arith)
]

TouchNoSide-stubs : (n : ℕ) (arcs : ℕ → ℕ) (count : ℕ) → IsPlacedTriangle n arcs → count ≤ 6 → TouchNoSide arcs (stubs n arcs count)
TouchNoSide-stubs n arcs zero placed within = tt
TouchNoSide-stubs n arcs (suc count) placed within = grind (arith, nat_tests, TouchNoSide-stubs n arcs count placed (omega arith))

TouchNoSide-append : (arcs : ℕ → ℕ) (pairs more : List (ℕ × ℕ)) → TouchNoSide arcs pairs → TouchNoSide arcs more
    → TouchNoSide arcs (pairs ++ more)
TouchNoSide-append arcs [] more touch more_touch = more_touch
TouchNoSide-append arcs (pair ∷ pairs) more touch more_touch = (touch.0, TouchNoSide-append arcs pairs more touch.1 more_touch)

-- the classes of a diagram round a triangle are the circles that are closed inside, and the classes of the rest, where the ends are
-- joined as the state joins them
pub class_count-inside : (n : ℕ) (arcs : ℕ → ℕ) (outer : List (ℕ × ℕ)) (crossings : List (List ℕ)) (state : ℕ)
    → IsPlacedTriangle n arcs → AreBelow n outer → TouchNoSide arcs outer → IsTied crossings state
    → class_count (classes_of n (outer ++ renamed arcs (smoothings_of crossings state)))
    ≡ closed_inside crossings state + rest_circles n arcs outer (ends_joined crossings state)
class_count-inside n arcs outer crossings state placed outer_below touch tied =
    let k = n + 6 in
    let g = at_stubs n arcs in
    let inside = smoothings_of crossings state in
    let ties = ties_of (ends_joined crossings state) in
    let places = at_stubs-places n arcs placed in
    let all_outer = stubs n arcs 6 ++ outer in
    let stubs_below = stubs-below n arcs 6 placed.below (omega arith) in
    let wide_outer = AreBelow-wider n k outer (omega arith) outer_below in
    let all_below = AreBelow-append k (stubs n arcs 6) outer stubs_below wide_outer in
    let inside_below = AreBelow-renamed 10 k g inside places tied.below in
    let ties_below = AreBelow-renamed 10 k g ties places tied.ties_below in
    let out = seen_at-no_side n arcs placed in
    let seen_places : Places (seen_at arcs) k k = λ x below. (out x below).1 in
    let alike : JoinAlike k (seen_at arcs) (seen_at arcs) (classes_of k (renamed g inside)) (classes_of k (renamed g ties)) = record {
      onward = λ x y x_below y_below.
          onward-inside n arcs inside ties placed tied.below tied.ties_below tied.alike (seen_at arcs x) (seen_at arcs y)
          ((out x x_below).1) ((out y y_below).1) ((out x x_below).0) ((out y y_below).0);
      back = λ x y x_below y_below.
          onward-inside n arcs ties inside placed tied.ties_below tied.below (λ z below. sym (tied.alike z below)) (seen_at arcs x)
          (seen_at arcs y) ((out x x_below).1) ((out y y_below).1) ((out x x_below).0) ((out y y_below).0);
    } in
    let law = class_count-glued_parts k k k (seen_at arcs) (seen_at arcs) all_outer (renamed g inside) (renamed g ties) all_below
    inside_below ties_below seen_places seen_places alike in
    let kept : renamed (seen_at arcs) all_outer ≡ all_outer =
    renamed-kept (seen_at arcs) arcs all_outer (seen_at-kept arcs)
    (TouchNoSide-append arcs (stubs n arcs 6) outer (TouchNoSide-stubs n arcs 6 placed (omega arith)) touch) in
    let law_inside = ap (λ ps. class_count (classes_of k (renamed g inside ++ ps))) kept in
    let law_ties = ap (λ ps. class_count (classes_of k (renamed g ties ++ ps))) kept in
    let apart = at_stubs-apart n arcs placed in
    let count_inside = class_count-renamed 10 k g inside tied.below places apart in
    let count_ties = class_count-renamed 10 k g ties tied.ties_below places apart in
    let turn : class_count (classes_of k (renamed g inside ++ all_outer)) ≡ class_count (classes_of k (stubs n arcs 6 ++ (outer ++ renamed g inside))) =
    ap class_count (classes_of-turned k (renamed g inside) all_outer inside_below all_below)
    ∙ ap (λ ps. class_count (classes_of k ps)) (append-three (stubs n arcs 6) outer (renamed g inside)) in
    let unstub = class_count-unstubbed n arcs (outer ++ renamed g inside) placed.below
    (AreBelow-append k outer (renamed g inside) wide_outer inside_below) in
    let back : renamed (unstubbed n arcs) (outer ++ renamed g inside) ≡ outer ++ renamed arcs inside =
    map-append (λ pair. (unstubbed n arcs pair.0, unstubbed n arcs pair.1)) outer (renamed g inside)
    ∙ ap₂ (λ ps qs. ps ++ qs) (renamed-below (unstubbed n arcs) n outer (unstubbed-below n arcs) outer_below)
    (renamed-twice 10 (unstubbed n arcs) g arcs inside (unstubbed-at_stubs n arcs placed) tied.below) in
    let back_count = ap (λ ps. class_count (classes_of n ps)) back in
    let table = tied.count in
    omega (arith, law, law_inside, law_ties, count_inside, count_ties, turn, unstub, back_count, table)

-- where there are numbers, the number 0 names a class
class_count-positive : (n : ℕ) (pairs : List (ℕ × ℕ)) → AreBelow n pairs → 0 < n → 1 ≤ class_count (classes_of n pairs)
class_count-positive n pairs below some = grind (arith, nat_tests, IsNamed-classes_of, eq-eqb)

pub rest_circles-positive : (n : ℕ) (arcs : ℕ → ℕ) (outer : List (ℕ × ℕ)) (joined : List ℕ) → IsPlacedTriangle n arcs → AreBelow n outer
    → AreBelow 10 (ties_of joined) → 1 ≤ rest_circles n arcs outer joined
rest_circles-positive n arcs outer joined placed outer_below ties_below =
    class_count-positive (n + 6) (renamed (at_stubs n arcs) (ties_of joined) ++ (stubs n arcs 6 ++ outer))
    (AreBelow-append (n + 6) (renamed (at_stubs n arcs) (ties_of joined)) (stubs n arcs 6 ++ outer)
    (AreBelow-renamed 10 (n + 6) (at_stubs n arcs) (ties_of joined) (at_stubs-places n arcs placed) ties_below)
    (AreBelow-append (n + 6) (stubs n arcs 6) outer (stubs-below n arcs 6 placed.below (omega arith))
    (AreBelow-wider n (n + 6) outer (omega arith) outer_below)))
    (omega arith)
