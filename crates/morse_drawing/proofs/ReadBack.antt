-- A drawing tells its code, up to the numbers of the arcs: two darts have one arc in the code that is read back exactly where
-- they have one in the drawn code. The arc that is read at a dart is the number of the first pair that has this dart, where the
-- pairs are the arcs, each as a dart and its partner. Two darts with one number stand in one pair, which is shown by induction
-- over the list of pairs; so they are one dart or partners. Back, a dart and its partner stand in the same pairs, so they have
-- one number. In the drawn code two darts have one arc exactly where they are one or partners, as each arc stands twice. The two
-- together give the statement.
use Rattle.std.proofs.Common.{◌≡◌, ◌≢◌, ℕ, zero, suc, ◌⊎◌, inl, inr, ◌+◌, ◌-◌, ◌*◌, ◌/◌, ◌%◌, ◌<◌, ◌≤◌, ◌∙◌, List, [], ◌∷◌, length, map, get_or, refl, sym, ap, ap₂, subst, arith, Bool, true, false, cond}
use Rattle.std.specs.Prelude.{◌↔◌, ◌||◌, nat_eq, nat_lt, slice_index, slice_index_or}
use Rattle.std.specs.List.{AllByRecursion, filter, range_with_len}
use Rattle.std.proofs.lemmas.Bool.{cases_Bool, cases_eq, both_ways, eq-eqb}
use Rattle.std.proofs.lemmas.Bool.Decides.{nat_tests}
use Rattle.std.proofs.lemmas.List.FromFn.{get_or-map-range_with_len}
use Rattle.kh_types.specs.Darts.{HasArcsTwice, arc_of, dart_at, partner_at}
use Rattle.kh_types.specs.declared.dart.Dart.{Dart}
use Rattle.kh_types.proofs.DartPairs.{IsOtherPlace-partner_at, dart_place-at, partner_at-only}
use Rattle.kh_types.proofs.Tests.{agree}
use Rattle.morse_drawing.specs.Joins.{arc_from, arc_pairs, ends_of, is_first}
use Rattle.morse_drawing.proofs.NextPages.{IsWholeSphere}
use Rattle.morse_drawing.specs.ReadBack.{crossing_read, has_dart, pair_number}

-- whether a pair has a dart
abbrev has : ℕ → ℕ × ℕ → Bool
has x e = has_dart x (ends_of e)

has-is : (x : ℕ) (e : ℕ × ℕ) → has x e ≡ (nat_eq e.0 x || (nat_eq e.1 x || false))
has-is x e = ap₂ (λ a b. nat_eq a x || (nat_eq b x || false)) (dart_place-at e.0) (dart_place-at e.1)

has-one : (x : ℕ) (e : ℕ × ℕ) → has x e ≡ true → (e.0 ≡ x) ⊎ (e.1 ≡ x)
has-one x e holds = grind (arith, nat_tests)

has-first : (x : ℕ) (e : ℕ × ℕ) → e.0 ≡ x → has x e ≡ true
has-first x e same = has-is x e ∙ ap (λ t. t || (nat_eq e.1 x || false)) (eq-eqb e.0 x same)

has-second : (x : ℕ) (e : ℕ × ℕ) → e.1 ≡ x → has x e ≡ true
has-second x e same = grind (arith, nat_tests)

-- an arc of a whole
abbrev IsArcPair : ℕ → (ℕ → ℕ) → ℕ × ℕ → Type 0
IsArcPair n whole e = (e.0 < 4 * n) × (e.1 ≡ whole e.0)

all-arcs : (n : ℕ) (whole : ℕ → ℕ) (p : ℕ → Bool) (a m : ℕ) → a + m ≤ 4 * n
    → AllByRecursion (IsArcPair n whole) (map (arc_from whole) (filter p (range_with_len a m)))
all-arcs n whole p a zero within = tt
all-arcs n whole p a (suc m) within =
    by_case (p a) (filter p (range_with_len (a + 1) m)) (all-arcs n whole p (a + 1) m (omega (arith, within)))
  where
    by_case : (b : Bool) (rest : List ℕ) → AllByRecursion (IsArcPair n whole) (map (arc_from whole) rest)
        → AllByRecursion (IsArcPair n whole) (map (arc_from whole) (cond b (a ∷ rest) rest))
    by_case b rest later = grind (arith, nat_tests)

-- a pair stands in the list of arcs
Stands : (ℕ × ℕ) → List (ℕ × ℕ) → Type 0
Stands e [] = ⊥
Stands e (x ∷ xs) = (x ≡ e) ⊎ Stands e xs

stands-arc : (whole : ℕ → ℕ) (p : ℕ → Bool) (a m z : ℕ) → a ≤ z → z < a + m → p z ≡ true
    → Stands (arc_from whole z) (map (arc_from whole) (filter p (range_with_len a m)))
unfolding Stands
stands-arc whole p a zero z from below passes = absurd (omega (arith, from, below))
stands-arc whole p a (suc m) z from below passes =
    let rest = range_with_len (a + 1) m in
    elim (cases_eq a z) [
      | inl same ↦
          subst (λ (zs : List ℕ). Stands (arc_from whole z) (map (arc_from whole) zs))
          (sym (ap (λ b. cond b (a ∷ filter p rest) (filter p rest)) (ap p same ∙ passes))) (inl (ap (arc_from whole) same))
      | inr apart ↦
          let later = stands-arc whole p (a + 1) m z (omega (arith, from, apart)) (omega (arith, below)) passes in
          elim (cases_Bool (p a)) [
            | inl holds ↦
                subst (λ (zs : List ℕ). Stands (arc_from whole z) (map (arc_from whole) zs))
                (sym (ap (λ b. cond b (a ∷ filter p rest) (filter p rest)) holds)) (inr later)
            | inr fails ↦
                subst (λ (zs : List ℕ). Stands (arc_from whole z) (map (arc_from whole) zs))
                (sym (ap (λ b. cond b (a ∷ filter p rest) (filter p rest)) fails)) later
          ]
    ]

-- numbers of darts that stand in the same pairs
number-alike : (x y : ℕ) (xs : List (ℕ × ℕ)) → AllByRecursion (λ e. has x e ≡ has y e) xs
    → pair_number x (map ends_of xs) ≡ pair_number y (map ends_of xs)
number-alike x y [] same = refl
number-alike x y (e ∷ xs) same = grind (arith, nat_tests, number-alike x y xs same.1)

-- darts with one number stand in one pair
record Common (n : ℕ) (whole : ℕ → ℕ) (x y : ℕ) : Type 0 where
  pair : ℕ × ℕ
  is_arc : IsArcPair n whole pair
  first : has x pair ≡ true
  second : has y pair ≡ true

number-positive : (y : ℕ) (pairs : List (List Dart)) → 1 ≤ pair_number y pairs
number-positive y [] = omega arith
number-positive y (pair ∷ pairs) = by_case (has_dart y pair)
  where
    by_case : (b : Bool) → 1 ≤ cond b 1 (suc (pair_number y pairs))
    by_case true = omega arith
    by_case false = omega arith

-- numbers that begin alike go on alike
numbers-same : (a b : Bool) (k m : ℕ) → 1 ≤ k → 1 ≤ m → cond a 1 (suc k) ≡ cond b 1 (suc m)
    → ((a ≡ true) × (b ≡ true)) ⊎ ((a ≡ false) × (k ≡ m))
numbers-same a b k m first second same = grind (arith, nat_tests)

common : (n : ℕ) (whole : ℕ → ℕ) (x y : ℕ) (found : ℕ × ℕ) (xs : List (ℕ × ℕ)) → AllByRecursion (IsArcPair n whole) xs
    → Stands found xs → has x found ≡ true → pair_number x (map ends_of xs) ≡ pair_number y (map ends_of xs) → Common n whole x y
unfolding Stands
common n whole x y found [] arcs stands passes same = absurd stands
common n whole x y found (e ∷ xs) arcs stands passes same =
    let begun = numbers-same (has x e) (has y e) (pair_number x (map ends_of xs)) (pair_number y (map ends_of xs))
    (number-positive x (map ends_of xs)) (number-positive y (map ends_of xs)) same in
    elim begun [
      | inl both ↦ record { pair = e; is_arc = arcs.0; first = both.0; second = both.1 }
      | inr neither ↦ elim stands [
        | inl here ↦ absurd (both_ways (has x e) neither.0 (ap (λ w. has x w) here ∙ passes))
        | inr later ↦ common n whole x y found xs arcs.1 later passes neither.1
      ]
    ]

-- two darts have one number exactly where they are one or partners
numbers-partners : (n : ℕ) (whole : ℕ → ℕ) (x y : ℕ) → IsWholeSphere n whole → x < 4 * n → y < 4 * n
    → (pair_number x (map ends_of (arc_pairs n whole)) ≡ pair_number y (map ends_of (arc_pairs n whole))) ↔ ((y ≡ x) ⊎ (y ≡ whole x))
numbers-partners n whole x y is x_below y_below =
    let arcs : AllByRecursion (IsArcPair n whole) (arc_pairs n whole) = all-arcs n whole (is_first whole) 0 (4 * n) (omega arith) in
    let back = is.pairing.back in (
      λ same. elim (less_or x (whole x) (λ h. is.full x x_below (sym h))) [
        | inl first ↦
            let both = common n whole x y (arc_from whole x) (arc_pairs n whole) arcs
            (stands-arc whole (is_first whole) 0 (4 * n) x (omega arith) (omega (arith, x_below)) (true-lt x (whole x) first))
            (has-first x (arc_from whole x) refl) same in
            ends both.pair both.is_arc (has-one x both.pair both.first) (has-one y both.pair both.second)
        | inr second ↦
            let z = whole x in
            let z_below = is.pairing.below x x_below in
            let z_first : z < whole z = subst (λ (w : ℕ). z < w) (sym (back x x_below)) second in
            let both = common n whole x y (arc_from whole z) (arc_pairs n whole) arcs
            (stands-arc whole (is_first whole) 0 (4 * n) z (omega arith) (omega (arith, z_below)) (true-lt z (whole z) z_first))
            (has-second x (arc_from whole z) (back x x_below)) same in
            ends both.pair both.is_arc (has-one x both.pair both.first) (has-one y both.pair both.second)
      ],
      λ either. elim either [
        | inl one ↦ ap (λ w. pair_number w (map ends_of (arc_pairs n whole))) (sym one)
        | inr partner ↦
            ap (λ k. k) (number-alike x (whole x) (arc_pairs n whole) (swapped (arc_pairs n whole) arcs))
            ∙ ap (λ w. pair_number w (map ends_of (arc_pairs n whole))) (sym partner)
      ],
    )
  where
    less_or : (a b : ℕ) → a ≢ b → (a < b) ⊎ (b < a)
    less_or a b apart = grind (arith)

    true-lt : (a b : ℕ) → a < b → nat_lt a b ≡ true
    true-lt a b below = grind (arith, nat_tests)

    ends : (e : ℕ × ℕ) → IsArcPair n whole e → (e.0 ≡ x) ⊎ (e.1 ≡ x) → (e.0 ≡ y) ⊎ (e.1 ≡ y) → (y ≡ x) ⊎ (y ≡ whole x)
    ends e arc (inl x_one) (inl y_one) = inl (sym y_one ∙ x_one)
    ends e arc (inl x_one) (inr y_two) = inr (sym y_two ∙ arc.1 ∙ ap whole x_one)
    ends e arc (inr x_two) (inl y_one) =
        inr (sym y_one ∙ sym (is.pairing.back e.0 arc.0) ∙ ap whole (sym arc.1 ∙ x_two))
    ends e arc (inr x_two) (inr y_two) = inl (sym y_two ∙ x_two)

    swapped : (xs : List (ℕ × ℕ)) → AllByRecursion (IsArcPair n whole) xs → AllByRecursion (λ e. has x e ≡ has (whole x) e) xs
    swapped [] all = tt
    swapped (e ∷ xs) all = (
      agree (has x e) (has (whole x) e)
          (λ holds. elim (has-one x e holds) [
            | inl one ↦ has-second (whole x) e (all.0.1 ∙ ap whole one)
            | inr two ↦ has-first (whole x) e (sym (is.pairing.back e.0 all.0.0) ∙ ap whole (sym all.0.1 ∙ two))
          ])
          (λ holds. elim (has-one (whole x) e holds) [
            | inl one ↦ has-second x e (all.0.1 ∙ ap whole one ∙ is.pairing.back x x_below)
            | inr two ↦
                has-first x e (sym (is.pairing.back e.0 all.0.0) ∙ ap whole (sym all.0.1 ∙ two) ∙ is.pairing.back x x_below)
          ]),
      swapped xs all.1,
    )

-- the arc that is read at a dart
arc-sketched : (pairs : List (List Dart)) (n x : ℕ) → x < 4 * n
    → arc_of (map (crossing_read pairs) (range_with_len 0 n)) (dart_at x) ≡ pair_number x pairs
arc-sketched pairs n x below =
    let c = x / 4 in
    let e : x / 4 + 1 - 1 ≡ c = omega arith in
    let in_range : c < n = omega (arith, below) in
    let found : get_or (map (crossing_read pairs) (range_with_len 0 n)) c [] ≡ crossing_read pairs c =
    get_or-map-range_with_len (crossing_read pairs) 0 n c c [] in_range (omega arith) in
    ap (λ k. slice_index (slice_index_or (map (crossing_read pairs) (range_with_len 0 n)) k []) (x % 4)) e
    ∙ ap (λ slots. slice_index slots (x % 4)) found
    ∙ at_slot c (x % 4) (omega arith)
    ∙ ap (λ k. pair_number k pairs) (whole_place x)
  where
    whole_place : (z : ℕ) → 4 * (z / 4) + z % 4 ≡ z
    whole_place z = omega arith

    at_slot : (c slot : ℕ) → slot < 4 → slice_index (crossing_read pairs c) slot ≡ pair_number (4 * c + slot) pairs
    at_slot c zero small = let e : 4 * c ≡ 4 * c + 0 = omega arith in ap (λ k. pair_number k pairs) e
    at_slot c (suc zero) small = refl
    at_slot c (suc (suc zero)) small = refl
    at_slot c (suc (suc (suc zero))) small = refl
    at_slot c (suc (suc (suc (suc slot)))) small = absurd (omega (arith, small))

-- the arcs of a code
arcs-partners : (crossings : List (List ℕ)) (x y : ℕ) → HasArcsTwice crossings → x < 4 * length crossings → y < 4 * length crossings
    → (arc_of crossings (dart_at x) ≡ arc_of crossings (dart_at y)) ↔ ((y ≡ x) ⊎ (y ≡ partner_at crossings x))
arcs-partners crossings x y twice x_below y_below = (
  λ same. elim (cases_eq y x) [
    | inl one ↦ inl one
    | inr apart ↦ inr (partner_at-only crossings x y twice x_below (record { below = y_below; differs = apart; same_arc = sym same }))
  ],
  λ either. elim either [
    | inl one ↦ ap (λ z. arc_of crossings (dart_at z)) (sym one)
    | inr partner ↦
        sym (IsOtherPlace-partner_at crossings x twice x_below).same_arc ∙ ap (λ z. arc_of crossings (dart_at z)) (sym partner)
  ],
)

pub arcs-sketched : (crossings : List (List ℕ)) (x y : ℕ) → HasArcsTwice crossings → IsWholeSphere (length crossings) (partner_at crossings)
    → x < 4 * length crossings → y < 4 * length crossings
    → (arc_of (map (crossing_read (map ends_of (arc_pairs (length crossings) (partner_at crossings)))) (range_with_len 0 (length crossings)))
    (dart_at x)
    ≡ arc_of (map (crossing_read (map ends_of (arc_pairs (length crossings) (partner_at crossings)))) (range_with_len 0 (length crossings)))
    (dart_at y))
    ↔ (arc_of crossings (dart_at x) ≡ arc_of crossings (dart_at y))
arcs-sketched crossings x y twice is x_below y_below =
    let n = length crossings in
    let pairs = map ends_of (arc_pairs n (partner_at crossings)) in
    let at_x = arc-sketched pairs n x x_below in
    let at_y = arc-sketched pairs n y y_below in
    let one = numbers-partners n (partner_at crossings) x y is x_below y_below in
    let two = arcs-partners crossings x y twice x_below y_below in (
      λ same. two.1 (one.0 (sym at_x ∙ same ∙ at_y)),
      λ same. at_x ∙ one.1 (two.0 same) ∙ sym at_y,
    )
