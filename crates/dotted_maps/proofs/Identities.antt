-- The surface of a pairing with itself: cylinders, one for each circle. So the entry of the term without dots is 1 where both
-- labels agree, and 0 else, and the matrix of the identity is the unit matrix. First, sums in which one element counts. The
-- components are the circles of the pairing and its outside, and each has half as many pairs as opened arcs; as it is closed, its
-- Euler count leaves just one circle on either side, and genus 0. It has a dot where the first label's bit there is 1, and a hollow dot
-- where that of the second label is 0: one of them, where both labels have the same bit, and it counts 1; else none or both, and it
-- counts 0. So where the labels agree all factors are 1, and where they differ in a bit one factor is 0.
use Rattle.std.proofs.Common.{◌≡◌, ◌≢◌, ℕ, zero, suc, ◌⊎◌, inl, inr, ◌+◌, ◌-◌, ◌*◌, ◌/◌, ◌%◌, ◌^◌, ◌<◌, ◌≤◌, ◌∙◌, List, [], ◌∷◌, ◌++◌, length, get_or, refl, sym, ap, ap₂, arith, Bool, true, false, cond, eq-eqb}
use Rattle.std.specs.Prelude.{nat_eq}
use Rattle.std.specs.List.{enumerate_from, sum_by, AllByRecursion, Contains}
use Rattle.std.proofs.Math.Nat.{zero-div, pow-zero}
use Rattle.std.proofs.lemmas.List.{get_or_default}
use Rattle.std.proofs.lemmas.Bool.{cases_eq, cases_Bool, eqb-true}
use Rattle.std.proofs.lemmas.Bool.Decides.{nat_tests}
use Rattle.std.proofs.lemmas.List.Sums.{sum_by-cons, sum_by-append}
use Rattle.std.proofs.lemmas.List.Sorted.{IsPermutation-refl}
use Rattle.std.proofs.lemmas.Nat.Bits.{same_from_bits_below}
use Rattle.kh_types.specs.Bits.{bit}
use Rattle.kh_types.specs.Classes.{classes_of, Respects}
use Rattle.kh_types.proofs.ClassLemmas.{classes-together}
use Rattle.kh_types.proofs.JoinedClasses.{classes_of-same}
use Rattle.kh_types.proofs.ListSums.{sum_by-map, sum_by-zeros}
use Rattle.kh_types.proofs.Lists.{AllByRecursion-append, AllByRecursion-first, AllByRecursion-second}
use Rattle.surface_laws.specs.Surfaces.{Surface, component_of, is_component, faces_on, lowers_on, IsClosed, HasGenus, factor, weight, product_below}
use Rattle.surface_laws.proofs.Components.{AllByRecursion-at, AllByRecursion-weaker, list_any-some}
use Rattle.surface_laws.proofs.Factors.{factor-at, factor-none}
use Rattle.surface_laws.proofs.Products.{without, product_below-ones, product_below-without}
use Rattle.surface_laws.proofs.OneCut.{is_component-of}
use Rattle.surface_laws.specs.Points.{Points, ArePlaced, IsOpenPairing, discs, circles}
use Rattle.surface_laws.specs.Sheets.{marked, marked_else, sheet}
use Rattle.dotted_maps.specs.Terms.{term_faces, entry, AreGlued}
use Rattle.dotted_maps.specs.Maps.{matrix_of, identity}
use Rattle.dotted_maps.proofs.LeastPoints.{AreJoins, AreAmong-append, joins-below, class-below, class-named, class-own, least-contained}
use Rattle.dotted_maps.proofs.Sheets.{faces-at, places-term, pairing-alive, sheet-among}
use Rattle.dotted_maps.proofs.Composed.{closed-term}
use Rattle.dotted_maps.proofs.Pairs.{pairs-counted}
use Rattle.kh_types.proofs.BitLemmas.{bit-below}

-- a sum by which one element counts

abbrev one_if : Bool → ℕ
one_if b = cond b 1 0

sum-none : (t : ℕ → Bool) (g : ℕ → ℕ) (xs : List ℕ) (k : ℕ) → sum_by (λ x. cond (t x) 1 0) xs ≡ 0
    → sum_by (λ at. cond (t at.1) (g at.0) 0) (enumerate_from k xs) ≡ 0
sum-none t g [] k none = refl
sum-none t g (x ∷ xs) k none =
    let split = sum_by-cons (λ y. cond (t y) 1 0) x xs in
    sum_by-cons (λ at. cond (t at.1) (g at.0) 0) (k, x) (enumerate_from (k + 1) xs)
    ∙ ap₂ (λ a b. a + b) (none-here (t x) (g k) (omega (arith, split, none))) (sum-none t g xs (k + 1) (omega (arith, split, none)))
  where
    none-here : (b : Bool) (n : ℕ) → one_if b ≡ 0 → cond b n 0 ≡ 0
    none-here true n is = absurd (omega (arith, is))
    none-here false n is = refl

sum-some : (t : ℕ → Bool) (xs : List ℕ) (i : ℕ) → i < length xs → t (get_or xs i 0) ≡ true → 1 ≤ sum_by (λ x. cond (t x) 1 0) xs
sum-some t [] i below is = absurd (omega (arith, below))
sum-some t (x ∷ xs) zero below is =
    let split = sum_by-cons (λ y. cond (t y) 1 0) x xs in
    let one = ap one_if is in
    omega (arith, split, one)
sum-some t (x ∷ xs) (suc i) below is =
    let split = sum_by-cons (λ y. cond (t y) 1 0) x xs in
    let later = sum-some t xs i (omega (arith, below)) is in
    omega (arith, split, later)

pub sum-one : (t : ℕ → Bool) (g : ℕ → ℕ) (xs : List ℕ) (k i : ℕ) → sum_by (λ x. cond (t x) 1 0) xs ≡ 1 → i < length xs
    → t (get_or xs i 0) ≡ true → sum_by (λ at. cond (t at.1) (g at.0) 0) (enumerate_from k xs) ≡ g (k + i)
sum-one t g [] k i one below is = absurd (omega (arith, below))
sum-one t g (x ∷ xs) k zero one below is =
    let split = sum_by-cons (λ y. cond (t y) 1 0) x xs in
    let here = ap one_if is in
    let start : k ≡ k + 0 = omega arith in
    sum_by-cons (λ at. cond (t at.1) (g at.0) 0) (k, x) (enumerate_from (k + 1) xs)
    ∙ ap₂ (λ a b. a + b) (ap (λ b. cond b (g k) 0) is) (sum-none t g xs (k + 1) (omega (arith, split, one, here)))
    ∙ plus_zero (g k) ∙ ap g start
  where
    plus_zero : (x : ℕ) → x + 0 ≡ x
    plus_zero x = omega arith
sum-one t g (x ∷ xs) k (suc i) one below is =
    let split = sum_by-cons (λ y. cond (t y) 1 0) x xs in
    let some = sum-some t xs i (omega (arith, below)) is in
    let next : k + 1 + i ≡ k + suc i = omega arith in
    sum_by-cons (λ at. cond (t at.1) (g at.0) 0) (k, x) (enumerate_from (k + 1) xs)
    ∙ ap₂ (λ a b. a + b) (none-here (t x) (g k) (omega (arith, split, one, some)))
    (sum-one t g xs (k + 1) i (later-one (t x) (sum_by (λ y. cond (t y) 1 0) xs) (omega (arith, split, one)) some)
    (omega (arith, below)) is)
    ∙ zero_plus (g (k + 1 + i)) ∙ ap g next
  where
    zero_plus : (x : ℕ) → 0 + x ≡ x
    zero_plus x = omega arith

    none-here : (b : Bool) (n : ℕ) → one_if b ≡ 0 → cond b n 0 ≡ 0
    none-here true n is = absurd (omega (arith, is))
    none-here false n is = refl

    later-one : (b : Bool) (n : ℕ) → one_if b + n ≡ 1 → 1 ≤ n → n ≡ 1
    later-one b n one some = omega (arith, one, some)

-- what is asked of the identity
pub record IsItself (points : Points) (m w : List (ℕ × ℕ)) : Type 0 where
  pub placed : ArePlaced points
  pub pairing : IsOpenPairing points m
  pub glued : AreGlued points m m w

abbrev itself_at : Points → List (ℕ × ℕ) → List (ℕ × ℕ) → ℕ → ℕ → Surface
itself_at points m w before after = sheet points m m w (term_faces points m m w 0 before after)

abbrev bare : Points → List (ℕ × ℕ) → List (ℕ × ℕ) → Surface
bare points m w = sheet points m m w []

abbrev is_on : Points → List (ℕ × ℕ) → List (ℕ × ℕ) → ℕ → ℕ → Bool
is_on points m w k x = nat_eq (component_of (bare points m w) x) k

abbrev amount_on : Points → List (ℕ × ℕ) → List (ℕ × ℕ) → ℕ → ℕ → ℕ
amount_on points m w k x = cond (is_on points m w k x) 1 0

sheet-joins : (points : Points) (m w : List (ℕ × ℕ)) → IsItself points m w → AreJoins points.size points.alive (m ++ (m ++ w))
sheet-joins points m w is = record {
  below = is.placed.alive;
  among = sheet-among points m m w is.placed is.glued.first is.glued.second is.glued.outside;
}

circle-joins : (points : Points) (m w : List (ℕ × ℕ)) → IsItself points m w → AreJoins points.size points.alive (m ++ w)
circle-joins points m w is = record {
  below = is.placed.alive;
  among = AreAmong-append points.alive m w (pairing-alive points m is.placed is.glued.first) is.glued.outside;
}

-- its components are the circles
same-classes : (points : Points) (m w : List (ℕ × ℕ)) → IsItself points m w
    → classes_of points.size (m ++ (m ++ w)) ≡ classes_of points.size (m ++ w)
same-classes points m w is =
    classes_of-same points.size (m ++ (m ++ w)) (m ++ w)
    (joins-below points.size points.alive (m ++ (m ++ w)) (sheet-joins points m w is))
    (joins-below points.size points.alive (m ++ w) (circle-joins points m w is))
    (λ f respects. AllByRecursion-second (λ pair. f pair.0 ≡ f pair.1) m (m ++ w) respects)
    (λ f respects. AllByRecursion-append (λ pair. f pair.0 ≡ f pair.1) m (m ++ w)
    (AllByRecursion-first (λ pair. f pair.0 ≡ f pair.1) m w respects) respects)

named-circle : (points : Points) (m w : List (ℕ × ℕ)) (x : ℕ) → IsItself points m w → Contains points.alive x
    → Contains (circles points m w) (component_of (bare points m w) x)
named-circle points m w x is has =
    rw (same-classes points m w is) (class-named points.size points.alive (m ++ w) x (circle-joins points m w is) has)

own-circle : (points : Points) (m w : List (ℕ × ℕ)) (x : ℕ) → IsItself points m w → Contains points.alive x
    → component_of (bare points m w) (component_of (bare points m w) x) ≡ component_of (bare points m w) x
own-circle points m w x is has = class-own points.size points.alive (m ++ (m ++ w)) x (sheet-joins points m w is) has

-- the counts on a component: one circle of each labels, and as many pairs as half its opened arcs

respects-on : (points : Points) (m w : List (ℕ × ℕ)) (k : ℕ) → IsItself points m w → Respects (amount_on points m w k) m
respects-on points m w k is =
    let surface = bare points m w in
    let below = joins-below points.size points.alive (m ++ (m ++ w)) (sheet-joins points m w is) in
    AllByRecursion-weaker (λ pair. component_of surface pair.0 ≡ component_of surface pair.1)
    (λ pair. amount_on points m w k pair.0 ≡ amount_on points m w k pair.1) m
    (λ pair same. ap (λ c. cond (nat_eq c k) 1 0) same)
    (AllByRecursion-first (λ pair. component_of surface pair.0 ≡ component_of surface pair.1) m (m ++ w)
    (classes-together points.size (m ++ (m ++ w)) below))

pub opened-below : (points : Points) → ArePlaced points → AllByRecursion (λ x. x < points.size) points.opened
opened-below points placed =
    AllByRecursion-weaker (λ x. Contains points.alive x) (λ x. x < points.size) points.opened
    (λ x has. AllByRecursion-at (λ y. y < points.size) points.alive x placed.alive has) placed.opened

strips-on : (points : Points) (m w : List (ℕ × ℕ)) (before after k : ℕ) → IsItself points m w
    → lowers_on (itself_at points m w before after) k ≡ 2 * sum_by (amount_on points m w k) (discs points m m)
strips-on points m w before after k is =
    sym (pairs-counted points m (amount_on points m w k) (opened-below points is.placed) is.pairing is.glued.first
    (respects-on points m w k is))

faces-on : (points : Points) (m w : List (ℕ × ℕ)) (before after k : ℕ)
    → faces_on (itself_at points m w before after) k
    ≡ sum_by (amount_on points m w k) (discs points m m)
    + (sum_by (amount_on points m w k) (circles points m w) + sum_by (amount_on points m w k) (circles points m w))
faces-on points m w before after k =
    let f = amount_on points m w k in
    faces-at points m m w (term_faces points m m w 0 before after) k
    ∙ ap (λ xs. sum_by f xs) (places-term points m m w 0 before after)
    ∙ sum_by-append f (discs points m m) (circles points m w ++ circles points m w)
    ∙ ap (λ n. sum_by f (discs points m m) + n) (sum_by-append f (circles points m w) (circles points m w))

pub record IsCylinder (points : Points) (m w : List (ℕ × ℕ)) (before after k : ℕ) : Type 0 where
  pub once : sum_by (amount_on points m w k) (circles points m w) ≡ 1
  pub genus : HasGenus (itself_at points m w before after) k 0

counts : (f l d c g : ℕ) → f ≡ d + (c + c) → l ≡ 2 * d → 2 * f + 0 + 4 * g ≡ l + 4 → 1 ≤ c → c ≡ 1
counts f l d c g is_f is_l has some = omega (arith, is_f, is_l, has, some)

sphere : (f l d c : ℕ) → f ≡ d + (c + c) → l ≡ 2 * d → c ≡ 1 → 2 * f + 0 + 4 * 0 ≡ l + 4
sphere f l d c is_f is_l one = omega (arith, is_f, is_l, one)

cylinder-at : (points : Points) (m w : List (ℕ × ℕ)) (before after x i : ℕ) → IsItself points m w → Contains points.alive x
    → i < length (circles points m w) → is_on points m w (component_of (bare points m w) x) (get_or (circles points m w) i 0) ≡ true
    → IsCylinder points m w before after (component_of (bare points m w) x)
cylinder-at points m w before after x i is has below on =
    let k = component_of (bare points m w) x in
    let surface = itself_at points m w before after in
    let d = sum_by (amount_on points m w k) (discs points m m) in
    let c = sum_by (amount_on points m w k) (circles points m w) in
    let closed : IsClosed surface =
    closed-term points m m w (term_faces points m m w 0 before after) 0 before after is.glued
    (IsPermutation-refl (term_faces points m m w 0 before after)) in
    let here = closed.genus x has in
    let faces = faces-on points m w before after k in
    let strips = strips-on points m w before after k is in
    let one : c ≡ 1 =
    counts (faces_on surface k) (lowers_on surface k) d c here.0 faces strips here.1
    (sum-some (is_on points m w k) (circles points m w) i below on) in
    record { once = one; genus = sphere (faces_on surface k) (lowers_on surface k) d c faces strips one }

-- and the marks: their dots, or their hollow dots

abbrev marks_at : Points → List (ℕ × ℕ) → List (ℕ × ℕ) → ℕ → (ℕ × ℕ → ℕ) → ℕ × ℕ → ℕ
marks_at points m w k amount face = cond (is_on points m w k face.0) (amount face) 0

bit-zero : (k : ℕ) → bit 0 k ≡ 0
bit-zero k = ap (λ q. q % 2) (zero-div (2 ^ k))

no-mark : (b : Bool) (n : ℕ) → n ≡ 0 → cond b n 0 ≡ 0
no-mark true n none = none
no-mark false n none = refl

no-dots : (points : Points) (m w : List (ℕ × ℕ)) (k : ℕ) (amount : ℕ → ℕ) (places : List ℕ) → amount 0 ≡ 0
    → sum_by (marks_at points m w k (λ face. amount face.1)) (marked 0 places) ≡ 0
no-dots points m w k amount places none =
    sum_by-map (marks_at points m w k (λ face. amount face.1)) (λ at. (at.1, bit 0 at.0)) (enumerate_from 0 places)
    ∙ sum_by-zeros (λ at. cond (is_on points m w k at.1) (amount (bit 0 at.0)) 0) (enumerate_from 0 places)
    (λ at. no-mark (is_on points m w k at.1) (amount (bit 0 at.0)) (ap amount (bit-zero at.0) ∙ none))

-- what both marks of the one circle of each labels have together
abbrev both_marks : (ℕ → ℕ) → ℕ → ℕ → ℕ → ℕ
both_marks amount before after i = amount (bit before i) + amount (2 * (1 - bit after i))

marks-on : (points : Points) (m w : List (ℕ × ℕ)) (before after k i : ℕ) (amount : ℕ → ℕ) → amount 0 ≡ 0
    → IsCylinder points m w before after k
    → i < length (circles points m w) → is_on points m w k (get_or (circles points m w) i 0) ≡ true
    → sum_by (marks_at points m w k (λ face. amount face.1)) (term_faces points m m w 0 before after)
    ≡ both_marks amount before after i
marks-on points m w before after k i amount none cylinder below on =
    let h = marks_at points m w k (λ face. amount face.1) in
    let names = circles points m w in
    let f = λ (j : ℕ). amount (bit before j) in
    let g = λ (j : ℕ). amount (2 * (1 - bit after j)) in
    let first : sum_by h (marked before names) ≡ amount (bit before i) =
    sum_by-map h (λ at. (at.1, bit before at.0)) (enumerate_from 0 names)
    ∙ sum-one (is_on points m w k) f names 0 i cylinder.once below on ∙ ap f (from_zero i) in
    let second : sum_by h (marked_else after names) ≡ amount (2 * (1 - bit after i)) =
    sum_by-map h (λ at. (at.1, 2 * (1 - bit after at.0))) (enumerate_from 0 names)
    ∙ sum-one (is_on points m w k) g names 0 i cylinder.once below on ∙ ap g (from_zero i) in
    sum_by-append h (marked 0 (discs points m m)) (marked before names ++ marked_else after names)
    ∙ ap₂ (λ x y. x + y) (no-dots points m w k amount (discs points m m) none)
    (sum_by-append h (marked before names) (marked_else after names) ∙ ap₂ (λ x y. x + y) first second)
    ∙ zero_plus (both_marks amount before after i)
  where
    from_zero : (i : ℕ) → 0 + i ≡ i
    from_zero i = omega arith

    zero_plus : (x : ℕ) → 0 + x ≡ x
    zero_plus x = omega arith

-- a disc's dots and hollow dots by its mark
abbrev dots_in : ℕ → ℕ
dots_in mark = mark % 2

abbrev hollows_in : ℕ → ℕ
hollows_in mark = mark / 2

factor-cylinder : (h k : ℕ) (points : Points) (m w : List (ℕ × ℕ)) (before after x i : ℕ) → IsItself points m w
    → Contains points.alive x → i < length (circles points m w)
    → is_on points m w (component_of (bare points m w) x) (get_or (circles points m w) i 0) ≡ true
    → factor h k (itself_at points m w before after) (component_of (bare points m w) x)
    ≡ weight h k 0 (both_marks dots_in before after i) (both_marks hollows_in before after i)
factor-cylinder h k points m w before after x i is has below on =
    let c = component_of (bare points m w) x in
    let surface = itself_at points m w before after in
    let cylinder = cylinder-at points m w before after x i is has below on in
    factor-at h k surface c 0 (is_component-of surface x has) cylinder.genus
    ∙ ap₂ (λ d o. weight h k 0 d o) (marks-on points m w before after c i dots_in refl cylinder below on)
    (marks-on points m w before after c i hollows_in refl cylinder below on)

-- where all labels agree, all factors are 1
same-marks : (h k b d o : ℕ) → b < 2 → d ≡ b % 2 + 2 * (1 - b) % 2 → o ≡ b / 2 + 2 * (1 - b) / 2 → weight h k 0 d o ≡ 1
same-marks h k zero d o below dots hollows = ap₂ (λ x y. weight h k 0 x y) dots hollows ∙ pow-zero k
same-marks h k (suc zero) d o below dots hollows = ap₂ (λ x y. weight h k 0 x y) dots hollows ∙ pow-zero h
same-marks h k (suc (suc b)) d o below dots hollows = absurd (omega (arith, below))

other-marks : (h k b c d o : ℕ) → b < 2 → c < 2 → b ≢ c → d ≡ b % 2 + 2 * (1 - c) % 2 → o ≡ b / 2 + 2 * (1 - c) / 2
    → weight h k 0 d o ≡ 0
other-marks h k zero zero d o b_below c_below apart dots hollows = absurd (apart refl)
other-marks h k zero (suc zero) d o b_below c_below apart dots hollows = ap₂ (λ x y. weight h k 0 x y) dots hollows
other-marks h k (suc zero) zero d o b_below c_below apart dots hollows = ap₂ (λ x y. weight h k 0 x y) dots hollows
other-marks h k (suc zero) (suc zero) d o b_below c_below apart dots hollows = absurd (apart refl)
other-marks h k (suc (suc b)) c d o b_below c_below apart dots hollows = absurd (omega (arith, b_below))
other-marks h k zero (suc (suc c)) d o b_below c_below apart dots hollows = absurd (omega (arith, c_below))
other-marks h k (suc zero) (suc (suc c)) d o b_below c_below apart dots hollows = absurd (omega (arith, c_below))

agree-one : (h k : ℕ) (points : Points) (m w : List (ℕ × ℕ)) (label c : ℕ) → IsItself points m w
    → factor h k (itself_at points m w label label) c ≡ 1
agree-one h k points m w label c is =
    let surface = itself_at points m w label label in
    elim (cases_Bool (is_component surface c)) [
      | inl component ↦
          let found = list_any-some (λ x. nat_eq (component_of surface x) c) points.alive component in
          let same : component_of surface found.0 ≡ c = eqb-true (component_of surface found.0) c found.2 in
          let name = named-circle points m w found.0 is found.1 in
          let own = own-circle points m w found.0 is found.1 in
          ap (factor h k surface) (sym same)
          ∙ factor-cylinder h k points m w label label found.0 name.0 is found.1 name.1
          (eq-eqb (component_of (bare points m w) (get_or (circles points m w) name.0 0)) (component_of (bare points m w) found.0)
          (ap (λ y. component_of (bare points m w) y) (get_or_default (circles points m w) name.0 0 (component_of (bare points m w) found.0) name.1 ∙ name.2) ∙ own))
          ∙ same-marks h k (bit label name.0) (both_marks dots_in label label name.0) (both_marks hollows_in label label name.0)
          (bit-below label name.0) refl refl
      | inr other ↦ factor-none h k surface c other
    ]

-- where two labels differ, one factor is 0

pub record Differ (count before after : ℕ) : Type 0 where
  pub place : ℕ
  pub below : place < count
  pub differ : bit before place ≢ bit after place

some-differ : (count before after : ℕ) → ((i : ℕ) → i < count → bit before i ≡ bit after i) ⊎ Differ count before after
some-differ zero before after = inl (λ i below. absurd (omega (arith, below)))
some-differ (suc count) before after = elim (some-differ count before after) [
  | inr found ↦ inr (record { place = found.place; below = omega (arith, found.below); differ = found.differ })
  | inl same ↦ elim (cases_eq (bit before count) (bit after count)) [
    | inl here ↦ inl (λ i below. elim (cases_eq i count) [
      | inl is ↦ ap (λ j. bit before j) is ∙ here ∙ sym (ap (λ j. bit after j) is)
      | inr other ↦ same i (omega (arith, below, other))
    ])
    | inr other ↦ inr (record { place = count; below = omega arith; differ = other })
  ]
]

differ-zero : (h k : ℕ) (points : Points) (m w : List (ℕ × ℕ)) (before after : ℕ) → IsItself points m w
    → Differ (length (circles points m w)) before after → entry h k points m m w 0 before after ≡ 0
differ-zero h k points m w before after is found =
    let i = found.place in
    let names = circles points m w in
    let x = get_or names i 0 in
    let surface = itself_at points m w before after in
    let has : Contains points.alive x =
    AllByRecursion-at (λ y. Contains points.alive y) names x (least-contained points.size points.alive (m ++ w))
    (i, found.below, get_or_default names i x 0 found.below) in
    let c = component_of (bare points m w) x in
    let below = class-below points.size points.alive (m ++ (m ++ w)) x (sheet-joins points m w is) has in
    let none : factor h k surface c ≡ 0 =
    factor-cylinder h k points m w before after x i is has found.below (eq-eqb c c refl)
    ∙ other-marks h k (bit before i) (bit after i) (both_marks dots_in before after i) (both_marks hollows_in before after i)
    (bit-below before i) (bit-below after i) found.differ refl refl in
    product_below-without points.size c (factor h k surface) below
    ∙ ap (λ z. z * product_below points.size (without c (factor h k surface))) none
    ∙ zero_times (product_below points.size (without c (factor h k surface)))
  where
    zero_times : (x : ℕ) → 0 * x ≡ 0
    zero_times x = omega arith

agree-entry : (h k : ℕ) (points : Points) (m w : List (ℕ × ℕ)) (label : ℕ) → IsItself points m w → entry h k points m m w 0 label label ≡ 1
agree-entry h k points m w label is =
    product_below-ones points.size (factor h k (itself_at points m w label label)) (λ c below. agree-one h k points m w label c is)

same-test : (x y : ℕ) → x ≡ y → 1 ≡ one_if (nat_eq x y)
same-test x y same = grind (arith, nat_tests)

other-test : (x y : ℕ) → x ≢ y → 0 ≡ one_if (nat_eq x y)
other-test x y apart = grind (arith, nat_tests)

pub entry-identity : (h k : ℕ) (points : Points) (m w : List (ℕ × ℕ)) (before after : ℕ) → IsItself points m w
    → before < 2 ^ length (circles points m w) → after < 2 ^ length (circles points m w)
    → entry h k points m m w 0 before after ≡ cond (nat_eq before after) 1 0
entry-identity h k points m w before after is before_below after_below =
    elim (some-differ (length (circles points m w)) before after) [
      | inl same ↦
          let equal : before ≡ after =
          same_from_bits_below (length (circles points m w)) before after before_below after_below same in
          ap (λ label. entry h k points m m w 0 before label) (sym equal) ∙ agree-entry h k points m w before is
          ∙ same-test before after equal
      | inr found ↦
          differ-zero h k points m w before after is found
          ∙ other-test before after (λ equal. found.differ (ap (λ label. bit label found.place) equal))
    ]

pub matrix-identity : (p h k : ℕ) (points : Points) (m w : List (ℕ × ℕ)) (row column : ℕ) → IsItself points m w
    → row < 2 ^ length (circles points m w) → column < 2 ^ length (circles points m w)
    → matrix_of p h k points m m w identity row column ≡ cond (nat_eq row column) 1 0 % p
matrix-identity p h k points m w row column is row_below column_below =
    ap (λ n. n % p)
    (one_time (entry h k points m m w 0 column row) ∙ entry-identity h k points m w column row is column_below row_below
    ∙ turned column row)
  where
    one_time : (x : ℕ) → 0 + 1 * x ≡ x
    one_time x = omega arith

    turned : (x y : ℕ) → one_if (nat_eq x y) ≡ one_if (nat_eq y x)
    turned x y = grind (arith, nat_tests)
