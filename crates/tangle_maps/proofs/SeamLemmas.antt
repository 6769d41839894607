-- Lists of components of a seam.
-- The code joins the pairs of the first and the third pairing, and then those of the second: the classes of all three, in the order of the
-- definition (`three_joined`). The discs of two pairings are least in their classes; each stands in the seam as its class under all three,
-- and so do the components, which are their own classes (`least-named`). The genus of a component is counted in these lists (`seam_made`).
use Rattle.std.proofs.Common.{◌≡◌, ◌^◌, ◌%◌, ◌≢◌, ℕ, zero, suc, ◌-◌, ◌*◌, ◌/◌, inl, inr, refl, subst, map, set, ◌+◌, ◌<◌, List, [], ◌∷◌, ◌++◌, ◌%◌, take, length, ap, ap₂, ◌∙◌, arith, sym, Bool, true, false, cond}
use Rattle.std.specs.Prelude.{nat_eq, slice_index, get_or}
use Rattle.std.specs.List.{enumerate_from, sum_by, count_by, fold, filter, range_with_len, Contains}
use Rattle.std.proofs.lemmas.List.{append_assoc, take_more, length-take-le, get_or-set_same, get_or-set_other}
use Rattle.std.proofs.lemmas.List.Sums.{sum_by_push, fold-append}
use Rattle.std.proofs.lemmas.Bool.{cases_eq, eqb-true}
use Rattle.std.proofs.Math.Nat.{zero-div}
use Rattle.kh_types.specs.Classes.{classes_of, is_least, joined}
use Rattle.tangle_maps.specs.declared.pairing.TheConstants.{POINTS}
use Rattle.std.proofs.lemmas.List.Elements.{Contains-push_cases}
use Rattle.kh_types.proofs.Lists.{count_by-map, enumerate_from-push}
use Rattle.kh_types.proofs.ListSums.{sum_by-zeros}
use Rattle.surface_laws.specs.Points.{discs}
use Rattle.dotted_maps.specs.Parts.{components, component_in}
use Rattle.dotted_maps.proofs.LeastPoints.{AllByRecursion-filter}
use Rattle.tangle_maps.specs.declared.seam.Seam.{Seam}
use Rattle.tangle_maps.specs.Pairings.{IsOpened, joins_of, opened_points}
use Rattle.kh_types.specs.Bits.{bit}
use Rattle.tangle_maps.specs.Seams.{IsSeam, dots_on, genus_by}

-- a disc more

pub dots_on_more : (component dots k : ℕ) (places : List ℕ) → k < length places
    → dots_on component dots (take (k + 1) places)
    ≡ dots_on component dots (take k places) + cond (nat_eq (slice_index places k) component) (bit dots k) 0
dots_on_more component dots k places within =
    let f : ℕ × ℕ → ℕ = λ at. cond (nat_eq at.1 component) (bit dots at.0) 0 in
    ap (λ xs. sum_by f (enumerate_from 0 xs)) (take_more places k 0 within)
    ∙ ap (sum_by f) (enumerate_from-push 0 (take k places) (slice_index places k))
    ∙ sum_by_push f (enumerate_from 0 (take k places)) (0 + length (take k places), slice_index places k)
    ∙ ap (λ i. dots_on component dots (take k places) + cond (nat_eq (slice_index places k) component) (bit dots i) 0)
    (zero_plus (length (take k places)) ∙ length-take-le k places (omega (arith, within)))
  where
    zero_plus : (x : ℕ) → 0 + x ≡ x
    zero_plus x = omega arith

-- no dots on any discs
pub dots_on_none : (component : ℕ) (places : List ℕ) → dots_on component 0 places ≡ 0
dots_on_none component places =
    sum_by-zeros (λ at. cond (nat_eq at.1 component) (bit 0 at.0) 0) (enumerate_from 0 places) (λ at. none (nat_eq at.1 component) at.0)
  where
    none : (b : Bool) (k : ℕ) → cond b (bit 0 k) 0 ≡ 0
    none true k = ap (λ q. q % 2) (zero-div (2 ^ k))
    none false k = refl

-- classes of three pairings

pub three_joined : (partners others middle opened : List ℕ) (both whole : List ℕ)
    → both ≡ classes_of POINTS (joins_of partners opened ++ joins_of others opened)
    → whole ≡ fold joined both (joins_of middle opened)
    → whole ≡ classes_of POINTS (joins_of partners opened ++ (joins_of others opened ++ joins_of middle opened))
three_joined partners others middle opened both whole is_both is_whole =
    let m = joins_of partners opened in
    let o = joins_of others opened in
    let n = joins_of middle opened in
    is_whole ∙ ap (λ classes. fold joined classes n) is_both ∙ sym (fold-append joined (range_with_len 0 POINTS) (m ++ o) n)
    ∙ ap (classes_of POINTS) (append_assoc m o n)

-- the least arcs name themselves
pub least-named : (classes arcs : List ℕ) → map (slice_index classes) (filter (is_least classes) arcs) ≡ filter (is_least classes) arcs
least-named classes [] = refl
least-named classes (x ∷ xs) = here (is_least classes x) refl (least-named classes xs)
  where
    here : (b : Bool) → is_least classes x ≡ b → map (slice_index classes) (filter (is_least classes) xs) ≡ filter (is_least classes) xs
        → map (slice_index classes) (cond b (x ∷ filter (is_least classes) xs) (filter (is_least classes) xs))
        ≡ cond b (x ∷ filter (is_least classes) xs) (filter (is_least classes) xs)
    here true least later = ap₂ (λ (y : ℕ) (ys : List ℕ). y ∷ ys) (eqb-true (slice_index classes x) x least) later
    here false more later = later

-- numbers that are written down for each of some places

pub noted_more : (f : ℕ → ℕ) (xs names : List ℕ) (i v : ℕ) → i < length xs → slice_index xs i < length names → v ≡ f (slice_index xs i)
    → ((k : ℕ) → Contains (take i xs) k → slice_index names k ≡ f k)
    → (k : ℕ) → Contains (take (i + 1) xs) k → slice_index (set names (slice_index xs i) v) k ≡ f k
noted_more f xs names i v within below is before k has =
    let x = slice_index xs i in
    elim (cases_eq k x) [
      | inl same ↦ ap (λ j. get_or (set names x v) j 0) same ∙ get_or-set_same names x v 0 below ∙ is ∙ ap f (sym same)
      | inr apart ↦ get_or-set_other names x k v 0 apart ∙ before k (earlier apart (subst (λ ys. Contains ys k) (take_more xs i 0 within) has))
    ]
  where
    earlier : k ≢ slice_index xs i → Contains (take i xs ++ slice_index xs i ∷ []) k → Contains (take i xs) k
    earlier apart has = elim (Contains-push_cases (take i xs) (slice_index xs i) k has) [
      | inl before ↦ before
      | inr same ↦ absurd (apart (sym same))
    ]

pub noted_at : (f : ℕ → ℕ) (xs names : List ℕ) (i j v : ℕ) → i < length xs → slice_index xs i < length names → j ≡ slice_index xs i
    → v ≡ f (slice_index xs i) → ((k : ℕ) → Contains (take i xs) k → slice_index names k ≡ f k)
    → (k : ℕ) → Contains (take (i + 1) xs) k → slice_index (set names j v) k ≡ f k
noted_at f xs names i j v within below at is before k has =
    ap (λ n. slice_index (set names n v) k) at ∙ noted_more f xs names i v within below is before k has

pub opened-at : (arcs : List ℕ) (i : ℕ) → IsOpened arcs → i < length arcs → slice_index arcs i < POINTS
opened-at [] i all within = absurd (omega (arith, within))
opened-at (x ∷ xs) zero all within = all.0
opened-at (x ∷ xs) (suc i) all within = opened-at xs i all.1 (omega (arith, within))

-- a seam, from what code computes

abbrev formula : ℕ → ℕ → ℕ → ℕ → ℕ
formula arcs whole first second = (arcs + 4 - 2 * (whole + (first + second))) / 4

genus-counted : (f : ℕ → ℕ) (k : ℕ) (opened first second whole : List ℕ)
    → genus_by k (map f opened) (map f first) (map f second) (map f whole)
    ≡ formula (count_by (λ x. nat_eq (f x) k) opened) (count_by (λ x. nat_eq (f x) k) whole) (count_by (λ x. nat_eq (f x) k) first)
    (count_by (λ x. nat_eq (f x) k) second)
genus-counted f k opened first second whole =
    let count = count_by (λ x. nat_eq x k) in
    ap₂ (λ a w. formula a w (count (map f first)) (count (map f second))) (count_by-map (λ x. nat_eq x k) f opened)
    (count_by-map (λ x. nat_eq x k) f whole)
    ∙ ap₂ (λ x y. formula (count_by (λ x. nat_eq (f x) k) opened) (count_by (λ x. nat_eq (f x) k) whole) x y)
    (count_by-map (λ x. nat_eq x k) f first) (count_by-map (λ x. nat_eq x k) f second)

-- discs by the components on them
discs-named : (opened : List ℕ) (classes whole ends : List ℕ) (joins : List (ℕ × ℕ)) (discs : List ℕ) → classes ≡ whole
    → ends ≡ classes_of POINTS joins → discs ≡ map (slice_index classes) (filter (is_least ends) opened)
    → discs ≡ map (slice_index whole) (filter (is_least (classes_of POINTS joins)) opened)
discs-named opened classes whole ends joins discs same is_ends are =
    are ∙ ap₂ (λ c e. map (slice_index c) (filter (is_least e) opened)) same is_ends

pub seam_made : (opened m n o : List ℕ) (seam : Seam) (classes ends one two arcs : List ℕ)
    → ends ≡ classes_of POINTS (joins_of m opened ++ joins_of o opened)
    → classes ≡ fold joined ends (joins_of n opened)
    → one ≡ classes_of POINTS (joins_of m opened ++ joins_of n opened)
    → two ≡ classes_of POINTS (joins_of n opened ++ joins_of o opened)
    → seam.whole.items ≡ map (slice_index classes) (filter (is_least ends) opened)
    → seam.first.items ≡ map (slice_index classes) (filter (is_least one) opened)
    → seam.second.items ≡ map (slice_index classes) (filter (is_least two) opened)
    → seam.components.items ≡ map (slice_index classes) (filter (is_least classes) opened)
    → arcs ≡ map (slice_index classes) opened
    → ((k : ℕ) → Contains seam.components.items k
    → slice_index seam.genera k ≡ genus_by k arcs seam.first.items seam.second.items seam.whole.items)
    → IsSeam (opened_points opened) (joins_of m opened) (joins_of n opened) (joins_of o opened) seam
seam_made opened m n o seam classes ends one two arcs is_ends is_classes is_one is_two are_whole are_first are_second are_parts are_arcs genera =
    let points = opened_points opened in
    let a = joins_of m opened in
    let b = joins_of n opened in
    let c = joins_of o opened in
    let same : classes ≡ classes_of POINTS (a ++ (c ++ b)) = three_joined m o n opened ends classes is_ends is_classes in
    let f : ℕ → ℕ = component_in points a b c in
    let first : seam.first.items ≡ map f (discs points a b) =
    discs-named opened classes (classes_of POINTS (a ++ (c ++ b))) one (a ++ b) seam.first.items same is_one are_first in
    let second : seam.second.items ≡ map f (discs points b c) =
    discs-named opened classes (classes_of POINTS (a ++ (c ++ b))) two (b ++ c) seam.second.items same is_two are_second in
    let whole : seam.whole.items ≡ map f (discs points a c) =
    discs-named opened classes (classes_of POINTS (a ++ (c ++ b))) ends (a ++ c) seam.whole.items same is_ends are_whole in
    let parts : seam.components.items ≡ components points a b c =
    are_parts ∙ least-named classes opened ∙ ap (λ xs. filter (is_least xs) opened) same in
    let named : arcs ≡ map f opened = are_arcs ∙ ap (λ xs. map (slice_index xs) opened) same in
    record {
      first = first;
      second = second;
      whole = whole;
      parts = parts;
      genera = λ k has.
          genera k (subst (λ xs. Contains xs k) (sym parts) has)
          ∙ ap₂ (λ x y. genus_by k x y seam.second.items seam.whole.items) named first
          ∙ ap₂ (λ x y. genus_by k (map f opened) (map f (discs points a b)) x y) second whole
          ∙ genus-counted f k opened (discs points a b) (discs points b c) (discs points a c);
    }

-- components are among the arcs
pub components_opened : (classes opened components : List ℕ) → IsOpened opened
    → components ≡ map (slice_index classes) (filter (is_least classes) opened) → IsOpened components
components_opened classes opened components all are =
    subst (λ xs. IsOpened xs) (sym (are ∙ least-named classes opened))
    (AllByRecursion-filter (λ x. x < POINTS) (is_least classes) opened all)
