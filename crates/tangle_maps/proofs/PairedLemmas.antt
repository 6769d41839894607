-- Partners pair the arcs that have one.
-- That the paired arcs are the ends of the pairs is counted: two lists in which each number stands equally often are permuted (`permuted`).
-- How often z is an end is a sum over all x of `end_term z x (partner of x)`: 1 where x is less than its partner and z is one of the two.
-- If z is paired there is one such x, the lesser of z and its partner, and else none (`ends-once`, `ends-never`); z stands among the paired
-- arcs just as often (`arc-once`, `arc-never`). Here partners are any function p with p (p x) = x below a number n (`Pairs`), so that nothing
-- is computed 48 times.
use Rattle.std.proofs.Common.{◌≡◌, ◌≢◌, ℕ, zero, suc, inl, inr, ◌+◌, ◌<◌, ◌≤◌, ◌∙◌, List, [], ◌∷◌, ◌++◌, length, refl, sym, subst, ap, arith, Bool, true, false, cond, not, eq-eqb}
use Rattle.std.specs.Prelude.{nat_eq, nat_lt, slice_index}
use Rattle.std.specs.List.{filter, count_by, sum_by, range_with_len, AllByRecursion, Contains}
use Rattle.std.specs.List.Sorted.{IsPermutation}
use Rattle.std.proofs.lemmas.Bool.{cases_eq, cases_lt, cases_order}
use Rattle.std.proofs.lemmas.Bool.Decides.{nat_tests}
use Rattle.std.proofs.lemmas.List.FromFn.{length-range_with_len, get_or-range_with_len}
use Rattle.std.proofs.lemmas.List.Sums.{sum_by-cons, sum_by-append, length-filter, count_by-le-length}
use Rattle.std.proofs.lemmas.List.Sorted.{IsPermutation-refl, IsPermutation-sym, IsPermutation-trans, IsPermutation-cons, IsPermutation-middle}
use Rattle.kh_types.specs.Bits.{one_if}
use Rattle.kh_types.proofs.ListSums.{sum_by-alike, sum_by-map, sum_by-flat_map, sum_by-filter, sum_by-single, sum_by-none}
use Rattle.kh_types.proofs.Lists.{Contains-filter}
use Rattle.surface_laws.proofs.TwoSides.{AllByRecursion-map}
use Rattle.surface_laws.proofs.Components.{AllByRecursion-at, AllByRecursion-weaker}
use Rattle.surface_laws.specs.Points.{AreAmong, ArePlaced, IsOpenPairing, ends_of}
use Rattle.dotted_maps.proofs.LeastPoints.{AllByRecursion-filter, all-themselves}
use Rattle.tangle_maps.specs.declared.pairing.TheConstants.{POINTS}
use Rattle.tangle_maps.specs.Pairings.{ArePartners, IsOpened, is_paired, joins_of, leads, opened_points, paired_arcs, with_partner}

-- lists in which each number stands as often are permuted

parted : (x : ℕ) (ys : List ℕ) → count_by (nat_eq x) ys ≢ 0 → (front : List ℕ) × (back : List ℕ) × (ys ≡ front ++ x ∷ back)
parted x [] some = absurd (some refl)
parted x (y ∷ ys) some = elim (cases_eq x y) [
  | inl same ↦ ([], ys, ap (λ (z : ℕ). z ∷ ys) (sym same))
  | inr apart ↦
      let found = parted x ys (λ none. some (sum_by-cons (λ z. one_if (nat_eq x z)) y ys ∙ zeros apart none)) in
      (y ∷ found.0, found.1, ap (λ (zs : List ℕ). y ∷ zs) found.2)
]
  where
    zeros : x ≢ y → count_by (nat_eq x) ys ≡ 0 → one_if (nat_eq x y) + count_by (nat_eq x) ys ≡ 0
    zeros apart none = grind (arith, nat_tests)

none-left : (ys : List ℕ) → ((z : ℕ) → count_by (nat_eq z) ys ≡ 0) → ys ≡ []
none-left [] none = refl
none-left (y ∷ ys) none =
    absurd (omega (arith, none y, sum_by-cons (λ z. one_if (nat_eq y z)) y ys, ap one_if (eq-eqb y y refl)))

permuted : (xs ys : List ℕ) → ((z : ℕ) → count_by (nat_eq z) xs ≡ count_by (nat_eq z) ys) → IsPermutation xs ys
permuted [] ys alike = subst (λ zs. IsPermutation [] zs) (sym (none-left ys (λ z. sym (alike z)))) (IsPermutation-refl [])
permuted (x ∷ xs) ys alike =
    let found = parted x ys (λ none. omega (arith, none, alike x, sum_by-cons (λ z. one_if (nat_eq x z)) x xs, ap one_if (eq-eqb x x refl))) in
    let front = found.0 in
    let back = found.1 in
    subst (λ zs. IsPermutation (x ∷ xs) zs) (sym found.2)
    (IsPermutation-trans (x ∷ xs) (x ∷ (front ++ back)) (front ++ x ∷ back)
    (IsPermutation-cons x xs (front ++ back)
    (permuted xs (front ++ back)
    (λ z.
    let f : ℕ → ℕ = λ y. one_if (nat_eq z y) in
    let whole = alike z ∙ ap (sum_by f) found.2 in
    omega (arith, whole, sum_by-cons f x xs, sum_by-append f front (x ∷ back), sum_by-cons f x back, sum_by-append f front back))))
    (IsPermutation-sym (front ++ x ∷ back) (x ∷ (front ++ back)) (IsPermutation-middle front x back)))

-- how often a number is an end

abbrev end_term : ℕ → ℕ → ℕ → ℕ
end_term z x y = cond (not (nat_eq x y)) (cond (nat_lt x y) (one_if (nat_eq z x) + one_if (nat_eq z y)) 0) 0

end-none : (z x y : ℕ) → z ≢ x → z ≢ y → end_term z x y ≡ 0
end-none z x y first second = grind (arith, nat_tests)

end-not : (z x y : ℕ) → y ≤ x → end_term z x y ≡ 0
end-not z x y below = grind (arith, nat_tests)

end-first : (z x y : ℕ) → x < y → z ≡ x → end_term z x y ≡ 1
end-first z x y below is = grind (arith, nat_tests)

end-second : (z x y : ℕ) → x < y → z ≡ y → end_term z x y ≡ 1
end-second z x y below is = grind (arith, nat_tests)

ends-counted : (partners : List ℕ) (z : ℕ)
    → count_by (nat_eq z) (ends_of (joins_of partners (paired_arcs partners)))
    ≡ sum_by (λ x. end_term z x (slice_index partners x)) (range_with_len 0 POINTS)
ends-counted partners z =
    let f : ℕ → ℕ = λ x. one_if (nat_eq z x) in
    let both : ℕ → ℕ = λ x. f x + f (slice_index partners x) in
    sum_by-flat_map f (λ pair. pair.0 ∷ pair.1 ∷ []) (joins_of partners (paired_arcs partners))
    ∙ sum_by-map (λ pair. sum_by f (pair.0 ∷ pair.1 ∷ [])) (with_partner partners) (filter (leads partners) (paired_arcs partners))
    ∙ sum_by-alike (λ x. sum_by f (x ∷ slice_index partners x ∷ [])) both (λ x. two (f x) (f (slice_index partners x)))
    (filter (leads partners) (paired_arcs partners))
    ∙ sum_by-filter both (leads partners) (paired_arcs partners)
    ∙ sum_by-filter (λ x. cond (leads partners x) (both x) 0) (is_paired partners) (range_with_len 0 POINTS)
  where
    two : (a b : ℕ) → 0 + a + b ≡ a + b
    two a b = omega arith

-- an arc with a partner is once an end, another never

abbrev other_if : ℕ → ℕ → ℕ
other_if z w = cond (not (nat_eq z w)) 1 0

record Pairs (n : ℕ) (p : ℕ → ℕ) : Type 0 where
  below : (x : ℕ) → x < n → p x < n
  back : (x : ℕ) → x < n → p (p x) ≡ x

-- no other arc has this end
elsewhere : (p : ℕ → ℕ) (n z x : ℕ) → Pairs n p → x < n → z ≢ x → (z ≡ p x → p x ≤ x) → end_term z x (p x) ≡ 0
elsewhere p n z x are within apart led = elim (cases_eq z (p x)) [
  | inl second ↦ end-not z x (p x) (led second)
  | inr third ↦ end-none z x (p x) apart third
]

alone-sum : (p : ℕ → ℕ) (n z : ℕ) → Pairs n p → z < n → z ≡ p z → (x : ℕ) → x < n → end_term z x (p x) ≡ 0
alone-sum p n z are within alone x below = elim (cases_eq z x) [
  | inl same ↦ end-not z x (p x) (omega (arith, same, alone, ap p same))
  | inr other ↦ elsewhere p n z x are below other (λ second. absurd (other (alone ∙ ap p second ∙ are.back x below)))
]

lesser-sum : (p : ℕ → ℕ) (n z : ℕ) → Pairs n p → z < n → z < p z → (x : ℕ) → x < n → x ≢ z → end_term z x (p x) ≡ 0
lesser-sum p n z are within less x below other =
    elsewhere p n z x are below (λ same. other (sym same))
    (λ second. let w : p z ≡ x = ap p second ∙ are.back x below in omega (arith, second, less, w))

greater-sum : (p : ℕ → ℕ) (n z : ℕ) → Pairs n p → z < n → p z < z → (x : ℕ) → x < n → x ≢ p z → end_term z x (p x) ≡ 0
greater-sum p n z are within less x below other = elim (cases_eq z x) [
  | inl same ↦ end-not z x (p x) (omega (arith, same, less, ap p same))
  | inr apart ↦ elsewhere p n z x are below apart (λ second. absurd (other (sym (ap p second ∙ are.back x below))))
]

ends-once : (p : ℕ → ℕ) (n z : ℕ) → Pairs n p → z < n
    → sum_by (λ x. end_term z x (p x)) (range_with_len 0 n) ≡ other_if z (p z)
ends-once p n z are within = elim (cases_order z (p z)) [
  | inl alone ↦
      sum_by-none (λ x. end_term z x (p x)) 0 n (λ x from below. alone-sum p n z are within alone x (omega (arith, below)))
      ∙ sym (ap (λ b. cond (not b) 1 0) (eq-eqb z (p z) alone))
  | inr apart ↦ elim apart [
    | inl less ↦
        sum_by-single (λ x. end_term z x (p x)) 0 n z (omega arith) (omega (arith, within))
        (λ x from below other. lesser-sum p n z are within less x (omega (arith, below)) other)
        ∙ end-first z z (p z) less refl ∙ sym (differ z (p z) (λ same. absurd (omega (arith, same, less))))
    | inr less ↦
        sum_by-single (λ x. end_term z x (p x)) 0 n (p z) (omega arith) (omega (arith, are.below z within))
        (λ x from below other. greater-sum p n z are within less x (omega (arith, below)) other)
        ∙ end-second z (p z) (p (p z)) (omega (arith, less, are.back z within)) (sym (are.back z within))
        ∙ sym (differ z (p z) (λ same. absurd (omega (arith, same, less))))
  ]
]
  where
    differ : (x y : ℕ) → x ≢ y → other_if x y ≡ 1
    differ x y apart = grind (arith, nat_tests)

ends-never : (p : ℕ → ℕ) (n z : ℕ) → Pairs n p → n ≤ z → sum_by (λ x. end_term z x (p x)) (range_with_len 0 n) ≡ 0
ends-never p n z are past =
    sum_by-none (λ x. end_term z x (p x)) 0 n
    (λ x from below.
    let within : x < n = omega (arith, below) in
    end-none z x (p x) (λ same. absurd (omega (arith, same, within, past)))
    (λ same. absurd (omega (arith, same, are.below x within, past))))

-- how often a number is an arc with a partner

arc-once : (p : ℕ → ℕ) (n z : ℕ) → z < n
    → sum_by (λ x. cond (not (nat_eq x (p x))) (one_if (nat_eq z x)) 0) (range_with_len 0 n) ≡ other_if z (p z)
arc-once p n z within =
    sum_by-single (λ x. cond (not (nat_eq x (p x))) (one_if (nat_eq z x)) 0) 0 n z (omega arith) (omega (arith, within))
    (λ x from below other. nothing (not (nat_eq x (p x))) x other)
    ∙ ap (λ b. cond (not (nat_eq z (p z))) (one_if b) 0) (eq-eqb z z refl)
  where
    nothing : (b : Bool) (x : ℕ) → x ≢ z → cond b (one_if (nat_eq z x)) 0 ≡ 0
    nothing true x other = grind (arith, nat_tests)
    nothing false x other = refl

arc-never : (p : ℕ → ℕ) (n z : ℕ) → n ≤ z
    → sum_by (λ x. cond (not (nat_eq x (p x))) (one_if (nat_eq z x)) 0) (range_with_len 0 n) ≡ 0
arc-never p n z past =
    sum_by-none (λ x. cond (not (nat_eq x (p x))) (one_if (nat_eq z x)) 0) 0 n
    (λ x from below. nothing (not (nat_eq x (p x))) x (λ same. absurd (omega (arith, same, below, past))))
  where
    nothing : (b : Bool) (x : ℕ) → x ≢ z → cond b (one_if (nat_eq z x)) 0 ≡ 0
    nothing true x other = grind (arith, nat_tests)
    nothing false x other = refl

sums-agree : (p : ℕ → ℕ) (n z : ℕ) → Pairs n p
    → (sum_by (λ x. cond (not (nat_eq x (p x))) (one_if (nat_eq z x)) 0) (range_with_len 0 n)
    ≡ sum_by (λ x. end_term z x (p x)) (range_with_len 0 n))
    × (sum_by (λ x. end_term z x (p x)) (range_with_len 0 n) ≤ 1)
sums-agree p n z are = elim (cases_lt z n) [
  | inl within ↦
      let e = ends-once p n z are within in
      (arc-once p n z within ∙ sym e, omega (arith, e, most (not (nat_eq z (p z)))))
  | inr past ↦
      let e = ends-never p n z are past in
      (arc-never p n z past ∙ sym e, omega (arith, e))
]
  where
    most : (b : Bool) → one_if b ≤ 1
    most true = omega arith
    most false = omega arith

-- so partners pair these arcs
pub paired : (partners : List ℕ) → ArePartners partners
    → IsOpenPairing (opened_points (paired_arcs partners)) (joins_of partners (paired_arcs partners))
paired partners are =
    let p = slice_index partners in
    let pairs : Pairs POINTS p = record { below = are.below; back = are.back } in
    let ends = ends_of (joins_of partners (paired_arcs partners)) in
    record {
      ends = permuted (paired_arcs partners) ends
          (λ z.
          sum_by-filter (λ x. one_if (nat_eq z x)) (is_paired partners) (range_with_len 0 POINTS)
          ∙ (sums-agree p POINTS z pairs).0 ∙ sym (ends-counted partners z));
      once = λ z. omega (arith, ends-counted partners z, (sums-agree p POINTS z pairs).1);
    }

-- their pairs are among them

filter-facts : (P : ℕ → Type 0) (q : ℕ → Bool) (xs : List ℕ) → AllByRecursion P xs → AllByRecursion (λ x. P x × (q x ≡ true)) (filter q xs)
filter-facts P q [] all = tt
filter-facts P q (x ∷ xs) all = here (q x) refl (filter-facts P q xs all.1)
  where
    here : (b : Bool) → q x ≡ b → AllByRecursion (λ x. P x × (q x ≡ true)) (filter q xs)
        → AllByRecursion (λ x. P x × (q x ≡ true)) (cond b (x ∷ filter q xs) (filter q xs))
    here true passes later = ((all.0, passes), later)
    here false passes later = later

range-below : (a n m : ℕ) → a + n ≤ m → AllByRecursion (λ x. x < m) (range_with_len a n)
range-below a zero m within = tt
range-below a (suc n) m within = (omega (arith, within), range-below (a + 1) n m (omega (arith, within)))

abbrev paired_in : (ℕ → ℕ) → ℕ → List ℕ
paired_in p n = filter (λ x. not (nat_eq x (p x))) (range_with_len 0 n)

opened-in : (p : ℕ → ℕ) (n : ℕ) → AllByRecursion (λ x. x < n) (paired_in p n)
opened-in p n = AllByRecursion-filter (λ x. x < n) (λ x. not (nat_eq x (p x))) (range_with_len 0 n) (range-below 0 n n (omega arith))

partner-in : (p : ℕ → ℕ) (n x : ℕ) → Pairs n p → Contains (paired_in p n) x → Contains (paired_in p n) (p x)
partner-in p n x are has =
    let q : ℕ → Bool = λ x. not (nat_eq x (p x)) in
    let facts = AllByRecursion-at (λ x. (x < n) × (q x ≡ true)) (paired_in p n) x
    (filter-facts (λ x. x < n) q (range_with_len 0 n) (range-below 0 n n (omega arith))) has in
    Contains-filter q (range_with_len 0 n) (p x)
    (turned x (p x) (p (p x)) facts.1 (are.back x facts.0)) (in-range n (p x) (are.below x facts.0))
  where
    turned : (x y z : ℕ) → not (nat_eq x y) ≡ true → z ≡ x → not (nat_eq y z) ≡ true
    turned x y z apart same = grind (arith, nat_tests)

    in-range : (n y : ℕ) → y < n → Contains (range_with_len 0 n) y
    in-range n y below = (y, omega (arith, below, length-range_with_len 0 n), get_or-range_with_len 0 n y y below ∙ zero_plus y)
      where
        zero_plus : (x : ℕ) → 0 + x ≡ x
        zero_plus x = omega arith

pub paired-room : (partners : List ℕ) → length (paired_arcs partners) ≤ POINTS
paired-room partners = few (slice_index partners) POINTS
  where
    few : (p : ℕ → ℕ) (n : ℕ) → length (paired_in p n) ≤ n
    few p n =
        let q : ℕ → Bool = λ x. not (nat_eq x (p x)) in
        let xs = range_with_len 0 n in
        omega (arith, length-filter q xs, count_by-le-length q xs, length-range_with_len 0 n)

pub paired-opened : (partners : List ℕ) → IsOpened (paired_arcs partners)
paired-opened partners = opened-in (slice_index partners) POINTS

pub paired-among : (partners : List ℕ) → ArePartners partners → AreAmong (paired_arcs partners) (joins_of partners (paired_arcs partners))
paired-among partners are =
    let p = slice_index partners in
    let opened = paired_arcs partners in
    let pairs : Pairs POINTS p = record { below = are.below; back = are.back } in
    AllByRecursion-map (λ pair. Contains opened pair.0 × Contains opened pair.1) (with_partner partners) (filter (leads partners) opened)
    (AllByRecursion-filter (λ x. Contains opened x × Contains opened (p x)) (leads partners) opened
    (AllByRecursion-weaker (λ x. Contains opened x) (λ x. Contains opened x × Contains opened (p x)) opened
    (λ x has. (has, partner-in p POINTS x pairs has)) (all-themselves opened)))

pub paired-placed : (partners : List ℕ) → ArePlaced (opened_points (paired_arcs partners))
paired-placed partners = record { alive = paired-opened partners; opened = all-themselves (paired_arcs partners) }
