-- The dot sets that are chosen are those that leave so many discs of each component without a dot, each once. A dot set is a
-- number; its bits say which discs are dotted. The proof is by induction on the discs. An odd number has a dot on the first disc,
-- and is counted as its half is for the other discs. An even one has none there: that is chosen only while a disc of that
-- component may be left, and then its half must leave one fewer. So a number is counted once where it leaves as many as it
-- should, and else not at all. Then: all that is chosen are dot sets of the discs; and the discs without a dot can also be
-- counted by their places in the list.
use Rattle.std.proofs.Common.{◌≡◌, ◌≢◌, ℕ, zero, suc, ◌⊎◌, inl, inr, ◌+◌, ◌-◌, ◌*◌, ◌/◌, ◌%◌, ◌^◌, ◌<◌, ◌∙◌, List, [], ◌∷◌, map, length, refl, sym, ap, ap₂, arith, Bool, true, false, cond, ◌&&◌, eq-eqb}
use Rattle.std.specs.Prelude.{nat_eq}
use Rattle.std.specs.List.{list_all, count_by, sum_by, enumerate_from, AllByRecursion, Contains}
use Rattle.std.proofs.Math.Nat.{pow-suc}
use Rattle.std.proofs.lemmas.Bool.{cases_eq, ne_eqb}
use Rattle.std.proofs.lemmas.Bool.Decides.{nat_tests}
use Rattle.std.proofs.lemmas.Nat.{shr-shr}
use Rattle.std.proofs.lemmas.List.Sums.{sum_by-cons, sum_by-append}
use Rattle.kh_types.specs.Bits.{bit}
use Rattle.kh_types.proofs.ListSums.{sum_by-map, sum_by-alike, sum_by-zeros}
use Rattle.kh_types.proofs.Lists.{AllByRecursion-append}
use Rattle.surface_laws.proofs.TwoSides.{AllByRecursion-map}
use Rattle.surface_laws.proofs.Components.{AllByRecursion-weaker}
use Rattle.dotted_maps.specs.Choices.{choices, fewer}
use Rattle.kh_types.proofs.Tests.{nat_eq-turned, nat_eq-iff}

-- how many of the discs of a component are not dotted
abbrev pub zeros : List ℕ → ℕ → ℕ → ℕ
zeros [] component number = 0
zeros (k ∷ ks) component number = cond (nat_eq k component) (1 - bit number 0) 0 + zeros ks component (number / 2)

abbrev one_if : Bool → ℕ
one_if b = cond b 1 0

abbrev pub leaves : List ℕ → List ℕ → (ℕ → ℕ) → ℕ → Bool
leaves names ks left number = list_all (λ k. nat_eq (zeros ks k number) (left k)) names

abbrev is_one : ℕ → ℕ → ℕ
is_one x y = one_if (nat_eq x y)

all-alike : (p q : ℕ → Bool) (xs : List ℕ) → ((x : ℕ) → p x ≡ q x) → list_all p xs ≡ list_all q xs
all-alike p q [] alike = refl
all-alike p q (x ∷ xs) alike = ap₂ (λ a b. a && b) (alike x) (all-alike p q xs alike)

not-all : (p : ℕ → Bool) (xs : List ℕ) (x : ℕ) → Contains xs x → p x ≡ false → list_all p xs ≡ false
not-all p [] x (k, below, is) fails = absurd (omega (arith, below))
not-all p (y ∷ xs) x (zero, below, is) fails = ap (λ b. b && list_all p xs) (ap p is ∙ fails)
not-all p (y ∷ xs) x (suc k, below, is) fails =
    ap (λ b. p y && b) (not-all p xs x (k, omega (arith, below), is) fails) ∙ and-false (p y)
  where
    and-false : (b : Bool) → (b && false) ≡ false
    and-false true = refl
    and-false false = refl

pub halved : (s : ℕ) → (s ≡ 2 * (s / 2)) ⊎ (s ≡ 1 + 2 * (s / 2))
halved s = elim (cases_eq (s % 2) 0) [ inl even ↦ inl (omega (arith, even)) | inr odd ↦ inr (omega (arith, odd)) ]

pub even-bit : (s : ℕ) → s ≡ 2 * (s / 2) → bit s 0 ≡ 0
even-bit s even = omega (arith, even)

pub odd-bit : (s : ℕ) → s ≡ 1 + 2 * (s / 2) → bit s 0 ≡ 1
odd-bit s odd = omega (arith, odd)

-- counts of doubled numbers

pub count-odd : (s : ℕ) (xs : List ℕ) → s ≡ 1 + 2 * (s / 2) → count_by (nat_eq s) (map (λ x. 1 + 2 * x) xs) ≡ count_by (nat_eq (s / 2)) xs
count-odd s xs odd =
    sum_by-map (is_one s) (λ x. 1 + 2 * x) xs
    ∙ sum_by-alike (λ x. is_one s (1 + 2 * x)) (is_one (s / 2))
    (λ x. ap one_if (nat_eq-iff s (1 + 2 * x) (s / 2) x (λ same. omega (arith, same)) (λ same. omega (arith, odd, same)))) xs

pub count-odd_none : (s : ℕ) (xs : List ℕ) → s ≡ 2 * (s / 2) → count_by (nat_eq s) (map (λ x. 1 + 2 * x) xs) ≡ 0
count-odd_none s xs even =
    sum_by-map (is_one s) (λ x. 1 + 2 * x) xs
    ∙ sum_by-zeros (λ x. is_one s (1 + 2 * x)) xs
    (λ x. ap one_if (ne_eqb s (1 + 2 * x) (λ same. absurd (omega (arith, even, same)))))

pub count-even : (s : ℕ) (xs : List ℕ) → s ≡ 2 * (s / 2) → count_by (nat_eq s) (map (λ x. 2 * x) xs) ≡ count_by (nat_eq (s / 2)) xs
count-even s xs even =
    sum_by-map (is_one s) (λ x. 2 * x) xs
    ∙ sum_by-alike (λ x. is_one s (2 * x)) (is_one (s / 2))
    (λ x. ap one_if (nat_eq-iff s (2 * x) (s / 2) x (λ same. omega (arith, same)) (λ same. omega (arith, even, same)))) xs

pub count-even_none : (s : ℕ) (xs : List ℕ) → s ≡ 1 + 2 * (s / 2) → count_by (nat_eq s) (map (λ x. 2 * x) xs) ≡ 0
count-even_none s xs odd =
    sum_by-map (is_one s) (λ x. 2 * x) xs
    ∙ sum_by-zeros (λ x. is_one s (2 * x)) xs
    (λ x. ap one_if (ne_eqb s (2 * x) (λ same. absurd (omega (arith, odd, same)))))

-- with no disc left
pub none-left : (b : Bool) (s : ℕ) → s ≡ 0 → count_by (nat_eq s) (cond b (0 ∷ []) []) ≡ one_if b
none-left true s is = ap (λ n. count_by (nat_eq n) (0 ∷ [])) is
none-left false s is = refl

-- with one disc more
odd-zeros : (k component b z : ℕ) → b ≡ 1 → cond (nat_eq k component) (1 - b) 0 + z ≡ z
odd-zeros k component b z is = grind (arith, nat_tests)

even-zeros : (k component b z left : ℕ) (other : ℕ) → b ≡ 0 → (component ≡ k → left ≡ other) → other ≢ 0
    → nat_eq (cond (nat_eq k component) (1 - b) 0 + z) left ≡ nat_eq z (cond (nat_eq component k) (left - 1) left)
even-zeros k component b z left other is same some = grind (arith, nat_tests)

even-more : (k b z left : ℕ) → b ≡ 0 → left ≡ 0 → nat_eq (cond (nat_eq k k) (1 - b) 0 + z) left ≡ false
even-more k b z left is none = grind (arith, nat_tests)

abbrev Chosen : List ℕ → List ℕ → (ℕ → ℕ) → ℕ → Type 0
Chosen names ks left s = count_by (nat_eq s) (choices names ks left) ≡ one_if (leaves names ks left s)

abbrev even_part : List ℕ → ℕ → List ℕ → (ℕ → ℕ) → Bool → List ℕ
even_part names k ks left b = cond b [] (map (λ x. 2 * x) (choices names ks (fewer k left)))

odd-step : (names : List ℕ) (k : ℕ) (ks : List ℕ) (left : ℕ → ℕ) (s : ℕ) → s ≡ 1 + 2 * (s / 2) → Chosen names ks left (s / 2)
    → Chosen names (k ∷ ks) left s
odd-step names k ks left s odd later =
    sum_by-append (is_one s) (map (λ x. 1 + 2 * x) (choices names ks left)) (even_part names k ks left (nat_eq (left k) 0))
    ∙ ap₂ (λ x y. x + y) (count-odd s (choices names ks left) odd ∙ later) (none (nat_eq (left k) 0) refl)
    ∙ plus_zero (one_if (leaves names ks left (s / 2)))
    ∙ ap one_if (sym (all-alike (λ c. nat_eq (zeros (k ∷ ks) c s) (left c)) (λ c. nat_eq (zeros ks c (s / 2)) (left c)) names
    (λ c. ap (λ z. nat_eq z (left c)) (odd-zeros k c (bit s 0) (zeros ks c (s / 2)) (odd-bit s odd)))))
  where
    plus_zero : (x : ℕ) → x + 0 ≡ x
    plus_zero x = omega arith

    none : (b : Bool) → b ≡ b → count_by (nat_eq s) (even_part names k ks left b) ≡ 0
    none true same = refl
    none false same = count-even_none s (choices names ks (fewer k left)) odd

even-step : (names : List ℕ) (k : ℕ) (ks : List ℕ) (left : ℕ → ℕ) (s : ℕ) → s ≡ 2 * (s / 2) → Contains names k
    → Chosen names ks (fewer k left) (s / 2) → Chosen names (k ∷ ks) left s
even-step names k ks left s even has later =
    sum_by-append (is_one s) (map (λ x. 1 + 2 * x) (choices names ks left)) (even_part names k ks left (nat_eq (left k) 0))
    ∙ ap (λ z. z + count_by (nat_eq s) (even_part names k ks left (nat_eq (left k) 0)))
    (count-odd_none s (choices names ks left) even)
    ∙ zero_plus (count_by (nat_eq s) (even_part names k ks left (nat_eq (left k) 0)))
    ∙ elim (cases_eq (left k) 0) [
      | inl none ↦
          ap (λ b. count_by (nat_eq s) (even_part names k ks left b)) (eq-eqb (left k) 0 none)
          ∙ ap one_if (sym (not-all (λ c. nat_eq (zeros (k ∷ ks) c s) (left c)) names k has
          (even-more k (bit s 0) (zeros ks k (s / 2)) (left k) (even-bit s even) none)))
      | inr some ↦
          ap (λ b. count_by (nat_eq s) (even_part names k ks left b)) (ne_eqb (left k) 0 some)
          ∙ count-even s (choices names ks (fewer k left)) even ∙ later
          ∙ ap one_if (sym (all-alike (λ c. nat_eq (zeros (k ∷ ks) c s) (left c))
          (λ c. nat_eq (zeros ks c (s / 2)) (fewer k left c)) names
          (λ c. even-zeros k c (bit s 0) (zeros ks c (s / 2)) (left c) (left k) (even-bit s even) (λ same. ap left same) some)))
    ]
  where
    zero_plus : (x : ℕ) → 0 + x ≡ x
    zero_plus x = omega arith

pub choices-counted : (names ks : List ℕ) (left : ℕ → ℕ) (s : ℕ) → AllByRecursion (λ k. Contains names k) ks → s < 2 ^ length ks
    → Chosen names ks left s
choices-counted names [] left s there below =
    none-left (list_all (λ k. nat_eq (left k) 0) names) s (omega (arith, below))
    ∙ ap one_if (all-alike (λ k. nat_eq (left k) 0) (λ k. nat_eq 0 (left k)) names (λ k. nat_eq-turned (left k) 0))
choices-counted names (k ∷ ks) left s there below =
    let half : s / 2 < 2 ^ length ks = omega (arith, below, pow-suc 2 (length ks)) in
    elim (halved s) [
      | inl even ↦ even-step names k ks left s even there.0 (choices-counted names ks (fewer k left) (s / 2) there.1 half)
      | inr odd ↦ odd-step names k ks left s odd (choices-counted names ks left (s / 2) there.1 half)
    ]

-- and they are dot sets of discs

pub all-maps : (n m : ℕ) (f : ℕ → ℕ) (xs : List ℕ) → ((x : ℕ) → x < n → f x < m) → AllByRecursion (λ x. x < n) xs
    → AllByRecursion (λ x. x < m) (map f xs)
all-maps n m f xs onward all =
    AllByRecursion-map (λ x. x < m) f xs (AllByRecursion-weaker (λ x. x < n) (λ x. f x < m) xs onward all)

pub choices-below : (names ks : List ℕ) (left : ℕ → ℕ) → AllByRecursion (λ s. s < 2 ^ length ks) (choices names ks left)
choices-below names [] left = first (list_all (λ k. nat_eq (left k) 0) names)
  where
    first : (b : Bool) → AllByRecursion (λ s. s < 2 ^ 0) (cond b (0 ∷ []) [])
    first true = (omega arith, tt)
    first false = tt
choices-below names (k ∷ ks) left =
    let n = 2 ^ length ks in
    let m = 2 ^ length (k ∷ ks) in
    let twice : 2 ^ length (k ∷ ks) ≡ 2 ^ length ks * 2 = pow-suc 2 (length ks) in
    let evens = all-maps n m (λ x. 2 * x) (choices names ks (fewer k left)) (λ x below. omega (arith, below, twice))
    (choices-below names ks (fewer k left)) in
    AllByRecursion-append (λ s. s < m) (map (λ x. 1 + 2 * x) (choices names ks left))
    (even_part names k ks left (nat_eq (left k) 0))
    (all-maps n m (λ x. 1 + 2 * x) (choices names ks left) (λ x below. omega (arith, below, twice)) (choices-below names ks left))
    (elim (nat_eq (left k) 0) as (λ b. AllByRecursion (λ s. s < m) (even_part names k ks left b)) [ true ↦ tt | false ↦ evens ])

-- by the places of discs
pub undotted-zeros : (f : ℕ → ℕ) (ds : List ℕ) (component number j : ℕ)
    → sum_by (λ at. cond (nat_eq (f at.1) component) (1 - bit number at.0) 0) (enumerate_from j ds)
    ≡ zeros (map f ds) component (number / 2 ^ j)
undotted-zeros f [] component number j = refl
undotted-zeros f (d ∷ ds) component number j =
    sum_by-cons (λ at. cond (nat_eq (f at.1) component) (1 - bit number at.0) 0) (j, d) (enumerate_from (j + 1) ds)
    ∙ ap₂ (λ b z. cond (nat_eq (f d) component) (1 - b) 0 + z) (first-bit (number / 2 ^ j))
    (undotted-zeros f ds component number (j + 1) ∙ ap (λ n. zeros (map f ds) component n) (sym (shr-shr number j 1)))
  where
    first-bit : (n : ℕ) → n % 2 ≡ bit n 0
    first-bit n = omega arith
