-- Labels of circles, as those of the circles that are closed and those of the circles that are left.
use Rattle.std.proofs.lemmas.Bool.Decides.{nat_tests}
use Rattle.std.proofs.Common.{◌≡◌, ℕ, ◌+◌, ◌*◌, ◌/◌, ◌%◌, ◌^◌, ◌<◌, ◌≤◌, ◌∙◌, List, [], ◌∷◌, ◌++◌, length, map, refl, sym, subst, ap, ap₂, arith}
use Rattle.std.specs.List.{sum_by}
use Rattle.std.proofs.Math.Nat.{add-mul-div_left, add-mul-mod_self_left, div-eq_of_lt, mod-eq_of_lt, mul-le-mul_left}
use Rattle.std.proofs.lemmas.List.{length-append, length-map, map-append}
use Rattle.std.proofs.lemmas.List.Sums.{sum_by-append, sum_by-cons}
use Rattle.std.proofs.lemmas.Nat.{pow-add}
use Rattle.kh_types.specs.Bits.{ones}
use Rattle.kh_types.proofs.ListSums.{sum_by-map}
use Rattle.square_laws.proofs.LabelNumbers.{number_from}
use Rattle.cell_laws.specs.Alike.{HasNoDoubles}
use Rattle.cell_laws.proofs.NoDoubles.{map-map}
use Rattle.cell_laws.proofs.Labels.{mark, number-append, number-below, ones-map, ones-marks, place, relabelled, relabelled-back}
use Rattle.cell_laws.proofs.SameElements.{AreSame, same-sums, same-turned}
use Rattle.kh_types.proofs.QuantumDegrees.{bit-le}

-- a number by its remainder and its quotient
parts-same : (q a b c d : ℕ) → a < q → c < q → a + q * b ≡ c + q * d → (a ≡ c) × (b ≡ d)
parts-same q a b c d a_below c_below same = (
  sym (low a b a_below) ∙ ap (λ n. n % q) same ∙ low c d c_below,
  sym (high a b a_below) ∙ ap (λ n. n / q) same ∙ high c d c_below,
)
  where
    low : (x y : ℕ) → x < q → (x + q * y) % q ≡ x
    low x y below = add-mul-mod_self_left x q y ∙ mod-eq_of_lt below

    high : (x y : ℕ) → x < q → (x + q * y) / q ≡ y
    high x y below = add-mul-div_left x y (omega (arith, below)) ∙ ap (λ n. n + y) (div-eq_of_lt below) ∙ omega arith

pub length-sum : (xs : List ℕ) → sum_by (λ x. 1) xs ≡ length xs
length-sum [] = refl
length-sum (x ∷ xs) = sum_by-cons (λ y. 1) x xs ∙ omega (arith, length-sum xs)

-- the label of some points, each by its circle
abbrev pub part : List ℕ → (ℕ → ℕ) → List ℕ → ℕ → ℕ
part names class xs label = number_from (map (λ x. mark names label (class x)) xs)

-- the label of all circles, from those of two parts
abbrev pub whole : List ℕ → (ℕ → ℕ) → List ℕ → List ℕ → ℕ → ℕ → ℕ
whole names class first second closed rest =
    relabelled (map class (first ++ second)) names (closed + 2 ^ length first * rest)

-- some names are the circles of two parts, each once
pub record AreParts (names : List ℕ) (class : ℕ → ℕ) (first second : List ℕ) : Type 0 where
  pub once : HasNoDoubles names
  pub sums : (h : ℕ → ℕ) → sum_by (λ x. h (class x)) second + sum_by (λ x. h (class x)) first ≡ sum_by h names

pub part-below : (names : List ℕ) (class : ℕ → ℕ) (xs : List ℕ) (label : ℕ) → part names class xs label < 2 ^ length xs
part-below names class xs label = number-below (λ x. mark names label (class x)) xs (λ x. bit-le label (place (class x) names))

module _ {names : List ℕ} {class : ℕ → ℕ} {first second : List ℕ} (parts : AreParts names class first second) where
  abbrev both : List ℕ
  both = map class (first ++ second)

  turned : (a b : ℕ) → a + b ≡ b + a
  turned a b = omega arith

  pub both-same : AreSame names both
  both-same =
      same-sums names both parts.once
      (λ h. sum_by-map h class (first ++ second) ∙ sum_by-append (λ x. h (class x)) first second
      ∙ turned (sum_by (λ x. h (class x)) first) (sum_by (λ x. h (class x)) second) ∙ parts.sums h)

  pub counts : length first + length second ≡ length names
  counts = grind (arith, nat_tests, length-sum first, length-sum names, length-sum second)

  pub whole-below : (closed rest : ℕ) → whole names class first second closed rest < 2 ^ length names
  whole-below closed rest = grind (arith, nat_tests, number-below, mark, bit-le, place)

  -- both parts are the label of all
  parts-relabelled : (label : ℕ)
      → relabelled names both label ≡ part names class first label + 2 ^ length first * part names class second label
  parts-relabelled label = grind (arith, nat_tests, mark, number_from, map-map, map-append, number-append, length-map)

  pub whole-parts : (label : ℕ) → label < 2 ^ length names
      → whole names class first second (part names class first label) (part names class second label) ≡ label
  whole-parts label below =
      ap (relabelled both names) (sym (parts-relabelled label)) ∙ relabelled-back names both label both-same below

  pub parts-whole : (closed rest : ℕ) → closed < 2 ^ length first → rest < 2 ^ length second
      → (part names class first (whole names class first second closed rest) ≡ closed)
      × (part names class second (whole names class first second closed rest) ≡ rest)
  parts-whole closed rest closed_below rest_below =
      let label = whole names class first second closed rest in
      let power : 2 ^ length both ≡ 2 ^ length first * 2 ^ length second =
      ap (λ n. 2 ^ n) (length-map (first ++ second) class ∙ length-append first second) ∙ pow-add 2 (length first) (length second) in
      let small : closed + 2 ^ length first * rest < 2 ^ length both =
      subst (λ (n : ℕ). closed + 2 ^ length first * rest < n) (sym power)
      (within closed rest (2 ^ length first) (2 ^ length second) closed_below rest_below) in
      parts-same (2 ^ length first) (part names class first label) (part names class second label) closed rest
      (part-below names class first label) closed_below
      (sym (parts-relabelled label)
      ∙ relabelled-back both names (closed + 2 ^ length first * rest) (same-turned names both both-same) small)
    where
      within : (a b q n : ℕ) → a < q → b < n → a + q * b < q * n
      within a b q n a_below b_below =
          let step : q * (b + 1) ≤ q * n = mul-le-mul_left q (omega (arith, b_below)) in omega (arith, a_below, step, spread q b)
        where
          spread : (q b : ℕ) → q * (b + 1) ≡ q * b + q
          spread q b = omega arith

  pub ones-parts : (label : ℕ)
      → ones (length first) (part names class first label) + ones (length second) (part names class second label)
      ≡ ones (length names) label
  ones-parts label =
      let f = λ (x : ℕ). mark names label (class x) in
      let small : (x : ℕ) → f x ≤ 1 = λ x. bit-le label (place (class x) names) in
      ap₂ (λ m n. m + n) (ones-map f first small) (ones-map f second small)
      ∙ turned (sum_by f first) (sum_by f second)
      ∙ parts.sums (mark names label)
      ∙ sym (ones-marks names label parts.once)
