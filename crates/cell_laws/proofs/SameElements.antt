-- Lists of numbers without doubles: how often a number stands in a list, and lists that have the same elements because each function has
-- the same sum over both.
use Rattle.std.proofs.lemmas.Bool.Decides.{nat_tests}
use Rattle.std.proofs.Common.{◌≡◌, ◌≢◌, ℕ, zero, suc, inl, inr, ◌<◌, ◌≤◌, ◌∙◌, List, [], ◌∷◌, length, get_or, refl, sym, ap, arith, Bool, cond}
use Rattle.std.specs.Prelude.{nat_eq}
use Rattle.std.specs.List.{Contains, sum_by}
use Rattle.std.proofs.lemmas.Bool.{cases_eq, cases_lt, eq-eqb, ne_eqb}
use Rattle.std.proofs.lemmas.List.{get_or_default}
use Rattle.std.proofs.lemmas.List.Sums.{sum_by-cons}
use Rattle.cell_laws.specs.Alike.{HasNoDoubles}
use Rattle.cell_laws.proofs.Members.{Contains-cases, sum_by-term}
use Rattle.cell_laws.proofs.NoDoubles.{once-later}

-- 1 for a number, and 0 for others
abbrev pub is : ℕ → ℕ → ℕ
is z y = cond (nat_eq y z) 1 0

abbrev one : Bool → ℕ
one b = cond b 1 0

pub hit : (y z : ℕ) → y ≡ z → is z y ≡ 1
hit y z same = ap one (eq-eqb y z same)

pub miss : (y z : ℕ) → y ≢ z → is z y ≡ 0
miss y z other = ap one (ne_eqb y z other)

-- how often a number stands in a list
abbrev pub counted : ℕ → List ℕ → ℕ
counted z xs = sum_by (is z) xs

pub counted-once : (zs : List ℕ) (z : ℕ) → Contains zs z → 1 ≤ counted z zs
counted-once [] z has = absurd (omega (arith, has.1))
counted-once (y ∷ zs) z has = elim (Contains-cases y z zs has) [
  | inl here ↦ omega (arith, sum_by-cons (is z) y zs, hit y z here)
  | inr later ↦ omega (arith, sum_by-cons (is z) y zs, counted-once zs z later)
]

pub some-there : (zs : List ℕ) (z : ℕ) → 1 ≤ counted z zs → Contains zs z
some-there zs z some = grind (arith, nat_tests, sum_by-term, cases_eq, miss)

-- an element twice is counted twice
counted-twice : (zs : List ℕ) (k l z : ℕ) → k < l → l < length zs → get_or zs k 0 ≡ z → get_or zs l 0 ≡ z → 2 ≤ counted z zs
counted-twice [] k l z less below first second = absurd (omega (arith, below))
counted-twice (y ∷ zs) k zero z less below first second = absurd (omega (arith, less))
counted-twice (y ∷ zs) zero (suc l) z less below first second =
    omega (
      arith,
      sum_by-cons (is z) y zs,
      hit y z first,
      counted-once zs z (l, omega (arith, below), get_or_default zs l z 0 (omega (arith, below)) ∙ second),
    )
counted-twice (y ∷ zs) (suc k) (suc l) z less below first second =
    grind (arith, nat_tests, sum_by-cons (is z) y zs, counted-twice zs k l z (omega (arith, less)) (omega (arith, below)) first second)

-- and what stands once is counted at most once
pub counted-most : (zs : List ℕ) (z : ℕ) → HasNoDoubles zs → counted z zs ≤ 1
counted-most [] z none = omega arith
counted-most (y ∷ zs) z none = elim (cases_eq y z) [
  | inr other ↦ omega (arith, sum_by-cons (is z) y zs, miss y z other, counted-most zs z (once-later y zs none))
  | inl same ↦ elim (cases_lt 0 (counted z zs)) [
    | inl some ↦
        let has = some-there zs z some in absurd (none 0 (suc has.0) z (omega arith) (omega (arith, has.1)) (same ∙ sym has.2))
    | inr none_there ↦ omega (arith, sum_by-cons (is z) y zs, hit y z same, none_there)
  ]
]

-- two lists without doubles that have the same elements
pub record AreSame (xs ys : List ℕ) : Type 0 where
  pub first_once : HasNoDoubles xs
  pub second_once : HasNoDoubles ys
  pub there : (z : ℕ) → Contains xs z → Contains ys z
  pub back : (z : ℕ) → Contains ys z → Contains xs z

pub same-turned : (xs ys : List ℕ) → AreSame xs ys → AreSame ys xs
same-turned xs ys same = grind (arith, nat_tests)

pub same-sums : (xs ys : List ℕ) → HasNoDoubles xs → ((h : ℕ → ℕ) → sum_by h ys ≡ sum_by h xs) → AreSame xs ys
same-sums xs ys once sums =
    record {
      first_once = once;
      second_once = ys-once;
      there = λ z has. some-there ys z (omega (arith, sums (is z), counted-once xs z has));
      back = λ z has. some-there xs z (omega (arith, sums (is z), counted-once ys z has));
    }
  where
    ys-once : HasNoDoubles ys
    ys-once k l d less below same =
        let k_below : k < length ys = omega (arith, less, below) in
        let z = get_or ys l 0 in
        let first : get_or ys k 0 ≡ z = get_or_default ys k 0 d k_below ∙ same ∙ get_or_default ys l d 0 below in
        omega (arith, counted-twice ys k l z less below first refl, sums (is z), counted-most xs z once)
