-- What s_min and s_max are: from s_min on, and from no greater quantum degree on, all classes of degree 0 survive; from s_max on some do,
-- and beyond it none.
use Rattle.std.proofs.Common.{◌≡◌, ◌≢◌, ℕ, ◌⊎◌, inl, inr, zero, suc, ◌+◌, ◌-◌, ◌*◌, ◌<◌, ◌≤◌, ◌∙◌, ℤ, pos, negsuc, ◌+ℤ◌, ◌-ℤ◌, List, length, get_or, refl, sym, subst, ap, arith, Bool, true, false, IsTrue}
use Rattle.std.specs.Prelude.{◌<ℤ◌, ◌≤ℤ◌, nat_lt}
use Rattle.std.proofs.lemmas.Bool.{cases_lt, le-ltb, lt-ltb}
use Rattle.std.proofs.lemmas.Int.{ints}
use Rattle.kh_types.specs.Acceptance.{accepted}
use Rattle.kh_types.specs.Code.{Code}
use Rattle.kh_types.specs.Directions.{minus_count, plus_count}
use Rattle.kh_types.specs.Generators.{Generator, quantum_degree}
use Rattle.kh_types.specs.Residues.{HasInverses}
use Rattle.kh_types.specs.Table.{IsWithin}
use Rattle.kh_types.proofs.AcceptedLemmas.{IsAccepted-is}
use Rattle.kh_types.proofs.QuantumDegrees.{IsWithin-place, place-IsWithin, quantum_degree-accepted, within_or_not}
use Rattle.cell_laws.specs.Cells.{Cells}
use Rattle.cell_laws.specs.DeformedCubes.{deformed_cube_of}
use Rattle.cell_laws.specs.Filtered.{AreFiltered}
use Rattle.cell_laws.proofs.Ends.{survivors-above, survivors-all}
use Rattle.cell_laws.proofs.FilteredCubes.{AreFiltered-cube}
use Rattle.cell_laws.proofs.Reductions.{survivors-fall}
use Rattle.layer_laws.proofs.Reorderings.{at_odds}
use Rattle.link_laws.specs.CodeSurvivors.{code_survivors}
use Rattle.link_laws.specs.LastPages.{deformed_count, greatest_degree, lasting_of, s_max, s_min}
use Rattle.link_laws.proofs.Passing.{IsFirstOf, IsLastOf, NonePasses, first-passing, last-passing, passing-none}
use Rattle.link_laws.proofs.Tables.{from_place}

-- how far one integer lies above another
above : (t u : ℤ) → t ≤ℤ u → (k : ℕ) × (u ≡ t +ℤ pos k)
above t u upward = by (u -ℤ t) refl
  where
    by : (d : ℤ) → u -ℤ t ≡ d → (k : ℕ) × (u ≡ t +ℤ pos k)
    by (pos k) is = (k, omega (arith, ints, is))
    by (negsuc k) is = absurd (omega (arith, ints, is, upward))

-- an integer that is not from -n to n lies beyond n, or before -n
beyond : (n : ℕ) (j : ℤ) → (IsWithin n j → ⊥) → (pos n <ℤ j) ⊎ ((j +ℤ pos 1) ≤ℤ (pos 0 -ℤ pos n))
beyond n (pos m) outside = elim (cases_lt n m) [
  | inl past ↦ inl (omega (arith, ints, past))
  | inr small ↦ absurd (outside (IsWithin-place n (m + n) (pos m) (omega (arith, small)) (omega (arith, ints))))
]
beyond n (negsuc m) outside = elim (cases_lt m n) [
  | inl small ↦ absurd (outside (IsWithin-place n (n - suc m) (negsuc m) (omega arith) (omega (arith, ints, small))))
  | inr past ↦ inr (omega (arith, ints, past))
]

module _ (p : ℕ) (code : Code) (field : HasInverses p) (holds : IsTrue (accepted code)) where
  abbrev cells : Cells Generator
  cells = deformed_cube_of p 1 code (plus_count code.crossings) (minus_count code.crossings)

  abbrev bound : ℕ
  bound = greatest_degree code

  filtered : AreFiltered p cells
  filtered = AreFiltered-cube p 1 code (plus_count code.crossings) (minus_count code.crossings) (omega (arith, field.above_one)) holds

  -- the quantum degrees of the cube
  within : (x : Generator) → (cells.quantum x ≤ℤ pos bound) × ((pos 0 -ℤ pos bound) ≤ℤ cells.quantum x)
  within x =
      let place = place-IsWithin bound (quantum_degree code x) (quantum_degree-accepted code x ((IsAccepted-is code).0 holds)) in
      (omega (arith, ints, place.1, place.2), omega (arith, ints, place.1, place.2))

  past : (i t : ℤ) → pos bound <ℤ t → code_survivors p 1 code i t ≡ 0
  past i t beyond =
      survivors-above p cells field filtered.below i t (λ x has. let upper = (within x).0 in omega (arith, ints, beyond, upper))

  low : (i t : ℤ) → t ≤ℤ (pos 0 -ℤ pos bound) → code_survivors p 1 code i t ≡ deformed_count p code i
  low i t least =
      survivors-all p cells field filtered.below i t (λ x has. let lower = (within x).1 in omega (arith, ints, least, lower))

  pub lasting-outside : (i j : ℤ) → (IsWithin bound j → ⊥) → lasting_of p code i j ≡ 0
  lasting-outside i j outside = elim (beyond bound j outside) [
    | inl past_all ↦ let none = past i j past_all in omega (arith, none)
    | inr low_all ↦
        let first = low i j (omega (arith, ints, low_all)) in
        let second = low i (j +ℤ pos 1) low_all in
        omega (arith, first, second)
  ]

  -- the classes of degree 0
  abbrev left : ℤ → ℕ
  left t = code_survivors p 1 code (pos 0) t

  abbrev total : ℕ
  total = deformed_count p code (pos 0)

  abbrev test : ℤ → Bool
  test j = nat_lt 0 (lasting_of p code (pos 0) j)

  falls : (t : ℤ) → left (t +ℤ pos 1) ≤ left t
  falls t = survivors-fall p field cells filtered (pos 0) t

  steady : (j : ℤ) → test j ≡ false → left (j +ℤ pos 1) ≡ left j
  steady j fails = elim (cases_lt 0 (lasting_of p code (pos 0) j)) [
    | inl some ↦ at_odds (test j) (lt-ltb 0 (lasting_of p code (pos 0) j) some) fails
    | inr none ↦ let down = falls j in omega (arith, none, down)
  ]

  drops : (j : ℤ) → test j ≡ true → left (j +ℤ pos 1) < left j
  drops j passes = elim (cases_lt 0 (lasting_of p code (pos 0) j)) [
    | inl some ↦ omega (arith, some)
    | inr none ↦ at_odds (test j) passes (le-ltb 0 (lasting_of p code (pos 0) j) none)
  ]

  one-up : (t : ℤ) (k : ℕ) → t +ℤ pos (suc k) ≡ (t +ℤ pos k) +ℤ pos 1
  one-up t k = omega (arith, ints)

  none-up : (t : ℤ) → t +ℤ pos 0 ≡ t
  none-up t = omega (arith, ints)

  falls-by : (k : ℕ) (t : ℤ) → left (t +ℤ pos k) ≤ left t
  falls-by zero t = let same = ap left (none-up t) in omega (arith, same)
  falls-by (suc k) t =
      let same = ap left (one-up t k) in
      let last = falls (t +ℤ pos k) in
      let before = falls-by k t in
      omega (arith, same, last, before)

  falls-to : (t u : ℤ) → t ≤ℤ u → left u ≤ left t
  falls-to t u upward =
      let far = above t u upward in
      let same = ap left far.1 in
      let down = falls-by far.0 t in
      omega (arith, same, down)

  steady-by : (k : ℕ) (t : ℤ) → ((l : ℕ) → l < k → test (t +ℤ pos l) ≡ false) → left (t +ℤ pos k) ≡ left t
  steady-by zero t fail = ap left (none-up t)
  steady-by (suc k) t fail =
      ap left (one-up t k) ∙ steady (t +ℤ pos k) (fail k (omega arith)) ∙ steady-by k t (λ l below. fail l (omega (arith, below)))

  steady-to : (t u : ℤ) → t ≤ℤ u → ((j : ℤ) → t ≤ℤ j → j <ℤ u → test j ≡ false) → left u ≡ left t
  steady-to t u upward fail =
      let far = above t u upward in
      ap left far.1
      ∙ steady-by far.0 t (λ l below. let at = far.1 in fail (t +ℤ pos l) (omega (arith, ints)) (omega (arith, ints, at, below)))

  -- a degree at which nothing lasts where nothing does of those listed up to a place, or from one on
  fails-listed : (j : ℤ) → ((k : ℕ) → k < 2 * bound + 1 → j ≡ from_place bound k → test (from_place bound k) ≡ false) → test j ≡ false
  fails-listed j listed = elim (within_or_not bound j) [
    | inl is_within ↦
        let place = place-IsWithin bound j is_within in
        subst (λ (x : ℤ). test x ≡ false) (sym place.2) (listed place.0 place.1 place.2)
    | inr outside ↦
        let none = lasting-outside (pos 0) j outside in
        le-ltb 0 (lasting_of p code (pos 0) j) (omega (arith, none))
  ]

  abbrev First : Type 0
  First = IsFirstOf test (from_place bound) 0 (2 * bound + 1)

  abbrev Last : Type 0
  Last = IsLastOf test (from_place bound) 0 (2 * bound + 1)

  abbrev None : Type 0
  None = NonePasses test (from_place bound) 0 (2 * bound + 1)

  first : First ⊎ None
  first = first-passing test (from_place bound) 0 (2 * bound + 1)

  last : Last ⊎ None
  last = last-passing test (from_place bound) 0 (2 * bound + 1)

  fails-none : None → (j : ℤ) → test j ≡ false
  fails-none none j = fails-listed j (λ k below at. none k (omega arith) (omega (arith, below)))

  fails-before : (j : ℤ) → j <ℤ s_min p code → test j ≡ false
  fails-before j before = elim first [
    | inl found ↦
        let is : s_min p code ≡ from_place bound found.place = found.is in
        fails-listed j (λ k below at. found.before k (omega arith) (omega (arith, ints, at, before, is)))
    | inr none ↦ fails-none none j
  ]

  fails-after : (j : ℤ) → s_max p code <ℤ j → test j ≡ false
  fails-after j after = elim last [
    | inl found ↦
        let is : s_max p code ≡ from_place bound found.place = found.is in
        fails-listed j (λ k below at. found.after k (omega (arith, ints, at, after, is)) (omega (arith, below)))
    | inr none ↦ fails-none none j
  ]

  -- the two are within the bound
  s_min-below : (s_min p code) ≤ℤ pos bound
  s_min-below = elim first [
    | inl found ↦
        let is : s_min p code ≡ from_place bound found.place = found.is in
        let below = found.below in
        omega (arith, ints, is, below)
    | inr none ↦
        let is : s_min p code ≡ pos 0 =
        ap (λ (js : List ℤ). get_or js 0 (pos 0)) (passing-none test (from_place bound) 0 (2 * bound + 1) none) in
        omega (arith, ints, is)
  ]

  s_max-above : (pos 0 -ℤ pos bound) ≤ℤ s_max p code
  s_max-above = elim last [
    | inl found ↦
        let is : s_max p code ≡ from_place bound found.place = found.is in
        omega (arith, ints, is)
    | inr none ↦
        let is : s_max p code ≡ pos 0 =
        ap (λ (js : List ℤ). get_or js (length js - 1) (pos 0)) (passing-none test (from_place bound) 0 (2 * bound + 1) none) in
        omega (arith, ints, is)
  ]

  -- where there are classes, some last
  some-last : total ≢ 0 → None → ⊥
  some-last classes none =
      let least = pos 0 -ℤ pos bound in
      let most = pos bound +ℤ pos 1 in
      let same = steady-to (pos 0 -ℤ pos bound) (pos bound +ℤ pos 1) (omega (arith, ints)) (λ j from before. fails-none none j) in
      let all = low (pos 0) (pos 0 -ℤ pos bound) (omega (arith, ints)) in
      let nothing = past (pos 0) (pos bound +ℤ pos 1) (omega (arith, ints)) in
      classes (sym all ∙ sym same ∙ nothing)

  passes-first : total ≢ 0 → test (s_min p code) ≡ true
  passes-first classes = elim first [
    | inl found ↦ subst (λ (j : ℤ). test j ≡ true) (sym found.is) found.passes
    | inr none ↦ absurd (some-last classes none)
  ]

  passes-last : total ≢ 0 → test (s_max p code) ≡ true
  passes-last classes = elim last [
    | inl found ↦ subst (λ (j : ℤ). test j ≡ true) (sym found.is) found.passes
    | inr none ↦ absurd (some-last classes none)
  ]

  pub survivors-to_s_min : (t : ℤ) → t ≤ℤ s_min p code → left t ≡ total
  survivors-to_s_min t up_to =
      let bounded = s_min-below in
      steady-to (t -ℤ pos (2 * bound)) t (omega (arith, ints)) (λ j from before. fails-before j (omega (arith, ints, before, up_to)))
      ∙ low (pos 0) (t -ℤ pos (2 * bound)) (omega (arith, ints, up_to, bounded))

  pub survivors-past_s_min : (t : ℤ) → s_min p code <ℤ t → total ≢ 0 → left t < total
  survivors-past_s_min t beyond classes =
      let all = survivors-to_s_min (s_min p code) (omega (arith, ints)) in
      let down = drops (s_min p code) (passes-first classes) in
      let further = falls-to (s_min p code +ℤ pos 1) t (omega (arith, ints, beyond)) in
      omega (arith, all, down, further)

  pub survivors-to_s_max : (t : ℤ) → t ≤ℤ s_max p code → total ≢ 0 → 0 < left t
  survivors-to_s_max t up_to classes =
      let down = drops (s_max p code) (passes-last classes) in
      let before = falls-to t (s_max p code) up_to in
      omega (arith, down, before)

  pub survivors-past_s_max : (t : ℤ) → s_max p code <ℤ t → left t ≡ 0
  survivors-past_s_max t beyond =
      let bounded = s_max-above in
      sym (steady-to t (t +ℤ pos (2 * bound)) (omega (arith, ints)) (λ j from before. fails-after j (omega (arith, ints, beyond, from))))
      ∙ past (pos 0) (t +ℤ pos (2 * bound)) (omega (arith, ints, beyond, bounded))
