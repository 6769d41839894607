-- The graded Euler characteristic of a table is an alternating sum of dimensions, and so the state sum.
use Rattle.std.proofs.Common.{◌≡◌, ℕ, ◌+◌, ◌≤◌, ◌∙◌, inl, inr, [], ℤ, pos, ◌+ℤ◌, ◌-ℤ◌, IsTrue, sym, subst, length, ap, arith}
use Rattle.std.proofs.lemmas.Bool.{cases_lt}
use Rattle.std.proofs.lemmas.Int.{ints}
use Rattle.kh_types.specs.declared.limits.TheConstants.{CROSSINGS, EXPONENT}
use Rattle.kh_types.specs.Acceptance.{accepted}
use Rattle.kh_types.specs.Code.{Code}
use Rattle.kh_types.specs.Differential.{differential}
use Rattle.kh_types.specs.Directions.{minus_count, plus_count}
use Rattle.kh_types.specs.Generators.{generators_at, homological_degree, quantum_degree}
use Rattle.kh_types.specs.Rank.{rank}
use Rattle.kh_types.specs.StateSum.{euler, state_sum}
use Rattle.kh_types.specs.Table.{IsWithin, dimension, table}
use Rattle.kh_types.proofs.AcceptedLemmas.{IsAccepted-is}
use Rattle.kh_types.proofs.Lists.{All-some}
use Rattle.kh_types.proofs.QuantumDegrees.{generators_at-degrees, homological_degree-within, place-IsWithin}
use Rattle.kh_types.proofs.AlternatingSums.{alternating, alternating-add, alternating-alike, alternating-neighbours}
use Rattle.kh_types.proofs.RowSums.{euler-rows}
use Rattle.prime_field.specs.Residues.{IsField, IsSmallPrime}
use Rattle.prime_field.specs.SmallFields.{field-small_prime}
use Rattle.plain_matrix.proofs.FieldInverses.{inverses-field}
use Rattle.cell_laws.specs.Cubes.{cube_of}
use Rattle.cell_laws.proofs.CubeCells.{AreComplex-cube}
use Rattle.split_laws.proofs.RanksFit.{ranks-fit}
use Rattle.jones_sum.proofs.StateSumLemmas.{state_sum-outside}
use Rattle.euler_laws.proofs.GeneratorCounts.{alternating-generators}

-- the ranks out of generators and into them fit into their number
ranks-fit_generators : (p : ℕ) (code : Code) (i j : ℤ) → IsField p → IsTrue (accepted code)
    → rank p (differential p code i j) + rank p (differential p code (i -ℤ pos 1) j) ≤ length (generators_at code i j)
ranks-fit_generators p code i j field is =
    let plus = plus_count code.crossings in
    let minus = minus_count code.crossings in
    ranks-fit p (cube_of p code plus minus) (inverses-field p field) (AreComplex-cube p code plus minus field.above_one is) i j

ranks-generators : (p : ℕ) (code : Code) (i j : ℤ) → IsField p → IsTrue (accepted code)
    → length (generators_at code i j)
    ≡ dimension p code i j + (rank p (differential p code i j) + rank p (differential p code (i -ℤ pos 1) j))
ranks-generators p code i j field is = omega (arith, ranks-fit_generators p code i j field is)

-- beyond the degrees of the code there are no generators, and so no rank
rank-none : (p : ℕ) (code : Code) (i j : ℤ) → IsField p → IsTrue (accepted code) → (IsWithin (length code.crossings) i → ⊥)
    → (rank p (differential p code i j) ≡ 0) × (rank p (differential p code (i -ℤ pos 1) j) ≡ 0)
rank-none p code i j field is outside = elim (cases_lt 0 (length (generators_at code i j))) [
  | inl some ↦
      let found = All-some (λ g. (homological_degree code g ≡ i) × (quantum_degree code g ≡ j)) (generators_at code i j)
      (generators_at-degrees code i j) some in
      absurd (outside (subst (λ (x : ℤ). IsWithin (length code.crossings) x) found.1.0 (homological_degree-within code found.0)))
  | inr none ↦
      let fit = ranks-fit_generators p code i j field is in
      (omega (arith, fit, none), omega (arith, fit, none))
]

rank-below : (p : ℕ) (code : Code) (j : ℤ) → IsField p → IsTrue (accepted code)
    → rank p (differential p code (pos 0 -ℤ pos (length code.crossings + 1)) j) ≡ 0
rank-below p code j field is =
    let n = length code.crossings in
    (rank-none p code (pos 0 -ℤ pos (n + 1)) j field is
    (λ within. let place = place-IsWithin n (pos 0 -ℤ pos (n + 1)) within in omega (arith, ints, place.1, place.2))).0

rank-last : (p : ℕ) (code : Code) (j : ℤ) → IsField p → IsTrue (accepted code)
    → rank p (differential p code (pos (length code.crossings)) j) ≡ 0
rank-last p code j field is =
    let n = length code.crossings in
    let same : pos n +ℤ pos 1 -ℤ pos 1 ≡ pos n = omega (arith, ints) in
    subst (λ (i : ℤ). rank p (differential p code i j) ≡ 0) same
    (rank-none p code (pos n +ℤ pos 1) j field is
    (λ within. let place = place-IsWithin n (pos n +ℤ pos 1) within in omega (arith, ints, place.1, place.2))).1

-- in the alternating sum of the generators each rank comes twice, with opposite signs

alternating-dimensions : (p : ℕ) (code : Code) (j : ℤ) → IsField p → IsTrue (accepted code)
    → alternating (length code.crossings) (λ i. dimension p code i j) ≡ state_sum code j
alternating-dimensions p code j field is =
    let n = length code.crossings in
    let dimensions : ℤ → ℕ = λ i. dimension p code i j in
    let rank_out : ℤ → ℕ = λ i. rank p (differential p code i j) in
    let ranks : ℤ → ℕ = λ i. rank_out i + rank_out (i -ℤ pos 1) in
    let cancels : alternating n ranks ≡ pos 0 =
    alternating-neighbours n rank_out (rank-below p code j field is) (rank-last p code j field is) in
    let whole : alternating n (λ i. length (generators_at code i j)) ≡ alternating n dimensions +ℤ alternating n ranks =
    alternating-alike n (λ i. length (generators_at code i j)) (λ i. dimensions i + ranks i)
    (λ i. ranks-generators p code i j field is)
    ∙ alternating-add n dimensions ranks in
    sym (whole ∙ ap (λ (s : ℤ). alternating n dimensions +ℤ s) cancels ∙ omega (arith, ints)) ∙ alternating-generators code j

-- the coefficient of a table at a degree
pub euler-table : (p : ℕ) (code : Code) (e : ℤ) → IsField p → IsTrue (accepted code) → length code.crossings ≤ CROSSINGS
    → euler (table p code) e ≡ state_sum code e
euler-table p code e field is few =
    let dimensions = alternating-dimensions p code e field is in
    euler-rows p EXPONENT (length code.crossings) (dimension p code) e
    (λ outside. dimensions ∙ state_sum-outside code e ((IsAccepted-is code).0 is) few outside)
    ∙ dimensions

-- over each of the four fields the state sum is the Euler characteristic
pub sum-table : (p : ℕ) (code : Code) → IsSmallPrime p → IsTrue (accepted code) → length code.crossings ≤ CROSSINGS → (exponent : ℤ)
    → state_sum code exponent ≡ euler (table p code) exponent
sum-table p code prime is few exponent = sym (euler-table p code exponent (field-small_prime p prime) is few)
