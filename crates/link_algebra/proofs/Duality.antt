-- The homology of the mirror.
--
-- Each generator has a star in the mirror, with all bits and labels exchanged, at the opposite degrees. An edge has one that leads back,
-- with the same coefficient up to a sign of either end (MirrorSigns). So the matrix out of a degree is the transposed one into the opposite
-- degree, with rows and columns in another order and times signs: none of this changes the rank, and dimensions are numbers of generators
-- less two ranks.
use Rattle.std.proofs.Common.{IsTrue, ap, ap₂, arith, inl, inr, length, pos, refl, sym, ℕ, ℤ, ◌*◌, ◌+ℤ◌, ◌-ℤ◌, ◌-◌, ◌<◌, ◌∙◌, ◌≡◌, ◌≤◌}
use Rattle.std.proofs.lemmas.Bool.{cases_lt}
use Rattle.std.proofs.lemmas.Int.{ints}
use Rattle.std.proofs.lemmas.List.{get_or_default}
use Rattle.std.specs.Prelude.{neg_ℤ}
use Rattle.kh_types.proofs.Residues.{same-equal}
use Rattle.kh_types.specs.Acceptance.{accepted}
use Rattle.kh_types.specs.Code.{Code}
use Rattle.kh_types.specs.Complex.{entry_in}
use Rattle.kh_types.specs.Differential.{coefficient, differential}
use Rattle.kh_types.specs.Generators.{Generator, generator_of, generators_at}
use Rattle.kh_types.specs.MatrixRanks.{IsMatrix}
use Rattle.kh_types.specs.Rank.{rank}
use Rattle.kh_types.specs.Table.{dimension}
use Rattle.kh_types.specs.Residues.{HasInverses}
use Rattle.plain_matrix.specs.Scaled.{IsScaled}
use Rattle.square_laws.proofs.Matrices.{entry-below, entry-column_past, entry-differential, entry-row_past, generator_number, length-differential, length-row}
use Rattle.link_algebra.proofs.MirrorDegrees.{IsOpposite-star, has_degrees-opposite, length-opposite}
use Rattle.link_algebra.proofs.MirrorSigns.{coefficient-star, star_sign}
use Rattle.link_algebra.proofs.Renamings.{IsTurned}
use Rattle.plain_matrix.proofs.ScaledRanks.{rank-scaled_transposes}
use Rattle.link_algebra.proofs.GeneratorLists.{IsGenerator, generators_at-contain, generators_at-is}
use Rattle.link_algebra.proofs.Stars.{IsGenerator-star, IsStar, star-exists}
use Rattle.link_algebra.proofs.TurnedCircles.{IsTurned-back}

-- a code and its mirror
pub record AreDual (f back : ℕ → ℕ) (old new : Code) : Type 0 where
  pub old_is : IsTrue (accepted old)
  pub new_is : IsTrue (accepted new)
  pub turned : IsTurned f back old new

pub AreDual-back : (f back : ℕ → ℕ) (old new : Code) → AreDual f back old new → AreDual back f new old
AreDual-back f back old new are =
    record { old_is = are.new_is; new_is = are.old_is; turned = IsTurned-back f back old new are.old_is are.turned }

-- at a place of the diagram's generators of two degrees, and at a place of the mirror's of the opposite degrees, stand a generator and
-- its star
record IsStarAt (f : ℕ → ℕ) (old new : Code) (i j k l : ℤ) (at there : ℕ) : Type 0 where
  x : Generator
  star : Generator
  is_x : generator_number old i j at ≡ x
  is_star : generator_number new k l there ≡ star
  within : there < length (generators_at new k l)
  gen : IsGenerator old x
  starred : IsStar f old new x star

star-at : (f back : ℕ → ℕ) (old new : Code) (i j k l : ℤ) (at : ℕ) → AreDual f back old new → k ≡ neg_ℤ i → l ≡ neg_ℤ j
    → at < length (generators_at old i j) → (there : ℕ) × IsStarAt f old new i j k l at there
star-at f back old new i j k l at are is_k is_l below =
    let x = generator_number old i j at in
    let has = generators_at-is old i j at (generator_of 0 0) below in
    let made = star-exists f back old new x are.old_is are.new_is are.turned has.0 in
    let star = made.0 in
    let passes = has_degrees-opposite f back old new i j k l x star are.turned
    (IsOpposite-star f back old new x star are.turned has.0 made.1) is_k is_l ∙ has.1 in
    let placed = generators_at-contain new k l star (IsGenerator-star f back old new x star are.turned made.1) passes in (
      placed.0,
      record {
        x = x;
        star = star;
        is_x = refl;
        is_star = get_or_default (generators_at new k l) placed.0 (generator_of 0 0) star placed.1 ∙ placed.2;
        within = placed.1;
        gen = has.0;
        starred = made.1;
      },
    )

-- the same for any place, with the sign of the generator, or 0 past the end
record IsPlacedBy (p : ℕ) (f : ℕ → ℕ) (old new : Code) (i j k l : ℤ) (at there factor : ℕ) : Type 0 where
  inside : at < length (generators_at old i j) → (s : IsStarAt f old new i j k l at there)
      × (factor ≡ star_sign p (length old.crossings) s.x.state)
  outside : length (generators_at old i j) ≤ at → factor ≡ 0

placed-by : (p : ℕ) (f back : ℕ → ℕ) (old new : Code) (i j k l : ℤ) (at : ℕ) → AreDual f back old new → k ≡ neg_ℤ i → l ≡ neg_ℤ j
    → (there : ℕ) × (factor : ℕ) × IsPlacedBy p f old new i j k l at there factor
placed-by p f back old new i j k l at are is_k is_l = elim (cases_lt at (length (generators_at old i j))) [
  | inl below ↦
      let found = star-at f back old new i j k l at are is_k is_l below in (
        found.0,
        star_sign p (length old.crossings) found.1.x.state,
        record {
          inside = λ within. (found.1, refl);
          outside = λ past. absurd (omega (arith, below, past));
        },
      )
  | inr past ↦ (
    0,
    0,
    record {
      inside = λ within. absurd (omega (arith, within, past));
      outside = λ past_too. refl;
    },
  )
]

-- the matrix of the diagram is that of the mirror, transposed, up to signs and order
scaled-differentials : (p : ℕ) (f back : ℕ → ℕ) (old new : Code) (i j k l : ℤ) → 1 < p → AreDual f back old new
    → k ≡ neg_ℤ (i +ℤ pos 1) → l ≡ neg_ℤ j
    → IsScaled p (entry_in (differential p old i j)) (λ row column. entry_in (differential p new k l) column row)
scaled-differentials p f back old new i j k l above are is_k is_l =
    let next : k +ℤ pos 1 ≡ neg_ℤ i = omega (arith, ints, is_k) in
    let n = length old.crossings in
    let rows = λ (at : ℕ). placed-by p f back old new (i +ℤ pos 1) j k l at are is_k is_l in
    let columns = λ (at : ℕ). placed-by p f back old new i j (k +ℤ pos 1) l at are next is_l in
    record {
      row = λ at. (rows at).0;
      column = λ at. (columns at).0;
      row_factor = λ at. (rows at).1;
      column_factor = λ at. (columns at).1;
      same = λ row column.
          let entry = entry_in (differential p new k l) (columns column).0 (rows row).0 in
          elim (cases_lt row (length (generators_at old (i +ℤ pos 1) j))) [
            | inr past ↦
                same-equal p (entry_in (differential p old i j) row column) ((rows row).1 * ((columns column).1 * entry))
                (entry-row_past p old i j row column past
                ∙ first_zero (rows row).1 ((columns column).1 * entry) ((rows row).2.outside past))
            | inl row_within ↦ elim (cases_lt column (length (generators_at old i j))) [
              | inr past ↦
                  same-equal p (entry_in (differential p old i j) row column) ((rows row).1 * ((columns column).1 * entry))
                  (entry-column_past p old i j row column past
                  ∙ second_zero (rows row).1 (columns column).1 entry ((columns column).2.outside past))
              | inl column_within ↦
                  let head = (rows row).2.inside row_within in
                  let tail = (columns column).2.inside column_within in
                  same-equal p (entry_in (differential p old i j) row column) (coefficient p old tail.0.x head.0.x)
                  (entry-differential p old i j row column row_within column_within
                  ∙ ap₂ (λ a b. coefficient p old a b) tail.0.is_x head.0.is_x)
                  ∙ coefficient-star p f back old new tail.0.x head.0.x tail.0.star head.0.star above are.old_is are.new_is are.turned
                  tail.0.gen head.0.gen tail.0.starred head.0.starred
                  ∙ same-equal p
                  (star_sign p n tail.0.x.state * (star_sign p n head.0.x.state * coefficient p new head.0.star tail.0.star))
                  ((rows row).1 * ((columns column).1 * entry))
                  (exchanged (star_sign p n tail.0.x.state) (star_sign p n head.0.x.state) (coefficient p new head.0.star tail.0.star)
                  ∙ ap₂ (λ a b. a * (b * coefficient p new head.0.star tail.0.star)) (sym head.1) (sym tail.1)
                  ∙ ap (λ c. (rows row).1 * ((columns column).1 * c))
                  (sym (entry-differential p new k l (columns column).0 (rows row).0 tail.0.within head.0.within
                  ∙ ap₂ (λ a b. coefficient p new a b) head.0.is_star tail.0.is_star)))
            ]
          ];
    }
  where
    first_zero : (a b : ℕ) → a ≡ 0 → 0 ≡ a * b
    first_zero a b is =
        let none : 0 ≡ 0 * b = omega arith in
        none ∙ ap (λ x. x * b) (sym is)

    second_zero : (a b c : ℕ) → b ≡ 0 → 0 ≡ a * (b * c)
    second_zero a b c is =
        let none : 0 ≡ a * (0 * c) = omega arith in
        none ∙ ap (λ x. a * (x * c)) (sym is)

    exchanged : (a b c : ℕ) → a * (b * c) ≡ b * (a * c)
    exchanged a b c = omega arith

IsMatrix-differential : (p : ℕ) (code : Code) (i j : ℤ) → 1 < p → IsMatrix p (length (generators_at code i j)) (differential p code i j)
IsMatrix-differential p code i j above =
    record {
      width = λ row within. length-row p code i j row (omega (arith, within, length-differential p code i j));
      below = λ row column. entry-below p code i j row column above;
    }

rank-dual : (p : ℕ) (f back : ℕ → ℕ) (old new : Code) (i j k l : ℤ) → HasInverses p → AreDual f back old new
    → k ≡ neg_ℤ (i +ℤ pos 1) → l ≡ neg_ℤ j → rank p (differential p new k l) ≡ rank p (differential p old i j)
rank-dual p f back old new i j k l field are is_k is_l =
    let above : 1 < p = field.above_one in
    let is_i : i ≡ neg_ℤ (k +ℤ pos 1) = omega (arith, ints, is_k) in
    let is_j : j ≡ neg_ℤ l = omega (arith, ints, is_l) in
    rank-scaled_transposes p (length (generators_at new k l)) (length (generators_at old i j)) (differential p new k l)
    (differential p old i j) field (IsMatrix-differential p new k l above) (IsMatrix-differential p old i j above)
    (scaled-differentials p back f new old k l i j above (AreDual-back f back old new are) is_i is_j)
    (scaled-differentials p f back old new i j k l above are is_k is_l)

pub dimension-dual : (p : ℕ) (f back : ℕ → ℕ) (old new : Code) (i j : ℤ) → HasInverses p → AreDual f back old new
    → dimension p new (neg_ℤ i) (neg_ℤ j) ≡ dimension p old i j
dimension-dual p f back old new i j field are =
    let out : neg_ℤ i ≡ neg_ℤ ((i -ℤ pos 1) +ℤ pos 1) = omega (arith, ints) in
    let into : neg_ℤ i -ℤ pos 1 ≡ neg_ℤ (i +ℤ pos 1) = omega (arith, ints) in
    rest (length (generators_at new (neg_ℤ i) (neg_ℤ j))) (length (generators_at old i j))
    (rank p (differential p new (neg_ℤ i) (neg_ℤ j))) (rank p (differential p new (neg_ℤ i -ℤ pos 1) (neg_ℤ j)))
    (rank p (differential p old i j)) (rank p (differential p old (i -ℤ pos 1) j))
    (length-opposite f back old new i j (neg_ℤ i) (neg_ℤ j) are.old_is are.new_is are.turned refl refl)
    (rank-dual p f back old new (i -ℤ pos 1) j (neg_ℤ i) (neg_ℤ j) field are out refl)
    (rank-dual p f back old new i j (neg_ℤ i -ℤ pos 1) (neg_ℤ j) field are into refl)
  where
    rest : (m n a b c d : ℕ) → m ≡ n → a ≡ d → b ≡ c → m - a - b ≡ n - c - d
    rest m n a b c d size first second = omega (arith, size, first, second)
