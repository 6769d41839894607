-- Each filtered complex is reduced by eliminations of shortest entries until no coefficient is left, and the cells that are left count the
-- survivors.
--
-- While a coefficient is left, one of the least gap is a shortest entry, and its elimination takes two cells away.
use Rattle.std.proofs.Common.{◌≡◌, ◌≢◌, ℕ, ◌⊎◌, inl, inr, zero, suc, ◌+◌, ◌-◌, ◌<◌, ◌≤◌, ◌∙◌, ℤ, pos, ◌+ℤ◌, ◌-ℤ◌, List, [], ◌∷◌, length, map, refl, sym, subst, ap, arith}
use Rattle.std.specs.Prelude.{◌≤ℤ◌}
use Rattle.std.specs.List.{Contains, flat_map}
use Rattle.std.proofs.lemmas.Bool.{cases_eq}
use Rattle.std.proofs.lemmas.Int.{by_lt_z, ints}
use Rattle.kh_types.specs.Residues.{HasInverses}
use Rattle.kh_types.proofs.Lists.{Contains-cases, Contains-first, Contains-flat_map, Contains-later, Contains-map}
use Rattle.cell_laws.specs.Alike.{AreListed}
use Rattle.cell_laws.specs.Cells.{Cells, cells_at}
use Rattle.cell_laws.specs.Elimination.{ArePivots, all_of, cells_left}
use Rattle.cell_laws.proofs.Listings.{listed-append, listed-exchanged, listed-later, listed-same}
use Rattle.cell_laws.proofs.Members.{Contains-flattened, Contains-made}
use Rattle.cell_laws.specs.Filtered.{AreFiltered, cells_from, lasting, survivors}
use Rattle.cell_laws.specs.Shortest.{HaveGap, IsReduction, IsShortest}
use Rattle.cell_laws.specs.Shortest.IsReduction.{over, step}
use Rattle.cell_laws.proofs.Degrees.{lengths-next}
use Rattle.cell_laws.proofs.LastSurvivors.{survivors-last}
use Rattle.cell_laws.proofs.LeftFiltered.{filtered-left, shortest-gap, survivors-left_any}

-- the cells that are left count the survivors
pub survivors-reduced : {A : Type 0} (p : ℕ) (cells last : Cells A) → HasInverses p → AreFiltered p cells → IsReduction p cells last
    → (i t : ℤ) → survivors p cells i t ≡ length (cells_from last i t)
survivors-reduced p cells last field filtered (over none) i t = survivors-last p cells field filtered.below none i t
survivors-reduced p cells last field filtered (step pairs rest listed are shortest later) i t =
    sym (survivors-left_any p cells pairs rest listed field filtered are shortest i t)
    ∙ survivors-reduced p (cells_left p cells pairs rest) last field (filtered-left p cells pairs rest listed field filtered are shortest)
    later i t

pub lasting-reduced : {A : Type 0} (p : ℕ) (cells last : Cells A) → HasInverses p → AreFiltered p cells → IsReduction p cells last
    → (i j : ℤ) → lasting p cells i j ≡ length (cells_at last i j)
lasting-reduced p cells last field filtered reduced i j =
    less (survivors p cells i j) (survivors p cells i (j +ℤ pos 1)) (length (cells_from last i j))
    (length (cells_from last i (j +ℤ pos 1))) (length (cells_at last i j))
    (survivors-reduced p cells last field filtered reduced i j) (survivors-reduced p cells last field filtered reduced i (j +ℤ pos 1))
    (lengths-next last i j)
  where
    less : (s t m n d : ℕ) → s ≡ m → t ≡ n → m ≡ d + n → s - t ≡ d
    less s t m n d first second next = omega (arith, first, second, next)

-- by how much an entry leads up
abbrev pub gap_of : {A : Type 0} → Cells A → A × A → ℤ
gap_of cells pair = cells.quantum pair.1 -ℤ cells.quantum pair.0

-- an entry of the least gap among some pairs
pub record IsLeast {A : Type 0} (cells : Cells A) (pairs : List (A × A)) : Type 0 where
  pub pair : A × A
  pub has : Contains pairs pair
  pub some : cells.coefficient pair.0 pair.1 ≢ 0
  pub least : (other : A × A) → Contains pairs other → cells.coefficient other.0 other.1 ≢ 0
      → (gap_of cells pair) ≤ℤ (gap_of cells other)

pub find_least : {A : Type 0} (cells : Cells A) (pairs : List (A × A))
    → ((pair : A × A) → Contains pairs pair → cells.coefficient pair.0 pair.1 ≡ 0) ⊎ IsLeast cells pairs
find_least cells [] = inl (λ pair has. absurd (omega (arith, has.1)))
find_least {A} cells (q ∷ qs) = elim (find_least cells qs) [
  | inl none ↦ elim (cases_eq (cells.coefficient q.0 q.1) 0) [
    | inl zero_here ↦ inl (λ pair has. elim (Contains-cases q pair qs has) [
      | inl is ↦ ap (λ (r : A × A). cells.coefficient r.0 r.1) (sym is) ∙ zero_here
      | inr later ↦ none pair later
    ])
    | inr some ↦ inr (record {
      pair = q;
      has = Contains-first q qs;
      some = some;
      least = λ other has some_other. elim (Contains-cases q other qs has) [
        | inl is ↦ itself q other is
        | inr later ↦ absurd (some_other (none other later))
      ];
    })
  ]
  | inr found ↦ elim (cases_eq (cells.coefficient q.0 q.1) 0) [
    | inl zero_here ↦ inr (record {
      pair = found.pair;
      has = Contains-later q found.pair qs found.has;
      some = found.some;
      least = λ other has some_other. elim (Contains-cases q other qs has) [
        | inl is ↦ absurd (some_other (ap (λ (r : A × A). cells.coefficient r.0 r.1) (sym is) ∙ zero_here))
        | inr later ↦ found.least other later some_other
      ];
    })
    | inr some ↦ by_lt_z (gap_of cells found.pair) (gap_of cells q)
        (λ less. inr (record {
          pair = found.pair;
          has = Contains-later q found.pair qs found.has;
          some = found.some;
          least = λ other has some_other. elim (Contains-cases q other qs has) [
            | inl is ↦ subst (λ (r : A × A). (gap_of cells found.pair) ≤ℤ (gap_of cells r)) is (omega (arith, ints, less))
            | inr later ↦ found.least other later some_other
          ];
        }))
        (λ most. inr (record {
          pair = q;
          has = Contains-first q qs;
          some = some;
          least = λ other has some_other. elim (Contains-cases q other qs has) [
            | inl is ↦ itself q other is
            | inr later ↦ omega (arith, ints, most, found.least other later some_other)
          ];
        }))
  ]
]
  where
    itself : (q other : A × A) → q ≡ other → (gap_of cells q) ≤ℤ (gap_of cells other)
    itself q other is = subst (λ (r : A × A). (gap_of cells q) ≤ℤ (gap_of cells r)) is (omega (arith, ints))

-- a list without one of its elements
record IsTaken {A : Type 0} (xs : List A) (x : A) : Type 0 where
  rest : List A
  fewer : length xs ≡ suc (length rest)
  listed : AreListed (λ (y : A). y) xs (x ∷ rest)

taken : {A : Type 0} (xs : List A) (x : A) → Contains xs x → IsTaken xs x
taken [] x has = absurd (omega (arith, has.1))
taken {A} (y ∷ ys) x has = elim (Contains-cases y x ys has) [
  | inl is ↦ record {
    rest = ys;
    fewer = refl;
    listed = subst (λ (z : A). AreListed (λ (u : A). u) (y ∷ ys) (z ∷ ys)) is (listed-same (y ∷ ys));
  }
  | inr later ↦
      let before = taken ys x later in
      record {
        rest = y ∷ before.rest;
        fewer = ap suc before.fewer;
        listed =
            listed-later (λ (u : A). u) (λ (u : A). u) (y ∷ ys) (y ∷ x ∷ before.rest) (x ∷ y ∷ before.rest)
            (listed-append (λ (u : A). u) (y ∷ []) ys (y ∷ []) (x ∷ before.rest) (listed-same (y ∷ [])) before.listed)
            (listed-append (λ (u : A). u) (y ∷ x ∷ []) before.rest (x ∷ y ∷ []) before.rest (listed-exchanged (y ∷ []) (x ∷ []))
            (listed-same before.rest));
      }
]

module _ {A : Type 0} (p : ℕ) (field : HasInverses p) where
  abbrev pub all_pairs : List A → List (A × A)
  all_pairs xs = flat_map (λ x. map (λ y. (x, y)) xs) xs

  pub in-pairs : (xs : List A) (x y : A) → Contains xs x → Contains xs y → Contains (all_pairs xs) (x, y)
  in-pairs xs x y has_x has_y =
      Contains-flat_map (λ u. map (λ v. (u, v)) xs) xs x (x, y) has_x (Contains-map (λ v. (x, v)) xs y has_y)

  pub from-pairs : (xs : List A) (pair : A × A) → Contains (all_pairs xs) pair → Contains xs pair.0 × Contains xs pair.1
  from-pairs xs pair has =
      let first = Contains-flattened (λ u. map (λ v. (u, v)) xs) xs pair has in
      let second = Contains-made (λ v. (first.0, v)) xs pair first.2 in (
        subst (λ (u : A). Contains xs u) (ap (λ (r : A × A). r.0) second.2) first.1,
        subst (λ (u : A). Contains xs u) (ap (λ (r : A × A). r.1) second.2) second.1,
      )

  -- one step, where a coefficient is left
  record IsStep (cells : Cells A) : Type 0 where
    pairs : List (A × A)
    rest : List A
    fewer : length rest < length cells.list
    listed : AreListed (λ (x : A). x) cells.list (all_of pairs rest)
    are : ArePivots cells.coefficient pairs
    shortest : (pair : A × A) → Contains pairs pair → IsShortest cells pair

  first-step : (cells : Cells A) → AreFiltered p cells → IsLeast cells (all_pairs cells.list) → IsStep cells
  first-step cells filtered found =
      let a = found.pair.0 in
      let b = found.pair.1 in
      let ends = from-pairs cells.list found.pair found.has in
      let one = taken cells.list found.pair.0 ends.0 in
      let degrees = filtered.homological found.pair.0 found.pair.1 ends.0 ends.1 found.some in
      let head : Contains one.rest found.pair.1 = elim (Contains-cases found.pair.0 found.pair.1 one.rest (one.listed.there found.pair.1 ends.1)) [
        | inl is ↦ absurd (no_step (cells.homological found.pair.0) (degrees_of cells found.pair.0 found.pair.1 is degrees))
        | inr later ↦ later
      ] in
      let two = taken one.rest found.pair.1 head in
      let gaps : HaveGap cells (cells.quantum found.pair.1 -ℤ cells.quantum found.pair.0) =
      λ x y has_x has_y some. found.least (x, y) (in-pairs cells.list x y has_x has_y) some in
      record {
        pairs = found.pair ∷ [];
        rest = two.rest;
        fewer = omega (arith, one.fewer, two.fewer);
        listed =
            listed-later (λ (u : A). u) (λ (u : A). u) cells.list (found.pair.0 ∷ one.rest) (found.pair.0 ∷ found.pair.1 ∷ two.rest) one.listed
            (listed-append (λ (u : A). u) (found.pair.0 ∷ []) one.rest (found.pair.0 ∷ []) (found.pair.1 ∷ two.rest)
            (listed-same (found.pair.0 ∷ [])) two.listed);
        are = (found.some, tt, tt);
        shortest = λ pair has. elim (Contains-cases found.pair pair [] has) [
          | inl is ↦ subst (λ (q : A × A). IsShortest cells q) is
              (shortest-gap cells (cells.quantum found.pair.1 -ℤ cells.quantum found.pair.0) found.pair gaps ends.0 ends.1 refl)
          | inr none ↦ absurd (omega (arith, none.1))
        ];
      }
    where
      degrees_of : (cells : Cells A) (x y : A) → x ≡ y → cells.homological y ≡ cells.homological x +ℤ pos 1
          → cells.homological x ≡ cells.homological x +ℤ pos 1
      degrees_of cells x y is next = ap cells.homological is ∙ next

      no_step : (d : ℤ) → d ≡ d +ℤ pos 1 → ⊥
      no_step d is = omega (arith, ints, is)

  found_step : (cells : Cells A) → AreFiltered p cells → IsReduction p cells cells ⊎ IsStep cells
  found_step cells filtered = elim (find_least cells (all_pairs cells.list)) [
    | inl none ↦ inl (over (λ x y has_x has_y. none (x, y) (in-pairs cells.list x y has_x has_y)))
    | inr found ↦ inr (first-step cells filtered found)
  ]

  reduce : (n : ℕ) (cells : Cells A) → length cells.list ≤ n → AreFiltered p cells → (last : Cells A) × IsReduction p cells last
  reduce zero cells fits filtered = elim (found_step cells filtered) [
    | inl all ↦ (cells, all)
    | inr s ↦ absurd (omega (arith, fits, s.fewer))
  ]
  reduce (suc n) cells fits filtered = elim (found_step cells filtered) [
    | inl all ↦ (cells, all)
    | inr s ↦
        let later = reduce n (cells_left p cells s.pairs s.rest) (omega (arith, fits, s.fewer))
        (filtered-left p cells s.pairs s.rest s.listed field filtered s.are s.shortest) in
        (later.0, step s.pairs s.rest s.listed s.are s.shortest later.1)
  ]

  pub reduction : (cells : Cells A) → AreFiltered p cells → (last : Cells A) × IsReduction p cells last
  reduction cells filtered = reduce (length cells.list) cells (omega arith) filtered

  -- so the survivors fall
  pub survivors-fall : (cells : Cells A) → AreFiltered p cells → (i t : ℤ)
      → survivors p cells i (t +ℤ pos 1) ≤ survivors p cells i t
  survivors-fall cells filtered i t =
      let found = reduction cells filtered in
      omega (
        arith,
        survivors-reduced p cells found.0 field filtered found.1 i t,
        survivors-reduced p cells found.0 field filtered found.1 i (t +ℤ pos 1),
        lengths-next found.0 i t,
      )
