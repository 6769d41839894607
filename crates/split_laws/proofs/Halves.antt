-- A complex modulo 2 in two halves has the dimensions of its lower half, twice: at the degree, and at the quantum degree 2 below.
use Rattle.std.proofs.Common.{◌≡◌, ◌≢◌, ℕ, ◌+◌, ◌-◌, ◌*◌, ◌∙◌, ℤ, pos, ◌+ℤ◌, ◌-ℤ◌, List, [], ◌∷◌, length, refl, sym, ap, ap₂, arith, Bool, true, false, cond, not, ◌&&◌}
use Rattle.std.specs.List.{Contains, filter, sum_by}
use Rattle.std.specs.Ordering.{int_eq}
use Rattle.std.proofs.Math.Path.{fun_ext}
use Rattle.std.proofs.lemmas.Int.{ints}
use Rattle.std.proofs.lemmas.List.Sums.{sum_by-cons}
use Rattle.kh_types.specs.Rank.{rank}
use Rattle.kh_types.specs.Residues.{HasInverses, Same}
use Rattle.kh_types.proofs.LabelDegrees.{int_eq-iff}
use Rattle.kh_types.proofs.Lists.{Contains-filter}
use Rattle.kh_types.proofs.ListSums.{sum_by-zeros}
use Rattle.kh_types.proofs.Residues.{same-equal, same-mul}
use Rattle.prime_field.specs.SmallFields.{field-two}
use Rattle.plain_matrix.proofs.FieldInverses.{inverses-field}
use Rattle.cell_laws.specs.Alike.{AreAlike, AreListed}
use Rattle.cell_laws.specs.Cells.{AreComplex, Cells, cells_at, differential_at, dimension_at, has_both, table_of}
use Rattle.cell_laws.proofs.AlikeCells.{dimension-alike}
use Rattle.cell_laws.proofs.Matched.{AreListed-matched}
use Rattle.cell_laws.proofs.Members.{Contains-kept, sum_by-members, sum_by-same}
use Rattle.cell_laws.proofs.NoDoubles.{sum_by-only}
use Rattle.split_laws.specs.Splits.{HasHalves, Splits, fails, part_of}
use Rattle.split_laws.proofs.SplitCells.{dimension-split}
use Rattle.split_laws.proofs.SplitRanks.{fails-is, is-fails}

pub inverses-two : HasInverses 2
inverses-two = inverses-field 2 field-two

-- a sum in two parts
pub sum_by-parts : {A : Type 0} (f : A → ℕ) (test : A → Bool) (xs : List A)
    → sum_by f xs ≡ sum_by f (filter (fails test) xs) + sum_by f (filter test xs)
sum_by-parts f test [] = refl
sum_by-parts {A} f test (x ∷ xs) =
    sum_by-cons f x xs ∙ step (test x) (filter (fails test) xs) (filter test xs) (sum_by-parts f test xs)
  where
    step : (b : Bool) (ys zs : List A) → sum_by f xs ≡ sum_by f ys + sum_by f zs
        → f x + sum_by f xs ≡ sum_by f (cond (not b) (x ∷ ys) ys) + sum_by f (cond b (x ∷ zs) zs)
    step true ys zs is = omega (arith, is, sum_by-cons f x zs)
    step false ys zs is = omega (arith, is, sum_by-cons f x ys)

-- all quantum degrees 2 more
abbrev raised : {A : Type 0} → Cells A → Cells A
raised cells =
    record {
      list = cells.list;
      homological = cells.homological;
      quantum = λ x. cells.quantum x +ℤ pos 2;
      coefficient = cells.coefficient;
    }

raised-at : {A : Type 0} (cells : Cells A) (i j : ℤ) → has_both (raised cells) i j ≡ has_both cells i (j -ℤ pos 2)
raised-at cells i j =
    fun_ext (λ x.
    ap (λ (b : Bool). int_eq (cells.homological x) i && b)
    (int_eq-iff (cells.quantum x +ℤ pos 2) j (cells.quantum x) (j -ℤ pos 2)
    (λ is. omega (arith, ints, is)) (λ is. omega (arith, ints, is))))

dimension-raised : {A : Type 0} (p : ℕ) (cells : Cells A) (i j : ℤ)
    → dimension_at p (raised cells) i j ≡ dimension_at p cells i (j -ℤ pos 2)
dimension-raised {A} p cells i j =
    let rank_between = λ (tails heads : A → Bool). rank p
    (table_of cells.coefficient (filter tails cells.list) (filter heads cells.list)) in
    ap₂ (λ (m n : ℕ). m - n - rank p (differential_at (raised cells) (i -ℤ pos 1) j))
    (ap (λ (test : A → Bool). length (filter test cells.list)) (raised-at cells i j))
    (ap₂ rank_between (raised-at cells i j) (raised-at cells (i +ℤ pos 1) j))
    ∙ ap (λ (n : ℕ). length (cells_at cells i (j -ℤ pos 2)) - rank p (differential_at cells i (j -ℤ pos 2)) - n)
    (ap₂ rank_between (raised-at cells (i -ℤ pos 1) j) (raised-at cells (i -ℤ pos 1 +ℤ pos 1) j))

module _ {A : Type 0} (cells : Cells A) (lower : A → Bool) (down up : A → A) (turns : A → A → ℕ) (field : HasInverses 2)
    (complex : AreComplex 2 cells) (halves : HasHalves cells lower down up turns) where
  abbrev c : A → A → ℕ
  c x y = cells.coefficient x y

  abbrev upper_list : List A
  upper_list = filter (fails lower) cells.list

  abbrev lower_list : List A
  lower_list = filter lower cells.list

  zero_left : (m n : ℕ) → m ≡ 0 → m * n ≡ 0
  zero_left m n none = ap (λ k. k * n) none ∙ omega arith

  zero_right : (m n : ℕ) → n ≡ 0 → m * n ≡ 0
  zero_right m n none = ap (λ k. m * k) none ∙ omega arith

  in-upper : (x : A) → Contains upper_list x → Contains cells.list x × (lower x ≡ false)
  in-upper x has = let kept = Contains-kept (fails lower) cells.list x has in (kept.0, is-fails lower x kept.1)

  in-lower : (x : A) → Contains lower_list x → Contains cells.list x × (lower x ≡ true)
  in-lower x has = Contains-kept lower cells.list x has

  to-upper : (x : A) → Contains cells.list x → lower x ≡ false → Contains upper_list x
  to-upper x has is = Contains-filter (fails lower) cells.list x (fails-is lower x is) has

  listed : AreListed down upper_list lower_list
  listed = AreListed-matched down up upper_list lower_list halves.matched

  down-in : (x : A) → Contains cells.list x → lower x ≡ false → Contains cells.list (down x) × (lower (down x) ≡ true)
  down-in x has is = in-lower (down x) (halves.matched.there x (to-upper x has is))

  -- sums over lower cells by the upper ones, of which one counts
  lower-sum : (f : A → ℕ) (y : A) → Contains cells.list y → lower y ≡ false
      → sum_by (λ w. f w * turns w y) lower_list ≡ f (down y)
  lower-sum f y has is =
      listed.sums (λ w. f w * turns w y)
      ∙ sum_by-only (λ w. f (down w) * turns (down w) y) upper_list y halves.matched.first_once (to-upper y has is)
      (λ w has_w other.
      let in_w = in-upper w has_w in
      zero_right (f (down w)) (turns (down w) y) (halves.others w y in_w.0 has in_w.1 is (λ same. other (sym same))))
      ∙ ap (λ n. f (down y) * n) (halves.one y has is) ∙ times_one (f (down y))
    where
      times_one : (n : ℕ) → n * 1 ≡ n
      times_one n = omega arith

  upper-sum : (f : A → ℕ) (x : A) → Contains cells.list x → lower x ≡ false
      → sum_by (λ w. turns (down x) w * f w) upper_list ≡ f x
  upper-sum f x has is =
      sum_by-only (λ w. turns (down x) w * f w) upper_list x halves.matched.first_once (to-upper x has is)
      (λ w has_w other.
      let in_w = in-upper w has_w in
      zero_left (turns (down x) w) (f w) (halves.others x w has in_w.0 is in_w.1 other))
      ∙ ap (λ n. n * f x) (halves.one x has is) ∙ one_times (f x)
    where
      one_times : (n : ℕ) → 1 * n ≡ n
      one_times n = omega arith

  -- the upper and the lower coefficients are the same
  coefficient-down : (x y : A) → Contains cells.list x → Contains cells.list y → lower x ≡ false → lower y ≡ false
      → Same 2 (c x y) (c (down x) (down y))
  coefficient-down x y has_x has_y is_x is_y =
      let low = down-in x has_x is_x in
      same-equal 2 (c x y) (sum_by (λ w. turns (down x) w * c w y) cells.list)
      (sym (sum_by-parts (λ w. turns (down x) w * c w y) lower cells.list
      ∙ ap₂ (λ m n. m + n) (upper-sum (λ w. c w y) x has_x is_x)
      (nothing (λ w. turns (down x) w * c w y) lower_list
      (λ w has_w.
      let in_w = in-lower w has_w in
      zero_right (turns (down x) w) (c w y) (halves.closed w y in_w.0 has_y in_w.1 is_y)))
      ∙ plus_none (c x y)))
      ∙ halves.commute (down x) y low.0 has_y
      ∙ same-equal 2 (sum_by (λ w. c (down x) w * turns w y) cells.list) (c (down x) (down y))
      (sum_by-parts (λ w. c (down x) w * turns w y) lower cells.list
      ∙ ap₂ (λ m n. m + n)
      (nothing (λ w. c (down x) w * turns w y) upper_list
      (λ w has_w.
      let in_w = in-upper w has_w in
      zero_left (c (down x) w) (turns w y) (halves.closed (down x) w low.0 in_w.0 low.1 in_w.1)))
      (lower-sum (c (down x)) y has_y is_y)
      ∙ none_plus (c (down x) (down y)))
    where
      none_plus : (n : ℕ) → 0 + n ≡ n
      none_plus n = omega arith

      plus_none : (n : ℕ) → n + 0 ≡ n
      plus_none n = omega arith

      nothing : (f : A → ℕ) (xs : List A) → ((w : A) → Contains xs w → f w ≡ 0) → sum_by f xs ≡ 0
      nothing f xs none = sum_by-members f (λ w. 0) xs none ∙ sum_by-zeros (λ w. 0) xs (λ w. refl)

  abbrev added : A → A → ℕ
  added x y = turns (down x) y

  splits : Splits 2 cells lower added
  splits =
      record {
        closed = halves.closed;
        homological = λ x y has_x has_y is_x some.
            let low = down-in x has_x is_x in
            halves.homological (down x) y low.0 has_y some
            ∙ sym (halves.homological (down x) x low.0 has_x (some_one (turns (down x) x) (halves.one x has_x is_x)));
        quantum = λ x y has_x has_y is_x some.
            let low = down-in x has_x is_x in
            halves.quantum (down x) y low.0 has_y some
            ∙ sym (halves.quantum (down x) x low.0 has_x (some_one (turns (down x) x) (halves.one x has_x is_x)));
        split = λ x z has_x has_z is_x is_z.
            let low = down-in x has_x is_x in
            same-equal 2 (c x z + sum_by (λ y. added x y * c y z) lower_list) (sum_by (λ y. turns (down x) y * c y z) cells.list)
            (sym (sum_by-parts (λ y. turns (down x) y * c y z) lower cells.list
            ∙ ap (λ n. n + sum_by (λ y. added x y * c y z) lower_list) (upper-sum (λ w. c w z) x has_x is_x)))
            ∙ halves.commute (down x) z low.0 has_z
            ∙ same-equal 2 (sum_by (λ y. c (down x) y * turns y z) cells.list) (sum_by (λ y. c (down x) (down y) * added y z) upper_list)
            (sum_by-parts (λ y. c (down x) y * turns y z) lower cells.list
            ∙ ap₂ (λ m n. m + n)
            (nothing (λ y. c (down x) y * turns y z) upper_list
            (λ w has_w.
            let in_w = in-upper w has_w in
            zero_left (c (down x) w) (turns w z) (halves.closed (down x) w low.0 in_w.0 low.1 in_w.1)))
            (listed.sums (λ y. c (down x) y * turns y z))
            ∙ none_plus (sum_by (λ y. c (down x) (down y) * added y z) upper_list))
            ∙ sum_by-same 2 (λ y. c (down x) (down y) * added y z) (λ y. c x y * added y z) upper_list
            (λ y has_y.
            let in_y = in-upper y has_y in
            same-mul 2 (c (down x) (down y)) (c x y) (added y z) (added y z)
            (sym (coefficient-down x y has_x in_y.0 is_x in_y.1)) refl);
      }
    where
      none_plus : (n : ℕ) → 0 + n ≡ n
      none_plus n = omega arith

      some_one : (n : ℕ) → n ≡ 1 → n ≢ 0
      some_one n is none = omega (arith, is, none)

      nothing : (f : A → ℕ) (xs : List A) → ((w : A) → Contains xs w → f w ≡ 0) → sum_by f xs ≡ 0
      nothing f xs none = sum_by-members f (λ w. 0) xs none ∙ sum_by-zeros (λ w. 0) xs (λ w. refl)

  -- the upper half is the lower one, with all quantum degrees 2 more
  halves-alike : AreAlike 2 down (λ x. 1) (part_of cells (fails lower)) (raised (part_of cells lower))
  halves-alike =
      record {
        listed = listed;
        squares = λ x has. refl;
        homological = λ x has.
            let in_x = in-upper x has in
            let low = down-in x in_x.0 in_x.1 in
            sym (halves.homological (down x) x low.0 in_x.0 (some_one (turns (down x) x) (halves.one x in_x.0 in_x.1)));
        quantum = λ x has.
            let in_x = in-upper x has in
            let low = down-in x in_x.0 in_x.1 in
            sym (halves.quantum (down x) x low.0 in_x.0 (some_one (turns (down x) x) (halves.one x in_x.0 in_x.1)));
        coefficient = λ x y has_x has_y.
            let in_x = in-upper x has_x in
            let in_y = in-upper y has_y in
            coefficient-down x y in_x.0 in_y.0 in_x.1 in_y.1
            ∙ same-equal 2 (c (down x) (down y)) (1 * (1 * c (down x) (down y))) (once (c (down x) (down y)));
      }
    where
      some_one : (n : ℕ) → n ≡ 1 → n ≢ 0
      some_one n is none = omega (arith, is, none)

      once : (n : ℕ) → n ≡ 1 * (1 * n)
      once n = omega arith

  pub dimension-halves : (i j : ℤ) → dimension_at 2 cells i j
      ≡ dimension_at 2 (part_of cells lower) i (j -ℤ pos 2) + dimension_at 2 (part_of cells lower) i j
  dimension-halves i j =
      dimension-split 2 cells lower added field complex splits i j
      ∙ ap (λ n. n + dimension_at 2 (part_of cells lower) i j)
      (sym (dimension-alike 2 down (λ x. 1) (part_of cells (fails lower)) (raised (part_of cells lower)) halves-alike field
      complex.below complex.below i j)
      ∙ dimension-raised 2 (part_of cells lower) i j)
