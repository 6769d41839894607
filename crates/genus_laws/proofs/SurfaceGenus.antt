-- Each component of a surface has a genus, and its open points are twice its strips.
--
-- A surface of discs has a component for each orbit of two permutations. Its strips are the open points with an end, and each strip has an
-- end and a start, so that open points are twice the strips. Discs are cycles (DiscCounts), so Euler's formula for orbits (OrbitGenus)
-- gives each component a genus.
use Rattle.std.proofs.Common.{◌≡◌, ◌≢◌, ℕ, inl, inr, ◌+◌, ◌*◌, ◌<◌, ◌∙◌, List, ◌++◌, refl, sym, ap, ap₂, subst, arith, Bool, true, false, not, ◌&&◌, ◌||◌, eq-eqb}
use Rattle.std.specs.Prelude.{nat_eq, slice_index}
use Rattle.std.proofs.lemmas.Bool.{cases_Bool, cases_eq, and_parts}
use Rattle.std.proofs.lemmas.Bool.Decides.{nat_tests}
use Rattle.kh_types.specs.Classes.{classes_of, is_least}
use Rattle.kh_types.specs.Permutations.{IsPermutation, cycles_of}
use Rattle.kh_types.proofs.ClassLemmas.{classes-together, Respects-first}
use Rattle.kh_types.proofs.Cycles.{AreCycles-cycles_of, IsNamed-cycles_of}
use Rattle.kh_types.proofs.RangeCounts.{count_by-alike, counted}
use Rattle.genus_laws.specs.Orbits.{is_in, count_in, parts_in, size_in, between, HaveWholeGenus}
use Rattle.genus_laws.specs.Surfaces.{IsSurface, surface_components, ends_or_starts, is_disc, faces_in, strips_in}
use Rattle.genus_laws.proofs.Counts.{count_by-matched, count_by-either, counted-split}
use Rattle.genus_laws.proofs.OrbitLemmas.{IsPermutation-between}
use Rattle.genus_laws.proofs.Leading.{led-outside, IsPermutation-led, circles-led, surface_components-orbits, first_next, first_back, second_next, second_back, surface_components-below}
use Rattle.genus_laws.proofs.DiscCounts.{discs-cycles}
use Rattle.genus_laws.proofs.OrbitGenus.{HaveWholeGenus-orbits}

-- a number that a permutation leaves is alone on its cycle
alone : (n : ℕ) (h back : ℕ → ℕ) (x : ℕ) → IsPermutation n h back → x < n → h x ≡ x → slice_index (cycles_of n h) x ≡ x
alone n h back x permutes below stays =
    let named = IsNamed-cycles_of n h permutes.below in
    let name = slice_index (cycles_of n h) x in
    let is_x : ℕ → ℕ = λ z. counted (nat_eq z x) in
    only name x (eq-eqb x x refl)
    ((AreCycles-cycles_of n h back permutes).finest is_x
    (λ z z_below. elim (cases_eq z x) [
      | inl same ↦ ap is_x (same ∙ sym (ap h same ∙ stays))
      | inr other ↦
          neither z (h z) x other
          (λ same. other (sym (permutes.back_f z z_below) ∙ ap back (same ∙ sym stays) ∙ permutes.back_f x below))
    ])
    name x (omega (arith, named.least x below, below)) below (named.own x below))
  where
    neither : (z y x : ℕ) → z ≢ x → y ≢ x → counted (nat_eq z x) ≡ counted (nat_eq y x)
    neither z y x not_z not_y = grind (arith, nat_tests)

    only : (z x : ℕ) → nat_eq x x ≡ true → counted (nat_eq z x) ≡ counted (nat_eq x x) → z ≡ x
    only z x own same = grind (arith, nat_tests)

-- what is in a class is an end or is none
by_kind : (n : ℕ) (classes : List ℕ) (name : ℕ) (kind test : ℕ → Bool)
    → count_in n classes name test ≡ count_in n classes name (λ x. kind x && test x) + count_in n classes name (λ x. not (kind x) && test x)
by_kind n classes name kind test =
    count_by-either (λ x. is_in classes name x && (kind x && test x)) (λ x. is_in classes name x && (not (kind x) && test x))
    (λ x. is_in classes name x && test x) n (λ x below. split (is_in classes name x) (kind x) (test x))
  where
    split : (s b t : Bool) → counted (s && t) ≡ counted (s && (b && t)) + counted (s && (not b && t))
    split false b t = refl
    split true false false = refl
    split true false true = refl
    split true true false = refl
    split true true true = refl

pub HaveWholeGenus-surface : (n : ℕ) (ends starts : ℕ → Bool) (m k w : List (ℕ × ℕ)) → IsSurface n ends starts m k w
    → (name : ℕ) → name < n → slice_index (surface_components n m k w) name ≡ name
    → HaveWholeGenus (faces_in n ends starts m k w name) (strips_in n ends m k w name)
HaveWholeGenus-surface n ends starts m k w is name below own =
    let f = first_next n ends starts m k w is in
    let f_back = first_back n ends starts m k w is in
    let g = second_next n ends starts m k w is in
    let g_back = second_back n ends starts m k w is in
    let h = between f_back g in
    let all = surface_components n m k w in
    let f_permutes : IsPermutation n f f_back = IsPermutation-led n ends starts m w is.first is.outer in
    let g_permutes : IsPermutation n g g_back = IsPermutation-led n ends starts k w is.second is.outer in
    let h_permutes = IsPermutation-between n f f_back g g_back f_permutes g_permutes in
    let orbits_are = surface_components-orbits n ends starts m k w is in
    let found = HaveWholeGenus-orbits n f f_back g g_back f_permutes g_permutes name below
    (ap (λ cs. slice_index cs name) (sym orbits_are) ∙ own) in
    let formula : parts_in n all name (cycles_of n f) + (parts_in n all name (cycles_of n g) + parts_in n all name (cycles_of n h))
    + 2 * found.genus ≡ size_in n all name + 2 =
    subst (λ (cs : List ℕ).
    parts_in n cs name (cycles_of n f) + (parts_in n cs name (cycles_of n g) + parts_in n cs name (cycles_of n h))
    + 2 * found.genus ≡ size_in n cs name + 2) (sym orbits_are) found.formula in
    let cycles = cycles_of n h in
    let h_alone : (x : ℕ) → x < n → ends x ≡ false → is_least cycles x ≡ true =
    λ x x_below other.
    eq-eqb (slice_index cycles x) x
    (alone n h (between g_back f) x h_permutes x_below
    (ap f_back (led-outside ends is.second.next is.outer.next x other ∙ sym (led-outside ends is.first.next is.outer.next x other))
    ∙ f_permutes.back_f x x_below)) in
    let others : count_in n all name (λ x. not (ends x) && is_least cycles x) ≡ count_in n all name (λ x. not (ends x) && true) =
    count_by-alike (λ x. is_in all name x && (not (ends x) && is_least cycles x)) (λ x. is_in all name x && (not (ends x) && true)) 0 n
    (λ x from x_below. ap (λ t. is_in all name x && t) (elim (cases_Bool (ends x)) [
      | inl end ↦ ap (λ b. not b && is_least cycles x) end ∙ ap (λ b. not b && true) (sym end)
      | inr other ↦ ap (λ t. not (ends x) && t) (h_alone x (omega (arith, x_below)) other)
    ])) in
    let ends_only : count_in n all name (λ x. ends x && true) ≡ count_in n all name ends =
    count_by-alike (λ x. is_in all name x && (ends x && true)) (λ x. is_in all name x && ends x) 0 n
    (λ x from x_below. ap (λ t. is_in all name x && t) (and_true (ends x))) in
    record {
      genus = found.genus;
      formula = sums (parts_in n all name (cycles_of n f)) (parts_in n all name (cycles_of n g)) (parts_in n all name cycles)
          (parts_in n all name (classes_of n (m ++ w))) (parts_in n all name (classes_of n (k ++ w)))
          (count_in n all name (is_disc ends starts (classes_of n (m ++ k))))
          (count_in n all name (λ x. ends x && is_least cycles x))
          (count_in n all name (λ x. not (ends x) && is_least cycles x)) (count_in n all name (λ x. not (ends x) && true))
          (count_in n all name (λ x. ends x && true)) (count_in n all name ends) (size_in n all name) found.genus
          (ap (λ cs. parts_in n all name cs) (circles-led n ends starts m w is.first is.outer))
          (ap (λ cs. parts_in n all name cs) (circles-led n ends starts k w is.second is.outer))
          (discs-cycles n ends starts m k w is name) (by_kind n all name ends (is_least cycles)) (by_kind n all name ends (λ x. true))
          others ends_only formula;
    }
  where
    and_true : (b : Bool) → (b && true) ≡ b
    and_true true = refl
    and_true false = refl

    sums : (f g h m k d he ho o e strips s genus : ℕ) → m ≡ f → k ≡ g → he ≡ d → h ≡ he + ho → s ≡ e + o → ho ≡ o → e ≡ strips
        → f + (g + h) + 2 * genus ≡ s + 2 → d + (m + k) + 2 * genus ≡ strips + 2
    sums f g h m k d he ho o e strips s genus e1 e2 e3 e4 e5 e6 e7 e8 = omega (arith, e1, e2, e3, e4, e5, e6, e7, e8)

-- the first pairing takes the ends of a component one to one to its starts
starts-counted : (n : ℕ) (ends starts : ℕ → Bool) (m k w : List (ℕ × ℕ)) → IsSurface n ends starts m k w → (name : ℕ)
    → count_in n (surface_components n m k w) name ends ≡ count_in n (surface_components n m k w) name starts
starts-counted n ends starts m k w is name =
    let all = surface_components n m k w in
    let class : ℕ → ℕ = λ x. slice_index all x in
    let first = is.first in
    let respects = Respects-first class m (k ++ w) (classes-together n (m ++ (k ++ w)) (surface_components-below n ends starts m k w is)) in
    count_by-matched (λ x. is_in all name x && ends x) (λ x. is_in all name x && starts x) first.next first.back n
    (λ x below holds.
    let passes = and_parts (is_in all name x) (ends x) holds in (
      first.next_below x below passes.1,
      ap₂ (λ s t. s && t) (ap (λ c. nat_eq c name) (sym (first.joins class respects x below passes.1)) ∙ passes.0)
          (first.next_to x below passes.1),
    ))
    (λ x y x_below y_below x_holds y_holds same.
    sym (first.back_next x x_below (and_parts (is_in all name x) (ends x) x_holds).1) ∙ ap first.back same
    ∙ first.back_next y y_below (and_parts (is_in all name y) (ends y) y_holds).1)
    (λ y below holds.
    let passes = and_parts (is_in all name y) (starts y) holds in
    let from = first.back_from y below passes.1 in
    let from_below = first.back_below y below passes.1 in (
      from_below,
      ap₂ (λ s t. s && t)
          (ap (λ c. nat_eq c name)
          (first.joins class respects (first.back y) from_below from ∙ ap class (first.next_back y below passes.1))
          ∙ passes.0) from,
    ))
    (λ x y x_below y_below x_holds y_holds same.
    sym (first.next_back x x_below (and_parts (is_in all name x) (starts x) x_holds).1) ∙ ap first.next same
    ∙ first.next_back y y_below (and_parts (is_in all name y) (starts y) y_holds).1)

pub open-counted : (n : ℕ) (ends starts : ℕ → Bool) (m k w : List (ℕ × ℕ)) → IsSurface n ends starts m k w → (name : ℕ)
    → count_in n (surface_components n m k w) name (ends_or_starts ends starts) ≡ 2 * strips_in n ends m k w name
open-counted n ends starts m k w is name =
    let all = surface_components n m k w in
    let sum : count_in n all name (ends_or_starts ends starts) ≡ count_in n all name ends + count_in n all name starts =
    count_by-either (λ x. is_in all name x && ends x) (λ x. is_in all name x && starts x)
    (λ x. is_in all name x && (ends x || starts x)) n
    (λ x below. counted-split (is_in all name x) (ends x) (starts x) (is.apart x below)) in
    twice (count_in n all name (ends_or_starts ends starts)) (count_in n all name ends) (count_in n all name starts) sum
    (starts-counted n ends starts m k w is name)
  where
    twice : (o e s : ℕ) → o ≡ e + s → e ≡ s → o ≡ 2 * e
    twice o e s sum same = omega (arith, sum, same)
