-- Degrees reduced one after another: one degree more at the end, with its pivots, and the degrees above, which stay.
use Rattle.std.proofs.Common.{◌≡◌, ℕ, ◌∙◌, List, [], ◌∷◌, ◌++◌, ℤ, pos, ◌+ℤ◌, ◌<ℤ◌, length, refl, ap, sym, subst, arith, append-nil, append_assoc}
use Rattle.std.proofs.lemmas.Int.{ints}
use Rattle.kh_types.specs.Complex.{Complex, Pivot, degree_of}
use Rattle.sparse_block.specs.Complexes.{place_count}
use Rattle.column_reduction.specs.Reductions.{ReducedColumn, AreReducedUp, IsReducedDegree, pivots_from_greatest, pivots_of}
use Rattle.column_reduction.proofs.Others.{other-degrees}

pub reduced-longer : (p : ℕ) (before between after : Complex) (i j : ℤ) (degrees : List (List ReducedColumn))
    (reduced : List ReducedColumn) → AreReducedUp p before i degrees between → j ≡ i +ℤ pos (length degrees)
    → IsReducedDegree p between j reduced after → AreReducedUp p before i (degrees ++ reduced ∷ []) after
reduced-longer p before between after i j [] reduced up last step =
    let same : j ≡ i = omega (arith, ints, last) in (
      after,
      subst (λ (complex : Complex). IsReducedDegree p complex i reduced after) up
          (subst (λ (k : ℤ). IsReducedDegree p between k reduced after) same step),
      refl,
    )
reduced-longer p before between after i j (first ∷ later) reduced up last step = (
  up.0,
  up.1,
  reduced-longer p up.0 between after (i +ℤ pos 1) j later reduced up.2 (omega (arith, ints, last)) step,
)

pub greatest-longer : (i j : ℤ) (degrees : List (List ReducedColumn)) (reduced : List ReducedColumn) → j ≡ i +ℤ pos (length degrees)
    → pivots_from_greatest i (degrees ++ reduced ∷ []) ≡ pivots_of j reduced ++ pivots_from_greatest i degrees
greatest-longer i j [] reduced last =
    let same : i ≡ j = omega (arith, ints, last) in
    ap (λ (k : ℤ). pivots_of k reduced) same ∙ sym (append-nil (pivots_of j reduced))
greatest-longer i j (first ∷ later) reduced last =
    ap (λ (pivots : List Pivot). pivots ++ pivots_of i first)
    (greatest-longer (i +ℤ pos 1) j later reduced (omega (arith, ints, last)))
    ∙ append_assoc (pivots_of j reduced) (pivots_from_greatest (i +ℤ pos 1) later) (pivots_of i first)

pub degree-above : (p : ℕ) (before after : Complex) (i j : ℤ) (degrees : List (List ReducedColumn))
    → AreReducedUp p before i degrees after → (i +ℤ pos (length degrees)) <ℤ j → degree_of after j ≡ degree_of before j
degree-above p before after i j [] up above = ap (λ (complex : Complex). degree_of complex j) up
degree-above p before after i j (reduced ∷ later) up above =
    degree-above p up.0 after (i +ℤ pos 1) j later up.2 (omega (arith, ints, above))
    ∙ other-degrees p before up.0 i (place_count before i) reduced up.1 j (λ same. omega (arith, ints, above, same))
    (λ same. omega (arith, ints, above, same)) (λ same. omega (arith, ints, above, same))
