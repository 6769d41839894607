-- Parts whose names are the arcs of a code and follow one another as these do: each component keeps its numbers, and begins with its
-- least arc, unless it is turned.
use Rattle.std.proofs.Common.{◌≡◌, ℕ, zero, suc, inl, inr, ◌+◌, ◌<◌, ◌≤◌, ◌∙◌, List, length, ap, arith, not, cond}
use Rattle.std.specs.Prelude.{nat_eq}
use Rattle.std.specs.List.{position_or_len, range_with_len}
use Rattle.std.proofs.lemmas.Bool.{cases_eq, eq-eqb, ne_eqb}
use Rattle.std.proofs.lemmas.List.FromFn.{length-range_with_len}
use Rattle.kh_types.specs.Code.{Code, IsArc}
use Rattle.kh_types.specs.Components.{next}
use Rattle.kh_types.specs.Accepted.{IsDirected}
use Rattle.code_passes.proofs.CutArcs.{IsFirst, size, size-positive}
use Rattle.code_passes.specs.Parts.{Parts, ArePaired, passes_through}
use Rattle.orient_arcs.specs.Renumbered.{follows, order_of, number_in}
use Rattle.orient_arcs.proofs.Members.{IsIn}
use Rattle.orient_arcs.proofs.PairedPasses.{heads_of}
use Rattle.orient_arcs.proofs.OwnNumbers.{in-range, range-in}
-- numbers in lists that are put together
use Rattle.orient_arcs.proofs.ArcWalks.{walk-first}
use Rattle.orient_arcs.proofs.NumberedBlocks as blocks
use Rattle.orient_arcs.proofs.NumberedBlocks.{GoesOver}

number-range : (a n x : ℕ) → a ≤ x → x < a + n → a + number_in (range_with_len a n) x ≡ x + 1
number-range a zero x from below = absurd (omega (arith, from, below))
number-range a (suc n) x from below = elim (cases_eq x a) [
  | inl same ↦
      let here : number_in (range_with_len a (suc n)) x ≡ 1 =
      ap (λ b. cond (not b) (1 + position_or_len (nat_eq x) (range_with_len (a + 1) n)) 0 + 1) (eq-eqb x a same) in
      omega (arith, here, same)
  | inr other ↦
      let later = number-range (a + 1) n x (omega (arith, from, other)) (omega (arith, below)) in
      let here : number_in (range_with_len a (suc n)) x ≡ 1 + number_in (range_with_len (a + 1) n) x =
      ap (λ b. cond (not b) (1 + position_or_len (nat_eq x) (range_with_len (a + 1) n)) 0 + 1) (ne_eqb x a other) ∙ omega arith in
      omega (arith, here, later)
]

module _ (code : Code) (directed : IsDirected code.crossings) (parts : Parts) (paired : ArePaired parts)
    (heads : (x : ℕ) → IsArc code.crossings x → IsIn x (heads_of parts paired))
    (arcs : (x : ℕ) → IsIn x (heads_of parts paired) → IsArc code.crossings x)
    (nexts : (x : ℕ) → IsArc code.crossings x → follows (passes_through parts) x ≡ next code.crossings x)
    (same_size : length parts.crossings ≡ length code.crossings) where
  abbrev pub HasOverLabels : ℕ → Type 0
  HasOverLabels = blocks.HasOverLabels code.crossings (passes_through parts)

  abbrev pub IsPlaced : List ℕ → ℕ → Type 0
  IsPlaced = blocks.IsPlaced code.crossings (passes_through parts)

  goes-over : (first : ℕ) → IsFirst code.crossings first → GoesOver code.crossings first (range_with_len first (size code.crossings first))
  goes-over first is =
      let some = size-positive code.crossings directed first is in
      let number = number-range first (size code.crossings first) first (omega arith) (omega (arith, some)) in
      record {
        count = length-range_with_len first (size code.crossings first);
        inside = range-in first (size code.crossings first);
        all = in-range first (size code.crossings first);
        begins = omega (arith, number);
        pair = λ two. ap (λ n. range_with_len first n) two;
      }

  pub placed-numbers : (x : ℕ) → IsArc code.crossings x → IsPlaced (order_of (passes_through parts)) x
  placed-numbers =
      blocks.placed-numbers code directed parts paired heads arcs (λ first. range_with_len first (size code.crossings first))
      (walk-first code directed parts paired same_size nexts) goes-over
