-- Lines of each degree after some were emptied or crossed out, and what may be cleared then. To empty a line, or to cross out a
-- place of all lines, keeps all sizes and changes one degree only; in it the emptied line has no entries, and a line that was
-- crossed out has lost its entry at the place. The same is said of the degree before another, if there is one. Columns and rows
-- show the same numbers from both sides still, after one line was emptied and its place crossed out on the other side: at that
-- place both have 0, and at others nothing changed. So after one side of a matrix was cleared the other may be, and whether a
-- line may be cleared does not depend on other degrees.
use Rattle.std.proofs.lemmas.Bool.Decides.{nat_tests}
use Rattle.std.proofs.Common.{◌≡◌, ◌≢◌, ℕ, zero, suc, ◌+◌, ◌<◌, ◌∙◌, inl, inr, List, [], length, map, get_or, set, refl, ap, sym, subst, arith}
use Rattle.std.specs.Prelude.{slice_index_or, All}
use Rattle.std.proofs.Math.ListN as plain
use Rattle.std.proofs.lemmas.Bool.Decides.{eqb_tells}
use Rattle.std.proofs.lemmas.List.{get_or_default, get_or-set_other, get_or-set_same, length-map, length-set}
use Rattle.sparse_block.specs.Clearing.{AreCrossed, CanClear, crossed_out, crossed_out_before, emptied, emptied_before, without}
use Rattle.sparse_block.specs.Entries.{Entry, AreEntries, value_at}
use Rattle.sparse_block.proofs.AscendingLemmas.{entries-from_ascend}
use Rattle.sparse_block.proofs.RemovalLemmas.{entries-without, value_at-without, value_at-without_other}

pub no-entries : (p size : ℕ) → AreEntries p size []
no-entries p size = entries-from_ascend p 0 size [] tt

-- the lines of degree number k, and one of them
abbrev pub lines_at : List (List (List Entry)) → ℕ → List (List Entry)
lines_at degrees k = slice_index_or degrees k []

abbrev pub line_at : List (List (List Entry)) → ℕ → ℕ → List Entry
line_at degrees k place = slice_index_or (lines_at degrees k) place []

-- degrees of as many lines
pub record SameSizes (before after : List (List (List Entry))) : Type 0 where
  pub degrees : length after ≡ length before
  pub lines : (k : ℕ) → length (lines_at after k) ≡ length (lines_at before k)

pub sizes-same : (degrees : List (List (List Entry))) → SameSizes degrees degrees
sizes-same degrees = record { degrees = refl; lines = λ k. refl }

pub sizes-then : (first second third : List (List (List Entry))) → SameSizes first second → SameSizes second third
    → SameSizes first third
sizes-then first second third same later = omega arith

pub sizes-set : (degrees : List (List (List Entry))) (k : ℕ) (lines : List (List Entry))
    → length lines ≡ length (lines_at degrees k) → k < length degrees → SameSizes degrees (set degrees k lines)
sizes-set degrees k lines size within = grind (arith, nat_tests, degrees, lines, length-set, eqb_tells, get_or-set_same, get_or-set_other)

module _ (k place : ℕ) (degrees : List (List (List Entry))) where
  -- other degrees stay

  pub emptied-other : (j : ℕ) → j ≢ k → lines_at (emptied k place degrees) j ≡ lines_at degrees j
  emptied-other j other = get_or-set_other degrees k j (set (lines_at degrees k) place []) [] other

  pub crossed_out-other : (j : ℕ) → j ≢ k → lines_at (crossed_out k place degrees) j ≡ lines_at degrees j
  crossed_out-other j other = get_or-set_other degrees k j (map (without place) (lines_at degrees k)) [] other

  module _ (within : k < length degrees) where
    emptied-lines : lines_at (emptied k place degrees) k ≡ set (lines_at degrees k) place []
    emptied-lines = get_or-set_same degrees k (set (lines_at degrees k) place []) [] within

    pub emptied-same : place < length (lines_at degrees k) → line_at (emptied k place degrees) k place ≡ []
    emptied-same place_within =
        ap (λ (lines : List (List Entry)). slice_index_or lines place []) emptied-lines
        ∙ get_or-set_same (lines_at degrees k) place [] [] place_within

    pub emptied-apart : (other : ℕ) → other ≢ place → line_at (emptied k place degrees) k other ≡ line_at degrees k other
    emptied-apart other apart =
        ap (λ (lines : List (List Entry)). slice_index_or lines other []) emptied-lines
        ∙ get_or-set_other (lines_at degrees k) place other [] [] apart

    pub crossed_out-line : (other : ℕ) → line_at (crossed_out k place degrees) k other ≡ without place (line_at degrees k other)
    crossed_out-line other =
        ap (λ (lines : List (List Entry)). slice_index_or lines other [])
        (get_or-set_same degrees k (map (without place) (lines_at degrees k)) [] within)
        ∙ plain.get_or-map (without place) (lines_at degrees k) other []

    pub emptied-sizes : SameSizes degrees (emptied k place degrees)
    emptied-sizes = sizes-set degrees k (set (lines_at degrees k) place []) (length-set (lines_at degrees k) place []) within

    pub crossed_out-sizes : SameSizes degrees (crossed_out k place degrees)
    crossed_out-sizes =
        sizes-set degrees k (map (without place) (lines_at degrees k)) (length-map (lines_at degrees k) (without place)) within

-- the degree before another

pub emptied-before : (k j place : ℕ) (degrees : List (List (List Entry))) → j + 1 ≡ k
    → emptied_before k place degrees ≡ emptied j place degrees
emptied-before k j place degrees next = grind (arith, nat_tests)

pub crossed_out-before : (k j place : ℕ) (degrees : List (List (List Entry))) → j + 1 ≡ k
    → crossed_out_before k place degrees ≡ crossed_out j place degrees
crossed_out-before k j place degrees next = grind (arith, nat_tests)

pub emptied_before-other : (k j place : ℕ) (degrees : List (List (List Entry))) → j + 1 ≢ k
    → lines_at (emptied_before k place degrees) j ≡ lines_at degrees j
emptied_before-other zero j place degrees other = refl
emptied_before-other (suc k) j place degrees other = emptied-other k place degrees j (λ same. other (omega (arith, same)))

pub crossed_out_before-other : (k j place : ℕ) (degrees : List (List (List Entry))) → j + 1 ≢ k
    → lines_at (crossed_out_before k place degrees) j ≡ lines_at degrees j
crossed_out_before-other k j place degrees other = grind (arith, nat_tests, degrees, crossed_out-other)

pub emptied_before-sizes : (k place : ℕ) (degrees : List (List (List Entry))) → k < length degrees
    → SameSizes degrees (emptied_before k place degrees)
emptied_before-sizes zero place degrees within = sizes-same degrees
emptied_before-sizes (suc k) place degrees within = emptied-sizes k place degrees (omega (arith, within))

pub crossed_out_before-sizes : (k place : ℕ) (degrees : List (List (List Entry))) → k < length degrees
    → SameSizes degrees (crossed_out_before k place degrees)
crossed_out_before-sizes zero place degrees within = sizes-same degrees
crossed_out_before-sizes (suc k) place degrees within = crossed_out-sizes k place degrees (omega (arith, within))

-- columns and rows cross still after one line was cleared

all-height : (p height size : ℕ) (lines : List (List Entry)) → height ≡ size → All (AreEntries p height) lines
    → All (AreEntries p size) lines
all-height p height size lines same are = subst (λ (size : ℕ). All (AreEntries p size) lines) same are

pub crossed-swapped : (p : ℕ) (lines across : List (List Entry)) → AreCrossed p lines across → AreCrossed p across lines
crossed-swapped p lines across crossed = grind (arith, nat_tests)

crossed-cleared : (p place : ℕ) (lines across : List (List Entry)) → place < length lines → AreCrossed p lines across
    → AreCrossed p (set lines place []) (map (without place) across)
crossed-cleared p place lines across within crossed =
    let lost : List (List Entry) = map (without place) across in
    record {
      in_lines =
          all-height p (length across) (length lost) (set lines place []) (sym (length-map across (without place)))
          (λ k d k_within.
          elim (eqb_tells k place) [
            | inl here ↦
                subst (AreEntries p (length across))
                (sym (ap (λ (k : ℕ). get_or (set lines place []) k d) here.1 ∙ get_or-set_same lines place [] d within))
                (no-entries p (length across))
            | inr other ↦
                subst (AreEntries p (length across)) (sym (get_or-set_other lines place k [] d other.1))
                (crossed.in_lines k d (omega (arith, k_within, length-set lines place [])))
          ]);
      in_across =
          all-height p (length lines) (length (set lines place [])) lost (sym (length-set lines place []))
          (λ k d k_within.
          let k_across : k < length across = omega (arith, k_within, length-map across (without place)) in
          subst (AreEntries p (length lines))
          (sym (get_or_default lost k d [] k_within ∙ plain.get_or-map (without place) across k []))
          (entries-without p (length lines) place (slice_index_or across k []) (crossed.in_across k [] k_across)));
      same = λ at other.
          let right : slice_index_or lost other [] ≡ without place (slice_index_or across other []) =
          plain.get_or-map (without place) across other [] in
          elim (eqb_tells at place) [
            | inl here ↦
                ap (λ (at : ℕ). value_at (slice_index_or (set lines place []) at []) other) here.1
                ∙ ap (λ (es : List Entry). value_at es other) (get_or-set_same lines place [] [] within)
                ∙ sym (
                ap (λ (es : List Entry). value_at es at) right
                ∙ ap (value_at (without place (slice_index_or across other []))) here.1
                ∙ value_at-without place (slice_index_or across other [])
                )
            | inr apart ↦
                ap (λ (es : List Entry). value_at es other) (get_or-set_other lines place at [] [] apart.1)
                ∙ crossed.same at other
                ∙ sym (
                ap (λ (es : List Entry). value_at es at) right
                ∙ value_at-without_other place at (slice_index_or across other []) apart.1
                )
          ];
    }

-- after one side of a matrix was cleared the other may be
pub can_clear-cleared : (k first second : ℕ) (lines across : List (List (List Entry))) → CanClear k first lines across
    → CanClear k second across lines → CanClear k second (crossed_out k first across) (emptied k first lines)
can_clear-cleared k first second lines across can can_second =
    let lost : List (List Entry) = map (without first) (lines_at across k) in
    let left : List (List Entry) = set (lines_at lines k) first [] in
    let lost_is : lines_at (crossed_out k first across) k ≡ lost = get_or-set_same across k lost [] can.has_across in
    let left_is : lines_at (emptied k first lines) k ≡ left = get_or-set_same lines k left [] can.has_lines in
    record {
      has_lines = omega (arith, can.has_across, length-set across k lost);
      has_across = omega (arith, can.has_lines, length-set lines k left);
      has_place = omega (arith, can_second.has_place, ap length lost_is, length-map (lines_at across k) (without first));
      crossed = (
        can.crossed.0,
        subst (λ (xs : List (List Entry)). AreCrossed can.crossed.0 xs (lines_at (emptied k first lines) k)) (sym lost_is)
            (subst (AreCrossed can.crossed.0 lost) (sym left_is)
            (crossed-swapped can.crossed.0 left lost
            (crossed-cleared can.crossed.0 first (lines_at lines k) (lines_at across k) can.has_place can.crossed.1))),
      );
    }

-- what may be cleared does not depend on other degrees
pub can_clear-kept : (k place : ℕ) (lines across lines_after across_after : List (List (List Entry)))
    → length lines_after ≡ length lines → length across_after ≡ length across → lines_at lines_after k ≡ lines_at lines k
    → lines_at across_after k ≡ lines_at across k → CanClear k place lines across → CanClear k place lines_after across_after
can_clear-kept k place lines across lines_after across_after lines_count across_count same_lines same_across can = grind (arith, nat_tests)
