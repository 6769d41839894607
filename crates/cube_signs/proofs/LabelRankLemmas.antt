-- Labels counted by their numbers of v-.
use Rattle.std.proofs.Common.{◌≡◌, ℕ, ◌+◌, ◌<◌, ◌∙◌, inl, inr, List, [], ◌∷◌, ◌++◌, length, get_or, take, set, replicate, sym, ap, ap₂, arith}
use Rattle.std.specs.Prelude.{nat_eq, slice_index}
use Rattle.std.specs.List.{count_by}
use Rattle.std.proofs.lemmas.Bool.{cases_eq, eq-eqb, ne_eqb}
use Rattle.std.proofs.lemmas.List.{get_or-replicate, length-replicate, get_or-set_same, get_or-set_other, length-set}
use Rattle.std.proofs.lemmas.List.Sums.{count_by_more_yes, count_by_more_no}
use Rattle.kh_types.proofs.Ranges.{map_from_zero}
use Rattle.cube_signs.specs.LabelRanks.{ranks_of, same_before}

-- of each weight it is counted how often it stands among the first weights
pub record AreCounted (weights : List ℕ) (count : ℕ) (counts : List ℕ) : Type 0 where
  pub size : length counts ≡ 256
  pub each : (weight : ℕ) → weight < 256 → slice_index counts weight ≡ count_by (nat_eq weight) (take count weights)

pub counted-none : (weights counts : List ℕ) → counts ≡ replicate 256 0 → AreCounted weights 0 counts
counted-none weights counts is =
    record {
      size = ap length is ∙ length-replicate {A = ℕ} 256 0;
      each = λ weight small. ap (λ xs. slice_index xs weight) is ∙ get_or-replicate 256 weight 0 0 small;
    }

pub counted-more : (weights counts next : List ℕ) (count weight : ℕ) → AreCounted weights count counts → count < length weights
    → weight ≡ slice_index weights count → weight < 256 → next ≡ set counts weight (slice_index counts weight + 1)
    → AreCounted weights (count + 1) next
counted-more weights counts next count weight are below is_weight small is_next =
    record {
      size = ap length is_next ∙ length-set counts weight (slice_index counts weight + 1) ∙ are.size;
      each = λ other other_small. ap (λ xs. slice_index xs other) is_next ∙ elim (cases_eq other weight) [
        | inl same ↦
            ap (slice_index (set counts weight (slice_index counts weight + 1))) same
            ∙ get_or-set_same counts weight (slice_index counts weight + 1) 0 (omega (arith, are.size))
            ∙ omega (
              arith,
              are.each weight small,
              count_by_more_yes (nat_eq other) weights count 0 below (eq-eqb other (get_or weights count 0) (same ∙ is_weight)),
              ap (λ w. count_by (nat_eq w) (take count weights)) same,
            )
        | inr differ ↦
            get_or-set_other counts weight other (slice_index counts weight + 1) 0 differ
            ∙ are.each other other_small
            ∙ sym (count_by_more_no (nat_eq other) weights count 0 below
            (ne_eqb other (get_or weights count 0) (λ same. differ (same ∙ sym is_weight))))
      ];
    }

pub ranks-more : (weights counts ranks next : List ℕ) (count weight rank : ℕ) → AreCounted weights count counts
    → weight ≡ slice_index weights count → weight < 256 → ranks ≡ ranks_of weights count → rank ≡ slice_index counts weight
    → next ≡ ranks ++ rank ∷ [] → next ≡ ranks_of weights (count + 1)
ranks-more weights counts ranks next count weight rank are is_weight small is_ranks is_rank is_next =
    is_next
    ∙ ap₂ (λ (xs : List ℕ) (x : ℕ). xs ++ x ∷ []) is_ranks
    (is_rank ∙ are.each weight small ∙ ap (λ w. count_by (nat_eq w) (take count weights)) is_weight)
    ∙ sym (map_from_zero (same_before weights) count)
