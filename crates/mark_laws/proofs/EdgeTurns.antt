-- Along an edge of the cube, turns before and turns behind are as many modulo 2.
--
-- In marks a merge keeps the list and a split adds one mark, in two ways. A turn leaves a mark out. So a turn and then an edge is the edge
-- and then the turn of a mark that was there; what is more on that side is the turn of the mark that a split has just added, which leads
-- to the same in both ways, and so counts twice.
use Rattle.std.proofs.Common.{◌≡◌, ℕ, ◌+◌, ◌*◌, ◌^◌, ◌∙◌, List, [], ◌∷◌, map, refl, sym, ap, ap₂, arith, Bool, true, false, IsTrue}
use Rattle.std.specs.List.{All, range_with_len, sum_by}
use Rattle.std.proofs.lemmas.List.Elements.{All-cons}
use Rattle.std.proofs.lemmas.List.Sums.{sum_by-cons}
use Rattle.kh_types.specs.Acceptance.{accepted}
use Rattle.kh_types.specs.Bits.{one_if}
use Rattle.kh_types.specs.Circles.{circle_count}
use Rattle.kh_types.specs.CircleNumbers.{IsName}
use Rattle.kh_types.specs.Code.{Code}
use Rattle.kh_types.specs.Edges.{arc_at_slot}
use Rattle.kh_types.specs.Generators.{Generator, generator_of}
use Rattle.kh_types.specs.Residues.{Same}
use Rattle.kh_types.proofs.ListSums.{sum_by-alike, sum_by-map, sum_by-plus, sum_by-times, sum_by-turned}
use Rattle.kh_types.proofs.Residues.{same-add, same-equal, same-multiple}
use Rattle.square_laws.proofs.EdgeMarks.{edge-marks, grown, is_marked}
use Rattle.square_laws.proofs.MarkBounds.{hits-grown_le}
use Rattle.square_laws.proofs.MarkedLabels.{IsMarked-marked_by, IsName-marked_by, marked_by}
use Rattle.square_laws.proofs.Merges.{IsSwitch}
use Rattle.square_laws.proofs.TouchedCircles.{fits, fits-decides}
use Rattle.mark_laws.specs.Turns.{turn_count}
use Rattle.mark_laws.proofs.LessMarks.{less-turns, less_count, lists_less, turns-marked}
use Rattle.square_laws.proofs.MarkSums.{marks-sum}

-- how many of the lists behind an edge give the labels of a generator
abbrev behind_count : Bool → Code → Generator → ℕ → List ℕ → ℕ
behind_count merges code head crossing marked = sum_by (λ list. one_if (is_marked code head list)) (grown merges code crossing marked)

module _ (merges : Bool) (code : Code) (is : IsTrue (accepted code)) (s t first last crossing : ℕ)
    (switch : IsSwitch merges code s t crossing) where
  abbrev tail : Generator
  tail = generator_of s first

  abbrev head : Generator
  head = generator_of t last

  abbrev marked : List ℕ
  marked = marked_by code (generator_of s first)

  abbrev before : List ℕ
  before = range_with_len 0 (2 ^ circle_count code s)

  abbrev behind : List ℕ
  behind = range_with_len 0 (2 ^ circle_count code t)

  -- a turn, and then the edge
  turn-first : sum_by (λ number. turn_count code tail (generator_of s number)
      * one_if (fits code (generator_of s number) head crossing)) before
      ≡ sum_by (behind_count merges code head crossing) (lists_less marked)
  turn-first =
      let fit = λ (number : ℕ). one_if (fits code (generator_of s number) head crossing) in
      sum_by-alike (λ number. turn_count code tail (generator_of s number) * fit number)
      (λ number. sum_by (λ less. fit number * one_if (is_marked code (generator_of s number) less)) (lists_less marked))
      (λ number.
      ap (λ n. n * fit number)
      (sym (less-turns code s first number marked is (IsName-marked_by code tail) (IsMarked-marked_by code tail is)))
      ∙ commuted (less_count code (generator_of s number) marked) (fit number)
      ∙ sym (sum_by-times (λ less. one_if (is_marked code (generator_of s number) less)) (fit number) (lists_less marked)))
      before
      ∙ sum_by-turned (λ number less. fit number * one_if (is_marked code (generator_of s number) less)) before (lists_less marked)
      ∙ sum_by-alike (λ less. sum_by (λ number. fit number * one_if (is_marked code (generator_of s number) less)) before)
      (behind_count merges code head crossing)
      (λ less.
      marks-sum code s less fit (behind_count merges code head crossing less) is
      (λ number gives.
      edge-marks merges code (generator_of s number) head crossing less (fits code (generator_of s number) head crossing) switch gives
      (fits-decides merges code (generator_of s number) head crossing is switch))
      (hits-grown_le merges code s crossing head less switch))
      (lists_less marked)
    where
      commuted : (a b : ℕ) → a * b ≡ b * a
      commuted a b = omega arith

  -- the edge, and then a turn
  edge-first : Same 2
      (sum_by (λ number. one_if (fits code tail (generator_of t number) crossing) * turn_count code (generator_of t number) head) behind)
      (sum_by (less_count code head) (grown merges code crossing marked))
  edge-first =
      let turns = λ (number : ℕ). turn_count code (generator_of t number) head in
      let lists = grown merges code crossing marked in
      same-equal 2
      (sum_by (λ number. one_if (fits code tail (generator_of t number) crossing) * turns number) behind)
      (sum_by (λ list. sum_by (λ number. turns number * one_if (is_marked code (generator_of t number) list)) behind) lists)
      (sum_by-alike (λ number. one_if (fits code tail (generator_of t number) crossing) * turns number)
      (λ number. sum_by (λ list. turns number * one_if (is_marked code (generator_of t number) list)) lists)
      (λ number.
      ap (λ n. n * turns number)
      (edge-marks merges code tail (generator_of t number) crossing marked (fits code tail (generator_of t number) crossing) switch
      (IsMarked-marked_by code tail is) (fits-decides merges code tail (generator_of t number) crossing is switch))
      ∙ commuted (behind_count merges code (generator_of t number) crossing marked) (turns number)
      ∙ sym (sum_by-times (λ list. one_if (is_marked code (generator_of t number) list)) (turns number) lists))
      behind
      ∙ sum_by-turned (λ number list. turns number * one_if (is_marked code (generator_of t number) list)) behind lists)
      ∙ each merges switch
    where
      commuted : (a b : ℕ) → a * b ≡ b * a
      commuted a b = omega arith

      names : All (IsName code) marked
      names = IsName-marked_by code tail

      total : List ℕ → ℕ
      total list =
          sum_by (λ number. turn_count code (generator_of t number) head * one_if (is_marked code (generator_of t number) list)) behind

      each : (b : Bool) → IsSwitch b code s t crossing
          → Same 2 (sum_by total (grown b code crossing marked)) (sum_by (less_count code head) (grown b code crossing marked))
      each true merge =
          same-equal 2 (sum_by total (marked ∷ [])) (total marked + 0) (sum_by-cons total marked [])
          ∙ same-add 2 (total marked) (less_count code head marked) 0 0 (turns-marked code t last marked is names) refl
          ∙ same-equal 2 (less_count code head marked + 0) (sum_by (less_count code head) (marked ∷ []))
          (sym (sum_by-cons (less_count code head) marked []))
      each false merge =
          let x = arc_at_slot code crossing 0 in
          let y = arc_at_slot code crossing 2 in
          let one = x ∷ marked in
          let two = y ∷ marked in
          same-equal 2 (sum_by total (one ∷ two ∷ [])) (total one + (total two + 0))
          (sum_by-cons total one (two ∷ []) ∙ ap (λ n. total one + n) (sum_by-cons total two []))
          ∙ same-add 2 (total one) (less_count code head one) (total two + 0) (less_count code head two + 0)
          (turns-marked code t last one is (All-cons (IsName code) x marked merge.first names))
          (same-add 2 (total two) (less_count code head two) 0 0
          (turns-marked code t last two is (All-cons (IsName code) y marked merge.third names)) refl)
          ∙ same-equal 2 (less_count code head one + (less_count code head two + 0)) (sum_by (less_count code head) (one ∷ two ∷ []))
          (sym (sum_by-cons (less_count code head) one (two ∷ [])
          ∙ ap (λ n. less_count code head one + n) (sum_by-cons (less_count code head) two [])))

  -- both are the same modulo 2
  marks-commute : (b : Bool) → Same 2 (sum_by (behind_count b code head crossing) (lists_less marked))
      (sum_by (less_count code head) (grown b code crossing marked))
  marks-commute true =
      same-equal 2 (sum_by (behind_count true code head crossing) (lists_less marked)) (sum_by (less_count code head) (marked ∷ []))
      (sum_by-alike (behind_count true code head crossing) (λ less. one_if (is_marked code head less))
      (λ less. sum_by-cons (λ list. one_if (is_marked code head list)) less [] ∙ plus_none (one_if (is_marked code head less)))
      (lists_less marked)
      ∙ sym (sum_by-cons (less_count code head) marked [] ∙ plus_none (less_count code head marked)))
    where
      plus_none : (n : ℕ) → n + 0 ≡ n
      plus_none n = omega arith
  marks-commute false =
      let x = arc_at_slot code crossing 0 in
      let y = arc_at_slot code crossing 2 in
      let with_x = λ (less : List ℕ). one_if (is_marked code head (x ∷ less)) in
      let with_y = λ (less : List ℕ). one_if (is_marked code head (y ∷ less)) in
      let here = one_if (is_marked code head marked) in
      let lists = lists_less marked in
      same-equal 2 (sum_by (behind_count false code head crossing) lists) (sum_by with_x lists + sum_by with_y lists)
      (sum_by-alike (behind_count false code head crossing) (λ less. with_x less + with_y less)
      (λ less.
      sum_by-cons (λ list. one_if (is_marked code head list)) (x ∷ less) ((y ∷ less) ∷ [])
      ∙ ap (λ n. with_x less + n) (sum_by-cons (λ list. one_if (is_marked code head list)) (y ∷ less) [] ∙ plus_none (with_y less)))
      lists
      ∙ sum_by-plus with_x with_y lists)
      ∙ sym (same-multiple 2 (sum_by with_x lists + sum_by with_y lists) here)
      ∙ same-equal 2 (sum_by with_x lists + sum_by with_y lists + 2 * here)
      (sum_by (less_count code head) ((x ∷ marked) ∷ (y ∷ marked) ∷ []))
      (twice here (sum_by with_x lists) (sum_by with_y lists)
      ∙ sym (sum_by-cons (less_count code head) (x ∷ marked) ((y ∷ marked) ∷ [])
      ∙ ap₂ (λ m n. m + n) (one_more x)
      (sum_by-cons (less_count code head) (y ∷ marked) [] ∙ plus_none (less_count code head (y ∷ marked)) ∙ one_more y)))
    where
      plus_none : (n : ℕ) → n + 0 ≡ n
      plus_none n = omega arith

      twice : (h a b : ℕ) → a + b + 2 * h ≡ h + a + (h + b)
      twice h a b = omega arith

      one_more : (mark : ℕ) → less_count code head (mark ∷ marked)
          ≡ one_if (is_marked code head marked) + sum_by (λ less. one_if (is_marked code head (mark ∷ less))) (lists_less marked)
      one_more mark =
          sum_by-cons (λ less. one_if (is_marked code head less)) marked (map (λ less. mark ∷ less) (lists_less marked))
          ∙ ap (λ n. one_if (is_marked code head marked) + n)
          (sum_by-map (λ less. one_if (is_marked code head less)) (λ less. mark ∷ less) (lists_less marked))

  pub edge-commutes : Same 2
      (sum_by (λ number. turn_count code tail (generator_of s number) * one_if (fits code (generator_of s number) head crossing)) before)
      (sum_by (λ number. one_if (fits code tail (generator_of t number) crossing) * turn_count code (generator_of t number) head) behind)
  edge-commutes =
      same-equal 2
      (sum_by (λ number. turn_count code tail (generator_of s number) * one_if (fits code (generator_of s number) head crossing)) before)
      (sum_by (behind_count merges code head crossing) (lists_less marked)) turn-first
      ∙ marks-commute merges ∙ sym edge-first
