-- The tables of the parts of a code that is cut in two multiply, and those of its pieces.
use Rattle.std.proofs.Common.{◌≡◌, ℕ, ◌+◌, ◌-◌, ◌≤◌, ◌∙◌, ℤ, List, length, map, refl, sym, ap, ap₂, arith, Bool, not, IsTrue}
use Rattle.std.specs.List.{count_by, range_with_len}
use Rattle.kh_types.specs.Acceptance.{accepted}
use Rattle.kh_types.specs.Code.{Code}
use Rattle.kh_types.specs.Directions.{is_positive, minus_count, plus_count}
use Rattle.kh_types.specs.Residues.{HasInverses}
use Rattle.kh_types.specs.Table.{dimension, table}
use Rattle.kh_types.specs.declared.limits.TheConstants.{CROSSINGS}
use Rattle.kh_types.proofs.Lists.{count_by-map}
use Rattle.kh_types.proofs.RangeCounts.{count_by-alike}
use Rattle.order_laws.specs.Orders.{listed_by}
use Rattle.order_laws.proofs.Orders.{dimension-same_signs}
use Rattle.order_laws.proofs.Reordered.{reordered-count}
use Rattle.link_algebra.specs.Unions.{union_of}
use Rattle.link_algebra.proofs.UnitedCircles.{length-both}
use Rattle.view_laws.proofs.Renumbered.{dimension-renumbered_code}
use Rattle.union_laws.specs.Pieces.{IsCut, first_piece, is_in_first_piece, kept_first, other_pieces, part_of}
use Rattle.union_laws.specs.UnitedRows.{rows_product}
use Rattle.union_laws.proofs.CutCodes.{accepted-cut, accepted-order, accepted-parts}
use Rattle.union_laws.proofs.CutNumbers.{cut_number, length-parts, numbers-cut}
use Rattle.union_laws.proofs.CutSigns.{sign-cut, sign-first}
use Rattle.union_laws.proofs.KeptPlaces.{kept_order, length-first, length-order, map-places, place_in, reordered-kept, reordered-parted}
use Rattle.union_laws.proofs.KeptSearches.{range-later}
use Rattle.union_laws.proofs.PieceCuts.{IsCut-pieces}
use Rattle.union_laws.proofs.UnitedTables.{dimension-tables}

-- positive crossings are counted by places
abbrev positive_at : List (List ℕ) → ℕ → Bool
positive_at crossings place = is_positive crossings (place + 1)

plus-places : (crossings : List (List ℕ)) → plus_count crossings ≡ count_by (positive_at crossings) (range_with_len 0 (length crossings))
plus-places crossings =
    ap (count_by (is_positive crossings)) (range-later 0 (length crossings))
    ∙ count_by-map (is_positive crossings) (λ k. k + 1) (range_with_len 0 (length crossings))

module _ (keep : ℕ → Bool) (code : Code) (holds : IsTrue (accepted code)) (cut : IsCut keep code.crossings) where
  abbrev order : List (List ℕ)
  order = kept_first keep code.crossings

  -- as many crossings are positive in the order of the parts
  plus-first : plus_count order ≡ plus_count code.crossings
  plus-first =
      let n = length code.crossings in
      let all = range_with_len 0 n in
      let test = positive_at code.crossings in
      let at = place_in keep code.crossings in
      plus-places order
      ∙ ap (λ (k : ℕ). count_by (positive_at order) (range_with_len 0 k)) (length-first keep code.crossings)
      ∙ count_by-alike (positive_at order) (λ k. test (at k)) 0 n
      (λ k from below. sign-first keep code holds cut k (omega (arith, below)))
      ∙ sym (count_by-map test at all)
      ∙ ap (λ (k : ℕ). count_by test (map at (range_with_len 0 k))) (sym (length-order keep code.crossings))
      ∙ ap (count_by test) (map-places (kept_order keep code.crossings) 0)
      ∙ reordered-count test all (kept_order keep code.crossings) (reordered-parted keep all)
      ∙ sym (plus-places code.crossings)

  minus-first : minus_count order ≡ minus_count code.crossings
  minus-first = ap₂ (λ (n k : ℕ). n - k) (length-first keep code.crossings) plus-first

  module _ (loops others : ℕ) (adds : loops + others ≡ code.loops) where
    abbrev first : Code
    first = part_of keep code loops

    abbrev second : Code
    second = part_of (λ place. not (keep place)) code others

    abbrev old : Code
    old = listed_by code (kept_first keep code.crossings)

    size : length (union_of first second).crossings ≡ length order
    size = length-both first second ∙ length-parts keep code loops others holds cut adds ∙ sym (length-first keep code.crossings)

    -- and in the union of the parts
    plus-cut : plus_count (union_of first second).crossings ≡ plus_count order
    plus-cut =
        ap (λ (n : ℕ). count_by (is_positive (union_of first second).crossings) (range_with_len 1 n)) size
        ∙ count_by-alike (is_positive (union_of first second).crossings) (is_positive order) 1 (length order)
        (λ c from below.
        sign-cut keep code loops others holds cut adds c
        (record { positive = from; within = omega (arith, below, length-first keep code.crossings) }))

    minus-cut : minus_count (union_of first second).crossings ≡ minus_count order
    minus-cut = ap₂ (λ (n k : ℕ). n - k) size plus-cut

    -- so a code has the dimensions of this union
    pub dimension-cut : (p : ℕ) → HasInverses p → (i j : ℤ) → dimension p (union_of first second) i j ≡ dimension p code i j
    dimension-cut p field i j =
        dimension-renumbered_code p (cut_number keep code loops others holds cut adds) old (union_of first second) field
        (accepted-order keep code loops others holds cut adds) (accepted-cut keep code loops others holds cut adds)
        (numbers-cut keep code loops others holds cut adds) plus-cut minus-cut i j
        ∙ dimension-same_signs p code old field (reordered-kept keep code.crossings) refl plus-first minus-first i j

    -- and its tables are multiplied
    pub tables-cut : (p : ℕ) → HasInverses p → length code.crossings ≤ CROSSINGS → (i j : ℤ)
        → dimension p code i j ≡ rows_product (table p first).rows (table p second).rows i j
    tables-cut p field few i j =
        let sizes = length-parts keep code loops others holds cut adds in
        let parts = accepted-parts keep code loops others holds cut adds in
        sym (dimension-cut p field i j)
        ∙ dimension-tables p first second field parts.0 parts.1 (omega (arith, few, sizes)) (omega (arith, few, sizes)) i j

pub tables-pieces : (p : ℕ) (code : Code) → HasInverses p → IsTrue (accepted code) → length code.crossings ≤ CROSSINGS → (i j : ℤ)
    → dimension p code i j ≡ rows_product (table p (first_piece code)).rows (table p (other_pieces code)).rows i j
tables-pieces p code field holds few i j =
    let adds : 0 + code.loops ≡ code.loops = omega arith in
    tables-cut (is_in_first_piece code.crossings) code holds (IsCut-pieces code holds) 0 code.loops adds p field few i j
