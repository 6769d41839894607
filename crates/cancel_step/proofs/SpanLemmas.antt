-- Lines whose entries stand behind those of others in one list.
use Rattle.std.proofs.lemmas.Bool.Decides.{nat_tests, leb_tells}
use Rattle.std.proofs.Common.{◌≡◌, ℕ, ◌+◌, ◌≤◌, List, [], ◌∷◌, ◌++◌, length, take, drop, ap, ap₂, refl, arith}
use Rattle.std.specs.Prelude.{min, slice_range}
use Rattle.std.proofs.Math.Seq.{drop-append_seam, take-append_seam}
use Rattle.std.proofs.lemmas.List.{drop-append-le, drop-map, drop_all, length-drop, map-append, take-append-le, take-map, take_all}
use Rattle.std.proofs.lemmas.List.Elements.{All-head, All-tail}
use Rattle.kh_types.specs.Complex.{Pivot}
use Rattle.sparse_block.specs.Entries.{Entry}
use Rattle.sparse_block.specs.Changes.{PlacedLine, placed}
use Rattle.cancel_step.specs.Copies.{copied_parts, split_parts}
use Rattle.cancel_step.specs.declared.copied_lines.Span.{Span}
use Rattle.cancel_step.specs.Spans.{AreSpans, spanned_lines}

range-before : (xs ys : List Entry) (a b : ℕ) → a ≤ b → b ≤ length xs → slice_range (xs ++ ys) a b ≡ slice_range xs a b
range-before xs ys a b order within = grind (arith, nat_tests, drop-append-le, take-append-le, length-drop)

range-behind : (xs ys : List Entry) (b : ℕ) → b ≡ length xs + length ys → slice_range (xs ++ ys) (length xs) b ≡ ys
range-behind xs ys b is_end = grind (arith, nat_tests, drop-append_seam, take_all)

lines-before : (spans : List Span) (entries more : List Entry) → AreSpans spans entries
    → spanned_lines spans (entries ++ more) ≡ spanned_lines spans entries
lines-before [] entries more are = refl
lines-before (span ∷ spans) entries more are =
    let Within : Span → Type 0 = λ span. (span.start ≤ span.end) × (span.end ≤ length entries) in
    let here = All-head Within span spans are in
    ap₂ (λ (line : PlacedLine) (lines : List PlacedLine). line ∷ lines)
    (ap (placed span.place) (range-before entries more span.start span.end here.0 here.1))
    (lines-before spans entries more (All-tail Within span spans are))

-- a line more, whose entries are put behind the others
pub lines_pushed : (spans : List Span) (entries more : List Entry) (span : Span) → AreSpans spans entries
    → span.start ≡ length entries → span.end ≡ length entries + length more
    → spanned_lines (spans ++ span ∷ []) (entries ++ more) ≡ spanned_lines spans entries ++ placed span.place more ∷ []
lines_pushed spans entries more span are is_start is_end = grind (arith, nat_tests, map-append, lines-before, range-behind)

-- the first of the lines, and the others

take-least : {X : Type 0} (xs : List X) (n least : ℕ) → least ≡ min n (length xs) → take least xs ≡ take n xs
take-least xs n least is = grind (arith, nat_tests, leb_tells, take_all)

drop-least : {X : Type 0} (xs : List X) (n least : ℕ) → least ≡ min n (length xs) → drop least xs ≡ drop n xs
drop-least xs n least is = grind (arith, nat_tests, leb_tells, drop_all)

pub first-spans : (spans now : List Span) (entries here : List Entry) (count end : ℕ) → now ≡ spans → here ≡ entries
    → end ≡ min count (length spans) → spanned_lines (take end now) here ≡ take count (spanned_lines spans entries)
first-spans spans now entries here count end are_spans are_entries is_end = grind (arith, nat_tests, take-least, take-map)

pub spans-behind : (spans now : List Span) (entries here : List Entry) (count start : ℕ) → now ≡ spans → here ≡ entries
    → start ≡ min count (length spans)
    → spanned_lines (slice_range now start (length now)) here ≡ drop count (spanned_lines spans entries)
spans-behind spans now entries here count start are_spans are_entries is_start =
    grind (arith, nat_tests, take_all, length-drop, drop-least, drop-map)

pub parts-split : (pivot : Pivot) (count : ℕ) (columns rows all : List PlacedLine) → count ≡ length columns → all ≡ columns ++ rows
    → split_parts pivot count all ≡ copied_parts pivot columns rows
parts-split pivot count columns rows all is_count are_all = grind (arith, nat_tests, take-append_seam, drop-append_seam)
