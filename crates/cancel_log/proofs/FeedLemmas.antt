-- Lines without a line feed, and the text that they are, each with one behind it.
use Rattle.std.proofs.Common.{◌≡◌, ℕ, suc, ◌^◌, ◌<◌, ◌∙◌, false, List, [], ◌∷◌, ◌++◌, ℤ, pos, negsuc, refl, ap, arith, codes}
use Rattle.std.specs.Prelude.{unsigned_abs}
use Rattle.std.specs.Fmt.{decimal, signed_decimal}
use Rattle.std.specs.List.{AllByRecursion, flat_map, list_any}
use Rattle.std.specs.Str.Parse.{AllDigits}
use Rattle.std.proofs.lemmas.Bool.{ne_eqb, or_parts}
use Rattle.std.proofs.lemmas.Fmt.{decimal_is_IsNumeral}
use Rattle.std.proofs.lemmas.List.{append_assoc}
use Rattle.std.proofs.lemmas.Str.Parse.{digit_from_value}
use Rattle.kh_types.proofs.Lists.{AllByRecursion-append}
use Rattle.kh_types.specs.Complex.{Pivot}
use Rattle.kh_lex.specs.Lines.{HasNoLineFeed, is_line_feed, lines_of, with_feed}
use Rattle.prime_field.specs.Residues.{IsSmallPrime}
use Rattle.cancel_log.specs.LogLines.{IsShortDegree, IsShortPivot, block_line, cancel_line, field_line}
use Rattle.cancel_log.proofs.StartLines.{small-prime}

-- a line that a line feed ends is the first
lines_of-line : (line rest : List ℕ) → HasNoLineFeed line → lines_of (line ++ 10 ∷ rest) ≡ line ∷ lines_of rest
lines_of-line [] rest whole = refl
lines_of-line (byte ∷ line) rest whole =
    let parts = or_parts (is_line_feed byte) (list_any is_line_feed line) whole in rw (parts.0, lines_of-line line rest parts.1) refl

-- the lines of a text that begins with some
pub lines_of-lines : (lines : List (List ℕ)) (rest : List ℕ) → AllByRecursion HasNoLineFeed lines
    → lines_of (flat_map with_feed lines ++ rest) ≡ lines ++ lines_of rest
lines_of-lines [] rest whole = refl
lines_of-lines (line ∷ lines) rest (one, whole) =
    ap lines_of
    (append_assoc (with_feed line) (flat_map with_feed lines) rest ∙ append_assoc line (codes "\n") (flat_map with_feed lines ++ rest))
    ∙ lines_of-line line (flat_map with_feed lines ++ rest) one ∙ ap (λ (ls : List (List ℕ)). line ∷ ls) (lines_of-lines lines rest whole)

-- bytes that are no line feeds

abbrev pub AreNoFeeds : List ℕ → Type 0
AreNoFeeds bytes = AllByRecursion (λ byte. is_line_feed byte ≡ false) bytes

pub HasNoLineFeed-bytes : (bytes : List ℕ) → AreNoFeeds bytes → HasNoLineFeed bytes
HasNoLineFeed-bytes [] are = refl
HasNoLineFeed-bytes (byte ∷ bytes) (one, are) = rw (one, HasNoLineFeed-bytes bytes are) refl

no_feeds-digits : (ds : List ℕ) → AllDigits 10 ds → AreNoFeeds ds
no_feeds-digits [] are = tt
no_feeds-digits (d ∷ ds) (is, are) =
    let digit = digit_from_value d is in (ne_eqb d 10 (λ same. omega (arith, digit, same)), no_feeds-digits ds are)

pub no_feeds-decimal : (n : ℕ) → n < 2 ^ 64 → AreNoFeeds (decimal n)
no_feeds-decimal n small = no_feeds-digits (decimal n) (decimal_is_IsNumeral n small).0.1

pub no_feeds-signed : (z : ℤ) → unsigned_abs z < 2 ^ 64 → AreNoFeeds (signed_decimal z)
no_feeds-signed (pos n) small = no_feeds-decimal n (omega (arith, small))
no_feeds-signed (negsuc n) small = (refl, no_feeds-decimal (suc n) (omega (arith, small)))

pub no_feeds-append : (xs ys : List ℕ) → AreNoFeeds xs → AreNoFeeds ys → AreNoFeeds (xs ++ ys)
no_feeds-append xs ys = AllByRecursion-append (λ byte. is_line_feed byte ≡ false) xs ys

-- the lines of a log

pub whole-block : (j : ℤ) → IsShortDegree j → HasNoLineFeed (block_line j)
whole-block j short = HasNoLineFeed-bytes (block_line j)
    (refl, (refl, (refl, (refl, (refl, (refl, no_feeds-signed j (omega (arith, short))))))))

pub whole-cancel : (pivot : Pivot) → IsShortPivot pivot → HasNoLineFeed (cancel_line pivot)
whole-cancel pivot short =
    let row = no_feeds-decimal pivot.row (omega (arith, short.row)) in
    let column = no_feeds-append (decimal pivot.column) (codes " " ++ decimal pivot.row)
    (no_feeds-decimal pivot.column (omega (arith, short.column))) (refl, row) in
    let degree = no_feeds-append (signed_decimal pivot.degree) (codes " " ++ (decimal pivot.column ++ (codes " " ++ decimal pivot.row)))
    (no_feeds-signed pivot.degree (omega (arith, short.degree))) (refl, column) in
    HasNoLineFeed-bytes (cancel_line pivot) (refl, (refl, (refl, (refl, (refl, (refl, (refl, degree)))))))

pub whole-field : (p : ℕ) → IsSmallPrime p → HasNoLineFeed (field_line p)
whole-field p prime = HasNoLineFeed-bytes (field_line p)
    (refl, (refl, (refl, (refl, (refl, (refl, no_feeds-decimal p (omega (arith, small-prime p prime))))))))
