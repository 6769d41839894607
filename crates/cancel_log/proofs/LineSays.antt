-- Each line says one thing.
-- That it says something is decided as the code does it: by its front, then by the spaces behind the front, then by the numbers
-- between them (`Says-some`). That it says nothing else (`Says-one`): a print tells its number, so that lines of one kind that are
-- alike say the same, and lines of two kinds begin with two bytes.
use Rattle.std.proofs.Common.{◌≡◌, ◌≢◌, ◌⊎◌, ℕ, ◌+◌, ◌<◌, ◌^◌, ◌∙◌, ◌==◌, Bool, true, false, List, [], ◌∷◌, ◌++◌, take, drop, get_or, ℤ, pos, negsuc, inl, inr, refl, sym, ap, ap₂, subst, arith, codes}
use Rattle.std.specs.Prelude.{Option, None, Some}
use Rattle.std.specs.Fmt.{decimal, signed_decimal}
use Rattle.std.specs.List.{position}
use Rattle.std.specs.Str.{bytes_eq}
use Rattle.std.proofs.lemmas.Bool.{eq-eqb, eqb-true}
use Rattle.std.proofs.lemmas.Bool.Decides.{not_from_Decides}
use Rattle.std.proofs.lemmas.Fmt.{decimal_injective, signed_decimal_injective}
use Rattle.std.proofs.lemmas.List.{append_cancel_left}
use Rattle.std.proofs.lemmas.Slice.Eq.{bytes_eq-Decides}
use lib.Signed.{mag}
use Rattle.kh_types.specs.Complex.{Pivot, pivot_at}
use Rattle.kh_lex.specs.Numerals.{numeral_of, signed_numeral_of}
use Rattle.cancel_log.specs.LogLines.{IsShortDegree, IsShortPivot, Says, block_line, cancel_line, close_line}
use Rattle.cancel_log.specs.NumberWords.{HasNoSpace, IsCutAtSpace, IsDegreeIn, IsPivotIn, IsPivotOf, IsPlaceIn, is_printed, is_space, pivot_text}
use Rattle.cancel_log.specs.declared.limits.TheConstants.{DEGREE_DIGITS, PLACE_DIGITS}
use Rattle.cancel_log.specs.declared.line.LogLine.{LogLine}
use Rattle.cancel_log.specs.declared.line.LogLine.TheVariants.{Cancel, Begin, Close, Other}
use Rattle.cancel_log.proofs.LineTexts.{cut-found, cut-is, cut-none, cut-once, cut-pivot, cut-places, pivot-cut, pivot-uncut, pivot-uncut_places, said-begin, said-cancel, said-no_degree, said-no_pivot, said-nothing, words-no_column, words-no_degree, words-no_row, words-some}
use Rattle.cancel_log.proofs.NumberTexts.{degree-none, degree-some, degree-unprinted, place-none, place-read}

-- a line begins with a front, or it does not

abbrev Behind : List ℕ → List ℕ → Type 0
Behind line front = ((rest : List ℕ) × (line ≡ front ++ rest)) ⊎ ((rest : List ℕ) → line ≢ front ++ rest)

-- with a byte before each
behind_step : (same : Bool) (byte other : ℕ) (line front : List ℕ) → (byte == other) ≡ same → Behind line front
    → Behind (byte ∷ line) (other ∷ front)
behind_step true byte other line front is (inl (rest, parts)) =
    inl (rest, cc (eqb-true byte other is, parts))
behind_step true byte other line front is (inr none) = inr (λ rest parts. none rest (cc (parts)))
behind_step false byte other line front is decided = inr (λ rest parts. absurd (cc (is, eq-eqb byte other (cc (parts)))))

-- each line is the one or the other
behind-decided : (line front : List ℕ) → Behind line front
behind-decided line [] = inl (line, refl)
behind-decided [] (byte ∷ front) = inr (λ rest parts. absurd (cc (parts)))
behind-decided (byte ∷ line) (other ∷ front) = behind_step (byte == other) byte other line front refl (behind-decided line front)

-- words are the print of a number, or of none

-- by what is read
degree_by : (printed : Bool) (word : List ℕ) (read : Option ℤ) → is_printed word ≡ printed → signed_numeral_of DEGREE_DIGITS word ≡ read
    → (result : Option ℤ) × IsDegreeIn word result
degree_by false word read passes is = (None, degree-unprinted word passes)
degree_by true word None passes is = (None, degree-none word is)
degree_by true word (Some degree) passes is = (Some degree, degree-some word degree degree passes is refl)

-- a word is the print of a degree, or of none
degree-decided : (word : List ℕ) → (result : Option ℤ) × IsDegreeIn word result
degree-decided word = degree_by (is_printed word) word (signed_numeral_of DEGREE_DIGITS word) refl refl

-- by the test of its digits
place_by : (printed : Bool) (word : List ℕ) → is_printed word ≡ printed → (result : Option ℕ) × IsPlaceIn word result
place_by false word passes = (None, place-none word passes)
place_by true word passes = (numeral_of PLACE_DIGITS word, place-read word (numeral_of PLACE_DIGITS word) passes refl)

-- a word is the print of a column or row, or of none
place-decided : (word : List ℕ) → (result : Option ℕ) × IsPlaceIn word result
place-decided word = place_by (is_printed word) word refl

-- a text is the print of a pivot, or of none

-- by the numbers of the three
words_by : (degree column row : List ℕ) (i : Option ℤ) (m n : Option ℕ) → IsDegreeIn degree i → IsPlaceIn column m → IsPlaceIn row n
    → (result : Option Pivot) × IsPivotOf degree column row result
words_by degree column row None m n first second third = (None, words-no_degree degree column row first)
words_by degree column row (Some i) None n first second third = (None, words-no_column degree column row second)
words_by degree column row (Some i) (Some m) None first second third = (None, words-no_row degree column row third)
words_by degree column row (Some i) (Some m) (Some n) first second third =
    (Some (pivot_at i m n), words-some degree column row (pivot_at i m n) first second third)

-- three words are the print of a pivot, or of none
words-decided : (degree column row : List ℕ) → (result : Option Pivot) × IsPivotOf degree column row result
words-decided degree column row =
    let first = degree-decided degree in
    let second = place-decided column in
    let third = place-decided row in
    words_by degree column row first.0 second.0 third.0 first.1 second.1 third.1

-- a text is cut at a space, or has none
abbrev Cut : List ℕ → Type 0
Cut text = ((word : List ℕ) × (rest : List ℕ) × IsCutAtSpace text word rest) ⊎ HasNoSpace text

-- by the place of the first space
cut_by : (text : List ℕ) (space : Option ℕ) → position is_space text ≡ space → Cut text
cut_by text None is = inr (cut-none text is)
cut_by text (Some space) is = inl (take space text, drop (space + 1) text, cut-found text space is)

-- each text is the one or the other
cut-decided : (text : List ℕ) → Cut text
cut-decided text = cut_by text (position is_space text) refl

-- by the second cut
places_by : (text degree places : List ℕ) → IsCutAtSpace text degree places → Cut places → (result : Option Pivot) × IsPivotIn text result
places_by text degree places cut (inr none) = (None, pivot-uncut_places text degree places cut none)
places_by text degree places cut (inl (column, row, again)) =
    let words = words-decided degree column row in
    (words.0, pivot-cut text degree places column row words.0 cut again words.1)

-- by the first cut
pivot_by : (text : List ℕ) → Cut text → (result : Option Pivot) × IsPivotIn text result
pivot_by text (inr none) = (None, pivot-uncut text none)
pivot_by text (inl (degree, places, cut)) = places_by text degree places cut (cut-decided places)

-- a text is the print of a pivot, or of none
pivot-decided : (text : List ℕ) → (result : Option Pivot) × IsPivotIn text result
pivot-decided text = pivot_by text (cut-decided text)

-- each line says something

-- a line with what it says
abbrev Said : List ℕ → Type 0
Said line = (said : LogLine) × Says line said

-- behind `block `
said_degree : (line word : List ℕ) (result : Option ℤ) → line ≡ codes "block " ++ word → IsDegreeIn word result → Said line
said_degree line word None parts none = (Other, said-no_degree line word parts none)
said_degree line word (Some degree) parts is = (Begin degree, said-begin line word degree parts is)

-- behind `cancel `
said_pivot : (line text : List ℕ) (result : Option Pivot) → line ≡ codes "cancel " ++ text → IsPivotIn text result → Said line
said_pivot line text None parts none = (Other, said-no_pivot line text parts none)
said_pivot line text (Some pivot) parts is = (Cancel pivot, said-cancel line text pivot parts is)

-- by what a line begins with
said_by : (line : List ℕ) (closes : Bool) → bytes_eq line close_line ≡ closes → Behind line (codes "block ")
    → Behind line (codes "cancel ") → Said line
said_by line true is begins cancels = (Close, (bytes_eq-Decides line close_line).0 is)
said_by line false other (inl (word, parts)) cancels =
    let read = degree-decided word in said_degree line word read.0 parts read.1
said_by line false other (inr begins) (inl (text, parts)) =
    let read = pivot-decided text in said_pivot line text read.0 parts read.1
said_by line false other (inr begins) (inr cancels) =
    (Other, said-nothing line (not_from_Decides (bytes_eq line close_line) (bytes_eq-Decides line close_line) other) begins cancels)

-- each line says something
pub Says-some : (line : List ℕ) → (said : LogLine) × Says line said
Says-some line =
    said_by line (bytes_eq line close_line) refl (behind-decided line (codes "block ")) (behind-decided line (codes "cancel "))

-- and nothing else

-- few digits are fewer than the print has room for
short-magnitude : (z : ℤ) → IsShortDegree z → mag z < 2 ^ 63
short-magnitude (pos n) short = omega (arith, short)
short-magnitude (negsuc n) short = omega (arith, short)

-- degrees with one print are one
degree-one : (i j : ℤ) → IsShortDegree i → IsShortDegree j → signed_decimal i ≡ signed_decimal j → i ≡ j
degree-one i j short also same = signed_decimal_injective i j (short-magnitude i short) (short-magnitude j also) same

-- pivots with one line are one
cancel_line-one : (pivot other : Pivot) → IsShortPivot pivot → IsShortPivot other → cancel_line pivot ≡ cancel_line other → pivot ≡ other
cancel_line-one pivot other short also same =
    let places = decimal pivot.column ++ 32 ∷ decimal pivot.row in
    let cut = cut-is (pivot_text pivot) (signed_decimal pivot.degree) places other also (cut-pivot pivot short)
    (append_cancel_left (codes "cancel ") (pivot_text pivot) (pivot_text other) same) in
    let again = cut-once places (decimal pivot.column) (decimal pivot.row) (decimal other.column) (decimal other.row)
    (cut-places pivot short)
    (subst (λ (t : List ℕ). IsCutAtSpace t (decimal other.column) (decimal other.row)) (sym cut.1) (cut-places other also)) in
    let degree = degree-one pivot.degree other.degree short.degree also.degree cut.0 in
    let column = decimal_injective pivot.column other.column (omega (arith, short.column)) (omega (arith, also.column)) again.0 in
    let row = decimal_injective pivot.row other.row (omega (arith, short.row)) (omega (arith, also.row)) again.1 in
    ap₂ (λ (i : ℤ) (n : ℕ). pivot_at i n pivot.row) degree column ∙ ap (pivot_at other.degree other.column) row

-- degrees with one line are one
block_line-one : (i j : ℤ) → IsShortDegree i → IsShortDegree j → block_line i ≡ block_line j → i ≡ j
block_line-one i j short also same =
    degree-one i j short also (append_cancel_left (codes "block ") (signed_decimal i) (signed_decimal j) same)

-- lines of two kinds begin with other bytes

-- `cancel` and `block`
cancel-begin : (pivot : Pivot) (j : ℤ) → cancel_line pivot ≢ block_line j
cancel-begin pivot j same = let so : 99 ≡ 98 = ap (λ (line : List ℕ). get_or line 0 0) same in omega (arith, so)

-- `cancel` and `table`
cancel-close : (pivot : Pivot) → cancel_line pivot ≢ close_line
cancel-close pivot same = let so : 99 ≡ 116 = ap (λ (line : List ℕ). get_or line 0 0) same in omega (arith, so)

-- `block` and `table`
begin-close : (j : ℤ) → block_line j ≢ close_line
begin-close j same = let so : 98 ≡ 116 = ap (λ (line : List ℕ). get_or line 0 0) same in omega (arith, so)

-- a line says one thing
pub Says-one : (line : List ℕ) (a b : LogLine) → Says line a → Says line b → a ≡ b
Says-one line (Cancel pivot) (Cancel other) (is, short) (same, also) = ap Cancel (cancel_line-one pivot other short also (sym is ∙ same))
Says-one line (Cancel pivot) (Begin j) (is, short) (same, also) = absurd (cancel-begin pivot j (sym is ∙ same))
Says-one line (Cancel pivot) Close (is, short) same = absurd (cancel-close pivot (sym is ∙ same))
Says-one line (Cancel pivot) Other (is, short) (cancels, begins, closes) = absurd (cancels pivot short is)
Says-one line (Begin j) (Cancel pivot) (is, short) (same, also) = absurd (cancel-begin pivot j (sym same ∙ is))
Says-one line (Begin j) (Begin i) (is, short) (same, also) = ap Begin (block_line-one j i short also (sym is ∙ same))
Says-one line (Begin j) Close (is, short) same = absurd (begin-close j (sym is ∙ same))
Says-one line (Begin j) Other (is, short) (cancels, begins, closes) = absurd (begins j short is)
Says-one line Close (Cancel pivot) is (same, also) = absurd (cancel-close pivot (sym same ∙ is))
Says-one line Close (Begin j) is (same, also) = absurd (begin-close j (sym same ∙ is))
Says-one line Close Close is same = refl
Says-one line Close Other is (cancels, begins, closes) = absurd (closes is)
Says-one line Other (Cancel pivot) (cancels, begins, closes) (same, also) = absurd (cancels pivot also same)
Says-one line Other (Begin j) (cancels, begins, closes) (same, also) = absurd (begins j also same)
Says-one line Other Close (cancels, begins, closes) same = absurd (closes same)
Says-one line Other Other is same = refl
