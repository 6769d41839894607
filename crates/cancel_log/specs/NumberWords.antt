-- The numbers in lines, exactly as they are printed, as the way of the code.
use Rattle.std.specs.Prelude.{◌≡◌, ◌≢◌, ◌<◌, ◌^◌, ◌==◌, ◌||◌, ℕ, ℤ, List, ◌∷◌, ◌++◌, length, codes, slice_index, Bool, false, not, if◌then◌else◌, Option, None, Some}
use Rattle.std.specs.List.{AllByRecursion}
use Rattle.std.specs.Fmt.{decimal, signed_decimal}
use Rattle.kh_types.specs.Complex.{Pivot}
use Rattle.cancel_log.specs.LogLines.{IsShortDegree, IsShortPivot}
use Rattle.cancel_log.specs.declared.limits.TheConstants.{PLACE_DIGITS}

-- the digits of a word, behind a minus sign if it has one, do not begin with a 0, unless that is the whole word
abbrev pub is_printed : List ℕ → Bool
is_printed word =
    if slice_index word 0 == 45 then not (slice_index word 1 == 48)
    else (not (slice_index word 0 == 48) || (length word == 1))

-- the column or row that a word is the print of, if there is one
abbrev pub IsPlaceIn : List ℕ → Option ℕ → Type 0
IsPlaceIn word (Some place) = (word ≡ decimal place) × (place < 10 ^ PLACE_DIGITS)
IsPlaceIn word None = (place : ℕ) → place < 10 ^ PLACE_DIGITS → word ≢ decimal place

-- the degree that a word is the print of, if there is one
abbrev pub IsDegreeIn : List ℕ → Option ℤ → Type 0
IsDegreeIn word (Some degree) = (word ≡ signed_decimal degree) × IsShortDegree degree
IsDegreeIn word None = (degree : ℤ) → IsShortDegree degree → word ≢ signed_decimal degree

-- the numbers of a pivot in print, as they stand in a line
abbrev pub pivot_text : Pivot → List ℕ
pivot_text pivot = signed_decimal pivot.degree ++ (codes " " ++ (decimal pivot.column ++ (codes " " ++ decimal pivot.row)))

-- the pivot whose numbers a text is the print of, if there is one
abbrev pub IsPivotIn : List ℕ → Option Pivot → Type 0
IsPivotIn text (Some pivot) = (text ≡ pivot_text pivot) × IsShortPivot pivot
IsPivotIn text None = (pivot : Pivot) → IsShortPivot pivot → text ≢ pivot_text pivot

-- three words are the print of the numbers of a pivot
pub record AreWordsOf (degree column row : List ℕ) (pivot : Pivot) : Type 0 where
  pub is_degree : degree ≡ signed_decimal pivot.degree
  pub is_column : column ≡ decimal pivot.column
  pub is_row : row ≡ decimal pivot.row

-- the pivot whose numbers three words are the print of, if there is one
abbrev pub IsPivotOf : List ℕ → List ℕ → List ℕ → Option Pivot → Type 0
IsPivotOf degree column row (Some pivot) = AreWordsOf degree column row pivot × IsShortPivot pivot
IsPivotOf degree column row None = (pivot : Pivot) → IsShortPivot pivot → AreWordsOf degree column row pivot → ⊥

-- a byte is a space
abbrev pub is_space : ℕ → Bool
is_space byte = byte == 32

-- no byte of a text is a space
abbrev pub HasNoSpace : List ℕ → Type 0
HasNoSpace text = AllByRecursion (λ byte. is_space byte ≡ false) text

-- a text is cut at its first space, between what stands before it and what is behind it
pub record IsCutAtSpace (text word rest : List ℕ) : Type 0 where
  pub parts : text ≡ word ++ 32 ∷ rest
  pub first : HasNoSpace word
