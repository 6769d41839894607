-- The lines of fields and of rows, and the words in them. The lines of the four fields are written out, and a field is told by
-- its line. A text is a line where it is the first line of all that begins with it: so are the lines of fields and of rows, since
-- the numbers in them are digits and signs, which are bytes above the space, and so no line feeds. For the same reason a number
-- in a row's line is a word, which ends at the next space or line feed: the second, fourth and sixth words are the quantum
-- degree, the homological degree and the dimension as they are printed. They are not large, so each is read from its word, and a
-- row is told by its line.
use Rattle.std.proofs.Common.{◌≡◌, ◌≢◌, ℕ, suc, ◌+◌, ◌^◌, ◌<◌, ◌≤◌, ◌∙◌, List, [], ◌∷◌, ◌++◌, length, take, drop, ap, sym, refl, subst, inl, inr, arith, true, false, cond, not, codes, ℤ, pos, negsuc, neg_ℤ, ◌+ℤ◌, ◌≤ℤ◌}
use Rattle.std.specs.Prelude.{None, Some, unsigned_abs}
use Rattle.std.specs.Fmt.{decimal, signed_decimal, digits}
use Rattle.std.specs.List.{AllByRecursion, position_or_len}
use Rattle.std.specs.Str.Parse.{AllDigits}
use Rattle.std.proofs.lemmas.Bool.Decides.{nat_tests}
use Rattle.std.proofs.lemmas.Fmt.{decimal_is_IsNumeral, decimal_injective, signed_decimal_injective}
use Rattle.std.proofs.lemmas.Int.{ints}
use Rattle.std.proofs.lemmas.List.{append-nil, append_assoc, append_cancel_left, append_cancel_right}
use Rattle.std.proofs.lemmas.Str.Parse.{digit_from_value}
use Rattle.std.proofs.Math.Seq.{drop-append-add, take-append_seam}
use lib.Signed.{mag}
use Rattle.prime_field.specs.Residues.{IsSmallPrime}
use Rattle.kh_types.proofs.Lists.{AllByRecursion-append}
use Rattle.kh_types.proofs.QuantumDegrees.{IsWithin-place, place-IsWithin}
use Rattle.kh_types.specs.declared.limits.TheConstants.{CROSSINGS, EXPONENT}
use Rattle.kh_types.specs.Table.{Row, IsWithin, row_text}
use Rattle.circle_smoothing.specs.declared.limits.TheConstants.{GENERATORS}
use Rattle.kh_lex.specs.Numerals.{signed_numeral_of}
use Rattle.kh_lex.specs.declared.limits.TheConstants.{NUMBER_DIGITS}
use Rattle.kh_lex.proofs.NumeralReads.{WritesSigned-signed_decimal, signed_numeral_of-WritesSigned}
use Rattle.homology_tables.specs.Tables.{IsRow}
use Rattle.table_text.specs.Lines.{first_line, field_text}
use Rattle.kh_lex.specs.Lines.{is_line_feed}
use Rattle.table_text.specs.Words.{is_end, word_of, behind_word, IsFieldIn}
use Rattle.table_text.proofs.LineLemmas.{first_line-line}

-- the lines of the fields

field_two : (field : ℕ) → field ≡ 2 → field_text field ≡ codes "field 2\n"
unfolding digits
field_two field is = ap field_text is

field_three : (field : ℕ) → field ≡ 3 → field_text field ≡ codes "field 3\n"
unfolding digits
field_three field is = ap field_text is

field_five : (field : ℕ) → field ≡ 5 → field_text field ≡ codes "field 5\n"
unfolding digits
field_five field is = ap field_text is

field_seven : (field : ℕ) → field ≡ 7 → field_text field ≡ codes "field 7\n"
unfolding digits
field_seven field is = ap field_text is

pub IsFieldIn-two : (line : List ℕ) → line ≡ codes "field 2\n" → IsFieldIn line (Some 2)
IsFieldIn-two line is = (inl refl, is ∙ sym (field_two 2 refl))

pub IsFieldIn-three : (line : List ℕ) → line ≡ codes "field 3\n" → IsFieldIn line (Some 3)
IsFieldIn-three line is = (inr (inl refl), is ∙ sym (field_three 3 refl))

pub IsFieldIn-five : (line : List ℕ) → line ≡ codes "field 5\n" → IsFieldIn line (Some 5)
IsFieldIn-five line is = (inr (inr (inl refl)), is ∙ sym (field_five 5 refl))

pub IsFieldIn-seven : (line : List ℕ) → line ≡ codes "field 7\n" → IsFieldIn line (Some 7)
IsFieldIn-seven line is = (inr (inr (inr refl)), is ∙ sym (field_seven 7 refl))

pub IsFieldIn-none : (line : List ℕ) → line ≢ codes "field 2\n" → line ≢ codes "field 3\n" → line ≢ codes "field 5\n"
    → line ≢ codes "field 7\n" → IsFieldIn line None
IsFieldIn-none line two three five seven field prime is = elim prime [
  | inl e ↦ two (is ∙ field_two field e)
  | inr (inl e) ↦ three (is ∙ field_three field e)
  | inr (inr (inl e)) ↦ five (is ∙ field_five field e)
  | inr (inr (inr e)) ↦ seven (is ∙ field_seven field e)
]

pub ruleset fields = (IsFieldIn-two, IsFieldIn-three, IsFieldIn-five, IsFieldIn-seven, IsFieldIn-none)

pub field_text-injective : (field other : ℕ) → IsSmallPrime field → IsSmallPrime other → field_text field ≡ field_text other → field ≡ other
field_text-injective field other prime other_prime same =
    decimal_injective field other (small field prime) (small other other_prime)
    (append_cancel_right (decimal field) (decimal other) (codes "\n")
    (append_cancel_left (codes "field ") (decimal field ++ codes "\n") (decimal other ++ codes "\n") same))
  where
    small : (p : ℕ) → IsSmallPrime p → p < 2 ^ 64
    small p is = elim is [
      | inl e ↦ omega arith
      | inr (inl e) ↦ omega arith
      | inr (inr (inl e)) ↦ omega arith
      | inr (inr (inr e)) ↦ omega arith
    ]

-- a text is a line: whatever stands behind it, it is the first line
abbrev pub IsLine : List ℕ → Type 0
IsLine line = (more : List ℕ) → first_line (line ++ more) ≡ line

pub IsLine-field : (field : ℕ) → IsSmallPrime field → IsLine (field_text field)
IsLine-field field prime = elim prime [
  | inl e ↦ subst IsLine (sym (field_two field e)) (λ more. refl)
  | inr (inl e) ↦ subst IsLine (sym (field_three field e)) (λ more. refl)
  | inr (inr (inl e)) ↦ subst IsLine (sym (field_five field e)) (λ more. refl)
  | inr (inr (inr e)) ↦ subst IsLine (sym (field_seven field e)) (λ more. refl)
]

-- bytes above the space

abbrev above_space : ℕ → Type 0
above_space byte = 32 < byte

above-digits : (ds : List ℕ) → AllDigits 10 ds → AllByRecursion above_space ds
above-digits [] are = tt
above-digits (d ∷ ds) (is, are) = (omega (arith, digit_from_value d is), above-digits ds are)

above-decimal : (n : ℕ) → n < 2 ^ 64 → AllByRecursion above_space (decimal n)
above-decimal n small = above-digits (decimal n) (decimal_is_IsNumeral n small).0.1

above-signed_decimal : (z : ℤ) → unsigned_abs z ≤ GENERATORS → AllByRecursion above_space (signed_decimal z)
above-signed_decimal (pos n) small = above-decimal n (omega (arith, small))
above-signed_decimal (negsuc n) small = (omega arith, above-decimal (suc n) (omega (arith, small)))

no_feed : (bytes : List ℕ) → AllByRecursion above_space bytes → AllByRecursion (λ byte. is_line_feed byte ≡ false) bytes
no_feed [] are = tt
no_feed (byte ∷ bytes) (is, are) = (grind (arith, nat_tests), no_feed bytes are)

-- the numbers of a row are not large

pub IsWithin-bounds : (n : ℕ) (i : ℤ) → IsWithin n i → (neg_ℤ (pos n) ≤ℤ i) × (i ≤ℤ pos n)
IsWithin-bounds n i within =
    let place = place-IsWithin n i within in
    (omega (arith, ints, place.1, place.2), omega (arith, ints, place.1, place.2))

pub bounds-IsWithin : (n : ℕ) (i : ℤ) → neg_ℤ (pos n) ≤ℤ i → i ≤ℤ pos n → IsWithin n i
bounds-IsWithin n i low high =
    IsWithin-place n (unsigned_abs (i +ℤ pos n)) i (omega (arith, ints, low, high)) (omega (arith, ints, low, high))

pub small-j : (row : Row) → IsRow row → unsigned_abs row.j ≤ GENERATORS
small-j row is = let bounds = IsWithin-bounds EXPONENT row.j is.j in omega (arith, ints, bounds.0, bounds.1)

pub small-i : (row : Row) → IsRow row → unsigned_abs row.i ≤ GENERATORS
small-i row is = let bounds = IsWithin-bounds CROSSINGS row.i is.i in omega (arith, ints, bounds.0, bounds.1)

-- the line of a row

row_front : Row → List ℕ
row_front row =
    codes "j " ++ (signed_decimal row.j ++ (codes " i " ++ (signed_decimal row.i ++ (codes " dim " ++ decimal row.dim))))

row_text-front : (row : Row) (more : List ℕ) → row_text row ++ more ≡ row_front row ++ 10 ∷ more
unfolding row_front
row_text-front row more = simp append_assoc

row_front-no_feed : (row : Row) → IsRow row → AllByRecursion (λ byte. is_line_feed byte ≡ false) (row_front row)
unfolding row_front
row_front-no_feed row is =
    let NoFeed : ℕ → Type 0 = λ byte. is_line_feed byte ≡ false in
    let dim = no_feed (decimal row.dim) (above-decimal row.dim (omega (arith, is.few))) in
    let i = no_feed (signed_decimal row.i) (above-signed_decimal row.i (small-i row is)) in
    let j = no_feed (signed_decimal row.j) (above-signed_decimal row.j (small-j row is)) in
    let last : AllByRecursion NoFeed (codes " dim " ++ decimal row.dim) = (refl, (refl, (refl, (refl, (refl, dim))))) in
    let middle : AllByRecursion NoFeed (codes " i " ++ (signed_decimal row.i ++ (codes " dim " ++ decimal row.dim))) =
    (refl, (refl, (refl, AllByRecursion-append NoFeed (signed_decimal row.i) (codes " dim " ++ decimal row.dim) i last))) in (
      refl,
      (
        refl,
        AllByRecursion-append NoFeed (signed_decimal row.j)
            (codes " i " ++ (signed_decimal row.i ++ (codes " dim " ++ decimal row.dim))) j middle,
      ),
    )

pub IsLine-row : (row : Row) → IsRow row → IsLine (row_text row)
IsLine-row row is more =
    ap first_line (row_text-front row more) ∙ first_line-line (row_front row) more (row_front-no_feed row is)
    ∙ sym (row_text-front row []) ∙ append-nil (row_text row)

-- words

word-length : (word rest : List ℕ) (byte : ℕ) → AllByRecursion above_space word → is_end byte ≡ true
    → position_or_len is_end (word ++ byte ∷ rest) ≡ length word
word-length [] rest byte above ends = ap (λ b. cond (not b) (1 + position_or_len is_end rest) 0) ends
word-length (letter ∷ word) rest byte (is, above) ends =
    let other : is_end letter ≡ false = grind (arith, nat_tests) in
    ap (λ b. cond (not b) (1 + position_or_len is_end (word ++ byte ∷ rest)) 0) other
    ∙ omega (arith, word-length word rest byte above ends)

word_of-word : (word rest : List ℕ) (byte : ℕ) → AllByRecursion above_space word → is_end byte ≡ true
    → word_of (word ++ byte ∷ rest) ≡ word
word_of-word word rest byte above ends =
    ap (λ n. take n (word ++ byte ∷ rest)) (word-length word rest byte above ends) ∙ take-append_seam word (byte ∷ rest)

behind_word-word : (word rest : List ℕ) (byte : ℕ) → AllByRecursion above_space word → is_end byte ≡ true
    → behind_word (word ++ byte ∷ rest) ≡ rest
behind_word-word word rest byte above ends =
    ap (λ n. drop (n + 1) (word ++ byte ∷ rest)) (word-length word rest byte above ends) ∙ drop-append-add word (byte ∷ rest) 1

-- the three numbers in a line
abbrev pub second_word : List ℕ → List ℕ
second_word line = word_of (behind_word line)

abbrev pub behind_two : List ℕ → List ℕ
behind_two line = behind_word (behind_word line)

pub record HasNumbers (line : List ℕ) (row : Row) : Type 0 where
  pub j : second_word line ≡ signed_decimal row.j
  pub i : second_word (behind_two line) ≡ signed_decimal row.i
  pub dim : second_word (behind_two (behind_two line)) ≡ signed_decimal (pos row.dim)

pub HasNumbers-row : (row : Row) → IsRow row → HasNumbers (row_text row) row
HasNumbers-row row is =
    let dim : List ℕ = decimal row.dim in
    let behind_i : List ℕ = codes "dim " ++ (dim ++ codes "\n") in
    let behind_j : List ℕ = codes "i " ++ (signed_decimal row.i ++ (codes " " ++ behind_i)) in
    let j_above = above-signed_decimal row.j (small-j row is) in
    let i_above = above-signed_decimal row.i (small-i row is) in
    let dim_above = above-decimal row.dim (omega (arith, is.few)) in
    let after_j : behind_two (row_text row) ≡ behind_j = behind_word-word (signed_decimal row.j) behind_j 32 j_above refl in
    let after_i : behind_two behind_j ≡ behind_i = behind_word-word (signed_decimal row.i) behind_i 32 i_above refl in
    record {
      j = word_of-word (signed_decimal row.j) behind_j 32 j_above refl;
      i = ap second_word after_j ∙ word_of-word (signed_decimal row.i) behind_i 32 i_above refl;
      dim = ap (λ (line : List ℕ). second_word (behind_two line)) after_j ∙ ap second_word after_i
          ∙ word_of-word dim [] 10 dim_above refl;
    }

-- a number that is not large is read from what is printed of it
pub number-written : (z : ℤ) (word : List ℕ) → unsigned_abs z ≤ GENERATORS → word ≡ signed_decimal z
    → signed_numeral_of NUMBER_DIGITS word ≡ Some z
number-written z word small is =
    ap (signed_numeral_of NUMBER_DIGITS) is
    ∙ signed_numeral_of-WritesSigned NUMBER_DIGITS (signed_decimal z) z
    (WritesSigned-signed_decimal NUMBER_DIGITS z (omega arith) (omega (arith, small)) (omega (arith, small)))

-- a row is told by its line

pub mag-le : (z : ℤ) → mag z ≤ unsigned_abs z
mag-le (pos n) = omega arith
mag-le (negsuc n) = omega arith

pub small-mag : (z : ℤ) → unsigned_abs z ≤ GENERATORS → mag z < 2 ^ 63
small-mag z small = omega (arith, mag-le z, small)

made : ℤ → ℤ → ℕ → Row
made j i dim = record { j = j; i = i; dim = dim }

pub row_text-injective : (row other : Row) → IsRow row → IsRow other → row_text row ≡ row_text other → row ≡ other
unfolding made
row_text-injective row other is other_is same =
    let one = HasNumbers-row row is in
    let two = HasNumbers-row other other_is in
    let j : row.j ≡ other.j =
    signed_decimal_injective row.j other.j (small-mag row.j (small-j row is)) (small-mag other.j (small-j other other_is))
    (sym one.j ∙ ap second_word same ∙ two.j) in
    let i : row.i ≡ other.i =
    signed_decimal_injective row.i other.i (small-mag row.i (small-i row is)) (small-mag other.i (small-i other other_is))
    (sym one.i ∙ ap (λ (line : List ℕ). second_word (behind_two line)) same ∙ two.i) in
    let dim : row.dim ≡ other.dim =
    decimal_injective row.dim other.dim (omega (arith, is.few)) (omega (arith, other_is.few))
    (sym one.dim ∙ ap (λ (line : List ℕ). second_word (behind_two (behind_two line))) same ∙ two.dim) in
    ap (λ (z : ℤ). made z row.i row.dim) j ∙ ap (λ (z : ℤ). made other.j z row.dim) i ∙ ap (made other.j other.i) dim
