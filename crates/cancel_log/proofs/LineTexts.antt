-- What lines say, by their texts.
-- A text is cut at its first space in one way (`cut-once`), and a number in print has no space. So the text of a pivot has one cut
-- into three words, and a text is that of a pivot exactly where its words are the prints of the three numbers (`pivot-cut`). A line
-- says what its front tells and what the text behind it reads as, or nothing where that reads as nothing.
use Rattle.std.proofs.Common.{◌≡◌, ◌≢◌, ℕ, suc, ◌+◌, ◌<◌, ◌≤◌, ◌^◌, ◌∙◌, Bool, true, false, cond, not, List, [], ◌∷◌, ◌++◌, length, take, take_all, drop, get_or, ◌-◌, Bor, ℤ, pos, negsuc, refl, sym, ap, subst, subst₂, arith, codes}
use Rattle.std.specs.Option.{MatchOption}
use Rattle.std.specs.Prelude.{IfSome, Option, None, Some, unsigned_abs}
use Rattle.std.specs.Fmt.{decimal, signed_decimal}
use Rattle.std.specs.List.{position, position_or_len}
use Rattle.std.specs.Str.Parse.{AllDigits}
use Rattle.std.proofs.lemmas.Bool.{eqb-true, ne_eqb}
use Rattle.std.proofs.lemmas.Bool.Decides.{nat_tests}
use Rattle.std.proofs.lemmas.Fmt.{decimal_is_IsNumeral}
use Rattle.std.proofs.lemmas.List.{append_cancel_left, length-drop}
use Rattle.std.proofs.lemmas.Str.Parse.{digit_from_value}
use Rattle.kh_types.specs.Complex.{Pivot}
use Rattle.cancel_log.specs.LogLines.{IsShortPivot, Says, close_line}
use Rattle.cancel_log.specs.NumberWords.{HasNoSpace, IsCutAtSpace, IsDegreeIn, IsPivotIn, IsPivotOf, IsPlaceIn, is_space, pivot_text}
use Rattle.cancel_log.specs.declared.line.LogLine.TheVariants.{Cancel, Begin, Other}

-- the cut at the first space

cut_step : (b : Bool) (byte : ℕ) (more : List ℕ) (n size : ℕ) → is_space byte ≡ b
    → (n < length more → IsCutAtSpace more (take n more) (drop (n + 1) more)) → size ≡ cond (not b) (1 + n) 0
    → size < length (byte ∷ more) → IsCutAtSpace (byte ∷ more) (take size (byte ∷ more)) (drop (size + 1) (byte ∷ more))
cut_step true byte more n size is rest same within =
    let next : size + 1 ≡ 1 = omega (arith, same) in
    subst₂ (λ (m k : ℕ). IsCutAtSpace (byte ∷ more) (take m (byte ∷ more)) (drop k (byte ∷ more))) (sym same) (sym next)
    (record { parts = ap (λ (b : ℕ). b ∷ more) (eqb-true byte 32 is); first = tt })
cut_step false byte more n size is rest same within =
    let here : size ≡ suc n = omega (arith, same) in
    let next : size + 1 ≡ suc (n + 1) = omega (arith, same) in
    let cut = rest (omega (arith, within, here)) in
    subst₂ (λ (m k : ℕ). IsCutAtSpace (byte ∷ more) (take m (byte ∷ more)) (drop k (byte ∷ more))) (sym here) (sym next)
    (record { parts = ap (λ (t : List ℕ). byte ∷ t) cut.parts; first = (is, cut.first) })

cut-first : (text : List ℕ) → position_or_len is_space text < length text
    → IsCutAtSpace text (take (position_or_len is_space text) text) (drop (position_or_len is_space text + 1) text)
cut-first [] within = absurd (omega (arith, within))
cut-first (byte ∷ more) within =
    cut_step (is_space byte) byte more (position_or_len is_space more) (position_or_len is_space (byte ∷ more)) refl (cut-first more) refl
    within

no_space_step : (b : Bool) (byte : ℕ) (more : List ℕ) (n size : ℕ) → is_space byte ≡ b → (length more ≤ n → HasNoSpace more)
    → size ≡ cond (not b) (1 + n) 0 → length (byte ∷ more) ≤ size → HasNoSpace (byte ∷ more)
no_space_step true byte more n size is rest same past = absurd (omega (arith, same, past))
no_space_step false byte more n size is rest same past = (is, rest (omega (arith, same, past)))

no_space-all : (text : List ℕ) → length text ≤ position_or_len is_space text → HasNoSpace text
no_space-all [] past = tt
no_space-all (byte ∷ more) past =
    no_space_step (is_space byte) byte more (position_or_len is_space more) (position_or_len is_space (byte ∷ more)) refl
    (no_space-all more) refl past

pub cut-found : (text : List ℕ) (space : ℕ) → position is_space text ≡ Some space
    → IsCutAtSpace text (take space text) (drop (space + 1) text)
cut-found text space is =
    let within : position_or_len is_space text < length text = grind (arith, nat_tests) in
    let same : position_or_len is_space text ≡ space = grind (arith, nat_tests) in
    subst (λ (n : ℕ). IsCutAtSpace text (take n text) (drop (n + 1) text)) same (cut-first text within)

pub cut-none : (text : List ℕ) → position is_space text ≡ None → HasNoSpace text
cut-none text is = no_space-all text (grind (arith, nat_tests))

-- with the rest as a slice of what is behind
pub cut-taken : (text : List ℕ) (space : ℕ) → position is_space text ≡ Some space
    → IsCutAtSpace text (take space text) (take (length text - (space + 1)) (drop (space + 1) text))
cut-taken text space is =
    subst (IsCutAtSpace text (take space text))
    (sym (take_all (length text - (space + 1)) (drop (space + 1) text) (omega (arith, length-drop (space + 1) text)))) (cut-found text space is)

-- what is behind a front

pub stripped-some : (line front : List ℕ) (result : Option (Bor (List ℕ)))
    → MatchOption result ((rest : List ℕ) → line ≢ front ++ rest) (λ x. line ≡ front ++ x.now) → IfSome result (λ x. line ≡ front ++ x.now)
stripped-some line front None is = tt
stripped-some line front (Some rest) is = is

pub stripped-none : (line front : List ℕ) (result : Option (Bor (List ℕ)))
    → MatchOption result ((rest : List ℕ) → line ≢ front ++ rest) (λ x. line ≡ front ++ x.now) → result ≡ None
    → (rest : List ℕ) → line ≢ front ++ rest
stripped-none line front None is none = is
stripped-none line front (Some rest) is none = absurd (cc)

pub ruleset cuts = (cut-found, cut-none)

-- a text has one cut

pub cut-once : (text word rest other later : List ℕ) → IsCutAtSpace text word rest → IsCutAtSpace text other later
    → (word ≡ other) × (rest ≡ later)
cut-once text word rest other later cut again = same word rest other later cut.first again.first (sym cut.parts ∙ again.parts)
  where
    same : (word rest other later : List ℕ) → HasNoSpace word → HasNoSpace other → word ++ 32 ∷ rest ≡ other ++ 32 ∷ later
        → (word ≡ other) × (rest ≡ later)
    same [] rest [] later none other_none is = (refl, cc)
    same [] rest (byte ∷ other) later none (first, other_none) is =
        let so : 32 ≡ byte = cc in absurd (cc (ap is_space so ∙ first))
    same (byte ∷ word) rest [] later (first, none) other_none is =
        let so : byte ≡ 32 = cc in absurd (cc (sym (ap is_space so) ∙ first))
    same (byte ∷ word) rest (letter ∷ other) later (first, none) (second, other_none) is =
        let go = same word rest other later none other_none (cc) in (cc (go.0), go.1)

cut-not_none : (text word rest : List ℕ) → IsCutAtSpace text word rest → HasNoSpace text → ⊥
cut-not_none text word rest cut none = go word (subst HasNoSpace cut.parts none)
  where
    go : (word : List ℕ) → HasNoSpace (word ++ 32 ∷ rest) → ⊥
    go [] (first, more) = cc
    go (byte ∷ word) (first, more) = go word more

-- numbers have no space

no_space-digits : (ds : List ℕ) → AllDigits 10 ds → HasNoSpace ds
no_space-digits [] are = tt
no_space-digits (d ∷ ds) (is, are) =
    let digit = digit_from_value d is in (ne_eqb d 32 (λ same. omega (arith, digit, same)), no_space-digits ds are)

no_space-decimal : (n : ℕ) → n < 2 ^ 64 → HasNoSpace (decimal n)
no_space-decimal n small = no_space-digits (decimal n) (decimal_is_IsNumeral n small).0.1

no_space-signed : (z : ℤ) → unsigned_abs z < 2 ^ 64 → HasNoSpace (signed_decimal z)
no_space-signed (pos n) small = no_space-decimal n (omega (arith, small))
no_space-signed (negsuc n) small = (refl, no_space-decimal (suc n) (omega (arith, small)))

-- pivots

pub cut-pivot : (pivot : Pivot) → IsShortPivot pivot
    → IsCutAtSpace (pivot_text pivot) (signed_decimal pivot.degree) (decimal pivot.column ++ 32 ∷ decimal pivot.row)
cut-pivot pivot short = record { parts = refl; first = no_space-signed pivot.degree (omega (arith, short.degree)) }

pub cut-places : (pivot : Pivot) → IsShortPivot pivot
    → IsCutAtSpace (decimal pivot.column ++ 32 ∷ decimal pivot.row) (decimal pivot.column) (decimal pivot.row)
cut-places pivot short = record { parts = refl; first = no_space-decimal pivot.column (omega (arith, short.column)) }

pub pivot-uncut : (text : List ℕ) → HasNoSpace text → IsPivotIn text None
pivot-uncut text none = λ pivot short is.
    cut-not_none text (signed_decimal pivot.degree) (decimal pivot.column ++ 32 ∷ decimal pivot.row)
    (subst (λ (t : List ℕ). IsCutAtSpace t (signed_decimal pivot.degree) (decimal pivot.column ++ 32 ∷ decimal pivot.row)) (sym is)
    (cut-pivot pivot short)) none

-- the parts of the text of a pivot
pub cut-is : (text degree places : List ℕ) (pivot : Pivot) → IsShortPivot pivot → IsCutAtSpace text degree places
    → text ≡ pivot_text pivot → (degree ≡ signed_decimal pivot.degree) × (places ≡ decimal pivot.column ++ 32 ∷ decimal pivot.row)
cut-is text degree places pivot short cut is =
    cut-once text degree places (signed_decimal pivot.degree) (decimal pivot.column ++ 32 ∷ decimal pivot.row) cut
    (subst (λ (t : List ℕ). IsCutAtSpace t (signed_decimal pivot.degree) (decimal pivot.column ++ 32 ∷ decimal pivot.row)) (sym is)
    (cut-pivot pivot short))

pub pivot-uncut_places : (text degree places : List ℕ) → IsCutAtSpace text degree places → HasNoSpace places → IsPivotIn text None
pivot-uncut_places text degree places cut none = λ pivot short is.
    let parts = cut-is text degree places pivot short cut is in
    cut-not_none places (decimal pivot.column) (decimal pivot.row)
    (subst (λ (t : List ℕ). IsCutAtSpace t (decimal pivot.column) (decimal pivot.row)) (sym parts.1) (cut-places pivot short)) none

pub pivot-cut : (text degree places column row : List ℕ) (result : Option Pivot) → IsCutAtSpace text degree places
    → IsCutAtSpace places column row → IsPivotOf degree column row result → IsPivotIn text result
pivot-cut text degree places column row (Some pivot) cut again (words, short) = (
  cut.parts ∙ ap (λ (t : List ℕ). degree ++ 32 ∷ t) again.parts
      ∙ ap (λ (t : List ℕ). t ++ 32 ∷ (column ++ 32 ∷ row)) words.is_degree
      ∙ ap (λ (t : List ℕ). signed_decimal pivot.degree ++ 32 ∷ (t ++ 32 ∷ row)) words.is_column
      ∙ ap (λ (t : List ℕ). signed_decimal pivot.degree ++ 32 ∷ (decimal pivot.column ++ 32 ∷ t)) words.is_row,
  short,
)
pivot-cut text degree places column row None cut again none = λ pivot short is.
    let parts = cut-is text degree places pivot short cut is in
    let words = cut-once places column row (decimal pivot.column) (decimal pivot.row) again
    (subst (λ (t : List ℕ). IsCutAtSpace t (decimal pivot.column) (decimal pivot.row)) (sym parts.1) (cut-places pivot short)) in
    none pivot short (record { is_degree = parts.0; is_column = words.0; is_row = words.1 })

pub ruleset pivots = (pivot-uncut, pivot-uncut_places, pivot-cut)

-- pivots by their words

pub words-some : (degree column row : List ℕ) (pivot : Pivot) → IsDegreeIn degree (Some pivot.degree)
    → IsPlaceIn column (Some pivot.column) → IsPlaceIn row (Some pivot.row) → IsPivotOf degree column row (Some pivot)
words-some degree column row pivot first second third = (
  record { is_degree = first.0; is_column = second.0; is_row = third.0 },
  record { degree = first.1; column = second.1; row = third.1 },
)

pub words-no_degree : (degree column row : List ℕ) → IsDegreeIn degree None → IsPivotOf degree column row None
words-no_degree degree column row none = λ pivot short words. none pivot.degree short.degree words.is_degree

pub words-no_column : (degree column row : List ℕ) → IsPlaceIn column None → IsPivotOf degree column row None
words-no_column degree column row none = λ pivot short words. none pivot.column short.column words.is_column

pub words-no_row : (degree column row : List ℕ) → IsPlaceIn row None → IsPivotOf degree column row None
words-no_row degree column row none = λ pivot short words. none pivot.row short.row words.is_row

pub ruleset words = (words-some, words-no_degree, words-no_column, words-no_row)

-- lines

first_byte : (line : List ℕ) → ℕ
first_byte line = get_or line 0 0

pub said-begin : (line word : List ℕ) (degree : ℤ) → line ≡ codes "block " ++ word → IsDegreeIn word (Some degree) → Says line (Begin degree)
said-begin line word degree is (same, short) = (is ∙ ap (λ (w : List ℕ). codes "block " ++ w) same, short)

pub said-no_degree : (line word : List ℕ) → line ≡ codes "block " ++ word → IsDegreeIn word None → Says line Other
unfolding first_byte
said-no_degree line word is none = (
  λ pivot short cancels. absurd (omega (arith, ap first_byte (sym is ∙ cancels))),
  λ j short begins. none j short (append_cancel_left (codes "block ") word (signed_decimal j) (sym is ∙ begins)),
  λ closes. absurd (omega (arith, ap first_byte (sym is ∙ closes))),
)

pub said-cancel : (line text : List ℕ) (pivot : Pivot) → line ≡ codes "cancel " ++ text → IsPivotIn text (Some pivot) → Says line (Cancel pivot)
said-cancel line text pivot is (same, short) = (is ∙ ap (λ (w : List ℕ). codes "cancel " ++ w) same, short)

pub said-no_pivot : (line text : List ℕ) → line ≡ codes "cancel " ++ text → IsPivotIn text None → Says line Other
unfolding first_byte
said-no_pivot line text is none = (
  λ pivot short cancels. none pivot short (append_cancel_left (codes "cancel ") text (pivot_text pivot) (sym is ∙ cancels)),
  λ j short begins. absurd (omega (arith, ap first_byte (sym is ∙ begins))),
  λ closes. absurd (omega (arith, ap first_byte (sym is ∙ closes))),
)

pub said-nothing : (line : List ℕ) → line ≢ close_line → ((rest : List ℕ) → line ≢ codes "block " ++ rest)
    → ((rest : List ℕ) → line ≢ codes "cancel " ++ rest) → Says line Other
said-nothing line closes begins cancels =
    (λ pivot short. cancels (pivot_text pivot), λ j short. begins (signed_decimal j), closes)

pub ruleset said = (said-begin, said-no_degree, said-cancel, said-no_pivot, said-nothing)
