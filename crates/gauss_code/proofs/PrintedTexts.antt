-- A listing in print: its text is written by the symbols that spell it.
use Rattle.std.proofs.Common.{◌≡◌, ℕ, ◌≤◌, ℤ, nat_abs, false, Some, List, [], ◌∷◌, ◌++◌, codes, refl, sym, subst, arith, append_assoc}
use Rattle.std.specs.Char.{is_ascii_digit}
use Rattle.std.specs.Fmt.{signed_decimal}
use Rattle.std.specs.List.{AllByRecursion, flat_map}
use Rattle.kh_lex.specs.Cuts.{begins_with}
use Rattle.kh_lex.specs.declared.limits.TheConstants.{NUMBER_LIMIT}
use Rattle.kh_lex.specs.declared.symbol.Symbol.{Symbol}
use Rattle.kh_lex.specs.declared.symbol.Symbol.TheVariants.{LeftBrace, Number, RightBrace}
use Rattle.kh_lex.proofs.WrittenTexts.{IsWritten, comma-written, left_brace-written, left_bracket-written, nothing-written, number-written, right_brace-written, right_bracket-written, space-written, word-written}
use Rattle.gauss_code.specs.Listings.{Body, Listing}
use Rattle.gauss_code.specs.Grammar.{body_symbols, group_symbols, next_group, next_number, numbers_symbols, gauss_spelled}
use Rattle.gauss_code.specs.Printing.{body_text, group_text, listing_text, next_group_text, next_number_text, numbers_text}

-- a number is small enough to be read
pub record IsSmall (number : ℤ) : Type 0 where
  pub within : nat_abs number ≤ NUMBER_LIMIT

abbrev pub AreSmall : List ℤ → Type 0
AreSmall numbers = AllByRecursion IsSmall numbers

abbrev pub HasSmallNumbers : Body → Type 0
HasSmallNumbers (Body.Bare labels) = AreSmall labels
HasSmallNumbers (Body.Groups group groups) = AreSmall group × AllByRecursion AreSmall groups

-- numbers behind commas before a text that begins with no digit
no_digit : (rest : List ℕ) (numbers : List ℤ) → begins_with is_ascii_digit rest ≡ false
    → begins_with is_ascii_digit (flat_map next_number_text numbers ++ rest) ≡ false
no_digit rest [] none = none
no_digit rest (number ∷ numbers) none = refl

number_first-written : (rest : List ℕ) {more : List Symbol} (number : ℤ) (numbers : List ℤ) → IsSmall number
    → begins_with is_ascii_digit rest ≡ false → IsWritten (flat_map next_number_text numbers ++ rest) more
    → IsWritten (signed_decimal number ++ (flat_map next_number_text numbers ++ rest)) (Number number ∷ more)
number_first-written rest number numbers small none written = number-written number small.within (no_digit rest numbers none) written

next_numbers-written : {rest : List ℕ} {more : List Symbol} (numbers : List ℤ) → AreSmall numbers → begins_with is_ascii_digit rest ≡ false
    → IsWritten rest more → IsWritten (flat_map next_number_text numbers ++ rest) (flat_map next_number numbers ++ more)
next_numbers-written [] small none written = written
next_numbers-written {rest = rest} {more = more} (number ∷ numbers) small none written =
    subst (λ t. IsWritten t (flat_map next_number (number ∷ numbers) ++ more))
    (sym (append_assoc (next_number_text number) (flat_map next_number_text numbers) rest))
    (comma-written (space-written
    (number_first-written rest number numbers small.0 none (next_numbers-written numbers small.1 none written))))

-- numbers before a text that begins with no digit
numbers-written : {rest : List ℕ} {more : List Symbol} (numbers : List ℤ) → AreSmall numbers → begins_with is_ascii_digit rest ≡ false
    → IsWritten rest more → IsWritten (numbers_text numbers ++ rest) (numbers_symbols numbers ++ more)
numbers-written [] small none written = written
numbers-written {rest = rest} {more = more} (number ∷ numbers) small none written =
    subst (λ t. IsWritten t (numbers_symbols (number ∷ numbers) ++ more))
    (sym (append_assoc (signed_decimal number) (flat_map next_number_text numbers) rest))
    (number_first-written rest number numbers small.0 none (next_numbers-written numbers small.1 none written))

-- a group before a text
group-written : {rest : List ℕ} {more : List Symbol} (labels : List ℤ) → AreSmall labels → IsWritten rest more
    → IsWritten (group_text labels ++ rest) (group_symbols labels ++ more)
group-written {rest = rest} {more = more} labels small written =
    subst (λ t. IsWritten t (group_symbols labels ++ more)) (sym text)
    (subst (IsWritten (codes "{" ++ (numbers_text labels ++ (codes "}" ++ rest)))) (sym symbols)
    (left_brace-written (numbers-written labels small refl (right_brace-written written))))
  where
    text : group_text labels ++ rest ≡ codes "{" ++ (numbers_text labels ++ (codes "}" ++ rest))
    text = simp append_assoc

    symbols : group_symbols labels ++ more
        ≡ LeftBrace ∷ (numbers_symbols labels ++ RightBrace ∷ more)
    symbols = simp append_assoc

next_groups-written : {rest : List ℕ} {more : List Symbol} (groups : List (List ℤ)) → AllByRecursion AreSmall groups
    → IsWritten rest more → IsWritten (flat_map next_group_text groups ++ rest) (flat_map next_group groups ++ more)
next_groups-written [] small written = written
next_groups-written {rest = rest} {more = more} (labels ∷ groups) small written =
    subst (λ t. IsWritten t (flat_map next_group (labels ∷ groups) ++ more))
    (sym (append_assoc (next_group_text labels) (flat_map next_group_text groups) rest))
    (subst (IsWritten (next_group_text labels ++ (flat_map next_group_text groups ++ rest)))
    (sym (append_assoc (next_group labels) (flat_map next_group groups) more))
    (comma-written (space-written (group-written labels small.0 (next_groups-written groups small.1 written)))))

-- a body before a text that begins with no digit
body-written : {rest : List ℕ} {more : List Symbol} (body : Body) → HasSmallNumbers body → begins_with is_ascii_digit rest ≡ false
    → IsWritten rest more → IsWritten (body_text body ++ rest) (body_symbols body ++ more)
body-written (Body.Bare labels) small none written = numbers-written labels small none written
body-written {rest = rest} {more = more} (Body.Groups group groups) small none written =
    subst (λ t. IsWritten t (body_symbols (Body.Groups group groups) ++ more))
    (sym (append_assoc (group_text group) (flat_map next_group_text groups) rest))
    (subst (IsWritten (group_text group ++ (flat_map next_group_text groups ++ rest)))
    (sym (append_assoc (group_symbols group) (flat_map next_group groups) more))
    (group-written group small.0 (next_groups-written groups small.1 written)))

-- a listing with signs
abbrev pub listing_with : Body → List ℤ → Listing
listing_with body signs = record { body = body; signs = Some signs }

-- its text is written by the symbols that spell it
pub written-listing_text : (body : Body) (signs : List ℤ) → HasSmallNumbers body → AreSmall signs
    → IsWritten (listing_text (listing_with body signs)) (gauss_spelled (listing_with body signs))
written-listing_text body signs small small_signs =
    word-written (codes "GaussCode") (omega arith) refl refl (left_bracket-written (body-written body small refl
    (right_bracket-written (space-written (word-written (codes "Signs") (omega arith) refl refl (left_bracket-written
    (numbers-written signs small_signs refl (right_bracket-written nothing-written))))))))
