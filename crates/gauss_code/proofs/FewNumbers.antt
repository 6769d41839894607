-- A text has no more labels, loops or signs than symbols.
use Rattle.std.proofs.Common.{◌≡◌, ℕ, ◌+◌, ◌≤◌, List, [], ◌∷◌, length, Option, None, Some, unwrap_or, ap, arith, sym, ◌∙◌, length-append, ℤ}
use Rattle.std.specs.List.{flat_map}
use Rattle.std.proofs.lemmas.List.{length-map}
use Rattle.std.proofs.lemmas.List.Sums.{count_by-le-length}
use Rattle.kh_types.specs.declared.limits.TheConstants.{INPUT_BYTES}
use Rattle.kh_lex.specs.declared.symbol.Symbol.TheVariants.{RightBrace, RightBracket}
use Rattle.kh_lex.specs.declared.token.Token.{Token}
use Rattle.kh_lex.specs.Symbols.{symbol_of, symbols_of}
use Rattle.gauss_code.specs.Grammar.{body_symbols, group_symbols, next_group, next_number, numbers_symbols, signs_symbols, gauss_spelled}
use Rattle.gauss_code.specs.Held.{HasFewNumbers}
use Rattle.gauss_code.specs.Listings.{Body, Listing, is_loop_group, labels_of, loop_group_count}

-- each number is a symbol
next_numbers-length : (numbers : List ℤ) → length numbers ≤ length (flat_map next_number numbers)
next_numbers-length [] = omega arith
next_numbers-length (n ∷ numbers) = omega (arith, next_numbers-length numbers)

numbers-length : (numbers : List ℤ) → length numbers ≤ length (numbers_symbols numbers)
numbers-length [] = omega arith
numbers-length (n ∷ numbers) = omega (arith, next_numbers-length numbers)

-- so is each label of a group, and each group has one more symbol at least
group-length : (group : List ℤ) → length group + 1 ≤ length (group_symbols group)
group-length group = omega (arith, numbers-length group, length-append (numbers_symbols group) (RightBrace ∷ []))

groups-length : (groups : List (List ℤ)) → length (flat_map (λ labels. labels) groups) + length groups ≤ length (flat_map next_group groups)
groups-length [] = omega arith
groups-length (group ∷ groups) =
    omega (arith, groups-length groups, group-length group, length-append group (flat_map (λ labels. labels) groups), length-append (next_group group) (flat_map next_group groups))

-- and so are the labels of a body
labels-length : (body : Body) → length (labels_of body) ≤ length (body_symbols body)
labels-length (Body.Bare []) = omega arith
labels-length (Body.Bare (n ∷ labels)) = omega (arith, numbers-length (n ∷ labels), length-append (n ∷ labels) [])
labels-length (Body.Groups group groups) =
    omega (arith, groups-length groups, group-length group, length-append group (flat_map (λ labels. labels) groups), length-append (group_symbols group) (flat_map next_group groups))

loops-length : (body : Body) → loop_group_count body ≤ length (body_symbols body)
loops-length (Body.Bare []) = omega (arith, count_by-le-length is_loop_group [])
loops-length (Body.Bare (n ∷ labels)) = omega (arith, count_by-le-length is_loop_group ((n ∷ labels) ∷ []))
loops-length (Body.Groups group groups) =
    omega (arith, count_by-le-length is_loop_group (group ∷ groups), groups-length groups, group-length group, length-append (group_symbols group) (flat_map next_group groups))

signs-length : (signs : Option (List ℤ)) → length (unwrap_or signs []) ≤ length (signs_symbols signs)
signs-length None = omega arith
signs-length (Some signs) = omega (arith, numbers-length signs, length-append (numbers_symbols signs) (RightBracket ∷ []))

-- and all numbers of a listing
gauss_spelled-length : (listing : Listing) → length (body_symbols listing.body) + length (signs_symbols listing.signs) ≤ length (gauss_spelled listing)
gauss_spelled-length listing = omega (arith, length-append (body_symbols listing.body) (RightBracket ∷ signs_symbols listing.signs))

-- a listing that a text spells has few numbers
pub few_numbers : (text : List ℕ) (tokens : List Token) (listing : Listing) → symbols_of text tokens ≡ gauss_spelled listing → length tokens ≤ INPUT_BYTES → HasFewNumbers listing
few_numbers text tokens listing spells few =
    let size : length tokens ≡ length (gauss_spelled listing) = sym (length-map tokens (symbol_of text)) ∙ ap length spells in
    let whole = gauss_spelled-length listing in
    record {
      labels = omega (arith, size, whole, few, labels-length listing.body);
      loops = omega (arith, size, whole, few, loops-length listing.body);
      signs = omega (arith, size, whole, few, signs-length listing.signs);
    }
