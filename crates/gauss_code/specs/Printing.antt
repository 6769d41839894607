-- The signed Gauss text of a code in print (Knot Atlas, "Gauss Codes"; the braces, the signs and the spaces are this project's rule).
use Rattle.std.specs.Prelude.{ℕ, ◌&&◌, List, [], ◌∷◌, ◌++◌, map, replicate, length, nat_eq, if◌then◌else◌, codes, ℤ, Some}
use Rattle.std.specs.Fmt.{signed_decimal}
use Rattle.std.specs.List.{flat_map}
use Rattle.kh_types.specs.Code.{Code, crossing_numbers}
use Rattle.kh_types.specs.Directions.{sign_of}
use Rattle.gauss_code.specs.Listings.{Body, Listing}
use Rattle.code_passes.specs.ComponentLabels.{labels_of_code}
use Rattle.gauss_code.specs.Faults.{signs_of}

-- groups as the body of a text
abbrev pub body_of_groups : List (List ℤ) → Body
body_of_groups [] = Body.Bare []
body_of_groups (group ∷ groups) = Body.Groups group groups

-- the body of some components and a number of loops: one component alone has no braces; else each component is a group, and each
-- loop an empty one behind them
abbrev pub body_of : List (List ℤ) → ℕ → Body
body_of components loops =
    if nat_eq (length components) 1 && nat_eq loops 0 then Body.Bare (flat_map (λ labels. labels) components)
    else body_of_groups (components ++ replicate loops [])

-- what the text of a code lists: the labels of its components, its loops, and the signs of its crossings
abbrev pub listing_of : Code → Listing
listing_of code = record {
  body = body_of (labels_of_code code.crossings) code.loops;
  signs = Some (map (sign_of code.crossings) (crossing_numbers code.crossings));
}

-- a number behind a comma and a space
abbrev pub next_number_text : ℤ → List ℕ
next_number_text number = codes ", " ++ signed_decimal number

-- numbers in print, with a comma and a space between any two
abbrev pub numbers_text : List ℤ → List ℕ
numbers_text [] = []
numbers_text (number ∷ numbers) = signed_decimal number ++ flat_map next_number_text numbers

-- a group in print
abbrev pub group_text : List ℤ → List ℕ
group_text labels = codes "{" ++ (numbers_text labels ++ codes "}")

-- a group behind a comma and a space
abbrev pub next_group_text : List ℤ → List ℕ
next_group_text labels = codes ", " ++ group_text labels

-- a body in print
abbrev pub body_text : Body → List ℕ
body_text (Body.Bare labels) = numbers_text labels
body_text (Body.Groups group groups) = group_text group ++ flat_map next_group_text groups

-- a listing in print, with its signs
abbrev pub listing_text : Listing → List ℕ
listing_text listing =
    codes "GaussCode[" ++ (body_text listing.body ++ (codes "] Signs[" ++ (numbers_text (signs_of listing) ++ codes "]")))

-- the text of a code
abbrev pub gauss_text : Code → List ℕ
gauss_text code = listing_text (listing_of code)
