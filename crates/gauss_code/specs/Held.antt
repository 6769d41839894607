-- What contracts see of bodies and listings in memory.
use Rattle.std.specs.Prelude.{◌≤◌, List, length, [], ◌∷◌, map, Option, ℤ}
use Rattle.std.specs.Global.{Vec}
use Rattle.std.specs.List.{flat_map}
use Rattle.std.specs.Option.{option_map}
use Rattle.kh_types.specs.declared.limits.TheConstants.{INPUT_BYTES}
use Rattle.gauss_code.specs.Listings.{Body, Listing, labels_of, loop_group_count}
use Rattle.gauss_code.specs.Faults.{signs_of}

-- the numbers of lists in memory
abbrev pub numbers_of : List (Vec ℤ) → List (List ℤ)
numbers_of lists = map (λ list. list.items) lists

-- the numbers of all of them, in order
abbrev pub labels_held : List (Vec ℤ) → List ℤ
labels_held lists = flat_map (λ labels. labels) (numbers_of lists)

-- a body by its labels without braces, which do not count where there are groups, and by its groups
abbrev pub body_held : List ℤ → List (List ℤ) → Body
body_held bare [] = Body.Bare bare
body_held bare (group ∷ groups) = Body.Groups group groups

-- a listing by its body and its signs in memory
abbrev pub listing_held : Body → Option (Vec ℤ) → Listing
listing_held body signs = record { body = body; signs = option_map (λ list. list.items) signs }

-- a listing has no more labels, loops or signs than a text can have bytes
pub record HasFewNumbers (listing : Listing) : Type 0 where
  pub labels : length (labels_of listing.body) ≤ INPUT_BYTES
  pub loops : loop_group_count listing.body ≤ INPUT_BYTES
  pub signs : length (signs_of listing) ≤ INPUT_BYTES
