-- What is wrong with a text that the grammar has.
use Rattle.std.specs.Prelude.{ℕ, ◌+◌, ◌&&◌, List, [], length, nat_eq, nat_lt, not, Bool, Option, Some, None, option_map, is_none, if◌then◌else◌, ℤ, slice_index, unwrap_or}
use Rattle.std.specs.Option.{option_or}
use Rattle.kh_types.specs.declared.limits.TheConstants.{CROSSINGS, LOOPS}
use Rattle.gauss_code.specs.declared.stop.GaussStop.{GaussStop}
use Rattle.gauss_code.specs.declared.stop.GaussStop.TheVariants.{CrossingLimit, LoopLimit, Label, NoSigns, SignCount}
use Rattle.gauss_code.specs.Listings.{Body, Listing, labels_of, crossing_count, loop_group_count}
use Rattle.code_passes.specs.Labels.{bad_label, bad_sign}

-- a fault, where a test holds
abbrev pub gauss_fault_if : Bool → GaussStop → Option GaussStop
gauss_fault_if holds fault = if holds then Some fault else None

-- there are too many crossings
abbrev pub crossing_limit : Body → Option GaussStop
crossing_limit body = gauss_fault_if (nat_lt CROSSINGS (crossing_count body)) (CrossingLimit (crossing_count body))

-- there are too many loops
abbrev pub loop_limit : Body → Option GaussStop
loop_limit body = gauss_fault_if (nat_lt LOOPS (loop_group_count body)) (LoopLimit (loop_group_count body))

-- a label is bad: the place in the text of the first that is
abbrev pub label_fault : Body → List ℕ → Option GaussStop
label_fault body places = option_map (λ at. Label (slice_index places at)) (bad_label (labels_of body))

-- there are labels, and no signs
abbrev pub no_signs : Listing → Option GaussStop
no_signs listing = gauss_fault_if (nat_lt 0 (length (labels_of listing.body)) && is_none listing.signs) NoSigns

-- the signs of a text, and none where it has none
abbrev pub signs_of : Listing → List ℤ
signs_of listing = unwrap_or listing.signs []

-- there are signs, and not as many as crossings
abbrev pub sign_count : Listing → Option GaussStop
sign_count listing = sign_count_of listing.body listing.signs
  where
    sign_count_of : Body → Option (List ℤ) → Option GaussStop
    sign_count_of body None = None
    sign_count_of body (Some signs) =
        gauss_fault_if (not (nat_eq (length signs) (crossing_count body))) (SignCount (length signs) (crossing_count body))

-- a sign is bad: the place in the text of the first that is; the signs stand behind the labels
abbrev pub sign_fault : Listing → List ℕ → Option GaussStop
sign_fault listing places =
    option_map (λ at. Label (slice_index places (length (labels_of listing.body) + at))) (bad_sign (signs_of listing))

-- the first of these faults, in this order
abbrev pub first_gauss_fault : Listing → List ℕ → Option GaussStop
first_gauss_fault listing places =
    option_or (crossing_limit listing.body)
    (option_or (loop_limit listing.body)
    (option_or (label_fault listing.body places)
    (option_or (no_signs listing)
    (option_or (sign_count listing) (sign_fault listing places)))))
