-- How many objects have each degree and shift, and what they count together.
use Rattle.std.specs.Prelude.{◌≡◌, ℕ, ◌+◌, ◌*◌, ℤ, pos, ◌+ℤ◌, ◌-ℤ◌, List, nat_eq, Bool, ◌&&◌, if◌then◌else◌}
use Rattle.std.specs.List.{sum_by}
use Rattle.std.specs.Ordering.{int_eq}
use Rattle.kh_types.specs.StateSum.{circle_coefficient}
use Rattle.tangle_scan.specs.declared.complex.Object.{Object}
use Rattle.tangle_scan.specs.declared.finished.counting.Tally.{Tally}

-- a value of degree and shift, as often as a tally counts them
abbrev pub tally_value : (ℕ → ℤ → ℕ) → Tally → ℕ
tally_value value tally = tally.count * value tally.degree tally.shift

-- the sum of a value over all that is counted
abbrev pub tallied : (ℕ → ℤ → ℕ) → List Tally → ℕ
tallied value tallies = sum_by (tally_value value) tallies

-- the value whose sum is their number
abbrev pub once : ℕ → ℤ → ℕ
once degree shift = 1

-- the value of an object that is there
abbrev pub object_value : (ℕ → ℤ → ℕ) → Object → ℕ
object_value value object = if object.is_alive then value object.degree object.shift else 0

-- tallies count some objects: every value has one sum over both
abbrev pub AreTallies : List Object → List Tally → Type 0
AreTallies objects tallies = (value : ℕ → ℤ → ℕ) → tallied value tallies ≡ sum_by (object_value value) objects

-- one of a degree and a shift is counted more
abbrev pub IsTallied : ℕ → ℤ → List Tally → List Tally → Type 0
IsTallied degree shift old new = (value : ℕ → ℤ → ℕ) → tallied value new ≡ tallied value old + value degree shift

-- an object is counted more, if it is there
abbrev pub IsTalliedWith : Object → List Tally → List Tally → Type 0
IsTalliedWith object old new = (value : ℕ → ℤ → ℕ) → tallied value new ≡ tallied value old + object_value value object

-- whether a tally is of this degree and this shift
abbrev pub is_tally_of : ℕ → ℤ → Tally → Bool
is_tally_of degree shift tally = nat_eq tally.degree degree && int_eq tally.shift shift

-- the tally of a degree and a shift with a count
abbrev pub tally_of : ℕ → ℤ → ℕ → Tally
tally_of degree shift count = record { degree = degree; shift = shift; count = count }

-- a tally that counts one more
abbrev pub raised : Tally → Tally
raised tally = tally_of tally.degree tally.shift (tally.count + 1)

-- what an object of this degree and this shift counts at (i, j), with some loops and numbers of positive and negative crossings
abbrev pub count_at : ℕ → ℕ → ℕ → ℤ → ℤ → ℕ → ℤ → ℕ
count_at loops plus minus i j degree shift =
    if int_eq (pos degree -ℤ pos minus) i
    then circle_coefficient loops (((j -ℤ shift) -ℤ pos (degree + plus)) +ℤ pos (2 * minus)) else 0
