use Rattle.std.proofs.Common.{ap}
use Rattle.std.specs.Prelude.{slice_index}
use Rattle.kh_types.specs.Circles.{circles_of}
use Rattle.kh_types.specs.CircleNumbers.{number_of}
use Rattle.kh_types.proofs.CircleNumbers.{IsCircle-of, circle_names-number_of, number_of-below, number_of-one, number_of-order}
use Rattle.circle_smoothing.proofs.laws.numbers.circle_numbers_are_places.Goals as goal

pub returns-clause-place : goal.returns-clause-place
returns-clause-place c = λ code state name is is_name.
    circle_names-number_of code state (slice_index (circles_of code state) name) (IsCircle-of code state name is is_name)

pub returns-clause-below : goal.returns-clause-below
returns-clause-below c = λ code state name is is_name.
    number_of-below code state (slice_index (circles_of code state) name) (IsCircle-of code state name is is_name)

pub returns-clause-same : goal.returns-clause-same
returns-clause-same c = λ code state name other is is_name is_other. (
  number_of-one code state (slice_index (circles_of code state) name) (slice_index (circles_of code state) other)
      (IsCircle-of code state name is is_name) (IsCircle-of code state other is is_other),
  λ same. ap (number_of code state) same,
)

pub returns-clause-order : goal.returns-clause-order
returns-clause-order c = λ code state name other is is_name is_other.
    number_of-order code state (slice_index (circles_of code state) name) (slice_index (circles_of code state) other)
    (IsCircle-of code state name is is_name) (IsCircle-of code state other is is_other)
