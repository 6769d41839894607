-- The names of the circles of a state, and the sum of labels.
use Rattle.std.proofs.Common.{◌≡◌, ℕ, ◌+◌, ◌≤◌, ◌∙◌, sym, ap, arith, IsTrue}
use Rattle.std.specs.Prelude.{nat_eq}
use Rattle.std.specs.List.{Contains, position_or_len, sum_by}
use Rattle.std.proofs.lemmas.Bool.{eq-eqb, eqb-true}
use Rattle.kh_types.specs.Acceptance.{accepted}
use Rattle.kh_types.specs.Bits.{bit, ones}
use Rattle.kh_types.specs.Circles.{circle_count, circle_names, circles_of}
use Rattle.kh_types.specs.CircleNumbers.{IsName}
use Rattle.kh_types.specs.Classes.{is_least}
use Rattle.kh_types.specs.Code.{Code, arc_count, arcs_and_loops}
use Rattle.kh_types.specs.Differential.{label_of}
use Rattle.kh_types.specs.Generators.{generator_of}
use Rattle.kh_types.proofs.CircleNumbers.{IsCircle-of}
use Rattle.kh_types.proofs.EdgeNames.{merges_or_splits}
use Rattle.kh_types.proofs.Lists.{Contains-filter, range-within, within-range}
use Rattle.cell_laws.specs.Alike.{HasNoDoubles}
use Rattle.cell_laws.proofs.Members.{Contains-kept, sum_by-members}
use Rattle.cell_laws.proofs.NoDoubles.{once-range, once-filter}
use Rattle.view_laws.specs.Views.{HasCircles, circle_at}
use Rattle.cell_laws.proofs.Labels.{mark, ones-marks}
use Rattle.kh_types.proofs.QuantumDegrees.{bit-le}

pub HasCircles-accepted : (code : Code) → IsTrue (accepted code) → HasCircles code
HasCircles-accepted code is =
    record {
      named = λ state arc name.
          let circle = IsCircle-of code state arc is name in record { positive = circle.positive; within = circle.within };
      own = λ state arc name. (IsCircle-of code state arc is name).own;
      saddles = λ state crossing is_crossing zero. merges_or_splits code state crossing is is_crossing zero;
    }

pub record IsCircleName (code : Code) (state c : ℕ) : Type 0 where
  pub name : IsName code c
  pub own : circle_at code state c ≡ c

pub name-from : (code : Code) (state c : ℕ) → Contains (circle_names code state) c → IsCircleName code state c
name-from code state c has =
    let kept = Contains-kept (is_least (circles_of code state)) (arcs_and_loops code) c has in
    let within = range-within 1 (arc_count code.crossings + code.loops) c kept.0 in
    record {
      name = record { positive = within.above; within = omega (arith, within.below) };
      own = eqb-true (circle_at code state c) c kept.1;
    }

pub name-of : (code : Code) (state c : ℕ) → IsCircleName code state c → Contains (circle_names code state) c
name-of code state c is =
    Contains-filter (is_least (circles_of code state)) (arcs_and_loops code) c (eq-eqb (circle_at code state c) c is.own)
    (within-range 1 (arc_count code.crossings + code.loops) c is.name.positive (omega (arith, is.name.within)))

pub circle-name : (code : Code) (state x : ℕ) → HasCircles code → IsName code x → IsCircleName code state (circle_at code state x)
circle-name code state x circles name = record { name = circles.named state x name; own = circles.own state x name }

pub names-once : (code : Code) (state : ℕ) → HasNoDoubles (circle_names code state)
names-once code state =
    once-filter (is_least (circles_of code state)) (arcs_and_loops code) (once-range 1 (arc_count code.crossings + code.loops))

-- labels are bits, one for each circle
pub label-small : (code : Code) (state n x : ℕ) → label_of code (generator_of state n) x ≤ 1
label-small code state n x = bit-le n (position_or_len (nat_eq (circle_at code state x)) (circle_names code state))

pub label-circle : (code : Code) (state n x y : ℕ) → circle_at code state x ≡ circle_at code state y
    → label_of code (generator_of state n) x ≡ label_of code (generator_of state n) y
label-circle code state n x y same = ap (λ c. bit n (position_or_len (nat_eq c) (circle_names code state))) same

pub ones-labels : (code : Code) (state n : ℕ)
    → ones (circle_count code state) n ≡ sum_by (label_of code (generator_of state n)) (circle_names code state)
ones-labels code state n =
    ones-marks (circle_names code state) n (names-once code state)
    ∙ sum_by-members (mark (circle_names code state) n) (label_of code (generator_of state n)) (circle_names code state)
    (λ c has.
    ap (λ z. bit n (position_or_len (nat_eq z) (circle_names code state))) (sym (name-from code state c has).own))
