-- What is left where crossings are dropped has arcs with two ends each, two colours, and as many faces as on the sphere.
use Rattle.std.proofs.lemmas.Bool.Decides.{nat_tests}
use Rattle.std.proofs.Common.{◌≡◌, ℕ, ◌⊎◌, inl, inr, ◌+◌, ◌*◌, ◌/◌, ◌%◌, ◌<◌, ◌∙◌, List, sym, ap, subst, arith, Bool, not, length}
use Rattle.std.specs.Prelude.{nat_eq}
use Rattle.kh_types.specs.Directions.{positive_at}
use Rattle.kh_types.specs.Bits.{bit}
use Rattle.face_walk.specs.AddedArcs.{IsPlanar}
use Rattle.gluing_laws.specs.Codes.{arc_of_dart}
use Rattle.gluing_laws.specs.Arcs.{enters}
use Rattle.kink_and_finger_laws.proofs.TwoEnds.{is_head_at, HasTwoEnds}
use Rattle.kink_and_finger_laws.specs.Planar.{HasColours, IsPlanarBy}
use Rattle.kink_and_finger_laws.specs.Drops.{kept_crossings, kept_signs}
use Rattle.kink_and_finger_laws.proofs.DroppedDarts.{is_code_head, is_colour, dartwise, IsDropped}
use Rattle.kink_and_finger_laws.proofs.KeptCodes.{length-kept, kept-name, kept-sign}
use Rattle.kink_and_finger_laws.proofs.Smoothed.{block_place, block_slot}

code_head-dartwise : (crossings : List (List ℕ)) (f : ℕ → ℕ) (x : ℕ)
    → is_code_head crossings (dartwise f x) ≡ enters (positive_at crossings (f (x / 4))) (x % 4)
code_head-dartwise crossings f x = grind (arith, nat_tests, dartwise f x, block_place (f (x / 4)) x, block_slot (f (x / 4)) x)

kept-head : (crossings : List (List ℕ)) (gone : ℕ → Bool) (choice k : ℕ) (kept partner : ℕ → ℕ)
    → IsDropped crossings gone choice k kept partner → (x : ℕ) → x < 4 * k
    → is_head_at (kept_signs crossings gone) x ≡ is_code_head crossings (dartwise kept x)
kept-head crossings gone choice k kept partner is x below =
    grind (arith, nat_tests, kept-sign crossings gone kept k (x / 4) is.places (omega (arith, below)), code_head-dartwise crossings kept x)

pub IsPlanarBy-dropped : (crossings : List (List ℕ)) (gone : ℕ → Bool) (choice k : ℕ) (kept partner : ℕ → ℕ)
    → IsDropped crossings gone choice k kept partner → IsPlanarBy (kept_crossings crossings gone) partner
IsPlanarBy-dropped crossings gone choice k kept partner is =
    let size = length-kept crossings gone kept k is.places in
    let low : (x : ℕ) → x < 4 * length (kept_crossings crossings gone) → x < 4 * k = λ x below. omega (arith, size, below) in
    record {
      pairing = record {
        below = λ x below. omega (arith, size, is.closed.pairing.below x (low x below));
        back = λ x below. is.closed.pairing.back x (low x below);
      };
      other = λ x below. is.closed.other x (low x below);
      name = λ x below.
          kept-name crossings gone kept k (partner x) is.places (is.closed.pairing.below x (low x below))
          ∙ is.named x (low x below) ∙ sym (kept-name crossings gone kept k x is.places (low x below));
      planar = subst (λ (n : ℕ). IsPlanar n partner) (sym size) is.closed.planar;
    }

two-dropped : (crossings : List (List ℕ)) (gone : ℕ → Bool) (choice k : ℕ) (kept partner : ℕ → ℕ)
    → IsDropped crossings gone choice k kept partner → (x y : ℕ) → x < 4 * k → y < 4 * k
    → arc_of_dart (kept_crossings crossings gone) x ≡ arc_of_dart (kept_crossings crossings gone) y → (y ≡ x) ⊎ (y ≡ partner x)
two-dropped crossings gone choice k kept partner is x y x_below y_below same =
    is.two x y x_below y_below
    (sym (kept-name crossings gone kept k x is.places x_below) ∙ same ∙ kept-name crossings gone kept k y is.places y_below)

not_own : (b : Bool) → b ≡ not b → ⊥
not_own b same = grind (arith, nat_tests)

pub HasTwoEnds-dropped : (crossings : List (List ℕ)) (gone : ℕ → Bool) (choice k : ℕ) (kept partner : ℕ → ℕ)
    → IsDropped crossings gone choice k kept partner → HasTwoEnds (kept_crossings crossings gone) (kept_signs crossings gone)
HasTwoEnds-dropped crossings gone choice k kept partner is =
    let size = length-kept crossings gone kept k is.places in
    let head : (x : ℕ) → x < 4 * k → is_head_at (kept_signs crossings gone) x ≡ is_code_head crossings (dartwise kept x) =
    kept-head crossings gone choice k kept partner is in
    let flips : (x : ℕ) → x < 4 * k → is_head_at (kept_signs crossings gone) (partner x) ≡ not (is_head_at (kept_signs crossings gone) x) =
    λ x below. head (partner x) (is.closed.pairing.below x below) ∙ is.heads x below ∙ ap not (sym (head x below)) in
    let low : (x : ℕ) → x < 4 * length (kept_crossings crossings gone) → x < 4 * k = λ x below. omega (arith, size, below) in
    let one : (x y : ℕ) → x < 4 * length (kept_crossings crossings gone) → y < 4 * length (kept_crossings crossings gone)
    → is_head_at (kept_signs crossings gone) x ≡ is_head_at (kept_signs crossings gone) y
    → arc_of_dart (kept_crossings crossings gone) x ≡ arc_of_dart (kept_crossings crossings gone) y → x ≡ y =
    λ x y x_below y_below alike same.
    elim (two-dropped crossings gone choice k kept partner is x y (low x x_below) (low y y_below) same) [
      | inl own ↦ sym own
      | inr mate ↦
          absurd
          (not_own (is_head_at (kept_signs crossings gone) x)
          (alike ∙ ap (is_head_at (kept_signs crossings gone)) mate ∙ flips x (low x x_below)))
    ] in
    let planar = IsPlanarBy-dropped crossings gone choice k kept partner is in
    record {
      one_head = λ x y x_below y_below x_head y_head same. one x y x_below y_below (x_head ∙ sym y_head) same;
      one_tail = λ x y x_below y_below x_tail y_tail same. one x y x_below y_below (x_tail ∙ sym y_tail) same;
      tail_of = λ x below is_head.
          (partner x, planar.pairing.below x below, flips x (low x below) ∙ ap not is_head, sym (planar.name x below));
      head_of = λ x below is_tail.
          (partner x, planar.pairing.below x below, flips x (low x below) ∙ ap not is_tail, sym (planar.name x below));
    }

colour-dartwise : (choice : ℕ) (f : ℕ → ℕ) (x : ℕ) → is_colour choice (dartwise f x) ≡ nat_eq ((bit choice (f (x / 4)) + x % 4) % 2) 1
colour-dartwise choice f x = grind (arith, nat_tests, dartwise f x, block_place (f (x / 4)) x, block_slot (f (x / 4)) x)

odd_sum : (a b : ℕ) → nat_eq (a % 2) 1 ≡ not (nat_eq (b % 2) 1) → (b + a) % 2 ≡ 1
odd_sum a b differ = grind (arith, nat_tests)

pub HasColours-dropped : (crossings : List (List ℕ)) (gone : ℕ → Bool) (choice k : ℕ) (kept partner : ℕ → ℕ)
    → IsDropped crossings gone choice k kept partner → HasColours (kept_crossings crossings gone) (λ place. bit choice (kept place))
HasColours-dropped crossings gone choice k kept partner is x y x_below y_below apart same =
    let size = length-kept crossings gone kept k is.places in
    let x_low : x < 4 * k = omega (arith, size, x_below) in
    let y_low : y < 4 * k = omega (arith, size, y_below) in
    elim (two-dropped crossings gone choice k kept partner is x y x_low y_low same) [
      | inl own ↦ absurd (apart (sym own))
      | inr mate ↦
          odd_sum (bit choice (kept (y / 4)) + y % 4) (bit choice (kept (x / 4)) + x % 4)
          (sym (colour-dartwise choice kept y) ∙ ap (λ z. is_colour choice (dartwise kept z)) mate ∙ is.colours x x_low
          ∙ ap not (colour-dartwise choice kept x))
    ]
