-- Labels under other names: where circles correspond, so do labels, and as many are 1.
--
-- Circles are numbered by the order of their names, which other names of arcs change. So a label is carried over circle by circle: the bit
-- at a circle's new number is the bit at its old one. This is one to one, since a name and its way back are, and the number of circles and
-- of labels 1 stays, as counts over circles do not know their order.
use Rattle.std.proofs.lemmas.Bool.Decides.{nat_tests}
use Rattle.std.proofs.Common.{IsTrue, List, [], ap, arith, map, sym, ℕ, ◌<◌, ◌^◌, ◌∙◌, ◌∷◌, ◌≡◌, ◌≤◌}
use Rattle.std.proofs.lemmas.Bool.Decides.{Decides-eqb, Decides-like, same_from_decides}
use Rattle.std.proofs.lemmas.List.{length-map}
use Rattle.std.proofs.lemmas.List.Elements.{All-cons, All-head, All-nil, All-tail}
use Rattle.std.proofs.lemmas.Nat.{pow_pos}
use Rattle.std.proofs.lemmas.Nat.Bits.{bit_at-zero}
use Rattle.std.specs.List.{All}
use Rattle.std.specs.Prelude.{nat_eq}
use Rattle.kh_types.proofs.CircleNumbers.{IsCircle-of}
use Rattle.kh_types.proofs.ListSums.{sum_by-none}
use Rattle.kh_types.proofs.QuantumDegrees.{ones-le}
use Rattle.kh_types.specs.Acceptance.{accepted}
use Rattle.kh_types.specs.Bits.{bit, ones, one_if}
use Rattle.kh_types.specs.CircleNumbers.{IsName}
use Rattle.kh_types.specs.Circles.{circle_count}
use Rattle.kh_types.specs.Code.{Code}
use Rattle.kh_types.specs.Differential.{label_of}
use Rattle.kh_types.specs.Generators.{generator_of}
use Rattle.square_laws.proofs.EdgeMarks.{IsMarked, label_of-circle, label_of-le}
use Rattle.square_laws.proofs.LabelNumbers.{label-exists}
use Rattle.square_laws.proofs.MarkedLabels.{IsMarked-marked_by, IsName-marked_by, marked_by, ones-marked}
use Rattle.square_laws.proofs.Marks.{hits, hits-cons, hits-sum}
use Rattle.square_laws.proofs.Merges.{circle_in}
use Rattle.link_algebra.proofs.Flips.{flipped, ones-flipped}
use Rattle.link_algebra.proofs.TurnedCircles.{Corresponds, IsName-moved}

-- a name back home
pub IsName-back : (f back : ℕ → ℕ) (old new : Code) (s t y : ℕ) → Corresponds f back old new s t → IsName new y → IsName old (back y)
IsName-back f back old new s t y is name = omega arith

pub name-here : (f back : ℕ → ℕ) (old new : Code) (s t y : ℕ) → Corresponds f back old new s t → IsName new y → f (back y) ≡ y
name-here f back old new s t y is name = is.names.here y name.positive (omega (arith, name.within, is.most))

pub Corresponds-back : (f back : ℕ → ℕ) (old new : Code) (s t : ℕ) → Corresponds f back old new s t → Corresponds back f new old t s
Corresponds-back f back old new s t is = grind (arith, nat_tests)

-- labels that a label becomes under the other names
pub record IsMoved (f : ℕ → ℕ) (old new : Code) (s t label number : ℕ) : Type 0 where
  pub below : number < 2 ^ circle_count new t
  pub same : (x : ℕ) → IsName old x → label_of new (generator_of t number) (f x) ≡ label_of old (generator_of s label) x

pub label-moved : (f back : ℕ → ℕ) (old new : Code) (s t label : ℕ) → IsTrue (accepted new) → Corresponds f back old new s t
    → (number : ℕ) × IsMoved f old new s t label number
label-moved f back old new s t label new_is is =
    let old_label = λ (x : ℕ). label_of old (generator_of s label) x in
    let made = label-exists new t (λ y. old_label (back (circle_in new t y))) new_is
    (λ y name. label_of-le old (generator_of s label) (back (circle_in new t y)))
    (λ x y same. ap (λ c. old_label (back c)) same) in (
      made.0,
      record {
        below = made.1;
        same = λ x name.
            let c = circle_in new t (f x) in
            let moved = IsName-moved f back old new x is.names is.most name in
            let circle = IsCircle-of new t (f x) new_is moved in
            let c_name : IsName new c = record { positive = circle.positive; within = circle.within } in
            made.2 (f x) moved
            ∙ label_of-circle old (generator_of s label) (back c) x
            (is.backward (back c) x (IsName-back f back old new s t c is c_name) name
            (ap (λ z. circle_in new t z) (name-here f back old new s t c is c_name) ∙ circle.own));
      },
    )

-- marks move with their names
hits-moved : (f back : ℕ → ℕ) (old new : Code) (s t x : ℕ) (marked : List ℕ) → Corresponds f back old new s t
    → All (IsName old) marked → IsName old x → hits new t (map f marked) (f x) ≡ hits old s marked x
hits-moved f back old new s t x [] is names name = hits-sum new t [] (f x) ∙ sym (hits-sum old s [] x)
hits-moved f back old new s t x (mark ∷ marked) is names name =
    let mark_name = All-head (IsName old) mark marked names in
    let same : nat_eq (circle_in new t (f mark)) (circle_in new t (f x)) ≡ nat_eq (circle_in old s mark) (circle_in old s x) =
    same_from_decides (nat_eq (circle_in new t (f mark)) (circle_in new t (f x))) (nat_eq (circle_in old s mark) (circle_in old s x))
    (Decides-eqb (circle_in new t (f mark)) (circle_in new t (f x)))
    (Decides-like (nat_eq (circle_in old s mark) (circle_in old s x)) (is.onward mark x mark_name name) (is.backward mark x mark_name name)
    (Decides-eqb (circle_in old s mark) (circle_in old s x))) in
    let later = hits-moved f back old new s t x marked is (All-tail (IsName old) mark marked names) name in
    omega (
      arith,
      hits-cons new t (f mark) (map f marked) (f x),
      hits-cons old s mark marked x,
      ap one_if same,
      later,
    )

names-moved : (f back : ℕ → ℕ) (old new : Code) (s t : ℕ) (marked : List ℕ) → Corresponds f back old new s t
    → All (IsName old) marked → All (IsName new) (map f marked)
names-moved f back old new s t [] is names = All-nil (IsName new)
names-moved f back old new s t (mark ∷ marked) is names =
    grind (arith, nat_tests, All-cons, IsName-moved, All-head, All-tail, names-moved f back old new s t marked is (All-tail (IsName old) mark marked names))

-- so as many labels are 1
pub ones-moved : (f back : ℕ → ℕ) (old new : Code) (s t label number : ℕ) → IsTrue (accepted old) → IsTrue (accepted new)
    → Corresponds f back old new s t → IsMoved f old new s t label number
    → ones (circle_count new t) number ≡ ones (circle_count old s) label
ones-moved f back old new s t label number old_is new_is is moved =
    let gen = generator_of s label in
    let marked = marked_by old gen in
    let names = IsName-marked_by old gen in
    let marks = IsMarked-marked_by old gen old_is in
    let new_marks : IsMarked new (generator_of t number) (map f marked) = record {
      at = λ y name.
          let x = back y in
          let x_name = IsName-back f back old new s t y is name in
          let e = name-here f back old new s t y is name in
          ap (hits new t (map f marked)) (sym e) ∙ hits-moved f back old new s t x marked is names x_name
          ∙ marks.at x x_name ∙ sym (moved.same x x_name) ∙ ap (label_of new (generator_of t number)) e;
    } in
    ones-marked new (generator_of t number) (map f marked) new_is (names-moved f back old new s t marked is names) new_marks
    ∙ length-map marked f ∙ sym (ones-marked old gen marked old_is names marks)

-- and there are as many circles
count-le : (f back : ℕ → ℕ) (old new : Code) (s t : ℕ) → IsTrue (accepted old) → IsTrue (accepted new)
    → Corresponds f back old new s t → circle_count old s ≤ circle_count new t
count-le f back old new s t old_is new_is is =
    let c = circle_count old s in
    let all = flipped c 0 in
    let moved = label-moved f back old new s t all new_is is in
    omega (
      arith,
      ones-moved f back old new s t all moved.0 old_is new_is is moved.1,
      ones-flipped c 0 c (pow_pos c) (omega arith),
      none c,
      ones-le (circle_count new t) moved.0,
    )
  where
    none : (c : ℕ) → ones c 0 ≡ 0
    none c = sum_by-none (bit 0) 0 c (λ k from below. bit_at-zero k)

pub count-moved : (f back : ℕ → ℕ) (old new : Code) (s t : ℕ) → IsTrue (accepted old) → IsTrue (accepted new)
    → Corresponds f back old new s t → circle_count new t ≡ circle_count old s
count-moved f back old new s t old_is new_is is =
    omega (
      arith,
      count-le f back old new s t old_is new_is is,
      count-le back f new old t s new_is old_is (Corresponds-back f back old new s t is),
    )
