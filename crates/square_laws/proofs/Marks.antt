-- Marked arcs: how many are on the circle of an arc, and how an edge changes this. A list of arcs stands for the product of one
-- variable for each of them, in a ring where the arcs of one circle have one variable, whose square is 0.
use Rattle.std.proofs.Common.{◌≡◌, ◌≢◌, ℕ, ◌+◌, ◌∙◌, ◌⊎◌, List, ◌∷◌, sym, ap, refl, arith, Bool}
use Rattle.std.specs.Prelude.{nat_eq}
use Rattle.std.specs.List.{count_by, sum_by}
use Rattle.std.proofs.Math.Path.{fun_ext}
use Rattle.std.proofs.lemmas.Bool.Decides.{nat_tests}
use Rattle.std.proofs.lemmas.List.Sums.{sum_by-cons}
use Rattle.kh_types.specs.Bits.{one_if}
use Rattle.kh_types.specs.Classes.{merged}
use Rattle.kh_types.specs.Code.{Code}
use Rattle.kh_types.specs.Edges.{arc_at_slot}
use Rattle.square_laws.specs.Squares.{circle_at_slot}
use Rattle.square_laws.proofs.Merges.{IsMerge, circle_in}
use Rattle.square_laws.proofs.SquareKinds.{IsOn, circle-on}
use Rattle.kh_types.proofs.ListSums.{sum_by-plus}

-- how many of the marked arcs are on the circle of an arc
unfoldable pub hits : Code → ℕ → List ℕ → ℕ → ℕ
hits code state marked arc = count_by (λ mark. nat_eq (circle_in code state mark) (circle_in code state arc)) marked

pub hits-sum : (code : Code) (state : ℕ) (marked : List ℕ) (arc : ℕ)
    → hits code state marked arc ≡ sum_by (λ mark. one_if (nat_eq (circle_in code state mark) (circle_in code state arc))) marked
unfolding hits
hits-sum code state marked arc = refl

pub hits-cons : (code : Code) (state mark : ℕ) (marked : List ℕ) (arc : ℕ)
    → hits code state (mark ∷ marked) arc
    ≡ one_if (nat_eq (circle_in code state mark) (circle_in code state arc)) + hits code state marked arc
unfolding hits
hits-cons code state mark marked arc =
    sum_by-cons (λ m. one_if (nat_eq (circle_in code state m) (circle_in code state arc))) mark marked

-- the arcs of a circle have the same marks on it
pub hits-circle : (code : Code) (state : ℕ) (marked : List ℕ) (x y : ℕ) → circle_in code state x ≡ circle_in code state y
    → hits code state marked x ≡ hits code state marked y
unfolding hits
hits-circle code state marked x y same = ap (λ c. count_by (λ mark. nat_eq (circle_in code state mark) c) marked) same

-- an arc is on neither of the circles that become one
pub record IsOff (code : Code) (state crossing arc : ℕ) : Type 0 where
  pub first : circle_in code state arc ≢ circle_at_slot code state crossing 0
  pub third : circle_in code state arc ≢ circle_at_slot code state crossing 2

pub on_or_off : (code : Code) (state crossing arc : ℕ) → IsOn code state crossing arc ⊎ IsOff code state crossing arc
on_or_off code state crossing arc = grind (arith, nat_tests)

-- a circle that stays keeps its marks
pub hits-off : (code : Code) (before after crossing : ℕ) (marked : List ℕ) (arc : ℕ) → IsMerge code before after crossing
    → IsOff code before crossing arc → hits code after marked arc ≡ hits code before marked arc
unfolding hits
hits-off code before after crossing marked arc merge off =
    ap (λ (p : ℕ → Bool). count_by p marked) (fun_ext (λ mark.
    rw (merge.one mark, merge.one arc)
    (stays (circle_at_slot code before crossing 0) (circle_at_slot code before crossing 2) (circle_in code before mark)
    (circle_in code before arc) merge.join.apart off.first off.third)))
  where
    stays : (p q m c : ℕ) → p ≢ q → c ≢ p → c ≢ q → nat_eq (merged p q m) (merged p q c) ≡ nat_eq m c
    stays p q m c apart not_p not_q = grind (arith, nat_tests)

-- the circle that two become has the marks of both
pub hits-on : (code : Code) (before after crossing : ℕ) (marked : List ℕ) (arc : ℕ) → IsMerge code before after crossing
    → IsOn code before crossing arc
    → hits code after marked arc
    ≡ hits code before marked (arc_at_slot code crossing 0) + hits code before marked (arc_at_slot code crossing 2)
unfolding hits
hits-on code before after crossing marked arc merge on =
    let p = circle_at_slot code before crossing 0 in
    let q = circle_at_slot code before crossing 2 in
    ap (λ (f : ℕ → ℕ). sum_by f marked) (fun_ext (λ mark.
    rw (circle-on code before after crossing arc merge on, merge.one mark, merge.one (arc_at_slot code crossing 0))
    (both p q (circle_in code before mark) merge.join.apart)))
    ∙ sum_by-plus (λ mark. one_if (nat_eq (circle_in code before mark) p)) (λ mark. one_if (nat_eq (circle_in code before mark) q)) marked
  where
    both : (p q m : ℕ) → p ≢ q → one_if (nat_eq (merged p q m) (merged p q p)) ≡ one_if (nat_eq m p) + one_if (nat_eq m q)
    both p q m apart = grind (arith, nat_tests)

-- the order of marks is free, and a mark may be any arc of its circle
pub hits-exchanged : (code : Code) (state first second : ℕ) (marked : List ℕ) (arc : ℕ)
    → hits code state (first ∷ second ∷ marked) arc ≡ hits code state (second ∷ first ∷ marked) arc
hits-exchanged code state first second marked arc =
    omega (
      arith,
      hits-cons code state first (second ∷ marked) arc,
      hits-cons code state second marked arc,
      hits-cons code state second (first ∷ marked) arc,
      hits-cons code state first marked arc,
    )

pub hits-moved : (code : Code) (state first second : ℕ) (marked : List ℕ) (arc : ℕ)
    → circle_in code state first ≡ circle_in code state second
    → hits code state (first ∷ marked) arc ≡ hits code state (second ∷ marked) arc
hits-moved code state first second marked arc same =
    hits-cons code state first marked arc
    ∙ ap (λ c. one_if (nat_eq c (circle_in code state arc)) + hits code state marked arc) same
    ∙ sym (hits-cons code state second marked arc)
