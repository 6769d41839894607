-- Arcs are paired, said by darts: each name that stands at all has one head and one tail. Arcs are paired by counts of passes,
-- where each name is entered at most once and left as often. The two passes of a crossing enter at those of its four darts that
-- are heads, and leave at the tails: so by induction over the crossings, the passes that enter on a name are as many as the heads
-- of that name among all darts, and those that leave on it as many as its tails. A count is at most one if no two darts pass the
-- test, and a count above zero gives a dart. So one head and one tail for each name make arcs paired, and paired arcs give each
-- head its one tail, and back.
use Rattle.std.proofs.lemmas.Bool.Decides.{nat_tests}
use Rattle.std.proofs.Common.{◌≡◌, ℕ, zero, suc, ◌⊎◌, inl, inr, ◌+◌, ◌*◌, ◌/◌, ◌%◌, ◌<◌, ◌≤◌, ◌∙◌, List, length, refl, sym, ap, ap₂, arith, Bool, true, false, cond, not, ◌&&◌, eq-eqb, eqb-true}
use Rattle.std.specs.Prelude.{nat_eq, if◌then◌else◌}
use Rattle.std.specs.List.{count_by, flat_map, range_with_len}
use Rattle.std.proofs.lemmas.Bool.{cases_Bool, and_parts, and_from}
use Rattle.std.proofs.lemmas.List.Sums.{sum_by-append}
use Rattle.kh_types.proofs.RangeCounts.{found-counted, count_by-but, only-counted}
use Rattle.code_passes.specs.Passes.{Pass}
use Rattle.code_passes.specs.Parts.{Parts, is_positive_at, ArePaired, passes_at, head_count, tail_count}
use Rattle.gluing_laws.specs.Codes.{arc_of_dart}
use Rattle.gluing_laws.specs.Arcs.{arc_by_place, enters}
use Rattle.kink_and_finger_laws.proofs.StandingNames.{count_by-cons}

-- whether the dart at a place of darts is a head, where each crossing has a sign
abbrev pub is_head_at : List Bool → ℕ → Bool
is_head_at signs dart = enters (is_positive_at signs (dart / 4)) (dart % 4)

-- no two heads and no two tails have one name, and each head has a tail of its name, and back
pub record HasTwoEnds (crossings : List (List ℕ)) (signs : List Bool) : Type 0 where
  pub one_head : (x y : ℕ) → x < 4 * length crossings → y < 4 * length crossings → is_head_at signs x ≡ true → is_head_at signs y ≡ true
      → arc_of_dart crossings x ≡ arc_of_dart crossings y → x ≡ y
  pub one_tail : (x y : ℕ) → x < 4 * length crossings → y < 4 * length crossings → is_head_at signs x ≡ false → is_head_at signs y ≡ false
      → arc_of_dart crossings x ≡ arc_of_dart crossings y → x ≡ y
  pub tail_of : (x : ℕ) → x < 4 * length crossings → is_head_at signs x ≡ true
      → (y : ℕ) × (y < 4 * length crossings) × (is_head_at signs y ≡ false) × (arc_of_dart crossings x ≡ arc_of_dart crossings y)
  pub head_of : (x : ℕ) → x < 4 * length crossings → is_head_at signs x ≡ false
      → (y : ℕ) × (y < 4 * length crossings) × (is_head_at signs y ≡ true) × (arc_of_dart crossings x ≡ arc_of_dart crossings y)

-- whether a dart is a head of a name, or a tail of it
abbrev pub is_head_of : Parts → ℕ → ℕ → Bool
is_head_of strands name x = is_head_at strands.positive x && nat_eq (arc_of_dart strands.crossings x) name

abbrev pub is_tail_of : Parts → ℕ → ℕ → Bool
is_tail_of strands name x = not (is_head_at strands.positive x) && nat_eq (arc_of_dart strands.crossings x) name

-- a count over the darts, crossing by crossing
pub count-darts : (p : ℕ → Bool) (a n : ℕ)
    → count_by p (range_with_len (4 * a) (4 * suc n))
    ≡ cond (p (4 * a)) 1 0 + cond (p (4 * a + 1)) 1 0 + cond (p (4 * a + 2)) 1 0 + cond (p (4 * a + 3)) 1 0
    + count_by p (range_with_len (4 * (a + 1)) (4 * n))
count-darts p a n =
    let e : 4 * suc n ≡ suc (suc (suc (suc (4 * n)))) = omega arith in
    let two : 4 * a + 1 + 1 ≡ 4 * a + 2 = omega arith in
    let three : 4 * a + 1 + 1 + 1 ≡ 4 * a + 3 = omega arith in
    let four : 4 * a + 1 + 1 + 1 + 1 ≡ 4 * (a + 1) = omega arith in
    omega (
      arith,
      ap (λ m. count_by p (range_with_len (4 * a) m)) e,
      count_by-cons p (4 * a) (range_with_len (4 * a + 1) (suc (suc (suc (4 * n))))),
      count_by-cons p (4 * a + 1) (range_with_len (4 * a + 1 + 1) (suc (suc (4 * n)))),
      count_by-cons p (4 * a + 1 + 1) (range_with_len (4 * a + 1 + 1 + 1) (suc (4 * n))),
      count_by-cons p (4 * a + 1 + 1 + 1) (range_with_len (4 * a + 1 + 1 + 1 + 1) (4 * n)),
      ap {B = ℕ} (λ x. cond (p x) 1 0) two,
      ap {B = ℕ} (λ x. cond (p x) 1 0) three,
      ap (λ x. count_by p (range_with_len x (4 * n))) four,
    )

-- the dart at a slot of a crossing

pub head-at : (signs : List Bool) (a s : ℕ) → s < 4 → is_head_at signs (4 * a + s) ≡ enters (is_positive_at signs a) s
head-at signs a s below =
    let p : (4 * a + s) / 4 ≡ a = omega (arith, below) in
    let r : (4 * a + s) % 4 ≡ s = omega (arith, below) in
    ap₂ (λ k l. enters (is_positive_at signs k) l) p r

pub name-at : (crossings : List (List ℕ)) (a s : ℕ) → s < 4 → arc_of_dart crossings (4 * a + s) ≡ arc_by_place crossings a s
name-at crossings a s below =
    let p : (4 * a + s) / 4 ≡ a = omega (arith, below) in
    let r : (4 * a + s) % 4 ≡ s = omega (arith, below) in
    ap₂ (arc_by_place crossings) p r

-- the passes of a crossing have the ends that its darts are

sums : {x y z w p q r s : Bool} → x ≡ p → y ≡ q → z ≡ r → w ≡ s
    → cond x 1 0 + cond y 1 0 + cond z 1 0 + cond w 1 0 ≡ cond p 1 0 + cond q 1 0 + cond r 1 0 + cond s 1 0
sums {x} {y} {z} {w} {p} {q} {r} {s} one two three four =
    omega (arith, ap {B = ℕ} (λ t. cond t 1 0) one, ap {B = ℕ} (λ t. cond t 1 0) two, ap {B = ℕ} (λ t. cond t 1 0) three, ap {B = ℕ} (λ t. cond t 1 0) four)

heads-here : (strands : Parts) (name a : ℕ)
    → count_by (λ (pass : Pass). nat_eq pass.enters name) (passes_at strands a)
    ≡ cond (is_head_of strands name (4 * a)) 1 0 + cond (is_head_of strands name (4 * a + 1)) 1 0
    + cond (is_head_of strands name (4 * a + 2)) 1 0 + cond (is_head_of strands name (4 * a + 3)) 1 0
heads-here strands name a =
    let z : 4 * a ≡ 4 * a + 0 = omega arith in
    let b = is_positive_at strands.positive a in
    let p : ℕ → Bool = λ s. nat_eq (arc_by_place strands.crossings a s) name in
    let at : (s : ℕ) → s < 4 → is_head_of strands name (4 * a + s) ≡ (enters (is_positive_at strands.positive a) s && nat_eq (arc_by_place strands.crossings a s) name) =
    λ s below. ap₂ (λ h m. h && nat_eq m name) (head-at strands.positive a s below) (name-at strands.crossings a s below) in
    let zeroth : is_head_of strands name (4 * a) ≡ (enters (is_positive_at strands.positive a) 0 && nat_eq (arc_by_place strands.crossings a 0) name) =
    ap (is_head_of strands name) z ∙ at 0 (omega arith) in
    by (is_positive_at strands.positive a) p
    ∙ sym (sums zeroth (at 1 (omega arith)) (at 2 (omega arith)) (at 3 (omega arith)))
  where
    by : (b : Bool) (p : ℕ → Bool)
        → 0 + cond (p 0) 1 0 + cond (p (if b then 3 else 1)) 1 0
        ≡ cond (enters b 0 && p 0) 1 0 + cond (enters b 1 && p 1) 1 0 + cond (enters b 2 && p 2) 1 0 + cond (enters b 3 && p 3) 1 0
    by b p = grind (arith, nat_tests)

tails-here : (strands : Parts) (name a : ℕ)
    → count_by (λ (pass : Pass). nat_eq pass.leaves name) (passes_at strands a)
    ≡ cond (is_tail_of strands name (4 * a)) 1 0 + cond (is_tail_of strands name (4 * a + 1)) 1 0
    + cond (is_tail_of strands name (4 * a + 2)) 1 0 + cond (is_tail_of strands name (4 * a + 3)) 1 0
tails-here strands name a =
    let z : 4 * a ≡ 4 * a + 0 = omega arith in
    let p : ℕ → Bool = λ s. nat_eq (arc_by_place strands.crossings a s) name in
    let at : (s : ℕ) → s < 4
    → is_tail_of strands name (4 * a + s) ≡ (not (enters (is_positive_at strands.positive a) s) && nat_eq (arc_by_place strands.crossings a s) name) =
    λ s below. ap₂ (λ h m. not h && nat_eq m name) (head-at strands.positive a s below) (name-at strands.crossings a s below) in
    let zeroth : is_tail_of strands name (4 * a) ≡ (not (enters (is_positive_at strands.positive a) 0) && nat_eq (arc_by_place strands.crossings a 0) name) =
    ap (is_tail_of strands name) z ∙ at 0 (omega arith) in
    by (is_positive_at strands.positive a) p
    ∙ sym (sums zeroth (at 1 (omega arith)) (at 2 (omega arith)) (at 3 (omega arith)))
  where
    by : (b : Bool) (p : ℕ → Bool)
        → 0 + cond (p 2) 1 0 + cond (p (if b then 1 else 3)) 1 0
        ≡ cond (not (enters b 0) && p 0) 1 0 + cond (not (enters b 1) && p 1) 1 0 + cond (not (enters b 2) && p 2) 1 0
        + cond (not (enters b 3) && p 3) 1 0
    by b p = grind (arith, nat_tests)

heads-counted : (strands : Parts) (name a n : ℕ)
    → count_by (λ (pass : Pass). nat_eq pass.enters name) (flat_map (passes_at strands) (range_with_len a n))
    ≡ count_by (is_head_of strands name) (range_with_len (4 * a) (4 * n))
heads-counted strands name a zero = refl
heads-counted strands name a (suc n) =
    let rest = flat_map (passes_at strands) (range_with_len (a + 1) n) in
    omega (
      arith,
      sum_by-append (λ (pass : Pass). cond (nat_eq pass.enters name) 1 0) (passes_at strands a) rest,
      heads-here strands name a,
      heads-counted strands name (a + 1) n,
      count-darts (is_head_of strands name) a n,
    )

tails-counted : (strands : Parts) (name a n : ℕ)
    → count_by (λ (pass : Pass). nat_eq pass.leaves name) (flat_map (passes_at strands) (range_with_len a n))
    ≡ count_by (is_tail_of strands name) (range_with_len (4 * a) (4 * n))
tails-counted strands name a zero = refl
tails-counted strands name a (suc n) =
    let rest = flat_map (passes_at strands) (range_with_len (a + 1) n) in
    omega (
      arith,
      sum_by-append (λ (pass : Pass). cond (nat_eq pass.leaves name) 1 0) (passes_at strands a) rest,
      tails-here strands name a,
      tails-counted strands name (a + 1) n,
      count-darts (is_tail_of strands name) a n,
    )

-- counts of at most one

count-at_most : (p : ℕ → Bool) (a n : ℕ)
    → ((x y : ℕ) → a ≤ x → x < a + n → a ≤ y → y < a + n → p x ≡ true → p y ≡ true → x ≡ y) → count_by p (range_with_len a n) ≤ 1
count-at_most p a zero one = omega arith
count-at_most p a (suc n) one =
    let rest = range_with_len (a + 1) n in
    let step = count_by-cons p a (range_with_len (a + 1) n) in
    elim (cases_Bool (p a)) [
      | inr off ↦
          let none : cond (p a) 1 0 ≡ 0 = ap {B = ℕ} (λ t. cond t 1 0) off in
          let later = count-at_most p (a + 1) n
          (λ x y x_from x_below y_from y_below. one x y (omega (arith, x_from)) (omega (arith, x_below)) (omega (arith, y_from)) (omega (arith, y_below))) in
          omega (arith, step, none, later)
      | inl on ↦
          let here : cond (p a) 1 0 ≡ 1 = ap {B = ℕ} (λ t. cond t 1 0) on in
          elim (none_or_some (count_by p (range_with_len (a + 1) n))) [
            | inl none ↦ omega (arith, step, here, none)
            | inr some ↦
                let found = found-counted p (a + 1) n some in
                let same = one a found.0 (omega arith) (omega arith) (omega (arith, found.1.from)) (omega (arith, found.1.below)) on found.1.passes in
                absurd (omega (arith, same, found.1.from))
          ]
    ]
  where
    none_or_some : (k : ℕ) → (k ≡ 0) ⊎ (0 < k)
    none_or_some k = grind arith

pub count-some : (p : ℕ → Bool) (n x : ℕ) → x < n → p x ≡ true → 0 < count_by p (range_with_len 0 n)
count-some p n x below holds = grind (arith, nat_tests, count_by-but p 0 n x (omega arith) (omega (arith, below)) holds)

not_false : (b : Bool) → not b ≡ true → b ≡ false
not_false b is = grind (arith, nat_tests)

pub head-of : (strands : Parts) (name x : ℕ) → is_head_at strands.positive x ≡ true → arc_of_dart strands.crossings x ≡ name
    → is_head_of strands name x ≡ true
head-of strands name x head same =
    and_from (is_head_at strands.positive x) (nat_eq (arc_of_dart strands.crossings x) name) head (eq-eqb (arc_of_dart strands.crossings x) name same)

pub of-head : (strands : Parts) (name x : ℕ) → is_head_of strands name x ≡ true
    → (is_head_at strands.positive x ≡ true) × (arc_of_dart strands.crossings x ≡ name)
of-head strands name x holds =
    let parts = and_parts (is_head_at strands.positive x) (nat_eq (arc_of_dart strands.crossings x) name) holds in
    (parts.0, eqb-true (arc_of_dart strands.crossings x) name parts.1)

tail-of : (strands : Parts) (name x : ℕ) → is_head_at strands.positive x ≡ false → arc_of_dart strands.crossings x ≡ name
    → is_tail_of strands name x ≡ true
tail-of strands name x tail same =
    and_from (not (is_head_at strands.positive x)) (nat_eq (arc_of_dart strands.crossings x) name) (ap not tail)
    (eq-eqb (arc_of_dart strands.crossings x) name same)

of-tail : (strands : Parts) (name x : ℕ) → is_tail_of strands name x ≡ true
    → (is_head_at strands.positive x ≡ false) × (arc_of_dart strands.crossings x ≡ name)
of-tail strands name x holds =
    let parts = and_parts (not (is_head_at strands.positive x)) (nat_eq (arc_of_dart strands.crossings x) name) holds in
    (not_false (is_head_at strands.positive x) parts.0, eqb-true (arc_of_dart strands.crossings x) name parts.1)

pub ArePaired-ends : (strands : Parts) → HasTwoEnds strands.crossings strands.positive → ArePaired strands
ArePaired-ends strands ends =
    let n = length strands.crossings in
    let heads_are : (name : ℕ) → head_count strands name
    ≡ count_by (is_head_of strands name) (range_with_len 0 (4 * length strands.crossings)) =
    λ name. heads-counted strands name 0 (length strands.crossings) in
    let tails_are : (name : ℕ) → tail_count strands name
    ≡ count_by (is_tail_of strands name) (range_with_len 0 (4 * length strands.crossings)) =
    λ name. tails-counted strands name 0 (length strands.crossings) in
    let one_head : (name : ℕ) → count_by (is_head_of strands name) (range_with_len 0 (4 * length strands.crossings)) ≤ 1 =
    λ name. count-at_most (is_head_of strands name) 0 (4 * length strands.crossings)
    (λ x y x_from x_below y_from y_below x_is y_is.
    let first = of-head strands name x x_is in
    let second = of-head strands name y y_is in
    ends.one_head x y (omega (arith, x_below)) (omega (arith, y_below)) first.0 second.0 (first.1 ∙ sym second.1)) in
    let one_tail : (name : ℕ) → count_by (is_tail_of strands name) (range_with_len 0 (4 * length strands.crossings)) ≤ 1 =
    λ name. count-at_most (is_tail_of strands name) 0 (4 * length strands.crossings)
    (λ x y x_from x_below y_from y_below x_is y_is.
    let first = of-tail strands name x x_is in
    let second = of-tail strands name y y_is in
    ends.one_tail x y (omega (arith, x_below)) (omega (arith, y_below)) first.0 second.0 (first.1 ∙ sym second.1)) in
    let onward : (name : ℕ) → 0 < count_by (is_head_of strands name) (range_with_len 0 (4 * length strands.crossings))
    → 0 < count_by (is_tail_of strands name) (range_with_len 0 (4 * length strands.crossings)) =
    λ name some.
    let found = found-counted (is_head_of strands name) 0 (4 * length strands.crossings) some in
    let is = of-head strands name found.0 found.1.passes in
    let other = ends.tail_of found.0 (omega (arith, found.1.below)) is.0 in
    count-some (is_tail_of strands name) (4 * length strands.crossings) other.0 other.1
    (tail-of strands name other.0 other.2 (sym other.3 ∙ is.1)) in
    let back : (name : ℕ) → 0 < count_by (is_tail_of strands name) (range_with_len 0 (4 * length strands.crossings))
    → 0 < count_by (is_head_of strands name) (range_with_len 0 (4 * length strands.crossings)) =
    λ name some.
    let found = found-counted (is_tail_of strands name) 0 (4 * length strands.crossings) some in
    let is = of-tail strands name found.0 found.1.passes in
    let other = ends.head_of found.0 (omega (arith, found.1.below)) is.0 in
    count-some (is_head_of strands name) (4 * length strands.crossings) other.0 other.1
    (head-of strands name other.0 other.2 (sym other.3 ∙ is.1)) in
    record {
      heads = λ name. omega (arith, heads_are name, one_head name);
      tails = λ name.
          tails_are name
          ∙ alike (count_by (is_tail_of strands name) (range_with_len 0 (4 * length strands.crossings)))
          (count_by (is_head_of strands name) (range_with_len 0 (4 * length strands.crossings))) (one_tail name) (one_head name) (back name) (onward name)
          ∙ sym (heads_are name);
    }
  where
    alike : (a b : ℕ) → a ≤ 1 → b ≤ 1 → (0 < a → 0 < b) → (0 < b → 0 < a) → a ≡ b
    alike a b first second onward back = grind arith

-- and back

pub HasTwoEnds-paired : (strands : Parts) → ArePaired strands → HasTwoEnds strands.crossings strands.positive
HasTwoEnds-paired strands paired = record {
  one_head = λ x y x_below y_below x_head y_head same.
      only (is_head_of strands (arc_of_dart strands.crossings y)) x y x_below y_below (few-heads (arc_of_dart strands.crossings y))
      (head-of strands (arc_of_dart strands.crossings y) x x_head same) (head-of strands (arc_of_dart strands.crossings y) y y_head refl);
  one_tail = λ x y x_below y_below x_tail y_tail same.
      only (is_tail_of strands (arc_of_dart strands.crossings y)) x y x_below y_below
      (omega (arith, as_many (arc_of_dart strands.crossings y), few-heads (arc_of_dart strands.crossings y)))
      (tail-of strands (arc_of_dart strands.crossings y) x x_tail same) (tail-of strands (arc_of_dart strands.crossings y) y y_tail refl);
  tail_of = λ x below head.
      let some = count-some (is_head_of strands (arc_of_dart strands.crossings x)) (4 * length strands.crossings) x below
      (head-of strands (arc_of_dart strands.crossings x) x head refl) in
      let found = found-counted (is_tail_of strands (arc_of_dart strands.crossings x)) 0 (4 * length strands.crossings)
      (omega (arith, some, as_many (arc_of_dart strands.crossings x))) in
      let is = of-tail strands (arc_of_dart strands.crossings x) found.0 found.1.passes in
      (found.0, omega (arith, found.1.below), is.0, sym is.1);
  head_of = λ x below tail.
      let some = count-some (is_tail_of strands (arc_of_dart strands.crossings x)) (4 * length strands.crossings) x below
      (tail-of strands (arc_of_dart strands.crossings x) x tail refl) in
      let found = found-counted (is_head_of strands (arc_of_dart strands.crossings x)) 0 (4 * length strands.crossings)
      (omega (arith, some, as_many (arc_of_dart strands.crossings x))) in
      let is = of-head strands (arc_of_dart strands.crossings x) found.0 found.1.passes in
      (found.0, omega (arith, found.1.below), is.0, sym is.1);
}
  where
    few-heads : (name : ℕ) → count_by (is_head_of strands name) (range_with_len 0 (4 * length strands.crossings)) ≤ 1
    few-heads name = omega (arith, heads-counted strands name 0 (length strands.crossings), paired.heads name)

    as_many : (name : ℕ) → count_by (is_tail_of strands name) (range_with_len 0 (4 * length strands.crossings))
        ≡ count_by (is_head_of strands name) (range_with_len 0 (4 * length strands.crossings))
    as_many name =
        omega (arith, heads-counted strands name 0 (length strands.crossings), tails-counted strands name 0 (length strands.crossings), paired.tails name)

    only : (p : ℕ → Bool) (x y : ℕ) → x < 4 * length strands.crossings → y < 4 * length strands.crossings
        → count_by p (range_with_len 0 (4 * length strands.crossings)) ≤ 1 → p x ≡ true → p y ≡ true → x ≡ y
    only p x y x_below y_below few x_is y_is =
        only-counted p 0 (4 * length strands.crossings) x y (omega (arith, few, count-some p (4 * length strands.crossings) x x_below x_is)) (omega arith)
        (omega (arith, x_below)) x_is (omega arith) (omega (arith, y_below)) y_is
