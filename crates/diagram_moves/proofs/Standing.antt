-- As many names stand at crossings as these have passes.
use Rattle.std.proofs.lemmas.Bool.Decides.{nat_tests}
use Rattle.std.proofs.Common.{◌≡◌, ℕ, zero, suc, inl, inr, ◌+◌, ◌*◌, ◌/◌, ◌%◌, ◌<◌, ◌∙◌, List, length, refl, sym, ap, arith, Bool, true, cond}
use Rattle.std.specs.Prelude.{unwrap_or}
use Rattle.std.specs.List.{count_by, find, range_with_len}
use Rattle.std.proofs.lemmas.Bool.{cases_Bool}
use Rattle.kh_types.proofs.RangeCounts.{found-counted}
use Rattle.face_walk.proofs.PlainCounts.{count_by-one_to_one}
use Rattle.code_passes.specs.Parts.{Parts, is_positive_at}
use Rattle.gluing_laws.specs.Codes.{arc_of_dart}
use Rattle.gluing_laws.specs.Arcs.{arc_by_place, enters}
use Rattle.kink_and_finger_laws.specs.Drops.{stands_in}
use Rattle.kink_and_finger_laws.proofs.StandingNames.{stands-none, stands-some}
use Rattle.orient_arcs.specs.Alike.{HasNamesBelow}
use Rattle.code_passes.specs.Parts.{ArePaired}
use Rattle.kink_and_finger_laws.proofs.TwoEnds.{is_head_at, HasTwoEnds-paired, is_head_of, head-of, of-head, count-darts, count-some, head-at, name-at}
use Rattle.gluing_laws.proofs.DartPairs.{arc_of-dart}

-- two darts of each crossing are heads
heads-all : (signs : List Bool) (a n : ℕ) → count_by (is_head_at signs) (range_with_len (4 * a) (4 * n)) ≡ 2 * n
heads-all signs a zero = refl
heads-all signs a (suc n) =
    let z : 4 * a ≡ 4 * a + 0 = omega arith in
    let at : (s : ℕ) → s < 4 → cond (is_head_at signs (4 * a + s)) 1 0 ≡ cond (enters (is_positive_at signs a) s) 1 0 =
    λ s below. ap {B = ℕ} (λ t. cond t 1 0) (head-at signs a s below) in
    let zeroth : cond (is_head_at signs (4 * a)) 1 0 ≡ cond (enters (is_positive_at signs a) 0) 1 0 =
    ap {B = ℕ} (λ x. cond (is_head_at signs x) 1 0) z ∙ at 0 (omega arith) in
    omega (
      arith,
      count-darts (is_head_at signs) a n,
      heads-all signs (a + 1) n,
      zeroth,
      at 1 (omega arith),
      at 2 (omega arith),
      at 3 (omega arith),
      two (is_positive_at signs a),
    )
  where
    two : (b : Bool) → cond (enters b 0) 1 0 + cond (enters b 1) 1 0 + cond (enters b 2) 1 0 + cond (enters b 3) 1 0 ≡ 2
    two b = grind (arith, nat_tests)

pub stands-at : (crossings : List (List ℕ)) (place slot : ℕ) → place < length crossings → slot < 4
    → stands_in crossings (arc_by_place crossings place slot) ≡ true
stands-at crossings place slot below slot_below = grind (arith, nat_tests, cases_Bool, stands-none)

-- a dart that is a head of a name
abbrev head_dart : Parts → ℕ → ℕ
head_dart strands name = unwrap_or (find (is_head_of strands name) (range_with_len 0 (4 * length strands.crossings))) 0

module _ (bound : ℕ) (strands : Parts) (paired : ArePaired strands) (names : HasNamesBelow bound strands.crossings) where
  has-head : (name : ℕ) → stands_in strands.crossings name ≡ true
      → 0 < count_by (is_head_of strands name) (range_with_len 0 (4 * length strands.crossings))
  has-head name holds =
      stands-some (λ y. 0 < count_by (is_head_of strands y) (range_with_len 0 (4 * length strands.crossings))) strands.crossings name
      (λ place slot below slot_below.
      let x = 4 * place + slot in
      let x_below : 4 * place + slot < 4 * length strands.crossings = omega (arith, below, slot_below) in
      let same = name-at strands.crossings place slot slot_below in
      elim (cases_Bool (is_head_at strands.positive (4 * place + slot))) [
        | inl head ↦
            count-some (is_head_of strands (arc_by_place strands.crossings place slot)) (4 * length strands.crossings) x x_below
            (head-of strands (arc_by_place strands.crossings place slot) x head same)
        | inr tail ↦
            let other = (HasTwoEnds-paired strands paired).head_of (4 * place + slot) x_below tail in
            count-some (is_head_of strands (arc_by_place strands.crossings place slot)) (4 * length strands.crossings) other.0 other.1
            (head-of strands (arc_by_place strands.crossings place slot) other.0 other.2 (sym other.3 ∙ same))
      ]) holds

  found-head : (name : ℕ) → stands_in strands.crossings name ≡ true
      → (head_dart strands name < 4 * length strands.crossings) × (is_head_of strands name (head_dart strands name) ≡ true)
  found-head name holds = grind (arith, nat_tests, found-counted, is_head_of, has-head)

  pub standing-count : count_by (stands_in strands.crossings) (range_with_len 0 bound) ≡ 2 * length strands.crossings
  standing-count =
      let all = heads-all strands.positive 0 (length strands.crossings) in
      let few = count_by-one_to_one (stands_in strands.crossings) (is_head_at strands.positive) (head_dart strands) bound (4 * length strands.crossings)
      (record {
        below = λ name below holds. (found-head name holds).0;
        passes = λ name below holds. (of-head strands name (head_dart strands name) (found-head name holds).1).0;
        apart = λ x y x_below y_below x_holds y_holds same.
            sym (of-head strands x (head_dart strands x) (found-head x x_holds).1).1
            ∙ ap (arc_of_dart strands.crossings) same ∙ (of-head strands y (head_dart strands y) (found-head y y_holds).1).1;
      }) in
      let many = count_by-one_to_one (is_head_at strands.positive) (stands_in strands.crossings) (arc_of_dart strands.crossings) (4 * length strands.crossings) bound
      (record {
        below = λ x below head. omega (arith, arc_of-dart strands.crossings x, names x below);
        passes = λ x below head. stands-at strands.crossings (x / 4) (x % 4) (omega (arith, below)) (omega arith);
        apart = λ x y x_below y_below x_head y_head same. (HasTwoEnds-paired strands paired).one_head x y x_below y_below x_head y_head same;
      }) in
      omega (arith, all, few, many)
