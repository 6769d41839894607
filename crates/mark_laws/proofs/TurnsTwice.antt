-- Two turns one after another are none modulo 2: two marks are left out in two orders.
use Rattle.std.proofs.Common.{◌≡◌, ℕ, zero, suc, inl, inr, ◌+◌, ◌*◌, ◌^◌, ◌∙◌, List, [], ◌∷◌, map, refl, sym, ap, subst, arith, IsTrue}
use Rattle.std.specs.List.{All, Contains, range_with_len, sum_by}
use Rattle.std.proofs.lemmas.Bool.{cases_eq}
use Rattle.std.proofs.lemmas.List.Elements.{All-cons, All-head, All-tail}
use Rattle.std.proofs.lemmas.List.Sums.{sum_by-cons}
use Rattle.kh_types.specs.Acceptance.{accepted}
use Rattle.kh_types.specs.Bits.{one_if}
use Rattle.kh_types.specs.Circles.{circle_count}
use Rattle.kh_types.specs.CircleNumbers.{IsName}
use Rattle.kh_types.specs.Code.{Code}
use Rattle.kh_types.specs.Generators.{Generator, generator_of, generators}
use Rattle.kh_types.specs.Residues.{Same}
use Rattle.kh_types.proofs.ListSums.{sum_by-alike, sum_by-map, sum_by-plus, sum_by-times, sum_by-turned, sum_by-zeros}
use Rattle.kh_types.proofs.Residues.{same-equal, same-multiple}
use Rattle.cell_laws.proofs.CubeCells.{IsMember}
use Rattle.cell_laws.proofs.Members.{Contains-made, sum_by-same}
use Rattle.square_laws.proofs.EdgeMarks.{is_marked}
use Rattle.square_laws.proofs.MarkedLabels.{IsMarked-marked_by, IsName-marked_by, marked_by}
use Rattle.mark_laws.specs.Turns.{turn_count}
use Rattle.mark_laws.proofs.CubeTurns.{sum_by-state, turns-elsewhere}
use Rattle.mark_laws.proofs.LessMarks.{less-turns, less_count, lists_less, turns-marked}

-- what holds of all marks holds of those that are left
less-names : (P : ℕ → Type 0) (marked : List ℕ) → All P marked → (less : List ℕ) → Contains (lists_less marked) less → All P less
less-names P [] all less has = absurd (omega (arith, has.1))
less-names P (mark ∷ marked) all less (zero, within, is) = subst (All P) is (All-tail P mark marked all)
less-names P (mark ∷ marked) all less (suc k, within, is) =
    let made = Contains-made (λ l. mark ∷ l) (lists_less marked) less (k, omega (arith, within), is) in
    subst (All P) made.2
    (All-cons P mark made.0 (All-head P mark marked all) (less-names P marked (All-tail P mark marked all) made.0 made.1))

-- each list with two marks less comes twice
less-twice : (f : List ℕ → ℕ) (marked : List ℕ) → Same 2 (sum_by (λ less. sum_by f (lists_less less)) (lists_less marked)) 0
less-twice f [] = refl
less-twice f (mark ∷ marked) =
    let lists = lists_less marked in
    let two = λ (less : List ℕ). sum_by f (lists_less less) in
    let later = λ (less : List ℕ). sum_by (λ l. f (mark ∷ l)) (lists_less less) in
    same-equal 2 (sum_by two (marked ∷ map (λ less. mark ∷ less) lists)) (sum_by later lists + 2 * sum_by f lists)
    (sum_by-cons two marked (map (λ less. mark ∷ less) lists)
    ∙ ap (λ n. sum_by f lists + n)
    (sum_by-map two (λ less. mark ∷ less) lists
    ∙ sum_by-alike (λ less. two (mark ∷ less)) (λ less. f less + later less)
    (λ less.
    sum_by-cons f less (map (λ l. mark ∷ l) (lists_less less))
    ∙ ap (λ n. f less + n) (sum_by-map f (λ l. mark ∷ l) (lists_less less)))
    lists
    ∙ sum_by-plus f later lists)
    ∙ twice (sum_by f lists) (sum_by later lists))
    ∙ same-multiple 2 (sum_by later lists) (sum_by f lists)
    ∙ less-twice (λ l. f (mark ∷ l)) marked
  where
    twice : (a b : ℕ) → a + (a + b) ≡ b + 2 * a
    twice a b = omega arith

module _ (code : Code) (is : IsTrue (accepted code)) where
  -- between two generators of a state
  twice-state : (s first last : ℕ)
      → Same 2 (sum_by (λ number. turn_count code (generator_of s first) (generator_of s number)
      * turn_count code (generator_of s number) (generator_of s last)) (range_with_len 0 (2 ^ circle_count code s))) 0
  twice-state s first last =
      let x = generator_of s first in
      let z = generator_of s last in
      let marked = marked_by code x in
      let names = IsName-marked_by code x in
      let lists = lists_less marked in
      let numbers = range_with_len 0 (2 ^ circle_count code s) in
      let turns = λ (number : ℕ). turn_count code (generator_of s number) z in
      let total = λ (less : List ℕ). sum_by (λ number. turns number * one_if (is_marked code (generator_of s number) less)) numbers in
      same-equal 2 (sum_by (λ number. turn_count code x (generator_of s number) * turns number) numbers) (sum_by total lists)
      (sum_by-alike (λ number. turn_count code x (generator_of s number) * turns number)
      (λ number. sum_by (λ less. turns number * one_if (is_marked code (generator_of s number) less)) lists)
      (λ number.
      ap (λ n. n * turns number) (sym (less-turns code s first number marked is names (IsMarked-marked_by code x is)))
      ∙ commuted (less_count code (generator_of s number) marked) (turns number)
      ∙ sym (sum_by-times (λ less. one_if (is_marked code (generator_of s number) less)) (turns number) lists))
      numbers
      ∙ sum_by-turned (λ number less. turns number * one_if (is_marked code (generator_of s number) less)) numbers lists)
      ∙ sum_by-same 2 total (less_count code z) lists
      (λ less has. turns-marked code s last less is (less-names (IsName code) marked names less has))
      ∙ less-twice (λ less. one_if (is_marked code z less)) marked
    where
      commuted : (a b : ℕ) → a * b ≡ b * a
      commuted a b = omega arith

  pub turns-twice : (x z : Generator) → IsMember code x
      → Same 2 (sum_by (λ y. turn_count code x y * turn_count code y z) (generators code)) 0
  turns-twice x z in_x = elim (cases_eq x.state z.state) [
    | inl same ↦
        let moved : z ≡ generator_of x.state z.label = ap (λ s. generator_of s z.label) (sym same) in
        same-equal 2 (sum_by (λ y. turn_count code x y * turn_count code y z) (generators code))
        (sum_by (λ number. turn_count code x (generator_of x.state number)
        * turn_count code (generator_of x.state number) (generator_of x.state z.label)) (range_with_len 0 (2 ^ circle_count code x.state)))
        (sum_by-state code x.state (λ y. turn_count code x y * turn_count code y z) in_x.state
        (λ y other. zero_left (turn_count code x y) (turn_count code y z) (turns-elsewhere code x y (λ is_y. other (sym is_y))))
        ∙ ap (λ w. sum_by (λ number. turn_count code x (generator_of x.state number)
        * turn_count code (generator_of x.state number) w) (range_with_len 0 (2 ^ circle_count code x.state))) moved)
        ∙ twice-state x.state x.label z.label
    | inr apart ↦
        same-equal 2 (sum_by (λ y. turn_count code x y * turn_count code y z) (generators code)) 0
        (sum_by-zeros (λ y. turn_count code x y * turn_count code y z) (generators code)
        (λ y. elim (cases_eq x.state y.state) [
          | inr other ↦ zero_left (turn_count code x y) (turn_count code y z) (turns-elsewhere code x y other)
          | inl is_y ↦
              zero_right (turn_count code x y) (turn_count code y z) (turns-elsewhere code y z (λ is_z. apart (is_y ∙ is_z)))
        ]))
  ]
    where
      zero_left : (m n : ℕ) → m ≡ 0 → m * n ≡ 0
      zero_left m n none = ap (λ k. k * n) none ∙ omega arith

      zero_right : (m n : ℕ) → n ≡ 0 → m * n ≡ 0
      zero_right m n none = ap (λ k. m * k) none ∙ omega arith
