-- The gluing law.
use Rattle.std.proofs.Common.{◌≡◌, ℕ, inl, inr, ◌+◌, ◌<◌, ◌∙◌, List, [], ◌∷◌, ◌++◌, sym, ap, arith}
use Rattle.std.specs.Prelude.{slice_index}
use Rattle.std.specs.List.{fold}
use Rattle.std.proofs.lemmas.List.Sums.{fold-append}
use Rattle.std.proofs.lemmas.Bool.Decides.{nat_tests}
use Rattle.std.proofs.lemmas.Bool.{cases_eq}
use Rattle.kh_types.specs.Classes.{merged, joined, classes_of, class_count, AreBelow}
use Rattle.kh_types.specs.Classes.{IsNamed}
use Rattle.kh_types.proofs.ClassLemmas.{slice_index-joined}
use Rattle.kh_types.proofs.JoinedClasses.{joined-together, IsNamed-joined, IsNamed-classes_of, class_count-joined}
use Rattle.gluing_laws.specs.Glue.{renamed, Places, JoinAlike}

-- where two classes become one in both diagrams, two numbers that the one joins then, the other joins
merged-alike : (a b u v c d w z : ℕ) → merged a b u ≡ merged a b v
    → (u ≡ v → w ≡ z) → (u ≡ a → w ≡ c) → (u ≡ b → w ≡ d) → (v ≡ a → z ≡ c) → (v ≡ b → z ≡ d) → merged c d w ≡ merged c d z
merged-alike a b u v c d w z same alike u_a u_b v_a v_b = grind (arith, nat_tests)

-- one more pair of the outer part is joined in both diagrams
onward-joined : (m n k : ℕ) (f g : ℕ → ℕ) (pair : ℕ × ℕ) (first second : List ℕ) → IsNamed n first → IsNamed k second
    → Places f m n → Places g m k → pair.0 < m → pair.1 < m
    → ((x y : ℕ) → x < m → y < m → slice_index first (f x) ≡ slice_index first (f y)
    → slice_index second (g x) ≡ slice_index second (g y))
    → (x y : ℕ) → x < m → y < m
    → slice_index (joined first (f pair.0, f pair.1)) (f x) ≡ slice_index (joined first (f pair.0, f pair.1)) (f y)
    → slice_index (joined second (g pair.0, g pair.1)) (g x) ≡ slice_index (joined second (g pair.0, g pair.1)) (g y)
onward-joined m n k f g pair first second first_named second_named f_places g_places p_below q_below alike x y x_below y_below same =
    let a = slice_index first (f pair.0) in
    let b = slice_index first (f pair.1) in
    let c = slice_index second (g pair.0) in
    let d = slice_index second (g pair.1) in
    let at_first : (z : ℕ) → z < m → slice_index (joined first (f pair.0, f pair.1)) (f z) ≡ merged a b (slice_index first (f z)) =
    λ z below. slice_index-joined first (f pair.0, f pair.1) (f z) (omega (arith, first_named.size, f_places z below)) in
    let at_second : (z : ℕ) → z < m → slice_index (joined second (g pair.0, g pair.1)) (g z) ≡ merged c d (slice_index second (g z)) =
    λ z below. slice_index-joined second (g pair.0, g pair.1) (g z) (omega (arith, second_named.size, g_places z below)) in
    at_second x x_below
    ∙ merged-alike a b (slice_index first (f x)) (slice_index first (f y)) c d (slice_index second (g x)) (slice_index second (g y))
    (sym (at_first x x_below) ∙ same ∙ at_first y y_below) (alike x y x_below y_below) (alike x pair.0 x_below p_below)
    (alike x pair.1 x_below q_below) (alike y pair.0 y_below p_below) (alike y pair.1 y_below q_below)
    ∙ sym (at_second y y_below)

pub JoinAlike-joined : (m n k : ℕ) (f g : ℕ → ℕ) (pair : ℕ × ℕ) (first second : List ℕ) → IsNamed n first → IsNamed k second
    → Places f m n → Places g m k → pair.0 < m → pair.1 < m → JoinAlike m f g first second
    → JoinAlike m f g (joined first (f pair.0, f pair.1)) (joined second (g pair.0, g pair.1))
JoinAlike-joined m n k f g pair first second first_named second_named f_places g_places p_below q_below alike = record {
  onward = onward-joined m n k f g pair first second first_named second_named f_places g_places p_below q_below alike.onward;
  back = onward-joined m k n g f pair second first second_named first_named g_places f_places p_below q_below alike.back;
}

-- both counts fall by one or both stay, at each pair
counts_step : (first first_next first_end second second_next second_end : ℕ)
    → first_next + second_end ≡ second_next + first_end → first ≡ first_next + 1 → second ≡ second_next + 1
    → first + second_end ≡ second + first_end
counts_step first first_next first_end second second_next second_end rest first_one second_one = omega arith

-- the pairs of the outer part merge as many classes in the one diagram as in the other
pub class_count-glued : (m n k : ℕ) (f g : ℕ → ℕ) (outer : List (ℕ × ℕ)) (first second : List ℕ) → AreBelow m outer
    → IsNamed n first → IsNamed k second → Places f m n → Places g m k → JoinAlike m f g first second
    → class_count first + class_count (fold joined second (renamed g outer))
    ≡ class_count second + class_count (fold joined first (renamed f outer))
class_count-glued m n k f g [] first second below first_named second_named f_places g_places alike = omega arith
class_count-glued m n k f g (pair ∷ outer) first second below first_named second_named f_places g_places alike =
    let in_first : ℕ × ℕ = (f pair.0, f pair.1) in
    let in_second : ℕ × ℕ = (g pair.0, g pair.1) in
    let p_below = below.0.0 in
    let q_below = below.0.1 in
    let rest = class_count-glued m n k f g outer (joined first in_first) (joined second in_second) below.1
    (IsNamed-joined n first in_first (f_places pair.0 p_below) (f_places pair.1 q_below) first_named)
    (IsNamed-joined k second in_second (g_places pair.0 p_below) (g_places pair.1 q_below) second_named)
    f_places g_places
    (JoinAlike-joined m n k f g pair first second first_named second_named f_places g_places p_below q_below alike) in
    elim (cases_eq (slice_index first (f pair.0)) (slice_index first (f pair.1))) [
      | inl same ↦
          ap (λ c. class_count c + class_count (fold joined (joined second in_second) (renamed g outer)))
          (sym (joined-together first in_first same))
          ∙ rest
          ∙ ap (λ c. class_count c + class_count (fold joined (joined first in_first) (renamed f outer)))
          (joined-together second in_second (alike.onward pair.0 pair.1 p_below q_below same))
      | inr apart ↦ counts_step (class_count first) (class_count (joined first in_first))
          (class_count (fold joined (joined first in_first) (renamed f outer)))
          (class_count second) (class_count (joined second in_second))
          (class_count (fold joined (joined second in_second) (renamed g outer)))
          rest
          (class_count-joined n first in_first first_named (f_places pair.0 p_below) (f_places pair.1 q_below) apart)
          (class_count-joined k second in_second second_named (g_places pair.0 p_below) (g_places pair.1 q_below)
          (λ same. apart (alike.back pair.0 pair.1 p_below q_below same)))
    ]

-- the same where the inner parts are given by pairs
pub class_count-glued_parts : (m n k : ℕ) (f g : ℕ → ℕ) (outer inner others : List (ℕ × ℕ)) → AreBelow m outer → AreBelow n inner
    → AreBelow k others → Places f m n → Places g m k → JoinAlike m f g (classes_of n inner) (classes_of k others)
    → class_count (classes_of n inner) + class_count (classes_of k (others ++ renamed g outer))
    ≡ class_count (classes_of k others) + class_count (classes_of n (inner ++ renamed f outer))
class_count-glued_parts m n k f g outer inner others below inner_below others_below f_places g_places alike =
    grind (arith, nat_tests, fold-append, class_count-glued, IsNamed-classes_of)
