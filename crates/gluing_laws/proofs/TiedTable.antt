-- The ties of each state of each triangle, computed.
use Rattle.std.proofs.Common.{◌≡◌, ℕ, ◌+◌, ◌<◌, ◌∙◌, List, [], ◌∷◌, map, ap, sym, true, ◌&&◌, refl, arith}
use Rattle.std.specs.Prelude.{slice_index, nat_eq, nat_lt}
use Rattle.std.specs.Str.{bytes_eq}
use Rattle.std.specs.List.{range_with_len, list_all}
use Rattle.std.proofs.lemmas.Slice.Eq.{bytes_eq-Decides}
use Rattle.std.proofs.lemmas.List.FromFn.{length-range_with_len, get_or-range_with_len}
use Rattle.std.proofs.lemmas.List.{get_or-map}
use Rattle.std.proofs.lemmas.Bool.{and_parts, ltb-true, eqb-true}
use Rattle.kh_types.specs.Classes.{classes_of, class_count, AreBelow}
use Rattle.kh_types.specs.Circles.{smoothings_of}
use Rattle.kh_types.proofs.RangeCounts.{list_all-at}
use Rattle.gluing_laws.specs.Slides.{triangle_before, triangle_after, ends_joined, closed_inside, inside_classes}
use Rattle.gluing_laws.proofs.Ties.{is_tied_throughout, is_tied_at, are_below, ties_of}

all_slots : list_all (λ p. list_all (λ q. list_all (λ r. is_tied_throughout (triangle_before p q r) && is_tied_throughout (triangle_after p q r)) (range_with_len 0 4))
    (range_with_len 0 4)) (range_with_len 0 4) ≡ true
all_slots = refl

pub is_tied-slots : (p q r : ℕ) → p < 4 → q < 4 → r < 4 → (is_tied_throughout (triangle_before p q r) ≡ true) × (is_tied_throughout (triangle_after p q r) ≡ true)
is_tied-slots p q r p_below q_below r_below =
    and_parts (is_tied_throughout (triangle_before p q r)) (is_tied_throughout (triangle_after p q r))
    (list_all-at (λ z. is_tied_throughout (triangle_before p q z) && is_tied_throughout (triangle_after p q z)) 0 4 r
    (list_all-at (λ y. list_all (λ z. is_tied_throughout (triangle_before p y z) && is_tied_throughout (triangle_after p y z)) (range_with_len 0 4)) 0 4 q
    (list_all-at
    (λ x. list_all (λ y. list_all (λ z. is_tied_throughout (triangle_before x y z) && is_tied_throughout (triangle_after x y z)) (range_with_len 0 4))
    (range_with_len 0 4)) 0 4 p
    all_slots (omega arith) (omega arith))
    (omega arith) (omega arith))
    (omega arith) (omega arith))

-- what the table says of a state
pub record IsTied (crossings : List (List ℕ)) (state : ℕ) : Type 0 where
  pub below : AreBelow 10 (smoothings_of crossings state)
  pub ties_below : AreBelow 10 (ties_of (ends_joined crossings state))
  pub alike : (x : ℕ) → x < 7
      → slice_index (inside_classes crossings state) x ≡ slice_index (classes_of 10 (ties_of (ends_joined crossings state))) x
  pub count : class_count (inside_classes crossings state)
      ≡ closed_inside crossings state + class_count (classes_of 10 (ties_of (ends_joined crossings state)))

pub AreBelow-from : (n : ℕ) (pairs : List (ℕ × ℕ)) → are_below n pairs ≡ true → AreBelow n pairs
AreBelow-from n [] all = tt
AreBelow-from n (pair ∷ pairs) all =
    let parts = and_parts (nat_lt pair.0 n && nat_lt pair.1 n) (are_below n pairs) all in
    let two = and_parts (nat_lt pair.0 n) (nat_lt pair.1 n) parts.0 in
    ((ltb-true pair.0 n two.0, ltb-true pair.1 n two.1), AreBelow-from n pairs parts.1)

-- lists of values that agree, agree at each number
values-same : (f g : ℕ → ℕ) (n x : ℕ) → map f (range_with_len 0 n) ≡ map g (range_with_len 0 n) → x < n → f x ≡ g x
values-same f g n x same below =
    let size = length-range_with_len 0 n in
    let is_x : slice_index (range_with_len 0 n) x ≡ x = get_or-range_with_len 0 n x 0 below ∙ omega arith in
    sym (get_or-map f (range_with_len 0 n) x 0 0 (omega arith) ∙ ap f is_x)
    ∙ ap (λ xs. slice_index xs x) same
    ∙ get_or-map g (range_with_len 0 n) x 0 0 (omega arith) ∙ ap g is_x

pub IsTied-state : (crossings : List (List ℕ)) → is_tied_throughout crossings ≡ true → (state : ℕ) → state < 8 → IsTied crossings state
IsTied-state crossings all state state_below =
    let ties = ties_of (ends_joined crossings state) in
    let here = list_all-at (is_tied_at crossings) 0 8 state all (omega arith) (omega arith) in
    let values = bytes_eq (map (slice_index (inside_classes crossings state)) (range_with_len 0 7))
    (map (slice_index (classes_of 10 ties)) (range_with_len 0 7)) in
    let counts = nat_eq (class_count (inside_classes crossings state)) (closed_inside crossings state + class_count (classes_of 10 ties)) in
    let first = and_parts (are_below 10 (smoothings_of crossings state)) (are_below 10 ties && (values && counts)) here in
    let second = and_parts (are_below 10 ties) (values && counts) first.1 in
    let third = and_parts values counts second.1 in
    record {
      below = AreBelow-from 10 (smoothings_of crossings state) first.0;
      ties_below = AreBelow-from 10 ties second.0;
      alike = λ x below. values-same (slice_index (inside_classes crossings state)) (slice_index (classes_of 10 ties)) 7 x
          ((bytes_eq-Decides (map (slice_index (inside_classes crossings state)) (range_with_len 0 7))
          (map (slice_index (classes_of 10 ties)) (range_with_len 0 7))).0 third.0) below;
      count = eqb-true (class_count (inside_classes crossings state))
          (closed_inside crossings state + class_count (classes_of 10 ties)) third.1;
    }
