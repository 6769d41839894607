-- What keeps crossings planar, by counts of faces, pieces and open darts. A permutation under other names has as many cycles: so
-- there are as many faces where darts get other names that keep the order round each crossing, and as many pieces where these
-- names give names of crossings. Numbers behind all others that are joined with each other and with no others are one class more.
-- So a bare crossing, put last, is one more piece; it is one more face, as the face steps turn round it; and its four darts are
-- open. So crossings are planar with it exactly where they are without it.
use Rattle.std.proofs.Common.{◌≡◌, ℕ, zero, suc, ◌⊎◌, inl, inr, ◌+◌, ◌*◌, ◌/◌, ◌<◌, ◌≤◌, ◌∙◌, List, [], ◌∷◌, ◌++◌, refl, sym, ap, subst, length, map, arith, Bool, true, false, cond}
use Rattle.std.specs.Prelude.{slice_index, nat_eq, nat_lt}
use Rattle.std.specs.List.{filter, count_by, range_with_len}
use Rattle.std.proofs.lemmas.List.{length-append}
use Rattle.std.proofs.lemmas.List.Elements.{filter-append}
use Rattle.std.proofs.lemmas.Bool.Decides.{nat_tests}
use Rattle.std.proofs.lemmas.Bool.{ne_eqb, lt-ltb, cases_lt, le-ltb}
use Rattle.kh_types.specs.Classes.{classes_of, class_count, is_least, Respects, AreBelow}
use Rattle.kh_types.proofs.ClassLemmas.{classes-together, classes-finest}
use Rattle.kh_types.proofs.Ranges.{range-append}
use Rattle.kh_types.proofs.JoinedClasses.{classes_of-same, IsNamed-classes_of}
use Rattle.kh_types.proofs.Lists.{filter-range_agree}
use Rattle.kh_types.proofs.Ranges.{count_by-range_more}
use Rattle.kh_types.proofs.RangeCounts.{count_by-alike}
use Rattle.kh_types.proofs.RangeImages.{map_range-agree}
use Rattle.kh_types.specs.Permutations.{IsPermutation, step_pair, cycles_of}
use Rattle.kh_types.specs.Darts.{IsPairing, turned, face_step}
use Rattle.kh_types.specs.Faces.{piece_pair}
use Rattle.face_walk.specs.AddedArcs.{IsPlanar, is_open, open_face_count, open_piece_count, open_dart_count}
use Rattle.kink_and_finger_laws.proofs.Steps.{all_on, all_of, AreBelow-piece_pair}
use Rattle.face_walk.proofs.OpenFaces.{turned-below, crossing-below}
use Rattle.kink_and_finger_laws.proofs.Relabelled.{renamed, IsAlike-renamed}

-- other names

abbrev both_named : (ℕ → ℕ) → (ℕ → ℕ × ℕ) → ℕ → ℕ × ℕ
both_named name F x = renamed name (F x)

map-renamed : (name : ℕ → ℕ) (F : ℕ → ℕ × ℕ) (a n : ℕ)
    → map (renamed name) (map F (range_with_len a n)) ≡ map (both_named name F) (range_with_len a n)
map-renamed name F a zero = refl
map-renamed name F a (suc n) = ap (λ zs. renamed name (F a) ∷ zs) (map-renamed name F (a + 1) n)

-- a permutation under other names has as many cycles
pub class_count-cycles_renamed : (n : ℕ) (f g name old : ℕ → ℕ) → IsPermutation n name old → ((x : ℕ) → x < n → f x < n)
    → ((x : ℕ) → x < n → g x < n) → ((x : ℕ) → x < n → g (name x) ≡ name (f x))
    → class_count (cycles_of n g) ≡ class_count (cycles_of n f)
class_count-cycles_renamed n f g name old permuted f_below g_below same =
    let pairs = map (step_pair f) (range_with_len 0 n) in
    let others = map (step_pair g) (range_with_len 0 n) in
    let pairs_below : AreBelow n (map (step_pair f) (range_with_len 0 n)) =
    all_of (λ pair. (pair.0 < n) × (pair.1 < n)) (step_pair f) 0 n
    (λ x from below. (omega (arith, below), f_below x (omega (arith, below)))) in
    let named = map-renamed name (step_pair f) 0 n in
    sym
    ((IsAlike-renamed n name old pairs permuted pairs_below).count
    ∙ ap (λ ps. class_count (classes_of n ps)) named
    ∙ ap class_count
    (classes_of-same n (map (both_named name (step_pair f)) (range_with_len 0 n)) others
    (all_of (λ pair. (pair.0 < n) × (pair.1 < n)) (both_named name (step_pair f)) 0 n
    (λ x from below.
    let small : x < n = omega (arith, below) in
    (permuted.below x small, permuted.below (f x) (f_below x small))))
    (all_of (λ pair. (pair.0 < n) × (pair.1 < n)) (step_pair g) 0 n
    (λ x from below. (omega (arith, below), g_below x (omega (arith, below)))))
    (λ h holds.
    all_of (λ pair. h pair.0 ≡ h pair.1) (step_pair g) 0 n
    (λ y from below.
    let small : y < n = omega (arith, below) in
    let x_small = permuted.back_below y small in
    let is_y = permuted.f_back y small in
    ap h (sym is_y)
    ∙ all_on (λ pair. h pair.0 ≡ h pair.1) (both_named name (step_pair f)) 0 n holds (old y) (omega arith) (omega (arith, x_small))
    ∙ ap h (sym (same (old y) x_small)) ∙ ap (λ z. h (g z)) is_y))
    (λ h holds.
    all_of (λ pair. h pair.0 ≡ h pair.1) (both_named name (step_pair f)) 0 n
    (λ x from below.
    let small : x < n = omega (arith, below) in
    let name_small = permuted.below x small in
    all_on (λ pair. h pair.0 ≡ h pair.1) (step_pair g) 0 n holds (name x) (omega arith) (omega (arith, name_small))
    ∙ ap h (same x small)))))

-- so have the faces, where the names of darts keep the order round each crossing
pub open_face_count-renamed : (n : ℕ) (partner other name old : ℕ → ℕ) → IsPairing (4 * n) partner → IsPairing (4 * n) other
    → IsPermutation (4 * n) name old → ((x : ℕ) → x < 4 * n → other (name x) ≡ name (partner x))
    → ((x : ℕ) → x < 4 * n → turned (name x) ≡ name (turned x)) → open_face_count n other ≡ open_face_count n partner
open_face_count-renamed n partner other name old is_partner other_partner permuted same round =
    class_count-cycles_renamed (4 * n) (face_step partner) (face_step other) name old permuted
    (λ x below. turned-below n (partner x) (is_partner.below x below)) (λ x below. turned-below n (other x) (other_partner.below x below))
    (λ x below. ap turned (same x below) ∙ round (partner x) (is_partner.below x below))

-- and the pieces, where the names of darts give names of crossings
pub open_piece_count-renamed : (n : ℕ) (partner other name old crossing_name old_crossing : ℕ → ℕ) → IsPairing (4 * n) partner
    → IsPairing (4 * n) other → IsPermutation (4 * n) name old → IsPermutation n crossing_name old_crossing
    → ((x : ℕ) → x < 4 * n → other (name x) ≡ name (partner x)) → ((x : ℕ) → x < 4 * n → name x / 4 ≡ crossing_name (x / 4))
    → open_piece_count n other ≡ open_piece_count n partner
open_piece_count-renamed n partner other name old crossing_name old_crossing is_partner other_partner permuted crossings same at =
    let pairs = map (piece_pair partner) (range_with_len 0 (4 * n)) in
    let others = map (piece_pair other) (range_with_len 0 (4 * n)) in
    let pairs_below = AreBelow-piece_pair n partner is_partner.below in
    sym
    ((IsAlike-renamed n crossing_name old_crossing pairs crossings pairs_below).count
    ∙ ap (λ ps. class_count (classes_of n ps)) (map-renamed crossing_name (piece_pair partner) 0 (4 * n))
    ∙ ap class_count
    (classes_of-same n (map (both_named crossing_name (piece_pair partner)) (range_with_len 0 (4 * n))) others
    (all_of (λ pair. (pair.0 < n) × (pair.1 < n)) (both_named crossing_name (piece_pair partner)) 0 (4 * n)
    (λ x from below.
    let small : x < 4 * n = omega (arith, below) in (
      crossings.below (x / 4) (crossing-below n x small),
      crossings.below (partner x / 4) (crossing-below n (partner x) (is_partner.below x small)),
    )))
    (AreBelow-piece_pair n other other_partner.below)
    (λ h holds.
    all_of (λ pair. h pair.0 ≡ h pair.1) (piece_pair other) 0 (4 * n)
    (λ y from below.
    let small : y < 4 * n = omega (arith, below) in
    let x_small = permuted.back_below y small in
    let is_y = permuted.f_back y small in
    ap (λ z. h (z / 4)) (sym is_y) ∙ ap h (at (old y) x_small)
    ∙ all_on (λ pair. h pair.0 ≡ h pair.1) (both_named crossing_name (piece_pair partner)) 0 (4 * n) holds (old y) (omega arith)
    (omega (arith, x_small))
    ∙ ap h (sym (at (partner (old y)) (is_partner.below (old y) x_small)))
    ∙ ap (λ z. h (z / 4)) (sym (same (old y) x_small)) ∙ ap (λ z. h (other z / 4)) is_y))
    (λ h holds.
    all_of (λ pair. h pair.0 ≡ h pair.1) (both_named crossing_name (piece_pair partner)) 0 (4 * n)
    (λ x from below.
    let small : x < 4 * n = omega (arith, below) in
    let name_small = permuted.below x small in
    ap h (sym (at x small))
    ∙ all_on (λ pair. h pair.0 ≡ h pair.1) (piece_pair other) 0 (4 * n) holds (name x) (omega arith) (omega (arith, name_small))
    ∙ ap (λ z. h (z / 4)) (same x small) ∙ ap h (at (partner x) (is_partner.below x small))))))

-- one more class

eq_true : (x y : ℕ) → x ≡ y → nat_eq x y ≡ true
eq_true x y same = grind (arith, nat_tests)

-- the classes of the numbers below n, and one class of all numbers from n on
abbrev with_block : List ℕ → ℕ → ℕ → ℕ
with_block classes n x = cond (nat_lt x n) (slice_index classes x) n

block-below : (classes : List ℕ) (n x : ℕ) → x < n → with_block classes n x ≡ slice_index classes x
block-below classes n x below = ap (λ b. cond b (slice_index classes x) n) (lt-ltb x n below)

block-from : (classes : List ℕ) (n x : ℕ) → n ≤ x → with_block classes n x ≡ n
block-from classes n x from = ap (λ b. cond b (slice_index classes x) n) (le-ltb x n from)

filter_none : (p : ℕ → Bool) (a n : ℕ) → ((x : ℕ) → a ≤ x → x < a + n → p x ≡ false) → length (filter p (range_with_len a n)) ≡ 0
filter_none p a zero fails = refl
filter_none p a (suc n) fails =
    grind (arith, nat_tests, filter_none p (a + 1) n (λ x from below. fails x (omega (arith, from)) (omega (arith, below))))

-- a function that respects some pairs agrees on the classes of the smaller pairs
block_respected : (n : ℕ) (pairs : List (ℕ × ℕ)) → AreBelow n pairs → (xs : List (ℕ × ℕ)) → AreBelow n xs
    → Respects (λ x. slice_index (classes_of n pairs) x) xs → Respects (with_block (classes_of n pairs) n) xs
block_respected n pairs below [] xs_below holds = tt
block_respected n pairs below (x ∷ xs) xs_below holds =
    grind (arith, nat_tests, block-below, block_respected n pairs below xs xs_below.1 holds.1)

-- where other pairs join the same, and all numbers from n on besides, there is one class more
pub class_count-block : (n k : ℕ) (pairs others : List (ℕ × ℕ)) → AreBelow n pairs → AreBelow (n + suc k) others
    → ((h : ℕ → ℕ) → Respects h others → Respects h pairs × ((x : ℕ) → n ≤ x → x < n + suc k → h x ≡ h n))
    → ((h : ℕ → ℕ) → Respects h pairs → ((x : ℕ) → n ≤ x → x < n + suc k → h x ≡ h n) → Respects h others)
    → class_count (classes_of (n + suc k) others) ≡ class_count (classes_of n pairs) + 1
class_count-block n k pairs others below others_below onward back =
    let all = n + suc k in
    let small = classes_of n pairs in
    let large = classes_of (n + suc k) others in
    let named = IsNamed-classes_of n pairs below in
    let large_named = IsNamed-classes_of (n + suc k) others others_below in
    let block : ℕ → ℕ = with_block small n in
    let parts = onward (λ x. slice_index large x) (classes-together (n + suc k) others others_below) in
    let at_n : slice_index large n ≤ n = large_named.least n (omega arith) in
    let le_block : (x : ℕ) → x < n + suc k → slice_index large x ≤ with_block small n x =
    λ x x_below. elim (cases_lt x n) [
      | inl low ↦
          let name = slice_index small x in
          let name_below : name < n = omega (arith, named.least x low, low) in
          let same = classes-finest (λ z. slice_index large z) n pairs parts.0 below name x name_below low (named.own x low) in
          omega (arith, same, large_named.least name (omega (arith, name_below)), block-below small n x low)
      | inr high ↦ omega (arith, parts.1 x high x_below, at_n, block-from small n x high)
    ] in
    let respects = back (with_block small n) (block_respected n pairs below pairs below (classes-together n pairs below))
    (λ x from x_below. block-from small n x from ∙ sym (block-from small n n (omega arith))) in
    let block_le : (z : ℕ) → with_block small n z ≤ z =
    λ z. elim (cases_lt z n) [
      | inl low ↦ omega (arith, block-below small n z low, named.least z low)
      | inr high ↦ omega (arith, block-from small n z high, high)
    ] in
    let is_block : (x : ℕ) → x < n + suc k → slice_index large x ≡ with_block small n x =
    λ x x_below.
    let name = slice_index large x in
    let name_below : name < n + suc k = omega (arith, large_named.least x x_below, x_below) in
    let same = classes-finest (with_block small n) (n + suc k) others respects others_below name x name_below x_below
    (large_named.own x x_below) in
    omega (arith, le_block x x_below, same, block_le name) in
    let test = is_least large in
    let front : filter test (range_with_len 0 n) ≡ filter (is_least small) (range_with_len 0 n) =
    filter-range_agree test (is_least small) 0 n
    (λ x from x_below.
    let low : x < n = omega (arith, x_below) in
    ap (λ c. nat_eq c x) (is_block x (omega (arith, low)) ∙ block-below small n x low)) in
    let here : test n ≡ true = eq_true (slice_index large n) n (is_block n (omega arith) ∙ block-from small n n (omega arith)) in
    let rest = filter_none test (n + 1) k
    (λ x from x_below.
    ne_eqb (slice_index large x) x
    (λ same. omega (arith, same, is_block x (omega (arith, x_below)), block-from small n x (omega (arith, from)), from))) in
    let zero_n : 0 + n ≡ n = omega arith in
    let cut : range_with_len 0 (n + suc k) ≡ range_with_len 0 n ++ n ∷ range_with_len (n + 1) k =
    range-append 0 n (suc k) ∙ ap (λ m. range_with_len 0 n ++ range_with_len m (suc k)) zero_n in
    let later = filter test (range_with_len (n + 1) k) in
    let behind : length (filter test (n ∷ range_with_len (n + 1) k)) ≡ 1 =
    ap (λ b. length (cond b (n ∷ filter test (range_with_len (n + 1) k)) (filter test (range_with_len (n + 1) k)))) here ∙ ap suc rest in
    let counted = ap length front in
    ap (λ m. length (filter test (range_with_len 0 m))) large_named.size
    ∙ ap (λ xs. length (filter test xs)) cut
    ∙ ap length (filter-append test (range_with_len 0 n) (n ∷ range_with_len (n + 1) k))
    ∙ length-append (filter test (range_with_len 0 n)) (filter test (n ∷ range_with_len (n + 1) k))
    ∙ omega (arith, counted, behind)
    ∙ ap (λ m. length (filter (is_least small) (range_with_len 0 m)) + 1) (sym named.size)

-- one more bare crossing, the last, is one face more and one piece more

pub open_piece_count-bare : (n : ℕ) (partner more : ℕ → ℕ) → IsPairing (4 * n) partner → ((x : ℕ) → x < 4 * n → more x ≡ partner x)
    → ((x : ℕ) → 4 * n ≤ x → x < 4 * (n + 1) → more x ≡ x) → open_piece_count (n + 1) more ≡ open_piece_count n partner + 1
open_piece_count-bare n partner more is_partner same bare =
    let pairs = map (piece_pair partner) (range_with_len 0 (4 * n)) in
    let others = map (piece_pair more) (range_with_len 0 (4 * (n + 1))) in
    let more_below : (x : ℕ) → x < 4 * (n + 1) → more x < 4 * (n + 1) =
    λ x below. elim (cases_lt x (4 * n)) [
      | inl low ↦ omega (arith, same x low, is_partner.below x low)
      | inr high ↦ omega (arith, bare x high below, below)
    ] in
    let e : n + 1 ≡ n + suc 0 = omega arith in
    ap (λ m. class_count (classes_of m (map (piece_pair more) (range_with_len 0 (4 * (n + 1)))))) e
    ∙ class_count-block n 0 pairs others (AreBelow-piece_pair n partner is_partner.below)
    (subst (λ (m : ℕ). AreBelow m (map (piece_pair more) (range_with_len 0 (4 * (n + 1))))) e (AreBelow-piece_pair (n + 1) more more_below))
    (λ h holds. (
      all_of (λ pair. h pair.0 ≡ h pair.1) (piece_pair partner) 0 (4 * n)
          (λ x from below.
          let low : x < 4 * n = omega (arith, below) in
          all_on (λ pair. h pair.0 ≡ h pair.1) (piece_pair more) 0 (4 * (n + 1)) holds x from (omega (arith, low))
          ∙ ap (λ z. h (z / 4)) (same x low)),
      λ x from below. let is_n : x ≡ n = omega (arith, from, below) in ap h is_n,
    ))
    (λ h holds block.
    all_of (λ pair. h pair.0 ≡ h pair.1) (piece_pair more) 0 (4 * (n + 1))
    (λ x from below.
    elim (cases_lt x (4 * n)) [
      | inl low ↦
          all_on (λ pair. h pair.0 ≡ h pair.1) (piece_pair partner) 0 (4 * n) holds x from (omega (arith, low))
          ∙ ap (λ z. h (z / 4)) (sym (same x low))
      | inr high ↦ ap (λ z. h (z / 4)) (sym (bare x high (omega (arith, below))))
    ]))

pub turned_from : (n x : ℕ) → 4 * n ≤ x → x < 4 * (n + 1) → 4 * n ≤ turned x
turned_from n x from below = omega (arith, from, below)

pub turned_last : (n x : ℕ) → 4 * n ≤ x → x < 4 * (n + 1)
    → (x ≡ 4 * n) ⊎ ((turned x ≡ 4 * n) ⊎ ((turned (turned x) ≡ 4 * n) ⊎ (turned (turned (turned x)) ≡ 4 * n)))
turned_last n x from below = grind arith

pub open_face_count-bare : (n : ℕ) (partner more : ℕ → ℕ) → IsPairing (4 * n) partner → ((x : ℕ) → x < 4 * n → more x ≡ partner x)
    → ((x : ℕ) → 4 * n ≤ x → x < 4 * (n + 1) → more x ≡ x) → open_face_count (n + 1) more ≡ open_face_count n partner + 1
open_face_count-bare n partner more is_partner same bare =
    let pairs = map (step_pair (face_step partner)) (range_with_len 0 (4 * n)) in
    let others = map (step_pair (face_step more)) (range_with_len 0 (4 * (n + 1))) in
    let more_below : (x : ℕ) → x < 4 * (n + 1) → more x < 4 * (n + 1) =
    λ x below. elim (cases_lt x (4 * n)) [
      | inl low ↦ omega (arith, same x low, is_partner.below x low)
      | inr high ↦ omega (arith, bare x high below, below)
    ] in
    let e : 4 * (n + 1) ≡ 4 * n + suc 3 = omega arith in
    ap (λ m. class_count (classes_of m (map (step_pair (face_step more)) (range_with_len 0 (4 * (n + 1)))))) e
    ∙ class_count-block (4 * n) 3 pairs others
    (all_of (λ pair. (pair.0 < 4 * n) × (pair.1 < 4 * n)) (step_pair (face_step partner)) 0 (4 * n)
    (λ x from below.
    let low : x < 4 * n = omega (arith, below) in
    (low, turned-below n (partner x) (is_partner.below x low))))
    (subst (λ (m : ℕ). AreBelow m (map (step_pair (face_step more)) (range_with_len 0 (4 * (n + 1))))) e
    (all_of (λ pair. (pair.0 < 4 * (n + 1)) × (pair.1 < 4 * (n + 1))) (step_pair (face_step more)) 0 (4 * (n + 1))
    (λ x from below.
    let low : x < 4 * (n + 1) = omega (arith, below) in
    (low, turned-below (n + 1) (more x) (more_below x low)))))
    (λ h holds.
    let step : (x : ℕ) → x < 4 * (n + 1) → h x ≡ h (turned (more x)) =
    λ x below. all_on (λ pair. h pair.0 ≡ h pair.1) (step_pair (face_step more)) 0 (4 * (n + 1)) holds x (omega arith) (omega (arith, below)) in
    let round : (x : ℕ) → 4 * n ≤ x → x < 4 * (n + 1) → h x ≡ h (turned x) =
    λ x from below. step x below ∙ ap (λ z. h (turned z)) (bare x from below) in (
      all_of (λ pair. h pair.0 ≡ h pair.1) (step_pair (face_step partner)) 0 (4 * n)
          (λ x from below.
          let low : x < 4 * n = omega (arith, below) in
          step x (omega (arith, low)) ∙ ap (λ z. h (turned z)) (same x low)),
      λ x from below.
          let small : x < 4 * (n + 1) = omega (arith, below) in
          let one_from = turned_from n x from small in
          let one_small = turned-below (n + 1) x small in
          let two_from = turned_from n (turned x) one_from one_small in
          let two_small = turned-below (n + 1) (turned x) one_small in
          let one = round x from small in
          let two = one ∙ round (turned x) one_from one_small in
          let three = two ∙ round (turned (turned x)) two_from two_small in
          elim (turned_last n x from small) [
            | inl is ↦ ap h is
            | inr later ↦ elim later [
              | inl is ↦ one ∙ ap h is
              | inr last ↦ elim last [ inl is ↦ two ∙ ap h is | inr is ↦ three ∙ ap h is ]
            ]
          ],
    ))
    (λ h holds block.
    all_of (λ pair. h pair.0 ≡ h pair.1) (step_pair (face_step more)) 0 (4 * (n + 1))
    (λ x from below.
    let small : x < 4 * (n + 1) = omega (arith, below) in
    elim (cases_lt x (4 * n)) [
      | inl low ↦
          all_on (λ pair. h pair.0 ≡ h pair.1) (step_pair (face_step partner)) 0 (4 * n) holds x from (omega (arith, low))
          ∙ ap (λ z. h (turned z)) (sym (same x low))
      | inr high ↦
          block x high (omega (arith, small))
          ∙ sym (block (turned x) (turned_from n x high small) (omega (arith, turned-below (n + 1) x small)))
          ∙ ap (λ z. h (turned z)) (sym (bare x high small))
    ]))

pub open_dart_count-bare : (n : ℕ) (partner more : ℕ → ℕ) → ((x : ℕ) → x < 4 * n → more x ≡ partner x)
    → ((x : ℕ) → 4 * n ≤ x → x < 4 * (n + 1) → more x ≡ x) → open_dart_count (n + 1) more ≡ open_dart_count n partner + 4
open_dart_count-bare n partner more same bare =
    let e : 4 * (n + 1) ≡ 4 * n + 3 + 1 = omega arith in
    let count : ℕ → ℕ = λ m. count_by (is_open more) (range_with_len 0 m) in
    let step : (m : ℕ) → 4 * n ≤ m → m < 4 * (n + 1)
    → count_by (is_open more) (range_with_len 0 (m + 1)) ≡ count_by (is_open more) (range_with_len 0 m) + 1 =
    λ m from below. count_by-range_more (is_open more) 0 m m (omega arith)
    ∙ ap (λ b. count_by (is_open more) (range_with_len 0 m) + cond b 1 0) (eq_true (more m) m (bare m from below)) in
    let front = count_by-alike (is_open more) (is_open partner) 0 (4 * n)
    (λ x from below. ap (λ y. nat_eq y x) (same x (omega (arith, below)))) in
    let one = step (4 * n) (omega arith) (omega arith) in
    let two = step (4 * n + 1) (omega arith) (omega arith) in
    let three = step (4 * n + 2) (omega arith) (omega arith) in
    let four = step (4 * n + 3) (omega arith) (omega arith) in
    let e2 : 4 * n + 1 + 1 ≡ 4 * n + 2 = omega arith in
    let e3 : 4 * n + 2 + 1 ≡ 4 * n + 3 = omega arith in
    let two_is = sym (ap count e2) ∙ two in
    let three_is = sym (ap count e3) ∙ three in
    ap count e ∙ omega (arith, front, one, two_is, three_is, four)

-- partner functions that agree on the darts are planar together
pub IsPlanar-agree : (n : ℕ) (partner other : ℕ → ℕ) → ((z : ℕ) → z < 4 * n → partner z ≡ other z) → IsPlanar n partner → IsPlanar n other
IsPlanar-agree n partner other same planar = grind (arith, nat_tests, map_range-agree, count_by-alike)

-- one more bare crossing keeps crossings planar
pub IsPlanar-bare : (n : ℕ) (partner more : ℕ → ℕ) → IsPairing (4 * n) partner → ((x : ℕ) → x < 4 * n → more x ≡ partner x)
    → ((x : ℕ) → 4 * n ≤ x → x < 4 * (n + 1) → more x ≡ x) → IsPlanar n partner → IsPlanar (n + 1) more
IsPlanar-bare n partner more is_partner same bare planar =
    omega (
      arith,
      planar,
      open_face_count-bare n partner more is_partner same bare,
      open_piece_count-bare n partner more is_partner same bare,
      open_dart_count-bare n partner more same bare,
    )

-- without its last crossing, which is bare, a planar whole is planar
pub IsPlanar-not_bare : (n : ℕ) (partner more : ℕ → ℕ) → IsPairing (4 * n) partner → ((x : ℕ) → x < 4 * n → more x ≡ partner x)
    → ((x : ℕ) → 4 * n ≤ x → x < 4 * (n + 1) → more x ≡ x) → IsPlanar (n + 1) more → IsPlanar n partner
IsPlanar-not_bare n partner more is_partner same bare planar =
    omega (
      arith,
      planar,
      open_face_count-bare n partner more is_partner same bare,
      open_piece_count-bare n partner more is_partner same bare,
      open_dart_count-bare n partner more same bare,
    )
