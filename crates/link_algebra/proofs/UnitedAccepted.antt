-- The disjoint union of accepted codes is accepted.
--
-- Darts of the union are those of the first code and then those of the second, by places, and partners stay within their part. So faces and
-- pieces add up (ClassParts), and the number that the sphere allows, which is said of pieces, adds up as well; a choice of bits for the
-- union is one for each part, side by side.
use Rattle.std.proofs.lemmas.Bool.Decides.{nat_tests}
use Rattle.std.proofs.Common.{IsTrue, List, [], ap, ap₂, arith, length, map, refl, subst, suc, sym, true, zero, ℕ, ◌%◌, ◌*◌, ◌++◌, ◌+◌, ◌-◌, ◌/◌, ◌<◌, ◌^◌, ◌∙◌, ◌∷◌, ◌≡◌, ◌≢◌, ◌≤◌}
use Rattle.std.proofs.Math.Nat.{mul-le-mul_left}
use Rattle.std.proofs.lemmas.Bool.{eq-eqb}
use Rattle.std.proofs.lemmas.List.{map-append}
use Rattle.std.proofs.lemmas.Nat.{pow-add}
use Rattle.std.specs.List.{flat_map, range_with_len}
use Rattle.kh_types.proofs.AcceptedLemmas.{HasArcsTwice-directed, IsAccepted-is}
use Rattle.kh_types.proofs.CircleBound.{ArcsBelow-slots, passes_of-below}
use Rattle.kh_types.proofs.ClassCounts.{class_count-components}
use Rattle.kh_types.proofs.CountedClasses.{below-range}
use Rattle.kh_types.proofs.DartColours.{IsColoured-checkerboard}
use Rattle.kh_types.proofs.DartPairs.{IsDartOf-first_dart, IsOtherDart-partner, IsOtherPlace-partner_at, partner_at-only}
use Rattle.kh_types.proofs.RangeCounts.{list_all-each}
use Rattle.kh_types.proofs.Ranges.{range-append}
use Rattle.kh_types.specs.Acceptance.{accepted}
use Rattle.kh_types.specs.Accepted.{IsDirected}
use Rattle.kh_types.specs.Bits.{bit}
use Rattle.kh_types.specs.Checkerboard.{IsCheckerboard, solves_at}
use Rattle.kh_types.specs.Classes.{AreBelow, class_count, classes_of}
use Rattle.kh_types.specs.Code.{Code, IsArc, IsCrossing, arc_count, arc_in, place_of, slots_of}
use Rattle.kh_types.specs.Colours.{IsColoured, colour}
use Rattle.kh_types.specs.Components.{component_count, components_of, passes_of}
use Rattle.kh_types.specs.Darts.{HasArcsTwice, first_dart, partner, partner_at, turned}
use Rattle.kh_types.specs.Faces.{face_count, face_pair, piece_count, piece_pair}
use Rattle.kh_types.specs.declared.dart.Dart.{Dart}
use Rattle.kh_types.specs.declared.limits.TheConstants.{COMPONENTS}
use Rattle.kh_types.proofs.JointNumbers.{bit-inside, bit-outside}
use Rattle.link_algebra.proofs.ClassParts.{class_count-append_lists, classes-parts, length-classes, lifted_pairs}
use Rattle.link_algebra.proofs.UnitedCircles.{HoldsNames-twice, length-both}
use Rattle.link_algebra.proofs.UnitedComponents.{IsPart, components-both, components-own, inner_components, length-components, passes-small}
use Rattle.link_algebra.proofs.UnitedSigns.{part-arc}
use Rattle.link_algebra.specs.Unions.{union_of}
use Rattle.link_algebra.proofs.UnitedDirected.{AreUnited, AreUnited-from, IsDirected-both, each-arc, each-crossing, place-part}

-- the partners in a part
partner-of : (before : ℕ) (part whole : List (List ℕ)) (q : ℕ) → IsPart before part whole → HasArcsTwice part → HasArcsTwice whole
    → q < 4 * length part → partner_at whole (4 * before + q) ≡ 4 * before + partner_at part q
partner-of before part whole q is twice whole_twice below =
    let other = IsOtherPlace-partner_at part q twice below in
    sym (partner_at-only whole (4 * before + q) (4 * before + partner_at part q) whole_twice (omega (arith, below, is.fits))
    (record {
      below = omega (arith, other.below, is.fits);
      differs = λ same. other.differs (omega (arith, same));
      same_arc = place-part before part whole is (partner_at part q) other.below
          ∙ ap (λ a. a + 2 * before) other.same_arc ∙ sym (place-part before part whole is q below);
    }))

-- pairs of places by blocks
blocks : (f g : ℕ → ℕ × ℕ) (m k shift : ℕ) → ((q : ℕ) → q < k → f (m + q) ≡ (shift + (g q).0, shift + (g q).1))
    → map f (range_with_len (m + 0) k) ≡ lifted_pairs shift (map g (range_with_len 0 k))
blocks f g m k shift same = from 0 k (λ q below. same q (omega (arith, below)))
  where
    from : (a k : ℕ) → ((q : ℕ) → q < a + k → f (m + q) ≡ (shift + (g q).0, shift + (g q).1))
        → map f (range_with_len (m + a) k) ≡ lifted_pairs shift (map g (range_with_len a k))
    from a zero same = refl
    from a (suc k) same = grind (arith, nat_tests, from (a + 1) k (λ q below. same q (omega (arith, below))))

map-range_alike : (f g : ℕ → ℕ × ℕ) (a k : ℕ) → ((q : ℕ) → a ≤ q → q < a + k → f q ≡ g q)
    → map f (range_with_len a k) ≡ map g (range_with_len a k)
map-range_alike f g a zero same = refl
map-range_alike f g a (suc k) same =
    ap₂ (λ x xs. x ∷ xs) (same a (omega arith) (omega arith))
    (map-range_alike f g (a + 1) k (λ q from below. same q (omega arith) (omega arith)))

-- classes of places of both
classes-blocks : (f g h : ℕ → ℕ × ℕ) (m k shift more size : ℕ)
    → ((q : ℕ) → q < m → f q ≡ g q) → ((q : ℕ) → q < k → f (m + q) ≡ (shift + (h q).0, shift + (h q).1))
    → AreBelow shift (map g (range_with_len 0 m)) → AreBelow more (map h (range_with_len 0 k)) → size ≡ m + k
    → class_count (classes_of (shift + more) (map f (range_with_len 0 size)))
    ≡ class_count (classes_of shift (map g (range_with_len 0 m))) + class_count (classes_of more (map h (range_with_len 0 k)))
classes-blocks f g h m k shift more size first second first_below second_below is_size =
    let front = map g (range_with_len 0 m) in
    let back = map h (range_with_len 0 k) in
    let e : 0 + m ≡ m + 0 = omega arith in
    let pairs : map f (range_with_len 0 size) ≡ front ++ lifted_pairs shift back =
    ap (λ c. map f (range_with_len 0 c)) is_size ∙ ap (map f) (range-append 0 m k)
    ∙ map-append f (range_with_len 0 m) (range_with_len (0 + m) k)
    ∙ ap₂ (λ us vs. us ++ vs) (map-range_alike f g 0 m (λ q from below. first q (omega (arith, below))))
    (ap (λ c. map f (range_with_len c k)) e ∙ blocks f h m k shift second) in
    ap (λ ps. class_count (classes_of (shift + more) ps)) pairs
    ∙ ap class_count (classes-parts shift more front back first_below second_below)
    ∙ class_count-append_lists shift (classes_of shift front) (classes_of more back) (length-classes shift front first_below).0

pub faces-below : (crossings : List (List ℕ)) → HasArcsTwice crossings
    → AreBelow (4 * length crossings) (map (face_pair (partner_at crossings)) (range_with_len 0 (4 * length crossings)))
faces-below crossings twice =
    below-range (face_pair (partner_at crossings)) (4 * length crossings) 0 (4 * length crossings)
    (λ q from below.
    let other = IsOtherPlace-partner_at crossings q twice (omega (arith, below)) in
    (omega (arith, below), omega (arith, other.below)))

pub pieces-below : (crossings : List (List ℕ)) → HasArcsTwice crossings
    → AreBelow (length crossings) (map (piece_pair (partner_at crossings)) (range_with_len 0 (4 * length crossings)))
pieces-below crossings twice =
    below-range (piece_pair (partner_at crossings)) (length crossings) 0 (4 * length crossings)
    (λ q from below.
    let other = IsOtherPlace-partner_at crossings q twice (omega (arith, below)) in
    (omega (arith, below), omega (arith, other.below)))

pub face_count-both : (first second : Code) → AreUnited first second → HasArcsTwice (union_of first second).crossings
    → face_count (union_of first second).crossings ≡ face_count first.crossings + face_count second.crossings
face_count-both first second are whole_twice =
    let n = length first.crossings in
    let k = length second.crossings in
    let whole = (union_of first second).crossings in
    let first_twice = HasArcsTwice-directed first.crossings are.first_is in
    let second_twice = HasArcsTwice-directed second.crossings are.second_is in
    let size : 4 * length whole ≡ 4 * n + 4 * k = omega (arith, length-both first second) in
    ap (λ c. class_count (classes_of c (map (face_pair (partner_at whole)) (range_with_len 0 (4 * length whole))))) size
    ∙ classes-blocks (face_pair (partner_at whole)) (face_pair (partner_at first.crossings)) (face_pair (partner_at second.crossings))
    (4 * n) (4 * k) (4 * n) (4 * k) (4 * length whole)
    (λ q below.
    let e : 4 * 0 + q ≡ q = omega arith in
    let f : 4 * 0 + partner_at first.crossings q ≡ partner_at first.crossings q = omega arith in
    ap (λ (x : ℕ). (q, turned x))
    (ap (partner_at whole) (sym e) ∙ partner-of 0 first.crossings whole q are.one first_twice whole_twice below ∙ f))
    (λ q below.
    ap (λ (x : ℕ). (4 * n + q, turned x)) (partner-of n second.crossings whole q are.two second_twice whole_twice below)
    ∙ ap (λ (x : ℕ). (4 * n + q, x)) (turned_block n (partner_at second.crossings q)))
    (faces-below first.crossings first_twice) (faces-below second.crossings second_twice) size
  where
    turned_block : (n x : ℕ) → turned (4 * n + x) ≡ 4 * n + turned x
    turned_block n x = omega arith

pub piece_count-both : (first second : Code) → AreUnited first second → HasArcsTwice (union_of first second).crossings
    → piece_count (union_of first second).crossings ≡ piece_count first.crossings + piece_count second.crossings
piece_count-both first second are whole_twice =
    let n = length first.crossings in
    let k = length second.crossings in
    let whole = (union_of first second).crossings in
    let first_twice = HasArcsTwice-directed first.crossings are.first_is in
    let second_twice = HasArcsTwice-directed second.crossings are.second_is in
    let size : 4 * length whole ≡ 4 * n + 4 * k = omega (arith, length-both first second) in
    ap (λ c. class_count (classes_of c (map (piece_pair (partner_at whole)) (range_with_len 0 (4 * length whole))))) (length-both first second)
    ∙ classes-blocks (piece_pair (partner_at whole)) (piece_pair (partner_at first.crossings)) (piece_pair (partner_at second.crossings))
    (4 * n) (4 * k) n k (4 * length whole)
    (λ q below.
    let e : 4 * 0 + q ≡ q = omega arith in
    let f : 4 * 0 + partner_at first.crossings q ≡ partner_at first.crossings q = omega arith in
    ap (λ (x : ℕ). (q / 4, x / 4))
    (ap (partner_at whole) (sym e) ∙ partner-of 0 first.crossings whole q are.one first_twice whole_twice below ∙ f))
    (λ q below.
    ap (λ (x : ℕ). ((4 * n + q) / 4, x / 4)) (partner-of n second.crossings whole q are.two second_twice whole_twice below)
    ∙ ap₂ (λ (x y : ℕ). (x, y)) (block n q) (block n (partner_at second.crossings q)))
    (pieces-below first.crossings first_twice) (pieces-below second.crossings second_twice) size
  where
    block : (n x : ℕ) → (4 * n + x) / 4 ≡ n + x / 4
    block n x = omega arith

pub component_count-both : (first second : Code) → IsDirected first.crossings → IsDirected second.crossings
    → component_count (union_of first second).crossings ≡ component_count first.crossings + component_count second.crossings
component_count-both first second first_is second_is =
    let whole = (union_of first second).crossings in
    let directed = IsDirected-both first second (AreUnited-from first second first_is second_is) in
    let first_twice = HasArcsTwice-directed first.crossings first_is in
    let second_twice = HasArcsTwice-directed second.crossings second_is in
    let hold = HoldsNames-twice first.crossings first_twice in
    let second_hold = HoldsNames-twice second.crossings second_twice in
    let m = arc_count first.crossings + 1 in
    let whole_small : AreBelow (arc_count whole + 1) (flat_map passes_of whole) =
    passes_of-below (arc_count whole + 1) whole (ArcsBelow-slots (arc_count whole + 1) whole directed.slots (omega arith)) in
    let all = class_count-components whole whole_small in
    let one = class_count-components first.crossings (passes-small m first.crossings hold) in
    let two = class_count-components second.crossings (passes-small (arc_count second.crossings + 1) second.crossings second_hold) in
    let inner = class_count (inner_components second.crossings) in
    let parts : class_count (components_of whole) ≡ class_count (components_of first.crossings) + inner =
    ap class_count (components-both first second first_twice second_twice)
    ∙ class_count-append_lists m (components_of first.crossings) (inner_components second.crossings)
    (length-components first.crossings hold).0 in
    let own : class_count (components_of second.crossings) ≡ 1 + inner =
    ap class_count (components-own second.crossings second_hold)
    ∙ class_count-append_lists 1 (0 ∷ []) (inner_components second.crossings) refl in
    omega (arith, all, one, two, parts, own)

-- a crossing of the union is one of a part
abbrev IsOf : ℕ → List (List ℕ) → ℕ → Type 0
IsOf before part crossing = (c : ℕ) × IsCrossing part c × (before + c ≡ crossing)

-- the colours of both darts of an arc in a part
solves-of : (before : ℕ) (part whole : List (List ℕ)) (own choice arc : ℕ) → IsPart before part whole → IsColoured part own
    → HasArcsTwice whole → IsArc whole (arc + 2 * before)
    → ((crossing : ℕ) → IsCrossing part crossing → bit choice (place_of (before + crossing)) ≡ bit own (place_of crossing))
    → ((crossing : ℕ) → IsCrossing whole crossing → (slot : ℕ) → slot < 4 → arc_in (slots_of whole crossing) slot ≡ arc + 2 * before
    → IsOf before part crossing)
    → solves_at whole choice (arc + 2 * before) ≡ true
solves-of before part whole own choice arc is coloured whole_twice whole_is bits inside =
    let dart = first_dart whole (arc + 2 * before) in
    let first = IsDartOf-first_dart whole (arc + 2 * before) whole_twice whole_is in
    let other = partner whole dart in
    let second = IsOtherDart-partner whole dart whole_twice first.within in
    let here = inside dart.crossing first.within.crossing dart.slot first.within.slot first.on_arc in
    let there = inside other.crossing second.within.crossing other.slot second.within.slot (second.same_arc ∙ first.on_arc) in
    let arc_mine : (crossing slot : ℕ) → slot < 4 → arc_in (slots_of whole crossing) slot ≡ arc + 2 * before
    → (at : IsOf before part crossing) → arc_in (slots_of part at.0) slot ≡ arc =
    λ crossing slot slot_below on at.
    omega (arith, ap (λ c. arc_in (slots_of whole c) slot) at.2, is.arcs at.0 slot at.1 slot_below, on) in
    let bit_of : (crossing : ℕ) → (at : IsOf before part crossing) → bit choice (place_of crossing) ≡ bit own (place_of at.0) =
    λ crossing at. ap (λ c. bit choice (place_of c)) (sym at.2) ∙ bits at.0 at.1 in
    let differ : colour own (made here.0 dart.slot) ≢ colour own (made there.0 other.slot) =
    λ same.
    let one = coloured.once (made here.0 dart.slot) (made there.0 other.slot) (record { crossing = here.1; slot = first.within.slot })
    (record { crossing = there.1; slot = second.within.slot })
    (arc_mine dart.crossing dart.slot first.within.slot first.on_arc here
    ∙ sym (arc_mine other.crossing other.slot second.within.slot (second.same_arc ∙ first.on_arc) there)) same in
    let crossings : other.crossing ≡ dart.crossing = omega (arith, ap (λ (d : Dart). d.crossing) one, here.2, there.2) in
    second.differs (ap₂ made crossings (sym (ap (λ (d : Dart). d.slot) one))) in
    eq-eqb ((bit choice (place_of dart.crossing) + (bit choice (place_of other.crossing) + (dart.slot + other.slot))) % 2) 1
    (ap₂ (λ x y. (x + (y + (dart.slot + other.slot))) % 2) (bit_of dart.crossing here) (bit_of other.crossing there)
    ∙ odd_sum (bit own (place_of here.0)) (bit own (place_of there.0)) dart.slot other.slot differ)
  where
    made : ℕ → ℕ → Dart
    made crossing slot = record { crossing = crossing; slot = slot }

    odd_sum : (x y s t : ℕ) → (x + s) % 2 ≢ (y + t) % 2 → (x + (y + (s + t))) % 2 ≡ 1
    odd_sum x y s t differ = omega (arith, differ)

IsCheckerboard-both : (first second : Code) → AreUnited first second → IsDirected (union_of first second).crossings
    → IsCheckerboard first.crossings → IsCheckerboard second.crossings → IsCheckerboard (union_of first second).crossings
IsCheckerboard-both first second are directed one two =
    let n = length first.crossings in
    let k = length second.crossings in
    let whole = (union_of first second).crossings in
    let whole_twice = HasArcsTwice-directed whole directed in
    let a = one.choice in
    let b = two.choice in
    let choice = a + 2 ^ n * b in
    record {
      choice = choice;
      below = subst (λ (m : ℕ). choice < 2 ^ m) (sym (length-both first second))
          (both-below n k a b one.below two.below);
      solves = list_all-each (solves_at whole choice) 1 (arc_count whole)
          (λ arc from below.
          each-arc (λ x. IsArc whole x → solves_at whole choice x ≡ true) first second
          (λ x x_is whole_is.
          solves-of 0 first.crossings whole a choice x are.one
          (IsColoured-checkerboard first.crossings one (HasArcsTwice-directed first.crossings are.first_is)) whole_twice whole_is
          (λ c is. (let f : 0 + c ≡ c = omega arith in ap (λ m. bit choice (place_of m)) f)
          ∙ bit-inside n a b (place_of c) (omega (arith, is.positive, is.within)))
          (each-crossing (λ c. (slot : ℕ) → slot < 4 → arc_in (slots_of whole c) slot ≡ x + 2 * 0 → IsOf 0 first.crossings c) first second
          (λ c is slot slot_below on. (c, is, refl))
          (λ c is slot slot_below on. absurd (omega (
            arith,
            on,
            x_is.within,
            are.two.arcs c slot is slot_below,
            (part-arc n second.crossings whole are.two c slot is slot_below).positive,
          )))))
          (λ x x_is whole_is.
          solves-of n second.crossings whole b choice x are.two
          (IsColoured-checkerboard second.crossings two (HasArcsTwice-directed second.crossings are.second_is)) whole_twice whole_is
          (λ c is. (let f : n + c - 1 ≡ n + place_of c = omega (arith, is.positive) in ap (bit choice) f)
          ∙ bit-outside n a b (place_of c) one.below)
          (each-crossing (λ c. (slot : ℕ) → slot < 4 → arc_in (slots_of whole c) slot ≡ x + 2 * n → IsOf n second.crossings c) first second
          (λ c is slot slot_below on. absurd (omega (
            arith,
            on,
            x_is.positive,
            are.one.arcs c slot is slot_below,
            (part-arc 0 first.crossings whole are.one c slot is slot_below).within,
          )))
          (λ c is slot slot_below on. (c, is, refl))))
          arc (record { positive = from; within = omega (arith, below) }) (record { positive = from; within = omega (arith, below) }));
    }
  where
    both-below : (n k a b : ℕ) → a < 2 ^ n → b < 2 ^ k → a + 2 ^ n * b < 2 ^ (n + k)
    both-below n k a b low high =
        let whole : 2 ^ n * (b + 1) ≤ 2 ^ n * 2 ^ k = mul-le-mul_left (2 ^ n) (let e : b + 1 ≤ 2 ^ k = omega (arith, high) in e) in
        omega (arith, whole, pow-add 2 n k, spread (2 ^ n) b, low)
      where
        spread : (p h : ℕ) → p * (h + 1) ≡ p * h + p
        spread p h = omega arith

-- the union is accepted, where components and loops are few enough
pub accepted-both : (first second : Code) → IsTrue (accepted first) → IsTrue (accepted second)
    → component_count first.crossings + component_count second.crossings + (first.loops + second.loops) ≤ COMPONENTS
    → IsTrue (accepted (union_of first second))
accepted-both first second first_is second_is few =
    let one_is = (IsAccepted-is first).0 first_is in
    let two_is = (IsAccepted-is second).0 second_is in
    let are = AreUnited-from first second one_is.directed two_is.directed in
    let directed = IsDirected-both first second are in
    let whole_twice = HasArcsTwice-directed (union_of first second).crossings directed in
    (IsAccepted-is (union_of first second)).1 (record {
      directed = directed;
      checkerboard = IsCheckerboard-both first second are directed one_is.checkerboard two_is.checkerboard;
      faces = omega (
        arith,
        face_count-both first second are whole_twice,
        piece_count-both first second are whole_twice,
        one_is.faces,
        two_is.faces,
        length-both first second,
      );
      components = omega (arith, few, component_count-both first second one_is.directed two_is.directed);
    })
