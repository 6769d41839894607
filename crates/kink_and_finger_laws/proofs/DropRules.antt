-- What is left where crossings are dropped follows the rule, and nothing else does.
use Rattle.std.proofs.lemmas.Bool.Decides.{nat_tests}
use Rattle.std.proofs.Common.{◌≡◌, ℕ, zero, suc, ◌+◌, ◌<◌, ◌≤◌, ◌∙◌, List, [], ◌∷◌, length, refl, sym, ap₂, not, ◌&&◌, arith, Bool, map, min}
use Rattle.std.specs.Prelude.{slice_index, nat_eq}
use Rattle.std.specs.List.{count_by, filter, range_with_len}
use Rattle.std.proofs.lemmas.Bool.{cases_Bool}
use Rattle.kh_types.specs.Code.{Code, IsArc, arc_count, arcs}
use Rattle.kh_types.specs.Darts.{HasArcsTwice}
use Rattle.kh_types.proofs.JoinedClasses.{IsNamed-classes_of}
use Rattle.kh_types.proofs.RangeCounts.{count_by-alike}
use Rattle.code_passes.specs.Parts.{Parts, slots_in}
use Rattle.gluing_laws.specs.Arcs.{arc_by_place}
use Rattle.kink_and_finger_laws.specs.Drops.{dropped, straight_names, straight_pairs, stands_in}
use Rattle.kink_and_finger_laws.specs.DropRule.{AreJoinedNames, IsLeft, named_slots, names_ring}
use Rattle.kink_and_finger_laws.proofs.KeptCodes.{straight-below, straight-joined, straight-finest, arc_by_place-below}
use Rattle.kink_and_finger_laws.proofs.StandingNames.{arc_by_place-positive}

-- the slots of a crossing hold arcs
arc_at : (crossings : List (List ℕ)) (place slot : ℕ) → HasArcsTwice crossings → place < length crossings → slot < 4
    → IsArc crossings (arc_by_place crossings place slot)
arc_at crossings place slot twice below slot_below = grind (arith, nat_tests, arc_by_place-positive, arc_by_place-below)

-- the classes of the definition are such names
AreJoinedNames-straight : (crossings : List (List ℕ)) (gone : ℕ → Bool) → HasArcsTwice crossings
    → AreJoinedNames crossings gone (slice_index (straight_names crossings gone))
AreJoinedNames-straight crossings gone twice =
    let named = IsNamed-classes_of (arc_count crossings + 1) (straight_pairs crossings gone) (straight-below crossings gone twice) in
    let positive : (arc : ℕ) → IsArc crossings arc → 1 ≤ slice_index (straight_names crossings gone) arc =
    λ arc is.
    let below : arc < arc_count crossings + 1 = omega (arith, is.within) in
    let least = named.least arc below in
    let one = straight-finest crossings gone (λ z. min z 1) twice
    (λ place place_below away.
    let at = λ (slot : ℕ) (slot_below : slot < 4). (arc_at crossings place slot twice place_below slot_below).positive in
    (ones _ _ (at 0 (omega arith)) (at 2 (omega arith)), ones _ _ (at 1 (omega arith)) (at 3 (omega arith))))
    (slice_index (straight_names crossings gone) arc) arc (omega (arith, below, least)) below (named.own arc below) in
    some (slice_index (straight_names crossings gone) arc) arc one is.positive in
    record {
      joined = record {
        under = λ place below is. (straight-joined crossings gone place twice below is).0;
        over = λ place below is. (straight-joined crossings gone place twice below is).1;
      };
      no_others = λ value stays arc other is other_is.
          straight-finest crossings gone value twice (λ place below away. (stays.under place below away, stays.over place below away)) arc other
          (omega (arith, is.within)) (omega (arith, other_is.within));
      is_arc = λ arc is. record {
        positive = positive arc is;
        within = omega (arith, is.within, named.least arc (omega (arith, is.within)));
      };
      own = λ arc is. named.own arc (omega (arith, is.within));
      least = λ arc is. named.least arc (omega (arith, is.within));
    }
  where
    ones : (x y : ℕ) → 1 ≤ x → 1 ≤ y → min x 1 ≡ min y 1
    ones x y first second = omega (arith, first, second)

    some : (x y : ℕ) → min x 1 ≡ min y 1 → 1 ≤ y → 1 ≤ x
    some x y same positive = omega (arith, same, positive)

pub IsLeft-dropped : (code : Code) (gone : ℕ → Bool) → HasArcsTwice code.crossings → IsLeft code gone (dropped code gone)
IsLeft-dropped code gone twice = grind (arith, nat_tests, AreJoinedNames-straight code.crossings gone twice)

-- there are no other names
pub names-one : (crossings : List (List ℕ)) (gone : ℕ → Bool) (name other : ℕ → ℕ) → AreJoinedNames crossings gone name
    → AreJoinedNames crossings gone other → (arc : ℕ) → IsArc crossings arc → name arc ≡ other arc
names-one crossings gone name other names others arc is = grind (arith, nat_tests)

kept-alike : {X : Type 0} (f g : ℕ → X) (p : ℕ → Bool) (a n : ℕ) → ((x : ℕ) → a ≤ x → x < a + n → f x ≡ g x)
    → map f (filter p (range_with_len a n)) ≡ map g (filter p (range_with_len a n))
kept-alike f g p a zero same = refl
kept-alike f g p a (suc n) same =
    grind (arith, nat_tests, cases_Bool, kept-alike f g p (a + 1) n (λ x from below. same x (omega (arith, from)) (omega (arith, below))))

pub left-one : (code : Code) (gone : ℕ → Bool) (parts others : Parts) → HasArcsTwice code.crossings → IsLeft code gone parts
    → IsLeft code gone others → parts ≡ others
left-one code gone parts others twice left right =
    let name = names-one code.crossings gone left.name right.name left.names right.names in
    let crossings : parts.crossings ≡ others.crossings =
    left.crossings
    ∙ kept-alike (λ place. named_slots left.name (slots_in code.crossings place)) (λ place. named_slots right.name (slots_in code.crossings place))
    (λ place. not (gone place)) 0 (length code.crossings)
    (λ place from below.
    four (at place (omega (arith, below)) 0 (omega arith)) (at place (omega (arith, below)) 1 (omega arith)) (at place (omega (arith, below)) 2 (omega arith))
    (at place (omega (arith, below)) 3 (omega arith)))
    ∙ sym right.crossings in
    let rings : count_by (names_ring left.name parts.crossings) (arcs code.crossings) ≡ count_by (names_ring right.name others.crossings) (arcs code.crossings) =
    count_by-alike (names_ring left.name parts.crossings) (names_ring right.name others.crossings) 1 (arc_count code.crossings)
    (λ arc from below.
    ap₂ (λ n ks. nat_eq n arc && not (stands_in ks arc)) (name arc (record { positive = from; within = omega (arith, below) })) crossings) in
    made crossings (left.signs ∙ sym right.signs) (omega (arith, left.loops, right.loops, rings))
  where
    at : (place : ℕ) → place < length code.crossings → (slot : ℕ) → slot < 4
        → left.name (arc_by_place code.crossings place slot) ≡ right.name (arc_by_place code.crossings place slot)
    at place below slot slot_below =
        names-one code.crossings gone left.name right.name left.names right.names (arc_by_place code.crossings place slot)
        (arc_at code.crossings place slot twice below slot_below)

    four : {p q r s x y z w : ℕ} → p ≡ x → q ≡ y → r ≡ z → s ≡ w → p ∷ q ∷ r ∷ s ∷ [] ≡ x ∷ y ∷ z ∷ w ∷ []
    four one two three last = cc

    made : {ks ls : List (List ℕ)} {bs cs : List Bool} {m n : ℕ} → ks ≡ ls → bs ≡ cs → m ≡ n
        → (let one : Parts = record { crossings = ks; positive = bs; loops = m } in let two : Parts = record { crossings = ls; positive = cs; loops = n } in one ≡ two)
    made one two three = cc
