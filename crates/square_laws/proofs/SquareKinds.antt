-- The kinds of squares: which of the four edges merge, and where the under passes end.
--
-- Of the four edges of a square each merges or splits. The number of circles at the last corner is the same both ways round, so both ways
-- have as many merges. That leaves few kinds: both orders alike, or one crossing that merges where it is first and splits where it is
-- second; and in the latter all four arcs lie on one circle, before or after.
use Rattle.std.proofs.Common.{◌≡◌, ◌≢◌, ℕ, ◌⊎◌, inl, inr, ◌+◌, ◌∙◌, sym, subst, arith, Bool, true, false, cond, IsTrue}
use Rattle.std.proofs.lemmas.Bool.Decides.{nat_tests}
use Rattle.kh_types.specs.Acceptance.{accepted}
use Rattle.kh_types.specs.Bits.{bit}
use Rattle.kh_types.specs.Code.{Code, IsCrossing, place_of}
use Rattle.kh_types.specs.Circles.{circle_count}
use Rattle.kh_types.specs.Edges.{state_behind}
use Rattle.kh_types.proofs.EdgeBits.{bit-set_other}
use Rattle.square_laws.specs.Squares.{Switches, EndOnTwo, EndOnOne, IsKind, IsSquare, circle_at_slot}
use Rattle.square_laws.proofs.Merges.{IsMerge, IsSwitch, circle_in, switch-edge}

-- an arc is on one of the two circles that become one
abbrev pub IsOn : Code → ℕ → ℕ → ℕ → Type 0
IsOn code state crossing arc =
    (circle_in code state arc ≡ circle_at_slot code state crossing 0) ⊎ (circle_in code state arc ≡ circle_at_slot code state crossing 2)

-- all these arcs are on one circle afterwards
pub circle-on : (code : Code) (before after crossing arc : ℕ) → IsMerge code before after crossing → IsOn code before crossing arc
    → circle_in code after arc ≡ circle_at_slot code after crossing 0
circle-on code before after crossing arc merge on = grind (arith, nat_tests)

-- so are those at slots 0 and 2
pub ends-meet : (code : Code) (before after crossing : ℕ) → IsMerge code before after crossing
    → circle_at_slot code after crossing 0 ≡ circle_at_slot code after crossing 2
ends-meet code before after crossing merge = grind (arith, nat_tests)

-- arcs apart that come together are on these two circles
pub circles-met : (code : Code) (before after crossing first second : ℕ) → IsMerge code before after crossing
    → circle_in code before first ≢ circle_in code before second → circle_in code after first ≡ circle_in code after second
    → ((circle_at_slot code before crossing 0 ≡ circle_in code before first)
    × (circle_at_slot code before crossing 2 ≡ circle_in code before second))
    ⊎ ((circle_at_slot code before crossing 0 ≡ circle_in code before second)
    × (circle_at_slot code before crossing 2 ≡ circle_in code before first))
circles-met code before after crossing first second merge apart meet = grind (arith, nat_tests)

-- a merge leaves a circle less, a split one more
count-switch : (merges : Bool) (code : Code) (before after crossing : ℕ) → IsSwitch merges code before after crossing
    → circle_count code after + cond merges 1 0 ≡ circle_count code before + cond merges 0 1
count-switch merges code before after crossing merge = grind (arith, nat_tests)

-- so the ways round a square have as many merges
kinds : (a b c d : Bool) (m n k l : ℕ) → n + cond a 1 0 ≡ m + cond a 0 1 → l + cond b 1 0 ≡ n + cond b 0 1
    → k + cond c 1 0 ≡ m + cond c 0 1 → l + cond d 1 0 ≡ k + cond d 0 1
    → ((a ≡ d) × (b ≡ c))
    ⊎ (((a ≡ true) × (c ≡ true) × (b ≡ false) × (d ≡ false)) ⊎ ((a ≡ false) × (c ≡ false) × (b ≡ true) × (d ≡ true)))
kinds a b c d m n k l first second third fourth = grind arith

-- both crossings merge where they are first and split where they are second: the same circle splits into the same two
split-same : (code : Code) (base by_a by_b last a b : ℕ) → IsMerge code base by_b b → IsMerge code last by_b a
    → IsMerge code last by_a b → EndOnTwo code last a b
split-same code base by_a by_b last a b first_b then_a then_b = grind (arith, nat_tests)

-- both split where they are first and merge where they are second: all is on one circle
merge-same : (code : Code) (base by_a by_b last a b : ℕ) → IsMerge code by_a base a → IsMerge code by_a last b
    → IsMerge code by_b last a → EndOnOne code last a b
merge-same code base by_a by_b last a b first_a then_b then_a = grind (arith, nat_tests, ends-meet, circle-on, circles-met)

-- the kind of a square
pub kind-square : (a_first b_second b_first a_second : Bool) (code : Code) (base by_a by_b last a b : ℕ)
    → IsSwitch a_first code base by_a a → IsSwitch b_second code by_a last b
    → IsSwitch b_first code base by_b b → IsSwitch a_second code by_b last a
    → IsKind code last a b a_first b_second b_first a_second
kind-square a_first b_second b_first a_second code base by_a by_b last a b first_a then_b first_b then_a =
    let Of : ℕ → ℕ → ℕ → Bool → Type 0 = λ before after crossing merges. IsSwitch merges code before after crossing in
    elim (kinds a_first b_second b_first a_second (circle_count code base) (circle_count code by_a) (circle_count code by_b)
    (circle_count code last) (count-switch a_first code base by_a a first_a) (count-switch b_second code by_a last b then_b)
    (count-switch b_first code base by_b b first_b) (count-switch a_second code by_b last a then_a)) [
      | inl same ↦ inl (record { a = same.0; b = sym same.1 })
      | inr (inl is) ↦ inr (inl (record {
        a_merges = is.0;
        b_merges = is.1;
        b_splits = is.2;
        a_splits = is.3;
        ends =
            split-same code base by_a by_b last a b (subst (Of base by_b b) is.1 first_b) (subst (Of by_b last a) is.3 then_a)
            (subst (Of by_a last b) is.2 then_b);
      }))
      | inr (inr is) ↦ inr (inr (record {
        a_splits = is.0;
        b_splits = is.1;
        b_merges = is.2;
        a_merges = is.3;
        ends =
            merge-same code base by_a by_b last a b (subst (Of base by_a a) is.0 first_a) (subst (Of by_a last b) is.2 then_b)
            (subst (Of by_b last a) is.3 then_a);
      }))
    ]

-- the four edges of the square at a state and two crossings, and its kind
pub record HasEdges (code : Code) (state a b : ℕ) : Type 0 where
  pub a_first : Bool
  pub b_second : Bool
  pub b_first : Bool
  pub a_second : Bool
  pub first_a : IsSwitch a_first code state (state_behind state a) a
  pub then_b : IsSwitch b_second code (state_behind state a) (state_behind (state_behind state a) b) b
  pub first_b : IsSwitch b_first code state (state_behind state b) b
  pub then_a : IsSwitch a_second code (state_behind state b) (state_behind (state_behind state a) b) a
  pub kind : IsKind code (state_behind (state_behind state a) b) a b a_first b_second b_first a_second

pub edges-square : (code : Code) (state a b : ℕ) → IsTrue (accepted code) → IsCrossing code.crossings a → IsCrossing code.crossings b
    → a ≢ b → bit state (place_of a) ≡ 0 → bit state (place_of b) ≡ 0 → HasEdges code state a b
edges-square code state a b is is_a is_b differ zero_a zero_b =
    let by_a = state_behind state a in
    let by_b = state_behind state b in
    let turned : state_behind by_b a ≡ state_behind by_a b = omega arith in
    let later_b : bit by_a (place_of b) ≡ 0 =
    bit-set_other state (place_of a) zero_a (place_of b) (omega (arith, differ, is_a.positive, is_b.positive)) ∙ zero_b in
    let later_a : bit by_b (place_of a) ≡ 0 =
    bit-set_other state (place_of b) zero_b (place_of a) (omega (arith, differ, is_a.positive, is_b.positive)) ∙ zero_a in
    let first_a = switch-edge code state a is is_a zero_a in
    let then_b = switch-edge code by_a b is is_b later_b in
    let first_b = switch-edge code state b is is_b zero_b in
    let then_a = switch-edge code by_b a is is_a later_a in
    let then_a_there = subst (λ (s : ℕ). IsSwitch then_a.0 code by_b s a) turned then_a.1 in
    record {
      a_first = first_a.0;
      b_second = then_b.0;
      b_first = first_b.0;
      a_second = then_a.0;
      first_a = first_a.1;
      then_b = then_b.1;
      first_b = first_b.1;
      then_a = then_a_there;
      kind = kind-square first_a.0 then_b.0 first_b.0 then_a.0 code state by_a by_b (state_behind by_a b) a b first_a.1 then_b.1
          first_b.1 then_a_there;
    }

switches : (merges : Bool) (code : Code) (before after crossing : ℕ) → IsSwitch merges code before after crossing
    → Switches merges code before after crossing
switches merges code before after crossing merge = grind (arith, nat_tests)

pub squares : (code : Code) (state a b : ℕ) → IsTrue (accepted code) → IsCrossing code.crossings a → IsCrossing code.crossings b
    → a ≢ b → bit state (place_of a) ≡ 0 → bit state (place_of b) ≡ 0 → IsSquare code state a b
squares code state a b is is_a is_b differ zero_a zero_b =
    let edges = edges-square code state a b is is_a is_b differ zero_a zero_b in
    let by_a = state_behind state a in
    let by_b = state_behind state b in
    record {
      a_first = edges.a_first;
      b_second = edges.b_second;
      b_first = edges.b_first;
      a_second = edges.a_second;
      first_a = switches edges.a_first code state by_a a edges.first_a;
      then_b = switches edges.b_second code by_a (state_behind by_a b) b edges.then_b;
      first_b = switches edges.b_first code state by_b b edges.first_b;
      then_a = switches edges.a_second code by_b (state_behind by_a b) a edges.then_a;
      kind = edges.kind;
    }
