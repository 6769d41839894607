-- A slide, and one at the triangle that it leaves, give the code that was. The slide leaves a triangle of the darts across the
-- three corners. The second slide takes each dart's arc back to where it came from, so it gives the old crossings under other
-- names; as the names keep the order of the components, renumbering gives the old code itself. Then the same by slots of the
-- first crossing: the triangle is that of the slot across, and it can be slid, since a slot and the one across have one parity.
-- Where that is the only triangle, the search for a slot finds it. Last the moves: the move back is taken and gives the first
-- code where that slot is found, and so wherever the slide left no other triangle.
use Rattle.std.proofs.lemmas.Bool.Decides.{nat_tests}
use Rattle.std.proofs.Common.{◌≡◌, ℕ, zero, suc, inl, inr, ◌+◌, ◌-◌, ◌*◌, ◌/◌, ◌%◌, ◌<◌, ◌≤◌, ◌∙◌, List, [], length, sym, ap, ap₂, subst, arith, Bool, true, false, cond, IsTrue}
use Rattle.std.specs.Prelude.{slice_index_or, is_none, Option, Some, None, Result, Ok, unwrap_or}
use Rattle.std.specs.Option.{option_or}
use Rattle.std.specs.List.{find, range_with_len, AllByRecursion}
use Rattle.std.proofs.lemmas.Bool.{and_from, and_parts, both_ways, cases_Bool, cases_lt}
use Rattle.kh_types.specs.Acceptance.{accepted}
use Rattle.kh_types.specs.Code.{Code, arc_in, IsCrossing}
use Rattle.kh_types.specs.Darts.{HasArcsTwice, partner_at, turned}
use Rattle.kh_types.proofs.AcceptedLemmas.{HasArcsTwice-accepted}
use Rattle.kh_types.proofs.Heads.{HasNoSingleArcs-accepted}
use Rattle.kh_types.proofs.Ranges.{list_any-below}
use Rattle.orient_arcs.specs.OtherNames.{IsNamedBy}
use Rattle.code_passes.specs.Parts.{passes_through}
use Rattle.orient_arcs.specs.Renumbered.{number_in, order_of, renumber}
use Rattle.orient_arcs.proofs.AlikeCrossings.{AreAlike-renumbered, partner_at-alike}
use Rattle.orient_arcs.proofs.Bridge.{length-renumbered, slot-renumbered}
use Rattle.orient_arcs.proofs.KeptOrder.{own-crossings}
use Rattle.slide_laws.specs.Slid.{on, slid, source}
use Rattle.slide_laws.specs.Triangles.{IsTriangle, IsTriangleAt, dart_at_slot, has_heights, has_triangle, is_slidable_at, is_triangle, slide_slot, step}
use Rattle.slide_laws.proofs.Corners.{on-crossing, source-below, source-source}
use Rattle.slide_laws.proofs.FoundTriangles.{IsFirst-found, IsTriangleAt-is, is_triangle-at, IsTriangle-slot, has_heights-slot}
use Rattle.slide_laws.proofs.Sides.{HasSides, HasSides-slid, HasSides-triangle}
use Rattle.slide_laws.proofs.SlidArcs.{arc_of_dart-slid, length-slid, partner_at-slid}
use Rattle.slide_laws.proofs.SlidBack.{source-across}
use Rattle.slide_laws.proofs.SlidFaces.{turned-on_1}
use Rattle.diagram_moves.specs.declared.change.Move.TheVariants.{Slide}
use Rattle.diagram_moves.specs.declared.fault.MoveFault.{MoveFault}
use Rattle.diagram_moves.specs.declared.fault.MoveFault.TheVariants.{Heights, NoCrossing, NoTriangle}
use Rattle.diagram_moves.specs.Kept.{slid_parts}
use Rattle.diagram_moves.specs.Moved.{answered, moved, slid_at, slid_from}
use Rattle.diagram_moves.specs.MoveFaults.{no_crossing, no_heights, no_triangle, refused_where, slide_fault}
use Rattle.diagram_moves.proofs.BackAgain.{answered-ok}
use Rattle.diagram_moves.proofs.KinksBack.{held-none, within-none}
use Rattle.diagram_moves.proofs.SlidCodes.{ArePaired-slid, IsKept-slid, signs-slid}
use Rattle.diagram_moves.proofs.SlideLemmas.{IsPlaced-none}
use Rattle.diagram_moves.proofs.SlidNumbers.{slid-keeps, slid-paired}
use Rattle.gluing_laws.specs.Codes.{arc_of_dart}

module _ (code : Code) (x y z : ℕ) (holds : IsTrue (accepted code)) (triangle : IsTriangle code.crossings x y z)
    (heights : has_heights x y z ≡ true) where
  abbrev after : List (List ℕ)
  after = slid code.crossings x y z

  abbrev new : Code
  new = renumber (slid_parts code x y z)

  abbrev number : ℕ → ℕ
  number = number_in (order_of (passes_through (slid_parts code x y z)))

  twice : HasArcsTwice code.crossings
  twice = HasArcsTwice-accepted code holds

  sides : HasSides (length code.crossings) (partner_at code.crossings) x y z
  sides = HasSides-triangle code.crossings x y z twice triangle

  size-after : length (slid code.crossings x y z) ≡ length code.crossings
  size-after = length-slid code.crossings x y z

  size-new : length (renumber (slid_parts code x y z)).crossings ≡ length code.crossings
  size-new = length-renumbered (slid_parts code x y z) (slid-paired code x y z holds triangle) ∙ size-after

  holds-new : IsTrue (accepted (renumber (slid_parts code x y z)))
  holds-new = (IsKept-slid code x y z holds triangle heights).accepted_too

  -- the triangle across

  partner-new : (dart : ℕ) → dart < 4 * length code.crossings
      → partner_at (renumber (slid_parts code x y z)).crossings dart ≡ partner_at (slid code.crossings x y z) dart
  partner-new dart below =
      partner_at-alike after new.crossings (AreAlike-renumbered (slid_parts code x y z) (slid-paired code x y z holds triangle)) dart
      (omega (arith, below, size-after))

  step-across : (u v : ℕ) → u < 4 * length code.crossings
      → source x y z (partner_at code.crossings (source x y z u)) ≡ on v 1
      → step (renumber (slid_parts code x y z)).crossings u ≡ v
  step-across u v below goes = grind (arith, nat_tests, partner-new, partner_at-slid, twice, sides, turned-on_1)

  across : HasSides (length code.crossings) (λ place. source x y z (partner_at code.crossings (source x y z place))) (on x 2) (on y 2) (on z 2)
  across = HasSides-slid (length code.crossings) (partner_at code.crossings) x y z sides

  pub steps-first : step (renumber (slid_parts code x y z)).crossings (on x 2) ≡ on y 2
  steps-first = step-across (on x 2) (on y 2) across.x_below across.from_x

  pub steps-second : step (renumber (slid_parts code x y z)).crossings (on y 2) ≡ on z 2
  steps-second = step-across (on y 2) (on z 2) across.y_below across.from_y

  pub steps-third : step (renumber (slid_parts code x y z)).crossings (on z 2) ≡ on x 2
  steps-third = step-across (on z 2) (on x 2) across.z_below across.from_z

  pub triangle-across : IsTriangle (renumber (slid_parts code x y z)).crossings (on x 2) (on y 2) (on z 2)
  triangle-across = grind (arith, nat_tests, size-new, steps-first, steps-second, steps-third)

  -- the slide back

  arc-new : (dart : ℕ) → dart < 4 * length code.crossings
      → arc_of_dart (renumber (slid_parts code x y z)).crossings dart ≡ number (arc_of_dart (slid code.crossings x y z) dart)
  arc-new dart below =
      let e : dart / 4 + 1 - 1 ≡ dart / 4 = omega arith in
      subst (λ (k : ℕ). arc_in (slice_index_or (renumber (slid_parts code x y z)).crossings k []) (dart % 4)
      ≡ number (arc_in (slice_index_or (slid code.crossings x y z) k []) (dart % 4))) e
      (slot-renumbered (slid_parts code x y z) (dart / 4 + 1) (dart % 4)
      (record { positive = omega arith; within = omega (arith, below, size-after) }) (omega arith))

  arc-back : (dart : ℕ) → dart < 4 * length code.crossings
      → arc_of_dart (slid (renumber (slid_parts code x y z)).crossings (on x 2) (on y 2) (on z 2)) dart
      ≡ number (arc_of_dart code.crossings dart)
  arc-back dart below =
      let low = source-below (length code.crossings) x y z sides.apart sides.x_below sides.y_below sides.z_below in
      arc_of_dart-slid new.crossings (on x 2) (on y 2) (on z 2) dart (omega (arith, below, size-new))
      ∙ ap (λ (from : ℕ → ℕ). arc_of_dart new.crossings (from dart)) (source-across x y z sides.apart)
      ∙ arc-new (source x y z dart) (low dart below)
      ∙ ap number (arc_of_dart-slid code.crossings x y z (source x y z dart) (low dart below)
      ∙ ap (arc_of_dart code.crossings) (source-source x y z sides.apart dart))

  named-back : IsNamedBy number code ((slid_parts (renumber (slid_parts code x y z)) (on x 2) (on y 2) (on z 2)))
  named-back = record {
    size = length-slid new.crossings (on x 2) (on y 2) (on z 2) ∙ size-new;
    names = λ place slot below slot_below.
        let p : (4 * place + slot) / 4 ≡ place = omega (arith, slot_below) in
        let s : (4 * place + slot) % 4 ≡ slot = omega (arith, slot_below) in
        sym (ap₂ (λ k l. arc_in (slice_index_or (slid new.crossings (on x 2) (on y 2) (on z 2)) k []) l) p s)
        ∙ arc-back (4 * place + slot) (omega (arith, below, slot_below))
        ∙ ap₂ (λ k l. number (arc_in (slice_index_or code.crossings k []) l)) p s;
    signs = λ place below.
        signs-slid new.crossings place (omega (arith, below, size-new))
        ∙ (IsKept-slid code x y z holds triangle heights).signs place below;
  }

  pub slid-back : AllByRecursion (λ (slots : List ℕ). length slots ≡ 4) code.crossings
      → renumber (slid_parts (renumber (slid_parts code x y z)) (on x 2) (on y 2) (on z 2)) ≡ code
  slid-back four =
      let alone = HasNoSingleArcs-accepted code holds in
      let again = slid_parts new (on x 2) (on y 2) (on z 2) in
      ap (λ (xs : List (List ℕ)). code_with xs)
      (own-crossings code alone.0 alone.1 (again)
      (ArePaired-slid new (on x 2) (on y 2) (on z 2) holds-new triangle-across) number named-back
      (slid-keeps code x y z holds triangle) four)
    where
      code_with : List (List ℕ) → Code
      code_with xs = record { crossings = xs; loops = code.loops }

-- at the slots of three crossings

dart-across : (crossing slot : ℕ) → slot < 4 → dart_at_slot crossing ((slot + 2) % 4) ≡ on (dart_at_slot crossing slot) 2
dart-across crossing slot below = omega (arith, below)

-- the triangle of a slot, and that of the slot across, of what the slide at it leaves
pub record IsAcross (code new : Code) (c slot : ℕ) : Type 0 where
  pub first : dart_at_slot c ((slot + 2) % 4) ≡ on (dart_at_slot c slot) 2
  pub second : step new.crossings (dart_at_slot c ((slot + 2) % 4)) ≡ on (step code.crossings (dart_at_slot c slot)) 2
  pub third : step new.crossings (step new.crossings (dart_at_slot c ((slot + 2) % 4)))
      ≡ on (step code.crossings (step code.crossings (dart_at_slot c slot))) 2
  pub triangle : IsTriangle new.crossings (dart_at_slot c ((slot + 2) % 4)) (step new.crossings (dart_at_slot c ((slot + 2) % 4)))
      (step new.crossings (step new.crossings (dart_at_slot c ((slot + 2) % 4))))

at-across : (crossings : List (List ℕ)) (x y z u v w : ℕ) → x ≡ u → y ≡ v → z ≡ w → IsTriangle crossings u v w → IsTriangle crossings x y z
at-across crossings x y z u v w first second third is = grind (arith, nat_tests)

module _ (code : Code) (c d e slot : ℕ) (holds : IsTrue (accepted code)) (is_c : IsCrossing code.crossings c)
    (is_d : IsCrossing code.crossings d) (is_e : IsCrossing code.crossings e) (found : slide_slot code.crossings c d e ≡ Some slot) where
  below-four : slot < 4
  below-four = let first = IsFirst-found (is_slidable_at code.crossings c d e) 0 4 slot found in omega (arith, first.below)

  pub IsAcross-slid : IsAcross code (slid_from code c slot) c slot
  IsAcross-slid =
      let x = dart_at_slot c slot in
      let y = step code.crossings x in
      let z = step code.crossings y in
      let triangle = IsTriangle-slot code.crossings c d e slot is_c is_d is_e found in
      let heights = has_heights-slot code.crossings c d e slot found in
      let new = renumber (slid_parts code x y z) in
      let first : dart_at_slot c ((slot + 2) % 4) ≡ on (dart_at_slot c slot) 2 = dart-across c slot below-four in
      let second = ap (step new.crossings) first ∙ steps-first code x y z holds triangle heights in
      let third = ap (step new.crossings) second ∙ steps-second code x y z holds triangle heights in
      record {
        first = first;
        second = second;
        third = third;
        triangle = at-across new.crossings (dart_at_slot c ((slot + 2) % 4)) (step new.crossings (dart_at_slot c ((slot + 2) % 4)))
            (step new.crossings (step new.crossings (dart_at_slot c ((slot + 2) % 4)))) (on x 2) (on y 2) (on z 2) first second third
            (triangle-across code x y z holds triangle heights);
      }

  pub slid_from-back : AllByRecursion (λ (slots : List ℕ). length slots ≡ 4) code.crossings
      → slid_from (slid_from code c slot) c ((slot + 2) % 4) ≡ code
  slid_from-back four =
      let x = dart_at_slot c slot in
      let y = step code.crossings x in
      let z = step code.crossings y in
      let triangle = IsTriangle-slot code.crossings c d e slot is_c is_d is_e found in
      let heights = has_heights-slot code.crossings c d e slot found in
      let new = renumber (slid_parts code x y z) in
      let across = IsAcross-slid in
      ap (λ (k : ℕ). renumber (slid_parts new k (step new.crossings (dart_at_slot c ((slot + 2) % 4)))
      (step new.crossings (step new.crossings (dart_at_slot c ((slot + 2) % 4)))))) across.first
      ∙ ap (λ (k : ℕ). renumber (slid_parts new (on x 2) k (step new.crossings (step new.crossings (dart_at_slot c ((slot + 2) % 4))))))
      across.second
      ∙ ap (λ (k : ℕ). renumber (slid_parts new (on x 2) (on y 2) k)) across.third
      ∙ slid-back code x y z holds triangle heights four

  -- a slide can be made there
  pub slidable-across : is_slidable_at (slid_from code c slot).crossings c d e ((slot + 2) % 4) ≡ true
  slidable-across =
      let x = dart_at_slot c slot in
      let y = step code.crossings x in
      let z = step code.crossings y in
      let new = slid_from code c slot in
      let across = IsAcross-slid in
      let first = IsFirst-found (is_slidable_at code.crossings c d e) 0 4 slot found in
      let tests = and_parts (is_triangle code.crossings c d e slot) (has_heights x y z) first.passes in
      let old = IsTriangleAt-is code.crossings c d e slot is_c is_d is_e below-four tests.0 in
      let second : step (slid_from code c slot).crossings (dart_at_slot c ((slot + 2) % 4)) / 4 ≡ step code.crossings (dart_at_slot c slot) / 4 =
      ap (λ k. k / 4) across.second ∙ on-crossing y 2 in
      let third : step (slid_from code c slot).crossings (step (slid_from code c slot).crossings (dart_at_slot c ((slot + 2) % 4))) / 4
      ≡ step code.crossings (step code.crossings (dart_at_slot c slot)) / 4 = ap (λ k. k / 4) across.third ∙ on-crossing z 2 in
      let here : IsTriangleAt (slid_from code c slot).crossings c d e ((slot + 2) % 4) = record {
        triangle = across.triangle;
        corners = elim (old.corners) [
          | inl at ↦ inl (second ∙ at.0, third ∙ at.1)
          | inr at ↦ inr (second ∙ at.0, third ∙ at.1)
        ];
      } in
      let heights : has_heights (dart_at_slot c ((slot + 2) % 4)) (step (slid_from code c slot).crossings (dart_at_slot c ((slot + 2) % 4)))
      (step (slid_from code c slot).crossings (step (slid_from code c slot).crossings (dart_at_slot c ((slot + 2) % 4)))) ≡ true =
      ap (λ k. has_heights k (step new.crossings (dart_at_slot c ((slot + 2) % 4)))
      (step new.crossings (step new.crossings (dart_at_slot c ((slot + 2) % 4))))) across.first
      ∙ ap₂ (λ k l. has_heights (on x 2) k l) across.second across.third
      ∙ heights-on x y z ∙ tests.1 in
      and_from (is_triangle new.crossings c d e ((slot + 2) % 4)) _
      (is_triangle-at new.crossings c d e ((slot + 2) % 4) (omega arith) here) heights
    where
      parity-on : (x : ℕ) → on x 2 % 4 % 2 ≡ x % 4 % 2
      parity-on x = omega arith

      heights-on : (x y z : ℕ) → has_heights (on x 2) (on y 2) (on z 2) ≡ has_heights x y z
      heights-on x y z = grind (arith, nat_tests, parity-on)

  -- and where there is no other triangle it is made there
  pub slot-across : ((k : ℕ) → k < 4 → IsTriangleAt (slid_from code c slot).crossings c d e k → k ≡ (slot + 2) % 4)
      → IsCrossing (slid_from code c slot).crossings c → IsCrossing (slid_from code c slot).crossings d
      → IsCrossing (slid_from code c slot).crossings e
      → slide_slot (slid_from code c slot).crossings c d e ≡ Some ((slot + 2) % 4)
  slot-across only new_c new_d new_e =
      let new = slid_from code c slot in
      find-only (is_slidable_at new.crossings c d e) 0 4 ((slot + 2) % 4) (omega arith) (omega arith) slidable-across
      (λ k from below passes.
      only k (omega (arith, below))
      (IsTriangleAt-is new.crossings c d e k new_c new_d new_e (omega (arith, below))
      (and_parts (is_triangle new.crossings c d e k) _ passes).0))
    where
      find-only : (p : ℕ → Bool) (a n found : ℕ) → a ≤ found → found < a + n → p found ≡ true
          → ((k : ℕ) → a ≤ k → k < a + n → p k ≡ true → k ≡ found) → find p (range_with_len a n) ≡ Some found
      find-only p a zero found from below passes only = absurd (omega (arith, from, below))
      find-only p a (suc n) found from below passes only = elim (cases_Bool (p a)) [
        | inl holds ↦
            ap (λ b. cond b (Some a) (find p (range_with_len (a + 1) n))) holds
            ∙ ap (λ k. some k) (only a (omega arith) (omega arith) holds)
        | inr fails ↦
            ap (λ b. cond b (Some a) (find p (range_with_len (a + 1) n))) fails
            ∙ find-only p (a + 1) n found (omega (arith, from, later p a found from passes fails)) (omega (arith, below)) passes
            (λ k k_from k_below. only k (omega (arith, k_from)) (omega (arith, k_below)))
      ]
        where
          some : ℕ → Option ℕ
          some k = Some k

          later : (p : ℕ → Bool) (a found : ℕ) → a ≤ found → p found ≡ true → p a ≡ false → a < found
          later p a found from passes fails = grind (arith, nat_tests, cases_lt, both_ways)

slid_fault-none : (code : Code) (c d e slot : ℕ) → IsCrossing code.crossings c → IsCrossing code.crossings d → IsCrossing code.crossings e
    → slide_slot code.crossings c d e ≡ Some slot → slide_fault code c d e ≡ None
slid_fault-none code c d e slot is_c is_d is_e found =
    let n = length code.crossings in
    let first = IsFirst-found (is_slidable_at code.crossings c d e) 0 4 slot found in
    let x = dart_at_slot c slot in
    let parts = and_parts (is_triangle code.crossings c d e slot)
    (has_heights x (step code.crossings x) (step code.crossings (step code.crossings x))) first.passes in
    let some : has_triangle code.crossings c d e ≡ true =
    list_any-below (is_triangle code.crossings c d e) 4 slot (omega (arith, first.below)) parts.0 in
    either (no_crossing code c) _ (within-none c n (NoCrossing c) is_c.positive is_c.within)
    (either (no_crossing code d) _ (within-none d n (NoCrossing d) is_d.positive is_d.within)
    (either (no_crossing code e) _ (within-none e n (NoCrossing e) is_e.positive is_e.within)
    (either (no_triangle code c d e) (no_heights code c d e) (held-none (has_triangle code.crossings c d e) (NoTriangle c d e) some)
    (ap (λ (o : Option ℕ). refused_where (is_none o) Heights) found))))
  where
    either : (a b : Option MoveFault) → a ≡ None → b ≡ None → option_or a b ≡ None
    either None b first second = second
    either (Some fault) b first second = absurd (cc)

-- what is known of a slide that was made
record IsMade (code new : Code) (c d e slot : ℕ) : Type 0 where
  pub is_c : IsCrossing code.crossings c
  pub is_d : IsCrossing code.crossings d
  pub is_e : IsCrossing code.crossings e
  pub new_is : slid_from code c slot ≡ new
  pub new_c : IsCrossing new.crossings c
  pub new_d : IsCrossing new.crossings d
  pub new_e : IsCrossing new.crossings e

IsMade-moved : (code new : Code) (c d e slot : ℕ) → IsTrue (accepted code) → moved code (Slide c d e) ≡ Ok new
    → slide_slot code.crossings c d e ≡ Some slot → IsMade code new c d e slot
unfolding moved
IsMade-moved code new c d e slot holds is found =
    let made = answered-ok (slide_fault code c d e) (slid_at code c d e) new is in
    let can = IsPlaced-none code c d e made.0 in
    let new_is : slid_from code c slot ≡ new = sym (ap (λ (o : Option ℕ). slid_from code c (unwrap_or o 0)) found) ∙ made.1 in
    let x = dart_at_slot c slot in
    let triangle = IsTriangle-slot code.crossings c d e slot can.first_crossing can.second_crossing can.third_crossing found in
    let heights = has_heights-slot code.crossings c d e slot found in
    let kept = IsKept-slid code x (step code.crossings x) (step code.crossings (step code.crossings x)) holds triangle heights in
    let same_size : length new.crossings ≡ length code.crossings = ap (λ (k : Code). length k.crossings) (sym new_is) ∙ kept.size in
    let here : (k : ℕ) → IsCrossing code.crossings k → IsCrossing new.crossings k =
    λ k is_k. record { positive = is_k.positive; within = omega (arith, is_k.within, same_size) } in
    record {
      is_c = can.first_crossing;
      is_d = can.second_crossing;
      is_e = can.third_crossing;
      new_is = new_is;
      new_c = here c can.first_crossing;
      new_d = here d can.second_crossing;
      new_e = here e can.third_crossing;
    }

pub slides_are_undone : (code new : Code) (c d e slot : ℕ) → IsTrue (accepted code)
    → AllByRecursion (λ (slots : List ℕ). length slots ≡ 4) code.crossings
    → moved code (Slide c d e) ≡ Ok new → slide_slot code.crossings c d e ≡ Some slot
    → slide_slot new.crossings c d e ≡ Some ((slot + 2) % 4) → moved new (Slide c d e) ≡ Ok code
unfolding moved
slides_are_undone code new c d e slot holds four is found across =
    let made = IsMade-moved code new c d e slot holds is found in
    let back : slid_from new c ((slot + 2) % 4) ≡ code =
    subst (λ (k : Code). slid_from k c ((slot + 2) % 4) ≡ code) made.new_is
    (slid_from-back code c d e slot holds made.is_c made.is_d made.is_e found four) in
    ap (λ (fault : Option MoveFault). answered fault (slid_at new c d e))
    (slid_fault-none new c d e ((slot + 2) % 4) made.new_c made.new_d made.new_e across)
    ∙ ap (λ (o : Option ℕ). okay (slid_from new c (unwrap_or o 0))) across ∙ ap okay back
  where
    okay : Code → Result Code MoveFault
    okay k = Ok k

-- where the slide left no other triangle
pub lone_slides_are_undone : (code new : Code) (c d e slot : ℕ) → IsTrue (accepted code)
    → AllByRecursion (λ (slots : List ℕ). length slots ≡ 4) code.crossings
    → moved code (Slide c d e) ≡ Ok new → slide_slot code.crossings c d e ≡ Some slot
    → ((k : ℕ) → k < 4 → IsTriangleAt new.crossings c d e k → k ≡ (slot + 2) % 4) → moved new (Slide c d e) ≡ Ok code
lone_slides_are_undone code new c d e slot holds four is found only =
    let made = IsMade-moved code new c d e slot holds is found in
    slides_are_undone code new c d e slot holds four is found
    (across code new c d e slot holds made.is_c made.is_d made.is_e found made.new_is only made.new_c made.new_d made.new_e)
  where
    across : (code new : Code) (c d e slot : ℕ) → IsTrue (accepted code) → IsCrossing code.crossings c → IsCrossing code.crossings d
        → IsCrossing code.crossings e → slide_slot code.crossings c d e ≡ Some slot → slid_from code c slot ≡ new
        → ((k : ℕ) → k < 4 → IsTriangleAt new.crossings c d e k → k ≡ (slot + 2) % 4) → IsCrossing new.crossings c
        → IsCrossing new.crossings d → IsCrossing new.crossings e → slide_slot new.crossings c d e ≡ Some ((slot + 2) % 4)
    across code new c d e slot holds is_c is_d is_e found new_is =
        subst (λ (k : Code). ((j : ℕ) → j < 4 → IsTriangleAt k.crossings c d e j → j ≡ (slot + 2) % 4) → IsCrossing k.crossings c
        → IsCrossing k.crossings d → IsCrossing k.crossings e → slide_slot k.crossings c d e ≡ Some ((slot + 2) % 4)) new_is
        (slot-across code c d e slot holds is_c is_d is_e found)
