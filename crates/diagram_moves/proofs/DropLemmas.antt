-- Crossings as they are dropped. First come the steps of the loops: one place more brings its passes, if its crossing goes, or
-- the crossing under other names and its sign, if it stays. To drop two crossings that are one is to drop one. Where no fault
-- comes, the tests find the slot of a kink, or the slots of a bigon. So what is left can be numbered: its names have a head and a
-- tail each, and its code is accepted. The state sum stays, and so does the number of components and loops together, as is known
-- of kinks and bigons at given slots. What the loops made, with a loop for each ring, is the code without these crossings.
use Rattle.std.proofs.lemmas.Bool.Decides.{nat_tests}
use Rattle.std.proofs.Common.{◌≡◌, ℕ, ◌+◌, ◌∙◌, ℤ, List, [], ◌∷◌, ◌++◌, length, map, refl, ap, ap₂, subst, sym, arith, Bool, true, false, IsTrue}
use Rattle.std.specs.Prelude.{None, nat_eq, if◌then◌else◌}
use Rattle.std.specs.List.{count_by, filter, flat_map, range_with_len}
use Rattle.kh_types.specs.Directions.{positive_at}
use Rattle.code_passes.specs.Parts.{Parts, slots_in}
use Rattle.std.proofs.Math.Path.{fun_ext}
use Rattle.kh_types.specs.Acceptance.{accepted}
use Rattle.kh_types.specs.Code.{Code, arcs, place_of}
use Rattle.kh_types.specs.Components.{passes_of}
use Rattle.kh_types.specs.StateSum.{state_sum}
use Rattle.std.proofs.lemmas.Grind.{flat_map-append}
use Rattle.kh_types.proofs.Ranges.{filter-range_more}
use Rattle.gluing_laws.proofs.CodeCircles.{append-nothing}
use Rattle.kink_and_finger_laws.specs.Drops.{dropped, is_of_two, kept_crossings, kept_signs, renamed_slots, straight_names, without_finger, without_kink}
use Rattle.kink_and_finger_laws.specs.Dropping.{HasBigonAt, HasKinkAt}
use Rattle.orient_arcs.specs.Renumbered.{renumber}
use Rattle.kink_and_finger_laws.proofs.Sound.{HasBigonAt-found, IsSound-finger, IsSound-kink}
use Rattle.diagram_moves.specs.DropSteps.{is_ring_in, kept_to, passes_there, renamed_there, signs_to, stays}
use Rattle.diagram_moves.proofs.MadeSoFar.{straight_to}
use Rattle.diagram_moves.specs.Joinable.{AreReady}
use Rattle.diagram_moves.proofs.KeptComponents.{HasComponents}
use Rattle.diagram_moves.specs.MoveFaults.{finger_drop_fault, kink_drop_fault}
use Rattle.diagram_moves.proofs.DroppedCodes.{IsKept-finger, IsKept-kink}
use Rattle.diagram_moves.proofs.FaultLemmas.{both-none, none-not, none-within}

-- one more number that is asked
map-filter_more : {X : Type 0} (f : ℕ → X) (p : ℕ → Bool) (k : ℕ)
    → map f (filter p (range_with_len 0 (k + 1))) ≡ map f (filter p (range_with_len 0 k)) ++ (if p k then f k ∷ [] else [])
map-filter_more f p k =
    ap (λ xs. map f xs) (filter-range_more p 0 k k (omega arith))
    ∙ parts (p k) (filter p (range_with_len 0 k))
  where
    parts : (b : Bool) (xs : List ℕ) → map f (xs ++ (if b then k ∷ [] else [])) ≡ map f xs ++ (if b then f k ∷ [] else [])
    parts true [] = refl
    parts false [] = refl
    parts b (x ∷ xs) = ap (λ ys. f x ∷ ys) (parts b xs)

flat_map-filter_more : (f : ℕ → List (ℕ × ℕ)) (p : ℕ → Bool) (k : ℕ)
    → flat_map f (filter p (range_with_len 0 (k + 1))) ≡ flat_map f (filter p (range_with_len 0 k)) ++ (if p k then f k else [])
flat_map-filter_more f p k =
    ap (λ xs. flat_map f xs) (filter-range_more p 0 k k (omega arith))
    ∙ parts (p k) (filter p (range_with_len 0 k))
  where
    one : (b : Bool) → flat_map f (if b then k ∷ [] else []) ≡ (if b then f k else [])
    one b = grind (arith, nat_tests, append-nothing)

    parts : (b : Bool) (xs : List ℕ) → flat_map f (xs ++ (if b then k ∷ [] else [])) ≡ flat_map f xs ++ (if b then f k else [])
    parts b xs = flat_map-append f xs (if b then k ∷ [] else []) ∙ ap (λ ys. flat_map f xs ++ ys) (one b)

pub straight_more : (crossings : List (List ℕ)) (first second k : ℕ)
    → straight_to crossings first second (k + 1)
    ≡ straight_to crossings first second k ++ (if is_of_two first second k then passes_of (slots_in crossings k) else [])
straight_more crossings first second k = flat_map-filter_more (passes_there crossings) (is_of_two first second) k

pub kept_more : (crossings : List (List ℕ)) (names : List ℕ) (first second k : ℕ)
    → kept_to crossings names first second (k + 1)
    ≡ kept_to crossings names first second k
    ++ (if stays first second k then renamed_slots names (slots_in crossings k) ∷ [] else [])
kept_more crossings names first second k = map-filter_more (renamed_there crossings names) (stays first second) k

pub signs_more : (crossings : List (List ℕ)) (first second k : ℕ)
    → signs_to crossings first second (k + 1)
    ≡ signs_to crossings first second k ++ (if stays first second k then positive_at crossings k ∷ [] else [])
signs_more crossings first second k = map-filter_more (positive_at crossings) (stays first second) k

one_of_one : (p x : ℕ) → is_of_two p p x ≡ nat_eq p x
one_of_one p x = grind (arith, nat_tests)

-- two crossings that are one are dropped as one
pub without_one : (code : Code) (p : ℕ) → without_finger code p p ≡ without_kink code p
without_one code p = ap (λ (gone : ℕ → Bool). dropped code gone) (fun_ext (one_of_one p))

-- the slot at which a crossing that is dropped has a kink
pub kink-found : (code : Code) (crossing : ℕ) → kink_drop_fault code crossing ≡ None
    → (p : ℕ) × HasKinkAt code.crossings (place_of crossing) p
kink-found code crossing none = grind (arith, nat_tests)

-- the slots at which two crossings that are dropped meet in a bigon
pub bigon-found : (code : Code) (first second : ℕ) → finger_drop_fault code first second ≡ None
    → (p : ℕ) × (q : ℕ) × HasBigonAt code.crossings (place_of first) (place_of second) p q
bigon-found code first second none = grind (arith, nat_tests, both-none, none-within, none-not, HasBigonAt-found)

pub kinks_are_ready : (code : Code) (crossing : ℕ) → IsTrue (accepted code) → kink_drop_fault code crossing ≡ None
    → AreReady (without_finger code (place_of crossing) (place_of crossing))
kinks_are_ready code crossing holds none =
    let found = kink-found code crossing none in
    let ready : AreReady (without_kink code (place_of crossing)) = record {
      paired = (IsSound-kink code (place_of crossing) found.0 holds found.1).paired;
      accepted_code = (IsKept-kink code (place_of crossing) found.0 holds found.1).accepted_too;
    } in
    subst (λ (s : Parts). AreReady (s)) (sym (without_one code (place_of crossing))) ready

pub fingers_are_ready : (code : Code) (first second : ℕ) → IsTrue (accepted code) → finger_drop_fault code first second ≡ None
    → AreReady (without_finger code (place_of first) (place_of second))
fingers_are_ready code first second holds none =
    let found = bigon-found code first second none in
    record {
      paired = (IsSound-finger code (place_of first) (place_of second) found.0 found.1 holds found.2).paired;
      accepted_code = (IsKept-finger code (place_of first) (place_of second) found.0 found.1 holds found.2).accepted_too;
    }

pub kink-dropped : (code : Code) (crossing : ℕ) → IsTrue (accepted code) → kink_drop_fault code crossing ≡ None → (exponent : ℤ)
    → state_sum (renumber (without_kink code (place_of crossing))) exponent ≡ state_sum code exponent
kink-dropped code crossing holds none exponent = grind (arith, nat_tests, kink-found, IsKept-kink)

pub finger-dropped : (code : Code) (first second : ℕ) → IsTrue (accepted code) → finger_drop_fault code first second ≡ None
    → (exponent : ℤ)
    → state_sum (renumber (without_finger code (place_of first) (place_of second))) exponent ≡ state_sum code exponent
finger-dropped code first second holds none exponent = grind (arith, nat_tests, bigon-found, IsKept-finger)

-- crossings over names, put together
abbrev parts_made : List (List ℕ) → List Bool → ℕ → Parts
parts_made crossings signs total = record { crossings = crossings; positive = signs; loops = total }

-- what is left, by its parts
pub dropped_is : (code : Code) (first second : ℕ) (names seen seen_again : List ℕ) (crossings seen_crossings : List (List ℕ)) (signs : List Bool)
    (loops rings : ℕ)
    → names ≡ straight_names code.crossings (is_of_two first second) → seen ≡ names → seen_again ≡ names
    → crossings ≡ kept_to code.crossings seen first second (length code.crossings) → seen_crossings ≡ crossings
    → signs ≡ signs_to code.crossings first second (length code.crossings) → loops ≡ code.loops
    → rings ≡ count_by (is_ring_in seen_again seen_crossings) (arcs code.crossings)
    → parts_made crossings signs (loops + rings) ≡ without_finger code first second
dropped_is code first second names seen seen_again crossings seen_crossings signs loops rings names_are seen_is again_is crossings_are
    seen_crossings_are signs_are loops_are rings_are =
    let n = length code.crossings in
    let kept = crossings_are ∙ ap (λ (ns : List ℕ). kept_to code.crossings ns first second n) (seen_is ∙ names_are) in
    let ring_number = rings_are
    ∙ ap₂ (λ (ns : List ℕ) (ks : List (List ℕ)). count_by (is_ring_in ns ks) (arcs code.crossings)) (again_is ∙ names_are)
    (seen_crossings_are ∙ kept) in
    ap (λ (ks : List (List ℕ)). parts_made ks signs (loops + rings)) kept
    ∙ ap (λ (ss : List Bool). parts_made (kept_crossings code.crossings (is_of_two first second)) ss (loops + rings)) signs_are
    ∙ ap (λ (l : ℕ). parts_made (kept_crossings code.crossings (is_of_two first second)) (kept_signs code.crossings (is_of_two first second)) l)
    (ap₂ (λ (a b : ℕ). a + b) loops_are ring_number)

pub components-kink_dropped : (code : Code) (crossing : ℕ) → IsTrue (accepted code) → kink_drop_fault code crossing ≡ None
    → HasComponents code (renumber (without_kink code (place_of crossing)))
components-kink_dropped code crossing holds none = grind (arith, nat_tests, kink-found, IsKept-kink)

pub components-finger_dropped : (code : Code) (first second : ℕ) → IsTrue (accepted code) → finger_drop_fault code first second ≡ None
    → HasComponents code (renumber (without_finger code (place_of first) (place_of second)))
components-finger_dropped code first second holds none = grind (arith, nat_tests, bigon-found, IsKept-finger)
