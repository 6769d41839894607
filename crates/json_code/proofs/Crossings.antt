-- What is computed of an element is a quadruple of numbers or its first wrong slot, and it is the only such thing. A value is
-- taken for a number exactly where it is a whole one. The slots are looked at in order: the first that holds no number is the
-- wrong one; where all four hold numbers there may be a fifth member, and slot 4 is wrong, or the four are all members. A value
-- that is no array is wrong at slot 0. The other way: one slot alone can be the first wrong one, and four numbers have none. So a
-- quadruple is read as the arcs that it names, and a wrong element as where it is wrong.
use Rattle.std.proofs.Common.{◌≡◌, ◌≢◌, ℕ, zero, suc, ◌<◌, ◌≤◌, Bool, true, false, nat_lt, cond, List, [], ◌∷◌, length, map, inl, inr, Option, None, Some, option_map, option_and_then, ok_or, Result, Ok, Err, refl, sym, ◌∙◌, ap, subst, arith, below_more, below_none}
use Rattle.std.proofs.lemmas.List.{length-map}
use Rattle.std.specs.Prelude.{slice_get}
use Rattle.serde_json.specs.Data.{Data, null, boolean, number, string, array, object, unsigned, negative, float}
use Rattle.serde_json.specs.Find.{as_array}
use Rattle.json_code.specs.declared.stop.JsonStop.{JsonStop}
use Rattle.json_code.specs.declared.stop.JsonStop.TheVariants.{Shape, JsonText, CrossingLimit, NoMemory}
use Rattle.json_code.specs.Values.{array_of, whole_number, array_of_numbers}
use Rattle.json_code.specs.Reading.{HoldsNumber, IsNoArray, IsWrongAt, IsWrongSlot}
use Rattle.kh_types.specs.RawCodes.{arc_named}
use Rattle.json_code.specs.Steps.{and_then, json_arc_at, json_arcs_at, crossing_in_element, elements_of, if_four, number_of_value}
use Rattle.json_code.proofs.Elements.{elements_of-items_of, items_of-elements_of}

-- a value that is a number is a whole one
pub number_in-whole_number : (value : Data) (n : ℕ) → number_of_value value ≡ Some n → value ≡ whole_number n
number_in-whole_number null n e = cc
number_in-whole_number (boolean b) n e = cc
number_in-whole_number (number (unsigned m)) n e = let same : m ≡ n = cc in ap whole_number same
number_in-whole_number (number (negative z)) n e = cc
number_in-whole_number (number (float x)) n e = cc
number_in-whole_number (string s) n e = cc
number_in-whole_number (array items) n e = cc
number_in-whole_number (object entries) n e = cc

-- a whole number is a number
pub whole_number-number_in : (value : Data) (n : ℕ) → value ≡ whole_number n → number_of_value value ≡ Some n
whole_number-number_in value n is = ap number_of_value is

-- a member that is looked for is a number, and the slot holds it
found-holds : (member : Option Data) (n : ℕ) → option_and_then number_of_value member ≡ Some n → member ≡ Some (whole_number n)
found-holds None n e = cc
found-holds (Some value) n e = ap Some (number_in-whole_number value n e)

-- or it is none
found-none : (member : Option Data) → option_and_then number_of_value member ≡ None → (n : ℕ) → member ≢ Some (whole_number n)
found-none member none n is = let some : option_and_then number_of_value member ≡ Some n = ap (option_and_then number_of_value) is in cc

-- four slots that hold numbers, and no more, are all members
four_members : (members : List Data) (i j k l : ℕ) → slice_get members 0 ≡ Some (whole_number i) → slice_get members 1 ≡ Some (whole_number j) → slice_get members 2 ≡ Some (whole_number k) → slice_get members 3 ≡ Some (whole_number l)
    → length members ≤ 4 → members ≡ map whole_number (i ∷ j ∷ k ∷ l ∷ [])
four_members [] i j k l p q r s few = cc
four_members (a ∷ []) i j k l p q r s few = cc
four_members (a ∷ b ∷ []) i j k l p q r s few = cc
four_members (a ∷ b ∷ c ∷ []) i j k l p q r s few = cc
four_members (a ∷ b ∷ c ∷ d ∷ []) i j k l p q r s few = cc
four_members (a ∷ b ∷ c ∷ d ∷ e ∷ more) i j k l p q r s few = absurd (omega arith)

-- what there is of the members of a crossing: the arcs that four numbers name, or the first wrong slot
abbrev pub AreArcs : ℕ → List Data → Result (List ℕ) JsonStop → Type 0
AreArcs crossing members (Ok arcs) = (numbers : List ℕ) × (length numbers ≡ 4) × (members ≡ map whole_number numbers) × (arcs ≡ map arc_named numbers)
AreArcs crossing members (Err (Shape at slot)) = (at ≡ crossing) × IsWrongSlot members slot
AreArcs crossing members (Err _) = ⊥

module _ (crossing : ℕ) (members : List Data) where
  -- the number at a slot
  abbrev at : ℕ → Option ℕ
  at slot = option_and_then number_of_value (slice_get members slot)

  -- the arc of a number that was looked for
  abbrev arc_of_found : ℕ → Option ℕ → Result ℕ JsonStop
  arc_of_found slot found = ok_or (option_map arc_named found) (Shape crossing slot)

  -- slots hold numbers up to one that holds none
  wrong : (slot : ℕ) → slot < 4 → ((earlier : ℕ) → earlier < slot → HoldsNumber members earlier) → at slot ≡ None → IsWrongSlot members slot
  wrong slot low before none = record { before = before; here = inl (low, λ held. found-none (slice_get members slot) none held.0 held.1) }

  held : (slot n : ℕ) → at slot ≡ Some n → HoldsNumber members slot
  held slot n e = (n, found-holds (slice_get members slot) n e)

  four_found : (i j k l : ℕ) → at 0 ≡ Some i → at 1 ≡ Some j → at 2 ≡ Some k → at 3 ≡ Some l → (more : Bool) → nat_lt 4 (length members) ≡ more
      → AreArcs crossing members (cond more (Err (Shape crossing 4)) (Ok (map arc_named (i ∷ j ∷ k ∷ l ∷ []))))
  four_found i j k l p q r s true e = (
    refl,
    record {
      before = below_more _ 3 (below_more _ 2 (below_more _ 1 (below_more _ 0 (below_none _) (held 0 i p)) (held 1 j q)) (held 2 k r)) (held 3 l s);
      here = inr (refl, grind arith);
    },
  )
  four_found i j k l p q r s false e = (i ∷ j ∷ k ∷ l ∷ [], refl, four_members members i j k l (found-holds _ i p) (found-holds _ j q) (found-holds _ k r) (found-holds _ l s) (grind arith), refl)

  three_found : (i j k : ℕ) → at 0 ≡ Some i → at 1 ≡ Some j → at 2 ≡ Some k → (found : Option ℕ) → at 3 ≡ found
      → AreArcs crossing members (and_then (λ l. if_four crossing members (arc_named i ∷ arc_named j ∷ arc_named k ∷ l ∷ [])) (arc_of_found 3 found))
  three_found i j k p q r None s = (refl, wrong 3 (omega arith) (below_more _ 2 (below_more _ 1 (below_more _ 0 (below_none _) (held 0 i p)) (held 1 j q)) (held 2 k r)) s)
  three_found i j k p q r (Some l) s = four_found i j k l p q r s (nat_lt 4 (length members)) refl

  two_found : (i j : ℕ) → at 0 ≡ Some i → at 1 ≡ Some j → (found : Option ℕ) → at 2 ≡ found
      → AreArcs crossing members (and_then (λ k. and_then (λ l. if_four crossing members (arc_named i ∷ arc_named j ∷ k ∷ l ∷ [])) (json_arc_at crossing 3 members)) (arc_of_found 2 found))
  two_found i j p q None r = (refl, wrong 2 (omega arith) (below_more _ 1 (below_more _ 0 (below_none _) (held 0 i p)) (held 1 j q)) r)
  two_found i j p q (Some k) r = three_found i j k p q r (at 3) refl

  one_found : (i : ℕ) → at 0 ≡ Some i → (found : Option ℕ) → at 1 ≡ found
      → AreArcs crossing members (and_then (λ j. and_then (λ k. and_then (λ l. if_four crossing members (arc_named i ∷ j ∷ k ∷ l ∷ [])) (json_arc_at crossing 3 members)) (json_arc_at crossing 2 members)) (arc_of_found 1 found))
  one_found i p None q = (refl, wrong 1 (omega arith) (below_more _ 0 (below_none _) (held 0 i p)) q)
  one_found i p (Some j) q = two_found i j p q (at 2) refl

  none_found : (found : Option ℕ) → at 0 ≡ found
      → AreArcs crossing members (and_then (λ i. and_then (λ j. and_then (λ k. and_then (λ l. if_four crossing members (i ∷ j ∷ k ∷ l ∷ [])) (json_arc_at crossing 3 members)) (json_arc_at crossing 2 members)) (json_arc_at crossing 1 members)) (arc_of_found 0 found))
  none_found None p = (refl, wrong 0 (omega arith) (below_none _) p)
  none_found (Some i) p = one_found i p (at 1) refl

  pub json_arcs_at-sound : AreArcs crossing members (json_arcs_at crossing members)
  json_arcs_at-sound = none_found (at 0) refl

-- an element is the crossing of the arcs that four numbers name, or it is wrong
abbrev pub IsElementRead : ℕ → Data → Result (List ℕ) JsonStop → Type 0
IsElementRead crossing element (Ok arcs) = (numbers : List ℕ) × (length numbers ≡ 4) × (element ≡ array_of_numbers numbers) × (arcs ≡ map arc_named numbers)
IsElementRead crossing element (Err (Shape at slot)) = (at ≡ crossing) × IsWrongAt element slot
IsElementRead crossing element (Err _) = ⊥

of_members : (crossing : ℕ) (members : List Data) (r : Result (List ℕ) JsonStop) → AreArcs crossing members r → IsElementRead crossing (array_of members) r
of_members crossing members (Ok arcs) found = (found.0, found.1, ap array_of found.2, found.3)
of_members crossing members (Err (Shape at slot)) found = (found.0, inr (members, refl, found.1))
of_members crossing members (Err JsonText) found = found
of_members crossing members (Err (CrossingLimit count)) found = found
of_members crossing members (Err NoMemory) found = found

-- a value that is seen as no array is none
pub as_array-none : (value : Data) → as_array value ≡ None → IsNoArray value
as_array-none value none elements is = let some : as_array value ≡ as_array (array_of elements) = ap as_array is in cc

-- what is computed of an element is a crossing, or where it is wrong
pub crossing_of-sound : (crossing : ℕ) (element : Data) → IsElementRead crossing element (crossing_in_element crossing element)
crossing_of-sound crossing (array items) =
    subst (λ e. IsElementRead crossing e (json_arcs_at crossing (elements_of items))) (ap array (items_of-elements_of items))
    (of_members crossing (elements_of items) (json_arcs_at crossing (elements_of items)) (json_arcs_at-sound crossing (elements_of items)))
crossing_of-sound crossing null = (refl, inl (as_array-none null refl, refl))
crossing_of-sound crossing (boolean b) = (refl, inl (as_array-none (boolean b) refl, refl))
crossing_of-sound crossing (number n) = (refl, inl (as_array-none (number n) refl, refl))
crossing_of-sound crossing (string s) = (refl, inl (as_array-none (string s) refl, refl))
crossing_of-sound crossing (object entries) = (refl, inl (as_array-none (object entries) refl, refl))

-- ---- nothing else is

-- the elements of an array are its own
array_of-injective : (a b : List Data) → array_of a ≡ array_of b → a ≡ b
array_of-injective a b e = sym (elements_of-items_of a) ∙ ap elements_in e ∙ elements_of-items_of b
  where
    elements_in : Data → List Data
    elements_in (array items) = elements_of items
    elements_in _ = []

-- one slot alone is the first wrong one
before_none : (members : List Data) (a b : ℕ) → IsWrongSlot members a → IsWrongSlot members b → ¬ (a < b)
before_none members a b first second lt =
    elim first.here [ inl low ↦ low.1 (second.before a lt) | inr more ↦ elim second.here [ inl low ↦ omega arith | inr other ↦ omega arith ] ]

wrong_slots-one : (members : List Data) (a b : ℕ) → IsWrongSlot members a → IsWrongSlot members b → a ≡ b
wrong_slots-one members a b first second =
    let below : ¬ (a < b) = before_none members a b first second in
    let above : ¬ (b < a) = before_none members b a second first in
    omega arith

-- four numbers have no wrong slot
four_right : (numbers : List ℕ) (slot : ℕ) → length numbers ≡ 4 → ¬ IsWrongSlot (map whole_number numbers) slot
four_right numbers slot four wrong = elim wrong.here [
  | inl low ↦ low.1 (holds numbers slot (omega (arith, low.0)))
  | inr more ↦ omega (arith, length-map numbers whole_number)
]
  where
    holds : (ns : List ℕ) (at : ℕ) → at < length ns → HoldsNumber (map whole_number ns) at
    holds [] at lt = absurd (omega arith)
    holds (n ∷ ns) zero lt = (n, refl)
    holds (n ∷ ns) (suc at) lt = holds ns at (omega arith)

-- an element that is wrong is so at one slot alone, and is no quadruple of numbers
wrongs-one : (element : Data) (a b : ℕ) → IsWrongAt element a → IsWrongAt element b → a ≡ b
wrongs-one element a b (inl x) (inl y) = x.1 ∙ sym y.1
wrongs-one element a b (inl x) (inr y) = absurd (x.0 y.0 y.1)
wrongs-one element a b (inr x) (inl y) = absurd (y.0 x.0 x.1)
wrongs-one element a b (inr x) (inr y) =
    let same : y.0 ≡ x.0 = array_of-injective y.0 x.0 (sym y.1 ∙ x.1) in
    wrong_slots-one x.0 a b x.2 (subst (λ m. IsWrongSlot m b) same y.2)

right_not_wrong : (numbers : List ℕ) (slot : ℕ) → length numbers ≡ 4 → ¬ IsWrongAt (array_of_numbers numbers) slot
right_not_wrong numbers slot four (inl x) = x.0 (map whole_number numbers) refl
right_not_wrong numbers slot four (inr x) =
    let same : x.0 ≡ map whole_number numbers = array_of-injective x.0 (map whole_number numbers) (sym x.1) in
    four_right numbers slot four (subst (λ m. IsWrongSlot m slot) same x.2)

-- four numbers are read as their arcs
pub crossing_of-numbers : (crossing : ℕ) (numbers : List ℕ) → length numbers ≡ 4 → crossing_in_element crossing (array_of_numbers numbers) ≡ Ok (map arc_named numbers)
crossing_of-numbers crossing [] four = absurd (omega arith)
crossing_of-numbers crossing (i ∷ []) four = absurd (omega arith)
crossing_of-numbers crossing (i ∷ j ∷ []) four = absurd (omega arith)
crossing_of-numbers crossing (i ∷ j ∷ k ∷ []) four = absurd (omega arith)
crossing_of-numbers crossing (i ∷ j ∷ k ∷ l ∷ []) four = refl
crossing_of-numbers crossing (i ∷ j ∷ k ∷ l ∷ m ∷ more) four = absurd (omega arith)

-- a wrong element is read as where it is wrong
pub crossing_of-wrong : (crossing : ℕ) (element : Data) (slot : ℕ) → IsWrongAt element slot → crossing_in_element crossing element ≡ Err (Shape crossing slot)
crossing_of-wrong crossing element slot wrong = go (crossing_in_element crossing element) (crossing_of-sound crossing element)
  where
    go : (r : Result (List ℕ) JsonStop) → IsElementRead crossing element r → r ≡ Err (Shape crossing slot)
    go (Ok arcs) found = absurd (right_not_wrong found.0 slot found.1 (subst (λ e. IsWrongAt e slot) found.2 wrong))
    go (Err (Shape at other)) found = ap Err (rw (found.0, wrongs-one element other slot found.1 wrong) refl)
    go (Err JsonText) found = absurd found
    go (Err (CrossingLimit count)) found = absurd found
    go (Err NoMemory) found = absurd found
