-- What is computed of the value of a text is the reading of the text, and no text has another. First, by induction on the
-- elements, they are quadruples up to a first wrong one, whose number is one more than there are before it. With too many
-- elements, and values that are no arrays, each value so gives a reading; and bytes that are not UTF-8, or have no value, are no
-- JSON. The other way, each reading is that of no JSON text, or it is what is computed of the text's value: quadruples are read
-- as their arcs, and a wrong element behind them as where it is wrong. As a text has one value at most, two readings of it agree.
use Rattle.std.proofs.Common.{◌≡◌, ℕ, suc, ◌+◌, ◌<◌, ◌≤◌, Bool, true, false, nat_lt, cond, List, [], ◌∷◌, ◌++◌, length, map, All, ◌⊎◌, inl, inr, Option, None, Some, IsUtf8, Result, Ok, Err, refl, sym, ◌∙◌, ap, subst, arith}
use Rattle.std.proofs.lemmas.Bool.{ltb-true, ltb-false, le-ltb, lt-ltb}
use Rattle.std.proofs.lemmas.List.{append-nil, length-map}
use Rattle.std.proofs.lemmas.List.Elements.{All-cons, All-nil}
use Rattle.std.proofs.lemmas.Str.{IsUtf8-from_is_utf8, is_utf8-from_IsUtf8}
use Rattle.std.specs.Option.{option_map_or}
use Rattle.std.specs.Str.{is_utf8}
use Rattle.kh_types.specs.Code.{Code}
use Rattle.kh_types.specs.declared.limits.TheConstants.{CROSSINGS}
use Rattle.serde_json.specs.Data.{Data, null, boolean, number, string, array, object}
use Rattle.serde_json.specs.Read.{read}
use Rattle.json_code.specs.declared.stop.JsonStop.{JsonStop}
use Rattle.json_code.specs.declared.stop.JsonStop.TheVariants.{JsonText, Shape, CrossingLimit, NoMemory}
use Rattle.json_code.specs.Values.{IsJson, array_of, array_of_numbers}
use Rattle.json_code.specs.Reading.{HasFour, IsNoArray, IsNoJson, IsJsonReading, IsWrongAt}
use Rattle.kh_types.specs.RawCodes.{arc_named}
use Rattle.json_code.specs.Steps.{and_then, json_code_of, code_of_crossings, code_of_elements, crossing_in_element, crossings_from, elements_of, after_crossings, json_reading_of}
use Rattle.json_code.proofs.Crossings.{IsElementRead, as_array-none, crossing_of-numbers, crossing_of-sound, crossing_of-wrong}
use Rattle.json_code.proofs.Elements.{elements_of-items_of, items_of-elements_of}

-- ---- what is computed is a reading

-- elements are quadruples up to a wrong one, which has a number, where the first has another
record IsStop (first : ℕ) (elements : List Data) (crossing slot : ℕ) : Type 0 where
  quadruples : List (List ℕ)
  element : Data
  later : List Data
  parts : elements ≡ map array_of_numbers quadruples ++ element ∷ later
  fours : All HasFour quadruples
  numbered : crossing ≡ length quadruples + first
  wrong : IsWrongAt element slot

-- what is made of elements: the crossings of quadruples, or where the first wrong one is wrong
abbrev AreCrossings : ℕ → List Data → Result (List (List ℕ)) JsonStop → Type 0
AreCrossings first elements (Ok crossings) = (quadruples : List (List ℕ)) × All HasFour quadruples × (elements ≡ map array_of_numbers quadruples) × (crossings ≡ map (map arc_named) quadruples)
AreCrossings first elements (Err (Shape crossing slot)) = IsStop first elements crossing slot
AreCrossings first elements (Err _) = ⊥

-- a quadruple comes before others
next_crossing : (first : ℕ) (element : Data) (elements : List Data) (arcs : List ℕ) (r : Result (List (List ℕ)) JsonStop) → IsElementRead first element (Ok arcs)
    → AreCrossings (first + 1) elements r → AreCrossings first (element ∷ elements) (after_crossings (arcs ∷ []) r)
next_crossing first element elements arcs (Ok crossings) made found =
    (made.0 ∷ found.0, All-cons HasFour made.0 found.0 made.1 found.1, cc (made.2, found.2), cc (made.3, found.3))
next_crossing first element elements arcs (Err (Shape crossing slot)) made found = record {
  quadruples = made.0 ∷ found.quadruples;
  element = found.element;
  later = found.later;
  parts = cc (made.2, found.parts);
  fours = All-cons HasFour made.0 found.quadruples made.1 found.fours;
  numbered = omega (arith, found.numbered);
  wrong = found.wrong;
}
next_crossing first element elements arcs (Err JsonText) made found = found
next_crossing first element elements arcs (Err (CrossingLimit count)) made found = found
next_crossing first element elements arcs (Err NoMemory) made found = found

-- the first element is a quadruple, or it is wrong
first_crossing : (first : ℕ) (element : Data) (elements : List Data) (r : Result (List ℕ) JsonStop) → IsElementRead first element r → AreCrossings (first + 1) elements (crossings_from (first + 1) elements)
    → AreCrossings first (element ∷ elements) (and_then (λ arcs. after_crossings (arcs ∷ []) (crossings_from (first + 1) elements)) r)
first_crossing first element elements (Ok arcs) made found = next_crossing first element elements arcs (crossings_from (first + 1) elements) made found
first_crossing first element elements (Err (Shape crossing slot)) made found = record {
  quadruples = [];
  element = element;
  later = elements;
  parts = refl;
  fours = All-nil HasFour;
  numbered = omega (arith, made.0);
  wrong = made.1;
}
first_crossing first element elements (Err JsonText) made found = made
first_crossing first element elements (Err (CrossingLimit count)) made found = made
first_crossing first element elements (Err NoMemory) made found = made

crossings_from-sound : (first : ℕ) (elements : List Data) → AreCrossings first elements (crossings_from first elements)
crossings_from-sound first [] = ([], All-nil HasFour, refl, refl)
crossings_from-sound first (element ∷ elements) =
    first_crossing first element elements (crossing_in_element first element) (crossing_of-sound first element) (crossings_from-sound (first + 1) elements)

-- the crossings of few enough elements give the reading
of_crossings : (text : List ℕ) (elements : List Data) → IsJson text (array_of elements) → length elements ≤ CROSSINGS → (r : Result (List (List ℕ)) JsonStop)
    → AreCrossings 1 elements r → IsJsonReading text (and_then code_of_crossings r)
of_crossings text elements json few (Ok crossings) found = record {
  quadruples = found.0;
  json = subst (λ l. IsJson text (array_of l)) found.2 json;
  fours = found.1;
  within = omega (arith, ap length found.2, length-map found.0 array_of_numbers, few);
  arcs = found.3;
  no_loops = refl;
}
of_crossings text elements json few (Err (Shape crossing slot)) found = inr (record {
  quadruples = found.quadruples;
  element = found.element;
  later = found.later;
  json = subst (λ l. IsJson text (array_of l)) found.parts json;
  within = subst (λ l. length l ≤ CROSSINGS) found.parts few;
  fours = found.fours;
  numbered = found.numbered;
  wrong = found.wrong;
})
of_crossings text elements json few (Err JsonText) found = absurd found
of_crossings text elements json few (Err (CrossingLimit count)) found = absurd found
of_crossings text elements json few (Err NoMemory) found = found

of_elements : (text : List ℕ) (elements : List Data) → IsJson text (array_of elements) → (many : Bool) → nat_lt CROSSINGS (length elements) ≡ many
    → IsJsonReading text (cond many (Err (CrossingLimit (length elements))) (and_then code_of_crossings (crossings_from 1 elements)))
of_elements text elements json true e = record { elements = elements; json = json; counted = refl; above = ltb-true CROSSINGS (length elements) e }
of_elements text elements json false e = of_crossings text elements json (ltb-false CROSSINGS (length elements) e) (crossings_from 1 elements) (crossings_from-sound 1 elements)

of_other : (text : List ℕ) (value : Data) → IsJson text value → IsNoArray value → IsJsonReading text (Err (Shape 0 0))
of_other text value json none = inl (record { value = value; json = json; no_array = none; no_crossing = refl; no_slot = refl })

-- what is computed of the value of a text is the reading of the text
pub json_code_of-sound : (text : List ℕ) (value : Data) → IsJson text value → IsJsonReading text (json_code_of value)
json_code_of-sound text (array items) json =
    of_elements text (elements_of items) (subst (λ i. IsJson text (array i)) (sym (items_of-elements_of items)) json) (nat_lt CROSSINGS (length (elements_of items))) refl
json_code_of-sound text null json = of_other text null json (as_array-none null refl)
json_code_of-sound text (boolean b) json = of_other text (boolean b) json (as_array-none (boolean b) refl)
json_code_of-sound text (number n) json = of_other text (number n) json (as_array-none (number n) refl)
json_code_of-sound text (string s) json = of_other text (string s) json (as_array-none (string s) refl)
json_code_of-sound text (object entries) json = of_other text (object entries) json (as_array-none (object entries) refl)

-- ---- nothing else is a reading

-- nothing comes before nothing
preceded_by-nil : (r : Result (List (List ℕ)) JsonStop) → after_crossings [] r ≡ r
preceded_by-nil (Ok crossings) = refl
preceded_by-nil (Err stop) = refl

-- one crossing comes before others
preceded_by-cons : (arcs : List ℕ) (front : List (List ℕ)) (r : Result (List (List ℕ)) JsonStop) → after_crossings (arcs ∷ []) (after_crossings front r) ≡ after_crossings (arcs ∷ front) r
preceded_by-cons arcs front (Ok crossings) = refl
preceded_by-cons arcs front (Err stop) = refl

-- quadruples are read as their arcs, and then what comes behind them, which has the next number
crossings_from-quadruples : (first next : ℕ) (quadruples : List (List ℕ)) (later : List Data) → next ≡ length quadruples + first → All HasFour quadruples
    → crossings_from first (map array_of_numbers quadruples ++ later) ≡ after_crossings (map (map arc_named) quadruples) (crossings_from next later)
crossings_from-quadruples first next [] later e fours =
    let same : first ≡ next = omega arith in
    ap (λ n. crossings_from n later) same ∙ sym (preceded_by-nil (crossings_from next later))
crossings_from-quadruples first next (numbers ∷ quadruples) later e fours =
    let made : crossing_in_element first (array_of_numbers numbers) ≡ Ok (map arc_named numbers) = crossing_of-numbers first numbers (fours 0 [] (omega arith)) in
    let others = crossings_from-quadruples (first + 1) next quadruples later (omega arith) (λ k d lt. fours (suc k) d (omega arith)) in
    ap (and_then (λ arcs. after_crossings (arcs ∷ []) (crossings_from (first + 1) (map array_of_numbers quadruples ++ later)))) made
    ∙ ap (after_crossings (map arc_named numbers ∷ [])) others ∙ preceded_by-cons (map arc_named numbers) (map (map arc_named) quadruples) (crossings_from next later)

-- the code of an array is that of its elements
json_code_of-array : (elements : List Data) → json_code_of (array_of elements) ≡ code_of_elements elements
json_code_of-array elements = ap code_of_elements (elements_of-items_of elements)

-- which are few enough, or too many
code_of_elements-few : (elements : List Data) → length elements ≤ CROSSINGS → code_of_elements elements ≡ and_then code_of_crossings (crossings_from 1 elements)
code_of_elements-few elements few = ap (λ many. cond many (Err (CrossingLimit (length elements))) (and_then code_of_crossings (crossings_from 1 elements))) (le-ltb CROSSINGS (length elements) few)

code_of_elements-many : (elements : List Data) → CROSSINGS < length elements → code_of_elements elements ≡ Err (CrossingLimit (length elements))
code_of_elements-many elements many = ap (λ b. cond b (Err (CrossingLimit (length elements))) (and_then code_of_crossings (crossings_from 1 elements))) (lt-ltb CROSSINGS (length elements) many)

-- what is no array is other
json_code_of-other : (value : Data) → IsNoArray value → json_code_of value ≡ Err (Shape 0 0)
json_code_of-other (array items) none = absurd (none (elements_of items) (ap array (sym (items_of-elements_of items))))
json_code_of-other null none = refl
json_code_of-other (boolean b) none = refl
json_code_of-other (number n) none = refl
json_code_of-other (string s) none = refl
json_code_of-other (object entries) none = refl

-- a code is its crossings and its loops
code_is : (code : Code) (crossings : List (List ℕ)) → code.crossings ≡ crossings → code.loops ≡ 0 → Ok code ≡ code_of_crossings crossings
code_is code crossings same none = λ i. Ok (record { crossings = same i; loops = none i })

-- quadruples alone are read as their arcs
crossings_from-fours : (quadruples : List (List ℕ)) → All HasFour quadruples → crossings_from 1 (map array_of_numbers quadruples) ≡ Ok (map (map arc_named) quadruples)
crossings_from-fours quadruples fours =
    ap (crossings_from 1) (sym (append-nil (map array_of_numbers quadruples))) ∙ crossings_from-quadruples 1 (length quadruples + 1) quadruples [] refl fours
    ∙ ap Ok (append-nil (map (map arc_named) quadruples))

-- quadruples and then a wrong element are read as where that is wrong
crossings_from-wrong : (crossing slot : ℕ) (quadruples : List (List ℕ)) (element : Data) (later : List Data) → crossing ≡ length quadruples + 1 → All HasFour quadruples → IsWrongAt element slot
    → crossings_from 1 (map array_of_numbers quadruples ++ element ∷ later) ≡ Err (Shape crossing slot)
crossings_from-wrong crossing slot quadruples element later numbered fours wrong =
    crossings_from-quadruples 1 crossing quadruples (element ∷ later) numbered fours
    ∙ ap (λ r. after_crossings (map (map arc_named) quadruples) (and_then (λ arcs. after_crossings (arcs ∷ []) (crossings_from (crossing + 1) later)) r)) (crossing_of-wrong crossing element slot wrong)

-- the array of few enough elements is read as they are
json_code_of-few : (elements : List Data) (r : Result (List (List ℕ)) JsonStop) → length elements ≤ CROSSINGS → crossings_from 1 elements ≡ r → json_code_of (array_of elements) ≡ and_then code_of_crossings r
json_code_of-few elements r few is = json_code_of-array elements ∙ code_of_elements-few elements few ∙ ap (and_then code_of_crossings) is

-- a reading is of no JSON text, or it is what is computed of the value of the text
made_of : (text : List ℕ) (r : Result Code JsonStop) → IsJsonReading text r → ((r ≡ Err JsonText) × IsNoJson text) ⊎ ((value : Data) × IsJson text value × (r ≡ json_code_of value))
made_of text (Ok code) reading =
    let few : length (map array_of_numbers reading.quadruples) ≤ CROSSINGS = omega (arith, length-map reading.quadruples array_of_numbers, reading.within) in
    inr (
      array_of (map array_of_numbers reading.quadruples),
      reading.json,
      code_is code _ reading.arcs reading.no_loops ∙ sym (json_code_of-few _ _ few (crossings_from-fours reading.quadruples reading.fours)),
    )
made_of text (Err JsonText) reading = inl (refl, reading)
made_of text (Err (Shape crossing slot)) (inl other) =
    inr (other.value, other.json, (λ i. Err (Shape (other.no_crossing i) (other.no_slot i))) ∙ sym (json_code_of-other other.value other.no_array))
made_of text (Err (Shape crossing slot)) (inr wrong) =
    inr (
      array_of (map array_of_numbers wrong.quadruples ++ wrong.element ∷ wrong.later),
      wrong.json,
      sym (json_code_of-few _ _ wrong.within (crossings_from-wrong crossing slot wrong.quadruples wrong.element wrong.later wrong.numbered wrong.fours wrong.wrong)),
    )
made_of text (Err (CrossingLimit count)) reading =
    inr (
      array_of reading.elements,
      reading.json,
      ap (λ n. Err (CrossingLimit n)) reading.counted ∙ sym (json_code_of-array reading.elements ∙ code_of_elements-many reading.elements (subst (λ n. CROSSINGS < n) reading.counted reading.above)),
    )
made_of text (Err NoMemory) reading = absurd reading

-- a text has one value at most
json-one : (text : List ℕ) (a b : Data) → IsJson text a → IsJson text b → a ≡ b
json-one text a b first second = cc (first.meaning, second.meaning)

-- a text has one reading at most
pub readings-one : (text : List ℕ) (a b : Result Code JsonStop) → IsJsonReading text a → IsJsonReading text b → a ≡ b
readings-one text a b first second = go (made_of text a first) (made_of text b second)
  where
    go : ((a ≡ Err JsonText) × IsNoJson text) ⊎ ((value : Data) × IsJson text value × (a ≡ json_code_of value)) → ((b ≡ Err JsonText) × IsNoJson text) ⊎ ((value : Data) × IsJson text value × (b ≡ json_code_of value))
        → a ≡ b
    go (inl x) (inl y) = x.0 ∙ sym y.0
    go (inl x) (inr y) = absurd (x.1 y.0 y.1)
    go (inr x) (inl y) = absurd (y.1 x.0 x.1)
    go (inr x) (inr y) = x.2 ∙ ap json_code_of (json-one text x.0 y.0 x.1 y.1) ∙ sym y.2

-- and what is computed of it is one
pub json_reading_of-sound : (text : List ℕ) → IsJsonReading text (json_reading_of text)
unfolding json_reading_of
json_reading_of-sound text = by_utf8 (is_utf8 text) refl
  where
    by_value : IsUtf8 text → (found : Option Data) → read text ≡ found → IsJsonReading text (option_map_or json_code_of found (Err JsonText))
    by_value utf8 None none = λ value json. let some = json.meaning in cc
    by_value utf8 (Some value) is = json_code_of-sound text value (record { utf8 = utf8; meaning = is })

    by_utf8 : (utf8 : Bool) → is_utf8 text ≡ utf8 → IsJsonReading text (cond utf8 (option_map_or json_code_of (read text) (Err JsonText)) (Err JsonText))
    by_utf8 true e = by_value (IsUtf8-from_is_utf8 text e) (read text) refl
    by_utf8 false e = λ value json. let yes = is_utf8-from_IsUtf8 text json.utf8 in cc
