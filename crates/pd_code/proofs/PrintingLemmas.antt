-- A code in print: its text spells its items, and these stand for it. So the text of a code with four slots at each crossing and
-- within the limits reads as this code, and so does the line with this text. First, one loop more is one item more. Then the text
-- is read from its end to its start: a number, a word, a bracket or a comma before a written text gives a written text, so the
-- same holds for an item, for items behind commas, and for all of them, as the numbers of a code are small enough to be read.
-- Then the items are gone through: the slots of the item of a crossing are the crossing's, loops give no crossing, and as many
-- items are loops as the code has.
use Rattle.std.proofs.Common.{◌≡◌, ℕ, zero, suc, ◌+◌, ◌-◌, ◌≤◌, nat_abs, All, Some, List, [], ◌∷◌, ◌++◌, map, length, codes, Ok, refl, ap, sym, subst, ◌∙◌, arith, append_assoc}
use Rattle.std.specs.Fmt.{signed_decimal}
use Rattle.std.specs.List.{AllByRecursion, cons_option, filter, flat_map, range_with_len}
use Rattle.std.proofs.lemmas.Bool.{le-leb}
use Rattle.std.proofs.lemmas.List.FromFn.{length-range_with_len, map-range_with_len_more}
use Rattle.std.proofs.lemmas.List.Sums.{length-filter}
use Rattle.std.proofs.lemmas.List.Elements.{recursion_from_All}
use Rattle.kh_types.specs.Code.{Code, arc_count}
use Rattle.kh_types.specs.declared.limits.TheConstants.{CROSSINGS, LOOPS}
use Rattle.kh_lex.specs.declared.limits.TheConstants.{NUMBER_LIMIT}
use Rattle.kh_lex.specs.declared.symbol.Symbol.{Symbol}
use Rattle.kh_lex.specs.Lines.{with_feed}
use Rattle.kh_lex.proofs.WrittenLines.{Means-line}
use Rattle.kh_lex.proofs.WrittenTexts.{IsWritten, Means-written, comma-written, left_bracket-written, nothing-written, number-written, right_bracket-written, space-written, word-written}
use Rattle.pd_code.specs.declared.item.Item.{Item}
use Rattle.pd_code.specs.declared.item.Item.TheVariants.{Crossing, Loop}
use Rattle.pd_code.specs.Grammar.{Spells, item_symbols, listed, next_symbols, pd_spelled}
use Rattle.pd_code.specs.Items.{crossings_among, is_loop_item, loop_item_count, slots_of_item}
use Rattle.pd_code.specs.Printing.{HasFourSlots, crossing_item, item_text, items_of_code, listed_text, loop_item, loop_names, next_text, pd_text, text_of_items}
use Rattle.pd_code.specs.Reading.{IsPdReading}

-- items and then the loops up to one name, and that one
pub loops_more : (items others : List Item) (first name : ℕ) → first ≤ name → others ≡ items ++ map loop_item (range_with_len first (name - first))
    → others ++ loop_item name ∷ [] ≡ items ++ map loop_item (range_with_len first (name + 1 - first))
loops_more items others first name after is =
    let count : name - first + 1 ≡ name + 1 - first = omega arith in
    ap (λ xs. xs ++ loop_item name ∷ []) is
    ∙ append_assoc items (map loop_item (range_with_len first (name - first))) (loop_item name ∷ [])
    ∙ ap (λ xs. items ++ xs) (sym (map-range_with_len_more loop_item first (name - first) name (omega arith)) ∙ ap (λ n. map loop_item (range_with_len first n)) count)

-- the numbers of an item are small enough to be read
abbrev pub HasSmallNumbers : Item → Type 0
HasSmallNumbers (Crossing i j k l) = (nat_abs i ≤ NUMBER_LIMIT) × (nat_abs j ≤ NUMBER_LIMIT) × (nat_abs k ≤ NUMBER_LIMIT) × (nat_abs l ≤ NUMBER_LIMIT)
HasSmallNumbers (Loop n) = nat_abs n ≤ NUMBER_LIMIT

-- an item before a text
item-written : {rest : List ℕ} {more : List Symbol} (item : Item) → HasSmallNumbers item → IsWritten rest more → IsWritten (item_text item ++ rest) (item_symbols item ++ more)
item-written {rest = rest} {more = more} (Crossing i j k l) small written =
    subst (λ t. IsWritten t (item_symbols (Crossing i j k l) ++ more)) (sym regrouped)
    (word-written (codes "X") (omega arith) refl refl (left_bracket-written
    (number-written i small.0 refl (comma-written (space-written
    (number-written j small.1 refl (comma-written (space-written
    (number-written k small.2 refl (comma-written (space-written
    (number-written l small.3 refl (right_bracket-written written)))))))))))))
  where
    regrouped : item_text (Crossing i j k l) ++ rest ≡ codes "X[" ++ (signed_decimal i ++ (codes ", " ++ (signed_decimal j ++ (codes ", "
        ++ (signed_decimal k ++ (codes ", " ++ (signed_decimal l ++ (codes "]" ++ rest))))))))
    regrouped = simp append_assoc
item-written {rest = rest} {more = more} (Loop n) small written =
    subst (λ t. IsWritten t (item_symbols (Loop n) ++ more)) (sym regrouped)
    (word-written (codes "Loop") (omega arith) refl refl (left_bracket-written (number-written n small refl (right_bracket-written written))))
  where
    regrouped : item_text (Loop n) ++ rest ≡ codes "Loop[" ++ (signed_decimal n ++ (codes "]" ++ rest))
    regrouped = simp append_assoc

-- items behind commas before a text
next-written : {rest : List ℕ} {more : List Symbol} (items : List Item) → AllByRecursion HasSmallNumbers items → IsWritten rest more
    → IsWritten (flat_map next_text items ++ rest) (flat_map next_symbols items ++ more)
next-written [] small written = written
next-written {rest = rest} {more = more} (item ∷ items) small written =
    subst (λ t. IsWritten t (flat_map next_symbols (item ∷ items) ++ more)) (sym (append_assoc (next_text item) (flat_map next_text items) rest))
    (subst (IsWritten (next_text item ++ (flat_map next_text items ++ rest))) (sym (append_assoc (next_symbols item) (flat_map next_symbols items) more))
    (comma-written (space-written (item-written item small.0 (next-written items small.1 written)))))

-- items before a text
listed-written : {rest : List ℕ} {more : List Symbol} (items : List Item) → AllByRecursion HasSmallNumbers items → IsWritten rest more
    → IsWritten (listed_text items ++ rest) (listed items ++ more)
listed-written [] small written = written
listed-written {rest = rest} {more = more} (item ∷ items) small written =
    subst (λ t. IsWritten t (listed (item ∷ items) ++ more)) (sym (append_assoc (item_text item) (flat_map next_text items) rest))
    (subst (IsWritten (item_text item ++ (flat_map next_text items ++ rest))) (sym (append_assoc (item_symbols item) (flat_map next_symbols items) more))
    (item-written item small.0 (next-written items small.1 written)))

-- the text that lists items is written by their symbols
written-text_of_items : (items : List Item) → AllByRecursion HasSmallNumbers items → IsWritten (text_of_items items) (pd_spelled items)
written-text_of_items items small =
    word-written (codes "PD") (omega arith) refl refl (left_bracket-written (listed-written items small (right_bracket-written nothing-written)))

-- the items of a code have small numbers
small_crossings : (crossings : List (List ℕ)) (others : List Item) → AllByRecursion HasFourSlots crossings → AllByRecursion HasSmallNumbers others
    → AllByRecursion HasSmallNumbers (map crossing_item crossings ++ others)
small_crossings [] others four small = small
small_crossings (arcs ∷ crossings) others four small =
    let bytes = four.0.bytes in (
      (omega (arith, bytes 0), omega (arith, bytes 1), omega (arith, bytes 2), omega (arith, bytes 3)),
      small_crossings crossings others four.1 small,
    )

small_loops : (first count : ℕ) → first + count ≤ NUMBER_LIMIT → AllByRecursion HasSmallNumbers (map loop_item (range_with_len first count))
small_loops first zero few = tt
small_loops first (suc count) few = (omega arith, small_loops (first + 1) count (omega arith))

-- the slots of the item of a crossing are the crossing's
slots_of_item-crossing : (arcs : List ℕ) → HasFourSlots arcs → slots_of_item (crossing_item arcs) ≡ Some arcs
slots_of_item-crossing [] is = let four = is.four in absurd (cc)
slots_of_item-crossing (i ∷ []) is = let four = is.four in absurd (omega arith)
slots_of_item-crossing (i ∷ j ∷ []) is = let four = is.four in absurd (omega arith)
slots_of_item-crossing (i ∷ j ∷ k ∷ []) is = let four = is.four in absurd (omega arith)
slots_of_item-crossing (i ∷ j ∷ k ∷ l ∷ []) is =
    rw (le-leb i 255 (is.bytes 0), le-leb j 255 (is.bytes 1), le-leb k 255 (is.bytes 2), le-leb l 255 (is.bytes 3)) refl
slots_of_item-crossing (i ∷ j ∷ k ∷ l ∷ m ∷ arcs) is = let four = is.four in absurd (omega arith)

-- no crossing is among loops, and each of them is one
crossings_of-loops : (names : List ℕ) → crossings_among (map loop_item names) ≡ []
crossings_of-loops [] = refl
crossings_of-loops (name ∷ names) = crossings_of-loops names

loops-loops : (names : List ℕ) → length (filter is_loop_item (map loop_item names)) ≡ length names
loops-loops [] = refl
loops-loops (name ∷ names) = ap suc (loops-loops names)

-- the crossings among the items of a code are the code's, and so many are the loops
crossings_of-items : (crossings : List (List ℕ)) (names : List ℕ) → AllByRecursion HasFourSlots crossings → crossings_among (map crossing_item crossings ++ map loop_item names) ≡ crossings
crossings_of-items [] names four = crossings_of-loops names
crossings_of-items (arcs ∷ crossings) names four =
    ap (λ first. cons_option first (crossings_among (map crossing_item crossings ++ map loop_item names))) (slots_of_item-crossing arcs four.0)
    ∙ ap (λ others. arcs ∷ others) (crossings_of-items crossings names four.1)

loops-items : (crossings : List (List ℕ)) (names : List ℕ) → length (filter is_loop_item (map crossing_item crossings ++ map loop_item names)) ≡ length names
loops-items [] names = loops-loops names
loops-items (arcs ∷ crossings) names = loops-items crossings names

-- a code by its parts
abbrev made : ℕ → List (List ℕ) → Code
made loops crossings = record { crossings = crossings; loops = loops }

-- a text that spells the items of a code reads as the code
reads-spelled : (text : List ℕ) (code : Code) → AllByRecursion HasFourSlots code.crossings → length code.crossings ≤ CROSSINGS
    → code.loops ≤ LOOPS → Spells text (items_of_code code) → IsPdReading text (Ok code)
reads-spelled text code four few few_loops is_spelled = record {
  items = items_of_code code;
  pd_spelled = is_spelled;
  crossings = rw same_crossings few;
  loops = rw same_loops few_loops;
  same = ap (made code.loops) (sym same_crossings) ∙ ap (λ n. made n (crossings_among (items_of_code code))) (sym same_loops);
}
  where
    same_crossings : crossings_among (items_of_code code) ≡ code.crossings
    same_crossings = crossings_of-items code.crossings (loop_names code) four

    same_loops : loop_item_count (items_of_code code) ≡ code.loops
    same_loops = sym (length-filter is_loop_item (items_of_code code)) ∙ loops-items code.crossings (loop_names code)
        ∙ length-range_with_len (arc_count code.crossings + 1) code.loops

-- the text of a code is written by their symbols
written-pd_text : (code : Code) → AllByRecursion HasFourSlots code.crossings → length code.crossings ≤ CROSSINGS → code.loops ≤ LOOPS
    → IsWritten (pd_text code) (pd_spelled (items_of_code code))
written-pd_text code four few few_loops =
    written-text_of_items (items_of_code code)
    (small_crossings code.crossings (map loop_item (loop_names code)) four
    (small_loops (arc_count code.crossings + 1) code.loops (omega (arith, few, few_loops))))

-- the text of a code reads as the code
pub IsPdReading-pd_text : (code : Code) → All HasFourSlots code.crossings → length code.crossings ≤ CROSSINGS → code.loops ≤ LOOPS → IsPdReading (pd_text code) (Ok code)
IsPdReading-pd_text code all few few_loops =
    let four = recursion_from_All HasFourSlots code.crossings all in
    reads-spelled (pd_text code) code four few few_loops
    (Means-written (pd_text code) (pd_spelled (items_of_code code)) (written-pd_text code four few few_loops))

-- and so does a line of it
pub IsPdReading-line : (code : Code) → All HasFourSlots code.crossings → length code.crossings ≤ CROSSINGS → code.loops ≤ LOOPS → IsPdReading (with_feed (pd_text code)) (Ok code)
IsPdReading-line code all few few_loops =
    let four = recursion_from_All HasFourSlots code.crossings all in
    reads-spelled (with_feed (pd_text code)) code four few few_loops
    (Means-line (pd_text code) (pd_spelled (items_of_code code)) (written-pd_text code four few few_loops))
