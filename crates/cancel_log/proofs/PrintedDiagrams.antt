-- The text of a diagram is one line, which is not long.
use Rattle.std.proofs.Common.{◌≡◌, ℕ, zero, suc, ◌+◌, ◌*◌, ◌-◌, ◌<◌, ◌≤◌, ◌∙◌, List, [], ◌∷◌, ◌++◌, length, map, get_or, ℤ, pos, negsuc, IsTrue, refl, ap, arith, codes}
use Rattle.std.specs.Prelude.{All, unsigned_abs}
use Rattle.std.specs.Fmt.{signed_decimal}
use Rattle.std.specs.List.{AllByRecursion, flat_map, range_with_len}
use Rattle.std.proofs.lemmas.Fmt.{length-decimal-le}
use Rattle.std.proofs.lemmas.List.{get_or_default, length-append, length-map}
use Rattle.std.proofs.lemmas.List.Elements.{recursion_from_All}
use Rattle.std.proofs.lemmas.List.FromFn.{length-range_with_len}
use Rattle.kh_types.specs.Acceptance.{accepted}
use Rattle.kh_types.specs.Code.{Code, arc_count, arc_in}
use Rattle.kh_types.specs.declared.limits.TheConstants.{CROSSINGS, INPUT_BYTES, LOOPS}
use Rattle.kh_types.proofs.AcceptedCodes.{accepted_arcs}
use Rattle.kh_lex.specs.Lines.{HasNoLineFeed}
use Rattle.pd_code.specs.declared.item.Item.{Item}
use Rattle.pd_code.specs.declared.item.Item.TheVariants.{Crossing, Loop}
use Rattle.pd_code.specs.Printing.{crossing_item, item_text, items_of_code, listed_text, loop_item, loop_names, next_text, pd_text, text_of_items}
use Rattle.cancel_log.proofs.FeedLemmas.{AreNoFeeds, HasNoLineFeed-bytes, no_feeds-append, no_feeds-signed}

-- the numbers of an item have no more than three digits
abbrev IsSmallItem : Item → Type 0
IsSmallItem (Crossing i j k l) = (unsigned_abs i < 1000) × (unsigned_abs j < 1000) × (unsigned_abs k < 1000) × (unsigned_abs l < 1000)
IsSmallItem (Loop n) = unsigned_abs n < 1000

pub length-signed : (z : ℤ) → unsigned_abs z < 1000 → length (signed_decimal z) ≤ 4
length-signed (pos n) small = omega (arith, length-decimal-le 3 n (omega arith) (omega (arith, small)) (omega (arith, small)))
length-signed (negsuc n) small = omega (arith, length-decimal-le 3 (suc n) (omega arith) (omega (arith, small)) (omega (arith, small)))

-- a text has no more than so many bytes, and none of them is a line feed
pub record IsShortText (text : List ℕ) (most : ℕ) : Type 0 where
  pub few : length text ≤ most
  pub whole : AreNoFeeds text

short-append : (xs ys : List ℕ) (m n : ℕ) → IsShortText xs m → IsShortText ys n → IsShortText (xs ++ ys) (m + n)
short-append xs ys m n first second = record {
  few = omega (arith, first.few, second.few, length-append xs ys);
  whole = no_feeds-append xs ys first.whole second.whole;
}

short-number : (z : ℤ) → unsigned_abs z < 1000 → IsShortText (signed_decimal z) 4
short-number z small = record { few = length-signed z small; whole = no_feeds-signed z (omega (arith, small)) }

short-comma : IsShortText (codes ", ") 2
short-comma = record { few = omega arith; whole = (refl, (refl, tt)) }

short-end : IsShortText (codes "]") 1
short-end = record { few = omega arith; whole = (refl, tt) }

short-item : (item : Item) → IsSmallItem item → IsShortText (item_text item) 25
short-item (Crossing i j k l) small =
    short-append (codes "X[")
    (signed_decimal i ++ (codes ", " ++ (signed_decimal j ++ (codes ", " ++ (signed_decimal k ++ (codes ", " ++ (signed_decimal l ++ codes "]")))))))
    2 23 (record { few = omega arith; whole = (refl, (refl, tt)) })
    (short-append (signed_decimal i)
    (codes ", " ++ (signed_decimal j ++ (codes ", " ++ (signed_decimal k ++ (codes ", " ++ (signed_decimal l ++ codes "]")))))) 4 19
    (short-number i small.0)
    (short-append (codes ", ") (signed_decimal j ++ (codes ", " ++ (signed_decimal k ++ (codes ", " ++ (signed_decimal l ++ codes "]"))))) 2 17
    short-comma
    (short-append (signed_decimal j) (codes ", " ++ (signed_decimal k ++ (codes ", " ++ (signed_decimal l ++ codes "]")))) 4 13
    (short-number j small.1)
    (short-append (codes ", ") (signed_decimal k ++ (codes ", " ++ (signed_decimal l ++ codes "]"))) 2 11 short-comma
    (short-append (signed_decimal k) (codes ", " ++ (signed_decimal l ++ codes "]")) 4 7 (short-number k small.2)
    (short-append (codes ", ") (signed_decimal l ++ codes "]") 2 5 short-comma
    (short-append (signed_decimal l) (codes "]") 4 1 (short-number l small.3) short-end)))))))
short-item (Loop n) small =
    let text = short-append (codes "Loop[") (signed_decimal n ++ codes "]") 5 5
    (record { few = omega arith; whole = (refl, (refl, (refl, (refl, (refl, tt))))) })
    (short-append (signed_decimal n) (codes "]") 4 1 (short-number n small) short-end) in
    record { few = omega (arith, text.few); whole = text.whole }

short-others : (items : List Item) → AllByRecursion IsSmallItem items → IsShortText (flat_map next_text items) (27 * length items)
short-others [] small = record { few = omega arith; whole = tt }
short-others (item ∷ items) (one, small) =
    let first = short-append (codes ", ") (item_text item) 2 25 short-comma (short-item item one) in
    let both = short-append (next_text item) (flat_map next_text items) 27 (27 * length items) first (short-others items small) in
    record { few = omega (arith, both.few); whole = both.whole }

short-listed : (items : List Item) → AllByRecursion IsSmallItem items → IsShortText (listed_text items) (27 * length items)
short-listed [] small = record { few = omega arith; whole = tt }
short-listed (item ∷ items) (one, small) =
    let both = short-append (item_text item) (flat_map next_text items) 25 (27 * length items) (short-item item one) (short-others items small) in
    record { few = omega (arith, both.few); whole = both.whole }

short-items : (items : List Item) → AllByRecursion IsSmallItem items → IsShortText (text_of_items items) (27 * length items + 4)
short-items items small =
    let both = short-append (codes "PD[") (listed_text items ++ codes "]") 3 (27 * length items + 1)
    (record { few = omega arith; whole = (refl, (refl, (refl, tt))) })
    (short-append (listed_text items) (codes "]") (27 * length items) 1 (short-listed items small) short-end) in
    record { few = omega (arith, both.few); whole = both.whole }

-- the items of a code

small-loops : (first count : ℕ) → first + count ≤ 1000 → AllByRecursion IsSmallItem (map loop_item (range_with_len first count))
small-loops first zero few = tt
small-loops first (suc count) few = (omega (arith, few), small-loops (first + 1) count (omega (arith, few)))

AreSmall : List ℕ → Type 0
AreSmall slots = (slot : ℕ) → slot < 4 → arc_in slots slot < 1000

small-crossings : (crossings : List (List ℕ)) (others : List Item) → AllByRecursion AreSmall crossings → AllByRecursion IsSmallItem others
    → AllByRecursion IsSmallItem (map crossing_item crossings ++ others)
unfolding AreSmall
small-crossings [] others small rest = rest
small-crossings (slots ∷ crossings) others (one, small) rest = (
  (
    omega (arith, one 0 (omega arith)),
    omega (arith, one 1 (omega arith)),
    omega (arith, one 2 (omega arith)),
    omega (arith, one 3 (omega arith)),
  ),
  small-crossings crossings others small rest,
)

-- the arcs of an accepted code
small-arcs : (code : Code) → IsTrue (accepted code) → length code.crossings ≤ CROSSINGS → All AreSmall code.crossings
unfolding AreSmall
small-arcs code is few = λ k d below slot within.
    let same : get_or code.crossings (k + 1 - 1) [] ≡ get_or code.crossings k d =
    ap (λ (n : ℕ). get_or code.crossings n []) (omega arith) ∙ get_or_default code.crossings k [] d below in
    let arc = accepted_arcs code (record { crossing = k + 1; slot = slot }) is
    (record { crossing = record { positive = omega arith; within = omega (arith, below) }; slot = within }) in
    omega (arith, arc.within, few, ap (λ (slots : List ℕ). arc_in slots slot) same)

-- 27 bytes for each crossing and each loop, and 4 more
pub short-text : (code : Code) → IsTrue (accepted code) → length code.crossings ≤ CROSSINGS → code.loops ≤ LOOPS
    → IsShortText (pd_text code) (27 * (length code.crossings + code.loops) + 4)
short-text code is few loops =
    let items = items_of_code code in
    let small = small-crossings code.crossings (map loop_item (loop_names code))
    (recursion_from_All AreSmall code.crossings (small-arcs code is few))
    (small-loops (arc_count code.crossings + 1) code.loops (omega (arith, few, loops))) in
    let count : length items ≡ length code.crossings + code.loops =
    omega (
      arith,
      length-append (map crossing_item code.crossings) (map loop_item (loop_names code)),
      length-map code.crossings crossing_item,
      length-map (loop_names code) loop_item,
      length-range_with_len (arc_count code.crossings + 1) code.loops,
    ) in
    let text = short-items items small in
    record { few = omega (arith, text.few, count); whole = text.whole }

pub short-diagram : (code : Code) → IsTrue (accepted code) → length code.crossings ≤ CROSSINGS → code.loops ≤ LOOPS
    → (length (pd_text code) ≤ INPUT_BYTES) × HasNoLineFeed (pd_text code)
short-diagram code is few loops =
    let text = short-text code is few loops in
    (omega (arith, text.few, few, loops), HasNoLineFeed-bytes (pd_text code) text.whole)
