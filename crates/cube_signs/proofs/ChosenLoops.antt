-- Lists on their way to their images, element by element, and the steps of the loops over chosen generators.
use Rattle.std.proofs.lemmas.Bool.Decides.{nat_tests}
use Rattle.std.proofs.Common.{◌≡◌, ℕ, ◌+◌, ◌<◌, ◌≤◌, ◌∙◌, refl, List, [], ◌++◌, length, get_or, map, take, take_all, drop, sym, ap, ap₂, subst, arith, Bool, cond, ℤ, pos, neg_ℤ, ◌+ℤ◌, ◌-ℤ◌}
use Rattle.std.specs.List.{All}
use Rattle.std.specs.Global.{Vec}
use Rattle.std.proofs.Math.ListN.{set}
use Rattle.std.proofs.lemmas.List.{append-nil, drop_all, get_or-map, get_or_default, length-append, length-drop, length-map, length-take, map-set}
use Rattle.std.proofs.lemmas.List.Edits.{map_over_more}
use Rattle.std.proofs.lemmas.List.Elements.{All-filter}
use Rattle.std.proofs.lemmas.List.Filters.{length-filter_more}
use Rattle.std.proofs.lemmas.List.FromFn.{get_or-map-range_with_len, length-map-range_with_len}
use Rattle.smallvec.specs.SmallVec.{SmallVec}
use Rattle.kh_types.specs.Code.{Code}
use Rattle.kh_types.specs.Generators.{Generator, generators_at}
use Rattle.sparse_block.specs.Entries.{Entry}
use Rattle.sparse_block.specs.Inside.{entries_in, lists_in}
use Rattle.cube_signs.specs.Chosen.{chosen_at, chosen_before}
use Rattle.cube_signs.specs.ChosenParts.{chosen_to}
use Rattle.cube_signs.specs.Columns.{IsTail}
use Rattle.cube_signs.proofs.BlockLemmas.{are-tails}
use Rattle.cube_signs.proofs.ChosenBlocks.{degree-turned}

pub mapped-whole : {X : Type 0} (f : X → X) (xs ys : List X) (i : ℕ) → ys ≡ map f (take i xs) ++ drop i xs → length xs ≤ i
    → ys ≡ map f xs
mapped-whole {X} f xs ys i is all =
    is ∙ ap₂ (λ (front back : List X). map f front ++ back) (take_all i xs all) (drop_all i xs all) ∙ append-nil (map f xs)

same_length : {X : Type 0} (f : X → X) (xs ys : List X) (i : ℕ) → i < length xs → ys ≡ map f (take i xs) ++ drop i xs
    → length ys ≡ length xs
same_length f xs ys i below is = grind (arith, nat_tests, length-append, length-map, length-take, length-drop)

pub mapped-more : {X : Type 0} (f : X → X) (xs ys : List X) (i : ℕ) (y d : X) → i < length xs → ys ≡ map f (take i xs) ++ drop i xs
    → y ≡ f (get_or ys i d) → set ys i y ≡ map f (take (i + 1) xs) ++ drop (i + 1) xs
mapped-more f xs ys i y d below is_ys is_y = grind (arith, nat_tests, same_length, set, map_over_more, get_or_default)

-- the same of lines in memory, by their entries
pub lines-more : (g : List Entry → List Entry) (xs ys : List (SmallVec Entry)) (i : ℕ) (item changed : SmallVec Entry)
    → i < length xs → entries_in ys ≡ map g (take i (entries_in xs)) ++ drop i (entries_in xs) → item ≡ get_or ys i item
    → changed.items ≡ g item.items
    → entries_in (set ys i changed) ≡ map g (take (i + 1) (entries_in xs)) ++ drop (i + 1) (entries_in xs)
lines-more g xs ys i item changed below is is_item is_changed =
    let lines : SmallVec Entry → List Entry = λ line. line.items in
    let within : i < length (entries_in xs) = omega (arith, below, length-map xs lines) in
    let size = same_length g (entries_in xs) (entries_in ys) i within is in
    let there : get_or (entries_in ys) i [] ≡ item.items =
    get_or-map lines ys i item [] (omega (arith, within, size, length-map ys lines)) ∙ ap lines (sym is_item) in
    map-set lines ys i changed
    ∙ mapped-more g (entries_in xs) (entries_in ys) i changed.items [] within is (is_changed ∙ ap g (sym there))

-- one generator more
pub before-count : (q : Generator → Bool) (xs : List Generator) (k count next : ℕ) (is_chosen : Bool) (name : Generator)
    → count ≡ chosen_before q xs k → k < length xs → name ≡ get_or xs k name → is_chosen ≡ q name → next ≡ count + cond is_chosen 1 0
    → next ≡ chosen_before q xs (k + 1)
before-count q xs k count next is_chosen name is_count below is_name is_test is_next = grind (arith, nat_tests, length-filter_more)

-- the chosen generators of each degree in memory
pub length-chosen : (choice : Generator → Bool) (code : Code) (j : ℤ) (count : ℕ) (names : List (Vec Generator))
    → lists_in names ≡ chosen_to choice code j count → length names ≡ count
length-chosen choice code j count names is = grind (arith, nat_tests, length-map, length-map-range_with_len)

pub chosen-names : (choice : Generator → Bool) (code : Code) (j : ℤ) (count k : ℕ) (names : List (Vec Generator))
    (degree : Vec Generator) → lists_in names ≡ chosen_to choice code j count → k < count → degree ≡ get_or names k degree
    → degree.items ≡ chosen_at choice code (pos k -ℤ pos (length code.crossings)) j
chosen-names choice code j count k names degree are below is =
    let items : Vec Generator → List Generator = λ v. v.items in
    let within : k < length names = omega (arith, below, length-chosen choice code j count names are) in
    ap items is ∙ sym (get_or-map items names k degree [] within) ∙ ap (λ (xs : List (List Generator)). get_or xs k []) are
    ∙ get_or-map-range_with_len (λ m. chosen_at choice code (pos m -ℤ pos (length code.crossings)) j) 0 count k k [] below (omega arith)

pub chosen-tails : (choice : Generator → Bool) (code : Code) (low i j other : ℤ) (k : ℕ) (names : List Generator)
    → low ≡ neg_ℤ (pos (length code.crossings)) → i ≡ low +ℤ pos k → other ≡ j
    → names ≡ chosen_at choice code (pos k -ℤ pos (length code.crossings)) j → All (IsTail code i other) names
chosen-tails choice code low i j other k names is_low is_i is_j is =
    let all = generators_at code i other in
    let same : names ≡ chosen_at choice code i other =
    is ∙ sym (ap₂ (chosen_at choice code) (degree-turned (length code.crossings) k low i is_low is_i) is_j) in
    subst (λ (xs : List Generator). All (IsTail code i other) xs) (sym same)
    (All-filter choice (IsTail code i other) all (are-tails code i other all refl))
