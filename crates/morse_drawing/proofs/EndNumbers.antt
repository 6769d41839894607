-- The row of open ends, and the same by numbers alone. An end at a dart has the dart's place as its label, and an end on a line
-- the line's number, behind all places of darts; a dart whose other is not known has the number of all darts. As long as all
-- darts are of crossings up to the limit, two ends are the same exactly where their labels are. So it comes to the same to rename
-- an end or its label, to look for a line that is free, to tie two ends, and to end two strands in a cup. Hence a cap, a cup and
-- a cross do by numbers what they do in the row, and all darts stay within the limit. Last, the pairs of darts that are found are
-- the same by numbers. Lists whose members are all of one kind come first.
use Rattle.std.proofs.Common.{◌≡◌, ℕ, zero, suc, ◌+◌, ◌-◌, ◌*◌, ◌<◌, ◌≤◌, ◌∙◌, List, [], ◌∷◌, length, map, get_or, set, take, drop, sym, ap, ap₂, refl, arith, Bool, true, false, cond, not}
use Rattle.std.specs.Prelude.{◌&&◌, nat_eq, nat_le, nat_lt, unwrap_or, Option, Some, None}
use Rattle.std.specs.List.{AllByRecursion, filter, find, insert, list_any, range_with_len, remove}
use Rattle.std.proofs.lemmas.Bool.{both_ways}
use Rattle.std.proofs.lemmas.Bool.Decides.{nat_tests}
use Rattle.std.proofs.lemmas.List.{drop-map, get_or-map, length-map, map-append, map-set, take-map}
use Rattle.kh_types.proofs.Lists.{AllByRecursion-append, filter-range_agree, map-remove}
use Rattle.morse_drawing.specs.OpenEnds.{OpenEnds, after_slice, cup_tied, end_at, found_ends, found_pair, has_later, is_free, is_later, is_same_end, one_loop_more, other_of, pairs_before, renamed, tied, unused, without_two}
use Rattle.morse_drawing.specs.Joins.{ends_of, pair_with}
use Rattle.morse_drawing.specs.Pages.{is_in}
use Rattle.morse_drawing.specs.Sketches.{dart_after}
use Rattle.morse_drawing.specs.declared.end.End.{End}
use Rattle.morse_drawing.specs.declared.end.End.TheVariants.{AtDart, OnLine}
use Rattle.morse_drawing.specs.declared.slice.Slice.TheVariants.{Cap, Cup, Cross}
use Rattle.morse_drawing.proofs.NumberedEnds.{NumberedEnds, relabelled, after_slice as after_number, cup_tied as cup_numbers, found_pair as pair_number, has_later as later_number, tied as tied_numbers, unused as unused_number}

-- the label of an end: the place of its dart, or behind all places the number of its line
abbrev pub label : ℕ → End → ℕ
label limit (AtDart dart) = dart
label limit (OnLine line) = 4 * limit + line

-- the place of another dart, or the number of all darts
abbrev pub other_number : ℕ → Option ℕ → ℕ
other_number limit None = 4 * limit
other_number limit (Some other) = other

-- the row by numbers
abbrev pub numbered : ℕ → OpenEnds → NumberedEnds
numbered limit s =
    record { row = map (label limit) s.row; others = map (other_number limit) s.others; drawn = s.drawn; loops = s.loops }

-- an end, and another dart, are of the darts of the crossings up to the limit
abbrev pub IsEnd : ℕ → End → Type 0
IsEnd limit (AtDart dart) = dart < 4 * limit
IsEnd limit (OnLine line) = Unit {0}

abbrev pub IsOther : ℕ → Option ℕ → Type 0
IsOther limit None = Unit {0}
IsOther limit (Some other) = other < 4 * limit

pub record AreEnds (limit : ℕ) (s : OpenEnds) : Type 0 where
  pub row : AllByRecursion (IsEnd limit) s.row
  pub others : AllByRecursion (IsOther limit) s.others

-- lists of which all are of a kind
all_take : {X : Type 0} (P : X → Type 0) (k : ℕ) (xs : List X) → AllByRecursion P xs → AllByRecursion P (take k xs)
all_take P zero [] all = tt
all_take P zero (x ∷ xs) all = tt
all_take P (suc k) [] all = tt
all_take P (suc k) (x ∷ xs) all = (all.0, all_take P k xs all.1)

all_drop : {X : Type 0} (P : X → Type 0) (k : ℕ) (xs : List X) → AllByRecursion P xs → AllByRecursion P (drop k xs)
all_drop P zero [] all = tt
all_drop P zero (x ∷ xs) all = all
all_drop P (suc k) [] all = tt
all_drop P (suc k) (x ∷ xs) all = all_drop P k xs all.1

all_insert : {X : Type 0} (P : X → Type 0) (k : ℕ) (x : X) (xs : List X) → P x → AllByRecursion P xs → AllByRecursion P (insert xs k x)
all_insert P k x xs one all = AllByRecursion-append P (take k xs) (x ∷ drop k xs) (all_take P k xs all) (one, all_drop P k xs all)

all_remove : {X : Type 0} (P : X → Type 0) (k : ℕ) (xs : List X) → AllByRecursion P xs → AllByRecursion P (remove xs k)
all_remove P k xs all = AllByRecursion-append P (take k xs) (drop (suc k) xs) (all_take P k xs all) (all_drop P (suc k) xs all)

all_set : {X : Type 0} (P : X → Type 0) (k : ℕ) (x : X) (xs : List X) → P x → AllByRecursion P xs → AllByRecursion P (set xs k x)
all_set P zero x [] one all = tt
all_set P zero x (y ∷ ys) one all = (one, all.1)
all_set P (suc k) x [] one all = tt
all_set P (suc k) x (y ∷ ys) one all = (all.0, all_set P k x ys one all.1)

pub all_at : {X : Type 0} (P : X → Type 0) (k : ℕ) (d : X) (xs : List X) → k < length xs → AllByRecursion P xs → P (get_or xs k d)
all_at P k d [] below all = absurd (omega (arith, below))
all_at P zero d (x ∷ xs) below all = all.0
all_at P (suc k) d (x ∷ xs) below all = all_at P k d xs (omega (arith, below)) all.1

map-insert : {X Y : Type 0} (f : X → Y) (xs : List X) (k : ℕ) (x : X) → map f (insert xs k x) ≡ insert (map f xs) k (f x)
map-insert {X} {Y} f xs k x = grind (arith, nat_tests, map-append f (take k xs) (x ∷ drop k xs), take-map f k xs, drop-map f k xs)

-- ends are one where their labels are
same-label : (limit : ℕ) (a b : End) → IsEnd limit a → IsEnd limit b → nat_eq (label limit a) (label limit b) ≡ is_same_end a b
same-label limit a b one two = grind (arith, nat_tests)

label-renamed : (limit : ℕ) (old new end : End) → IsEnd limit old → IsEnd limit end
    → relabelled (label limit old) (label limit new) (label limit end) ≡ label limit (renamed old new end)
label-renamed limit old new end one two = grind (arith, nat_tests)

map-renamed : (limit : ℕ) (old new : End) (row : List End) → IsEnd limit old → AllByRecursion (IsEnd limit) row
    → map (relabelled (label limit old) (label limit new)) (map (label limit) row) ≡ map (label limit) (map (renamed old new) row)
map-renamed limit old new [] one all = refl
map-renamed limit old new (end ∷ row) one all =
    ap₂ (λ (x : ℕ) xs. x ∷ xs) (label-renamed limit old new end one all.0) (map-renamed limit old new row one all.1)

IsEnd-cond : (limit : ℕ) (b : Bool) (x y : End) → IsEnd limit x → IsEnd limit y → IsEnd limit (cond b x y)
IsEnd-cond limit b x y one two = grind (arith, nat_tests)

all_renamed : (limit : ℕ) (old new : End) (row : List End) → IsEnd limit new → AllByRecursion (IsEnd limit) row
    → AllByRecursion (IsEnd limit) (map (renamed old new) row)
all_renamed limit old new [] one all = tt
all_renamed limit old new (end ∷ row) one all =
    (IsEnd-cond limit (is_same_end end old) new end one all.0, all_renamed limit old new row one all.1)

-- the same line is free
any-label : (limit line : ℕ) (row : List End) → AllByRecursion (IsEnd limit) row
    → is_in (map (label limit) row) (4 * limit + line) ≡ list_any (is_same_end (OnLine line)) row
any-label limit line [] all = refl
any-label limit line (end ∷ row) all = grind (arith, nat_tests, same-label limit (OnLine line) end tt all.0, any-label limit line row all.1)

find-alike : (p q : ℕ → Bool) (xs : List ℕ) → ((x : ℕ) → p x ≡ q x) → find p xs ≡ find q xs
find-alike p q [] alike = refl
find-alike p q (x ∷ xs) alike = ap₂ (λ (b : Bool) (o : Option ℕ). cond b (Some x) o) (alike x) (find-alike p q xs alike)

label-unused : (limit : ℕ) (row : List End) → AllByRecursion (IsEnd limit) row
    → unused_number limit (map (label limit) row) ≡ label limit (OnLine (unused row))
label-unused limit row all =
    ap (λ (o : Option ℕ). 4 * limit + unwrap_or o 0)
    (find-alike (λ line. not (is_in (map (label limit) row) (4 * limit + line))) (is_free row) (range_with_len 0 64)
    (λ line. ap not (any-label limit line row all)))

-- a row with other ends, and with other darts found
abbrev made : NumberedEnds → List ℕ → List ℕ → NumberedEnds
made s row others = record { row = row; others = others; drawn = s.drawn; loops = s.loops }

late : (limit line : ℕ) → nat_le (4 * limit) (4 * limit + line) ≡ true
late limit line = grind (arith, nat_tests)

early : (limit dart : ℕ) → dart < 4 * limit → nat_le (4 * limit) dart ≡ false
early limit dart below = grind (arith, nat_tests)

tied-numbers : (limit : ℕ) (s : OpenEnds) (first second : End) → AreEnds limit s → IsEnd limit first → IsEnd limit second
    → tied_numbers limit (numbered limit s) (label limit first) (label limit second) ≡ numbered limit (tied s first second)
tied-numbers limit s (OnLine line) second are one two =
    let t = numbered limit s in
    let u = 4 * limit + line in
    let v = label limit second in
    ap (λ b. cond b (made t (map (relabelled u v) t.row) t.others) (cond (nat_le (4 * limit) v)
    (made t (map (relabelled v u) t.row) t.others) (made t t.row (set (set t.others u v) v u)))) (late limit line)
    ∙ ap (λ row. made t row t.others) (map-renamed limit (OnLine line) second s.row tt are.row)
tied-numbers limit s (AtDart dart) (OnLine line) are one two =
    let t = numbered limit s in
    let v = 4 * limit + line in
    ap (λ b. cond b (made t (map (relabelled dart v) t.row) t.others) (cond (nat_le (4 * limit) v)
    (made t (map (relabelled v dart) t.row) t.others) (made t t.row (set (set t.others dart v) v dart)))) (early limit dart one)
    ∙ ap (λ b. cond b (made t (map (relabelled v dart) t.row) t.others) (made t t.row (set (set t.others dart v) v dart))) (late limit line)
    ∙ ap (λ row. made t row t.others) (map-renamed limit (OnLine line) (AtDart dart) s.row tt are.row)
tied-numbers limit s (AtDart dart) (AtDart other) are one two =
    let t = numbered limit s in
    ap (λ b. cond b (made t (map (relabelled dart other) t.row) t.others) (cond (nat_le (4 * limit) other)
    (made t (map (relabelled other dart) t.row) t.others) (made t t.row (set (set t.others dart other) other dart)))) (early limit dart one)
    ∙ ap (λ b. cond b (made t (map (relabelled other dart) t.row) t.others) (made t t.row (set (set t.others dart other) other dart)))
    (early limit other two)
    ∙ ap (λ others. made t t.row others)
    (ap (λ xs. set xs other dart) (sym (map-set (other_number limit) s.others dart (Some other)))
    ∙ sym (map-set (other_number limit) (set s.others dart (Some other)) other (Some dart)))

AreEnds-tied : (limit : ℕ) (s : OpenEnds) (first second : End) → AreEnds limit s → IsEnd limit first → IsEnd limit second
    → AreEnds limit (tied s first second)
AreEnds-tied limit s (OnLine line) second are one two =
    record { row = all_renamed limit (OnLine line) second s.row two are.row; others = are.others }
AreEnds-tied limit s (AtDart dart) (OnLine line) are one two =
    record { row = all_renamed limit (OnLine line) (AtDart dart) s.row one are.row; others = are.others }
AreEnds-tied limit s (AtDart dart) (AtDart other) are one two = record {
  row = are.row;
  others = all_set (IsOther limit) other (Some dart) (set s.others dart (Some other)) one
      (all_set (IsOther limit) dart (Some other) s.others two are.others);
}

length-tied : (s : OpenEnds) (first second : End) → length (tied s first second).row ≡ length s.row
length-tied s (OnLine line) second = length-map s.row (renamed (OnLine line) second)
length-tied s (AtDart dart) (OnLine line) = length-map s.row (renamed (OnLine line) (AtDart dart))
length-tied s (AtDart dart) (AtDart other) = refl

cup-numbers : (limit : ℕ) (s : OpenEnds) (first second : End) → AreEnds limit s → IsEnd limit first → IsEnd limit second
    → cup_numbers limit (numbered limit s) (label limit first) (label limit second) ≡ numbered limit (cup_tied s first second)
cup-numbers limit s first second are one two =
    let t = numbered limit s in
    let more = made_loop t in
    ap (λ b. cond b more (tied_numbers limit t (label limit first) (label limit second))) (same-label limit first second one two)
    ∙ ap (λ u. cond (is_same_end first second) more u) (tied-numbers limit s first second are one two)
    ∙ by_case (is_same_end first second)
  where
    made_loop : NumberedEnds → NumberedEnds
    made_loop t = record { row = t.row; others = t.others; drawn = t.drawn; loops = t.loops + 1 }

    by_case : (b : Bool) → cond b (made_loop (numbered limit s)) (numbered limit (tied s first second))
        ≡ numbered limit (cond b (one_loop_more s) (tied s first second))
    by_case true = refl
    by_case false = refl

AreEnds-cup : (limit : ℕ) (s : OpenEnds) (first second : End) → AreEnds limit s → IsEnd limit first → IsEnd limit second
    → AreEnds limit (cup_tied s first second)
AreEnds-cup limit s first second are one two = by_case (is_same_end first second)
  where
    by_case : (b : Bool) → AreEnds limit (cond b (one_loop_more s) (tied s first second))
    by_case true = record { row = are.row; others = are.others }
    by_case false = AreEnds-tied limit s first second are one two

label-at : (limit : ℕ) (row : List End) (place : ℕ) → place < length row
    → get_or (map (label limit) row) place 0 ≡ label limit (end_at row place)
label-at limit row place within = get_or-map (label limit) row place (AtDart 0) 0 within

-- what a slice does, by numbers
pub record IsNumbered (limit : ℕ) (s next : OpenEnds) (after : NumberedEnds) : Type 0 where
  pub same : after ≡ numbered limit next
  pub are : AreEnds limit next

pub IsNumbered-cap : (limit : ℕ) (s : OpenEnds) (at : ℕ) → AreEnds limit s
    → IsNumbered limit s (after_slice s (Cap at)) (after_number limit (numbered limit s) (Cap at))
IsNumbered-cap limit s at are =
    let place = at - 1 in
    let line = OnLine (unused s.row) in
    let row = map (label limit) s.row in
    let t = numbered limit s in
    record {
      same = ap (λ l. made t (insert (insert row place l) place l) t.others) (label-unused limit s.row are.row)
          ∙ ap (λ xs. made t xs t.others)
          (ap (λ xs. insert xs place (label limit line)) (sym (map-insert (label limit) s.row place line))
          ∙ sym (map-insert (label limit) (insert s.row place line) place line));
      are = record {
        row = all_insert (IsEnd limit) place line (insert s.row place line) tt (all_insert (IsEnd limit) place line s.row tt are.row);
        others = are.others;
      };
    }

AreEnds-without : (limit : ℕ) (s : OpenEnds) (place : ℕ) → AreEnds limit s → AreEnds limit (without_two s place)
AreEnds-without limit s place are = record {
  row = all_remove (IsEnd limit) place (remove s.row place) (all_remove (IsEnd limit) place s.row are.row);
  others = are.others;
}

pub IsNumbered-cup : (limit : ℕ) (s : OpenEnds) (at : ℕ) → at - 1 + 1 < length s.row → AreEnds limit s
    → IsNumbered limit s (after_slice s (Cup at)) (after_number limit (numbered limit s) (Cup at))
IsNumbered-cup limit s at within are =
    let place = at - 1 in
    let t = numbered limit s in
    let first = end_at s.row place in
    let second = end_at s.row (place + 1) in
    let one = all_at (IsEnd limit) place (AtDart 0) s.row (omega (arith, within)) are.row in
    let two = all_at (IsEnd limit) (place + 1) (AtDart 0) s.row within are.row in
    let short = AreEnds-without limit s place are in
    record {
      same = ap (λ xs. cup_numbers limit (made t xs t.others) (get_or t.row place 0) (get_or t.row (place + 1) 0))
          (ap (λ xs. remove xs place) (sym (map-remove (label limit) s.row place))
          ∙ sym (map-remove (label limit) (remove s.row place) place))
          ∙ ap₂ (cup_numbers limit (numbered limit (without_two s place)))
          (label-at limit s.row place (omega (arith, within))) (label-at limit s.row (place + 1) within)
          ∙ cup-numbers limit (without_two s place) first second short one two;
      are = AreEnds-cup limit (without_two s place) first second short one two;
    }

pub IsNumbered-cross : (limit : ℕ) (s : OpenEnds) (at crossing slot : ℕ) → at - 1 + 1 < length s.row → 1 ≤ crossing → crossing ≤ limit
    → slot < 4 → AreEnds limit s
    → IsNumbered limit s (after_slice s (Cross at crossing slot)) (after_number limit (numbered limit s) (Cross at crossing slot))
IsNumbered-cross limit s at crossing slot within from last small are = record {
  same = ap (λ l. finished (tied_numbers limit t l d0)) (label-at limit s.row place (omega (arith, within)))
      ∙ ap finished (tied-numbers limit s first (AtDart d0) are one (dart-below 0))
      ∙ ap (λ l. ended (tied_numbers limit (numbered limit left) l d3)) (label-at limit left.row (place + 1) left_within)
      ∙ ap ended (tied-numbers limit left second (AtDart d3) left_are two (dart-below 3))
      ∙ ap crossed
      (ap (λ xs. set xs (place + 1) d2) (sym (map-set (label limit) both.row place (AtDart d1)))
      ∙ sym (map-set (label limit) (set both.row place (AtDart d1)) (place + 1) (AtDart d2)));
  are = record {
    row = all_set (IsEnd limit) (place + 1) (AtDart d2) (set both.row place (AtDart d1)) (dart-below 2)
        (all_set (IsEnd limit) place (AtDart d1) both.row (dart-below 1) both_are.row);
    others = both_are.others;
  };
}
  where
    place : ℕ
    place = at - 1

    d0 : ℕ
    d0 = dart_after crossing slot 0

    d1 : ℕ
    d1 = dart_after crossing slot 1

    d2 : ℕ
    d2 = dart_after crossing slot 2

    d3 : ℕ
    d3 = dart_after crossing slot 3

    dart-below : (more : ℕ) → dart_after crossing slot more < 4 * limit
    dart-below more = omega (arith, from, last)

    t : NumberedEnds
    t = numbered limit s

    first : End
    first = end_at s.row place

    one : IsEnd limit first
    one = all_at (IsEnd limit) place (AtDart 0) s.row (omega (arith, within)) are.row

    left : OpenEnds
    left = tied s first (AtDart d0)

    left_are : AreEnds limit left
    left_are = AreEnds-tied limit s first (AtDart d0) are one (dart-below 0)

    left_within : place + 1 < length left.row
    left_within = omega (arith, within, length-tied s first (AtDart d0))

    second : End
    second = end_at left.row (place + 1)

    two : IsEnd limit second
    two = all_at (IsEnd limit) (place + 1) (AtDart 0) left.row left_within left_are.row

    both : OpenEnds
    both = tied left second (AtDart d3)

    both_are : AreEnds limit both
    both_are = AreEnds-tied limit left second (AtDart d3) left_are two (dart-below 3)

    ended : NumberedEnds → NumberedEnds
    ended u = record {
      row = set (set u.row place d1) (place + 1) d2;
      others = u.others;
      drawn = set u.drawn (crossing - 1) true;
      loops = u.loops;
    }

    crossed : List ℕ → NumberedEnds
    crossed row = record {
      row = row;
      others = map (other_number limit) both.others;
      drawn = set both.drawn (crossing - 1) true;
      loops = both.loops;
    }

    finished : NumberedEnds → NumberedEnds
    finished u = ended (tied_numbers limit u (get_or u.row (place + 1) 0) d3)

-- what is found, by numbers
pub known-same : (limit : ℕ) (others : List (Option ℕ)) (x : ℕ) → x < length others
    → get_or (map (other_number limit) others) x 0 ≡ other_number limit (other_of others x)
known-same limit others x below = get_or-map (other_number limit) others x None 0 below

later-same : (limit : ℕ) (others : List (Option ℕ)) (x : ℕ) → AllByRecursion (IsOther limit) others → x < length others
    → has_later others x ≡ later_number limit (map (other_number limit) others) x
later-same limit others x all below =
    by_case (other_of others x) (all_at (IsOther limit) x None others below all)
    ∙ sym (ap (λ y. nat_lt x y && nat_lt y (4 * limit)) (known-same limit others x below))
  where
    by_case : (o : Option ℕ) → IsOther limit o
        → is_later x o ≡ (nat_lt x (other_number limit o) && nat_lt (other_number limit o) (4 * limit))
    by_case None small = grind (arith, nat_tests)
    by_case (Some y) small = grind (arith, nat_tests)

pair-same : (limit : ℕ) (others : List (Option ℕ)) (x : ℕ) → x < length others → has_later others x ≡ true
    → found_pair others x ≡ pair_number (map (other_number limit) others) x
pair-same limit others x below later =
    by_case (other_of others x) later ∙ sym (ap (pair_with x) (known-same limit others x below))
  where
    by_case : (o : Option ℕ) → is_later x o ≡ true → pair_with x (unwrap_or o 0) ≡ pair_with x (other_number limit o)
    by_case None never = absurd (both_ways false refl never)
    by_case (Some y) holds = refl

map-filter_range : {X : Type 0} (f g : ℕ → X) (p : ℕ → Bool) (a n : ℕ) → ((k : ℕ) → a ≤ k → k < a + n → p k ≡ true → f k ≡ g k)
    → map f (filter p (range_with_len a n)) ≡ map g (filter p (range_with_len a n))
map-filter_range f g p a zero alike = refl
map-filter_range {X} f g p a (suc n) alike =
    by_case (p a) (filter p (range_with_len (a + 1) n)) (λ passes. alike a (omega arith) (omega arith) passes)
    (map-filter_range f g p (a + 1) n (λ k from below. alike k (omega (arith, from)) (omega (arith, below))))
  where
    by_case : (b : Bool) (rest : List ℕ) → (b ≡ true → f a ≡ g a) → map f rest ≡ map g rest
        → map f (cond b (a ∷ rest) rest) ≡ map g (cond b (a ∷ rest) rest)
    by_case b rest first later = grind (arith, nat_tests)

pub pairs-same : (limit : ℕ) (others : List (Option ℕ)) → AllByRecursion (IsOther limit) others → length others ≡ 4 * limit
    → pairs_before others (4 * limit)
    ≡ map (λ x. ends_of (pair_number (map (other_number limit) others) x))
    (filter (later_number limit (map (other_number limit) others)) (range_with_len 0 (4 * limit)))
pairs-same limit others all size =
    map-filter_range (found_ends others) (λ x. ends_of (pair_number (map (other_number limit) others) x)) (has_later others) 0 (4 * limit)
    (λ k from below later. ap ends_of (pair-same limit others k (omega (arith, below, size)) later))
    ∙ ap (map (λ x. ends_of (pair_number (map (other_number limit) others) x)))
    (filter-range_agree (has_later others) (later_number limit (map (other_number limit) others)) 0 (4 * limit)
    (λ k from below. later-same limit others k all (omega (arith, below, size))))
