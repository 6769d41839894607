-- What changes in what is read of slices, when a cup or a cross is read. A cup at two neighbours joins their segments and takes
-- them out of the row. A cap beside a strand, and then a crossing of that strand with the first of the new two, put three new
-- segments in its place; the darts of the crossing meet the strand's segment, the two that the crossing begins, and the first of
-- the cap. Then the parts that the proofs on cups and crossings share: a list of segments with their darts, cut at a dart; a
-- partner function with one more arc; the four darts of a crossing as turns of one of them, and the segment that each dart meets
-- afterwards; segments that are of the class of one met by a new dart; colours of new segments that leave the old ones as they
-- were; and the cases of the next segments.
use Rattle.std.proofs.Common.{◌≡◌, ◌≢◌, ℕ, ◌+◌, ◌-◌, ◌*◌, ◌/◌, ◌%◌, ◌<◌, ◌≤◌, ◌∙◌, List, [], ◌∷◌, ◌++◌, length, get_or, map, take, drop, refl, sym, ap, ap₂, arith, true, cond, min}
use Rattle.std.specs.Prelude.{nat_eq, nat_lt}
use Rattle.std.proofs.Math.Seq.{drop-append_seam, get_or-append_seam, take-append_seam}
use Rattle.std.proofs.lemmas.Bool.Decides.{nat_tests}
use Rattle.std.proofs.lemmas.List.{append_assoc, length-append}
use Rattle.kh_types.specs.Classes.{AreBelow, Respects}
use Rattle.morse_drawing.specs.Sketches.{IsReached, Sketch, dart_after, is_met, segment_met, sketched, with_cross, with_cup}
use Rattle.morse_drawing.specs.DartRows.{turned_back}
use Rattle.morse_drawing.specs.declared.slice.Slice.TheVariants.{Cap, Cup, Cross}

abbrev pub segment : ℕ × ℕ → ℕ
segment e = e.0

abbrev pub dart : ℕ × ℕ → ℕ
dart e = e.1

abbrev pub made : List ℕ → ℕ → List (ℕ × ℕ) → List (ℕ × ℕ) → Sketch
made row next joins met = record { row = row; next = next; joins = joins; met = met }

abbrev pub pair_of : ℕ → ℕ → ℕ × ℕ
pair_of x y = (x, y)

-- a cup at two neighbours
pub cup-is : (front back : List ℕ) (a b next : ℕ) (joins met : List (ℕ × ℕ))
    → sketched (made (front ++ a ∷ b ∷ back) next joins met) (Cup (length front + 1))
    ≡ made (front ++ back) next (joins ++ (a, b) ∷ []) met
cup-is front back a b next joins met =
    let k = length front in
    let row = front ++ a ∷ b ∷ back in
    let place : k + 1 - 1 ≡ k = omega arith in
    let first : take k row ≡ front = take-append_seam front (a ∷ b ∷ back) in
    let two = front ++ a ∷ b ∷ [] in
    let row_is : row ≡ two ++ back = sym (append_assoc front (a ∷ b ∷ []) back) in
    let size : k + 2 ≡ length two = omega (arith, length-append front (a ∷ b ∷ [])) in
    let rest : drop (k + 2) row ≡ back = ap₂ (λ j zs. drop j zs) size row_is ∙ drop-append_seam two back in
    let at_a : get_or row k 0 ≡ a = get_or-append_seam front a (b ∷ back) 0 in
    let one = front ++ a ∷ [] in
    let one_is : row ≡ one ++ b ∷ back = sym (append_assoc front (a ∷ []) (b ∷ back)) in
    let one_size : k + 1 ≡ length one = omega (arith, length-append front (a ∷ [])) in
    let at_b : get_or row (k + 1) 0 ≡ b = ap₂ (λ j zs. get_or zs j 0) one_size one_is ∙ get_or-append_seam one b back 0 in
    ap (with_cup (made row next joins met)) place
    ∙ ap₂ (λ zs ws. made (zs ++ ws) next (joins ++ (get_or row k 0, get_or row (k + 1) 0) ∷ []) met) first rest
    ∙ ap₂ (λ x y. made (front ++ back) next (joins ++ pair_of x y ∷ []) met) at_a at_b

-- a cap beside a strand, and a crossing of that strand with the first of the new two
abbrev pub cross_met : ℕ → ℕ → ℕ → ℕ → List (ℕ × ℕ) → List (ℕ × ℕ)
cross_met o a b next met =
    (dart_after (o / 4 + 1) (o % 4) 0, a) ∷ (dart_after (o / 4 + 1) (o % 4) 1, next)
    ∷ (dart_after (o / 4 + 1) (o % 4) 2, next + 1) ∷ (dart_after (o / 4 + 1) (o % 4) 3, b) ∷ met

pub cross-is : (front back : List ℕ) (a next o : ℕ) (joins met : List (ℕ × ℕ))
    → sketched (sketched (made (front ++ a ∷ back) next joins met) (Cap (length front + 2))) (Cross (length front + 1) (o / 4 + 1) (o % 4))
    ≡ made (front ++ (next + 2) ∷ (next + 2 + 1) ∷ (next + 1) ∷ back) (next + 2 + 2) (joins ++ (next, next + 1) ∷ [])
    (cross_met o a next (next + 2) met)
cross-is front back a next o joins met =
    let k = length front in
    let row = front ++ a ∷ back in
    let more = joins ++ (next, next + 1) ∷ [] in
    let one = front ++ a ∷ [] in
    let one_size : k + 1 ≡ length one = omega (arith, length-append front (a ∷ [])) in
    let place : k + 2 - 1 ≡ length one = omega (arith, one_size) in
    let row_is : row ≡ one ++ back = sym (append_assoc front (a ∷ []) back) in
    let first : take (k + 2 - 1) row ≡ one = ap₂ (λ j zs. take j zs) place row_is ∙ take-append_seam one back in
    let rest : drop (k + 2 - 1) row ≡ back = ap₂ (λ j zs. drop j zs) place row_is ∙ drop-append_seam one back in
    let mid = front ++ a ∷ next ∷ (next + 1) ∷ back in
    let cap : sketched (made row next joins met) (Cap (k + 2)) ≡ made mid (next + 2) more met =
    ap₂ (λ zs ws. made (zs ++ next ∷ (next + 1) ∷ ws) (next + 2) more met) first rest
    ∙ ap (λ zs. made zs (next + 2) more met) (append_assoc front (a ∷ []) (next ∷ (next + 1) ∷ back)) in
    let here : k + 1 - 1 ≡ k = omega arith in
    let before : take k mid ≡ front = take-append_seam front (a ∷ next ∷ (next + 1) ∷ back) in
    let two = front ++ a ∷ next ∷ [] in
    let two_is : mid ≡ two ++ (next + 1) ∷ back = sym (append_assoc front (a ∷ next ∷ []) ((next + 1) ∷ back)) in
    let two_size : k + 2 ≡ length two = omega (arith, length-append front (a ∷ next ∷ [])) in
    let behind : drop (k + 2) mid ≡ (next + 1) ∷ back = ap₂ (λ j zs. drop j zs) two_size two_is ∙ drop-append_seam two ((next + 1) ∷ back) in
    let at_a : get_or mid k 0 ≡ a = get_or-append_seam front a (next ∷ (next + 1) ∷ back) 0 in
    let mid_is : mid ≡ one ++ next ∷ (next + 1) ∷ back = sym (append_assoc front (a ∷ []) (next ∷ (next + 1) ∷ back)) in
    let at_b : get_or mid (k + 1) 0 ≡ next =
    ap₂ (λ j zs. get_or zs j 0) one_size mid_is ∙ get_or-append_seam one next ((next + 1) ∷ back) 0 in
    ap (λ r. sketched r (Cross (k + 1) (o / 4 + 1) (o % 4))) cap
    ∙ ap (λ j. with_cross (made mid (next + 2) more met) j (o / 4 + 1) (o % 4)) here
    ∙ ap₂ (λ zs ws. made (zs ++ (next + 2) ∷ (next + 2 + 1) ∷ ws) (next + 2 + 2) more
    (cross_met o (get_or mid k 0) (get_or mid (k + 1) 0) (next + 2) met)) before behind
    ∙ ap₂ (λ x y. made (front ++ (next + 2) ∷ (next + 2 + 1) ∷ (next + 1) ∷ back) (next + 2 + 2) more (cross_met o x y (next + 2) met))
    at_a at_b

-- a list of pairs in parts, by its darts
pub record Parted (zipped : List (ℕ × ℕ)) (front : List ℕ) (x : ℕ) (back : List ℕ) : Type 0 where
  pub before : List (ℕ × ℕ)
  pub at : ℕ
  pub behind : List (ℕ × ℕ)
  pub whole_is : zipped ≡ before ++ (at, x) ∷ behind
  pub front_is : map dart before ≡ front
  pub back_is : map dart behind ≡ back

pub parted : (zipped : List (ℕ × ℕ)) (front : List ℕ) (x : ℕ) (back : List ℕ) → map dart zipped ≡ front ++ x ∷ back
    → Parted zipped front x back
parted [] [] x back same = absurd (omega (arith, ap (λ zs. length zs) same))
parted [] (y ∷ front) x back same = absurd (omega (arith, ap (λ zs. length zs) same))
parted (e ∷ zipped) [] x back same =
    let heads : e.1 ≡ x = ap (λ zs. get_or zs 0 0) same in
    let tails : map dart zipped ≡ back = ap (λ zs. drop 1 zs) same in
    record {
      before = [];
      at = e.0;
      behind = zipped;
      whole_is = ap (λ d. pair_of e.0 d ∷ zipped) heads;
      front_is = refl;
      back_is = tails;
    }
parted (e ∷ zipped) (y ∷ front) x back same =
    let heads : e.1 ≡ y = ap (λ zs. get_or zs 0 0) same in
    let rest = parted zipped front x back (ap (λ zs. drop 1 zs) same) in
    record {
      before = e ∷ rest.before;
      at = rest.at;
      behind = rest.behind;
      whole_is = ap (λ zs. e ∷ zs) rest.whole_is;
      front_is = ap₂ (λ z zs. z ∷ zs) heads rest.front_is;
      back_is = rest.back_is;
    }

pub head_of : (zipped : List (ℕ × ℕ)) (y : ℕ) (back : List ℕ) → map dart zipped ≡ y ∷ back
    → (b : ℕ) × (behind : List (ℕ × ℕ)) × (zipped ≡ (b, y) ∷ behind) × (map dart behind ≡ back)
head_of [] y back same = absurd (omega (arith, ap (λ zs. length zs) same))
head_of (e ∷ zipped) y back same =
    (e.0, zipped, ap (λ d. pair_of e.0 d ∷ zipped) (ap (λ zs. get_or zs 0 0) same), ap (λ zs. drop 1 zs) same)

pub min_swap : (x y : ℕ) → min x y ≡ min y x
min_swap x y = omega arith

-- the segments that the darts of a new crossing meet, and those of all other darts
abbrev pub chain : ℕ → ℕ → ℕ → ℕ → ℕ → ℕ → ℕ → ℕ → ℕ → ℕ → ℕ
chain d0 d1 d2 d3 a p q b w z =
    cond (nat_eq d0 z) a (cond (nat_eq d1 z) p (cond (nat_eq d2 z) q (cond (nat_eq d3 z) b w)))

abbrev pub turn_one : ℕ → ℕ
turn_one o = turned_back o

abbrev pub turn_two : ℕ → ℕ
turn_two o = turned_back (turned_back o)

abbrev pub turn_three : ℕ → ℕ
turn_three o = turned_back (turned_back (turned_back o))

pub crossing-one : (o : ℕ) → turn_one o / 4 ≡ o / 4
crossing-one o = omega arith

pub crossing-two : (o : ℕ) → turn_two o / 4 ≡ o / 4
crossing-two o = omega arith

pub crossing-three : (o : ℕ) → turn_three o / 4 ≡ o / 4
crossing-three o = omega arith

-- each dart is one of the four at the crossing of o, or at another crossing
pub data Which (o z : ℕ) : Type 0 where
  is_zero : z ≡ o → Which o z
  is_one : z ≡ turn_one o → Which o z
  is_two : z ≡ turn_two o → Which o z
  is_three : z ≡ turn_three o → Which o z
  is_other : z / 4 ≢ o / 4 → Which o z

pub all-four : (o z : ℕ) → z ≢ o → z ≢ turn_one o → z ≢ turn_two o → z / 4 ≡ o / 4 → z ≡ turn_three o
all-four o z no0 no1 no2 at = omega (arith, no0, no1, no2, at)

pub which : (o z : ℕ) → Which o z
which o z = grind (arith, nat_tests)

-- the new segments by their darts
pub record IsMet (o a b next : ℕ) (met : List (ℕ × ℕ)) : Type 0 where
  pub zero_is : segment_met (cross_met o a b next met) o ≡ a
  pub one_is : segment_met (cross_met o a b next met) (turn_one o) ≡ next
  pub two_is : segment_met (cross_met o a b next met) (turn_two o) ≡ next + 1
  pub three_is : segment_met (cross_met o a b next met) (turn_three o) ≡ b
  pub other_is : (z : ℕ) → z / 4 ≢ o / 4 → segment_met (cross_met o a b next met) z ≡ segment_met met z

pub is-met : (o a b next : ℕ) (met : List (ℕ × ℕ)) → IsMet o a b next met
is-met o a b next met = grind (arith, nat_tests)

-- the darts that are met after a crossing
pub met-other : (o a b next z : ℕ) (met : List (ℕ × ℕ)) → z / 4 ≢ o / 4 → is_met (cross_met o a b next met) z ≡ is_met met z
met-other o a b next z met apart = grind (arith, nat_tests)

pub met-here : (o a b next z : ℕ) (met : List (ℕ × ℕ)) → z / 4 ≡ o / 4 → is_met (cross_met o a b next met) z ≡ true
met-here o a b next z met at = grind (arith, nat_tests)

pub dart-there : (n o z : ℕ) → o < 4 * n → z / 4 ≡ o / 4 → z < 4 * n
dart-there n o z o_below at = omega (arith, o_below, at)

-- a segment is of the class of one that a dart of the new crossing meets
pub reached-here : (n o d q : ℕ) (drawn : List ℕ) (r : Sketch) → o < 4 * n → d / 4 ≡ o / 4
    → ((f : ℕ → ℕ) → Respects f r.joins → f q ≡ f (segment_met r.met d)) → IsReached n (o / 4 ∷ drawn) r q
reached-here n o d q drawn r o_below at same = grind (arith, nat_tests)

-- colours of new segments
abbrev pub painted : (ℕ → ℕ) → ℕ → ℕ → ℕ → ℕ → ℕ → ℕ → ℕ → ℕ
painted colour next p q one two rest segment_is =
    cond (nat_lt segment_is next) (colour segment_is) (cond (nat_eq segment_is p) one (cond (nat_eq segment_is q) two rest))

pub record IsPainted (colour : ℕ → ℕ) (next p q one two rest : ℕ) : Type 0 where
  pub old : (x : ℕ) → x < next → painted colour next p q one two rest x ≡ colour x
  pub first : painted colour next p q one two rest p ≡ one
  pub second : painted colour next p q one two rest q ≡ two
  pub others : (x : ℕ) → next ≤ x → x ≢ p → x ≢ q → painted colour next p q one two rest x ≡ rest

pub painted-is : (colour : ℕ → ℕ) (next p q one two rest : ℕ) → next ≤ p → p < q → IsPainted colour next p q one two rest
painted-is colour next p q one two rest from less = grind (arith, nat_tests)

pub respects-old : (f g : ℕ → ℕ) (next : ℕ) (joins : List (ℕ × ℕ)) → ((x : ℕ) → x < next → g x ≡ f x) → AreBelow next joins
    → Respects f joins → Respects g joins
respects-old f g next [] same below holds = tt
respects-old f g next (pair ∷ joins) same below holds = grind (arith, nat_tests, respects-old f g next joins same below.1 holds.1)

-- one of the next four segments, or of the next six
pub data FourNext (q next : ℕ) : Type 0 where
  next_zero : q ≡ next → FourNext q next
  next_one : q ≡ next + 1 → FourNext q next
  next_two : q ≡ next + 2 → FourNext q next
  next_three : q ≡ next + 2 + 1 → FourNext q next

pub four_next : (q next : ℕ) → q < next + 2 + 2 → next ≤ q → FourNext q next
four_next q next below late = grind (arith, nat_tests)
