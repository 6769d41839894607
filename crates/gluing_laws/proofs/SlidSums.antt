-- The sum over the states in eights, before and after a slide.
--
-- All states are taken in eights, by the bits of the three crossings (SplitStates), while the others stay. In an eight each term is told by
-- the state of the triangle, by the circles that it closes and by how it joins the ends: the eight terms are a sum over the table of the
-- triangle (SlideTerms). Before and after the slide these tables have one sum for each way of joining (SlideTable), so the state sums are
-- the same.
use Rattle.std.proofs.lemmas.Bool.Decides.{nat_tests}
use Rattle.std.proofs.Common.{◌≡◌, ◌≢◌, ℕ, ◌+◌, ◌-◌, ◌^◌, ◌<◌, ◌∙◌, List, [], ◌∷◌, ℤ, pos, ◌+ℤ◌, sym, refl, length, map, get_or, ap, ap₂, arith, true}
use Rattle.std.specs.Prelude.{slice_index_or}
use Rattle.std.specs.List.{range_with_len}
use Rattle.std.proofs.lemmas.Int.{ints}
use Rattle.kh_types.specs.Bits.{bit, ones}
use Rattle.kh_types.specs.Code.{Code, arc_in}
use Rattle.kh_types.specs.Classes.{class_count}
use Rattle.kh_types.specs.Circles.{circle_count}
use Rattle.kh_types.specs.Generators.{one_count}
use Rattle.kh_types.specs.StateSum.{int_sum, term_with, sum_with}
use Rattle.kh_types.specs.StateSum as kh
use Rattle.kh_types.proofs.EdgeBits.{bit-set_there, bit-set_other}
use Rattle.gluing_laws.proofs.Terms.{term_at}
use Rattle.gluing_laws.specs.Codes.{name_count}
use Rattle.gluing_laws.specs.Slides.{triangle_before, triangle_after, ends_joined, closed_inside, IsNoSide}
use Rattle.gluing_laws.proofs.OuterPairs.{rest_circles}
use Rattle.gluing_laws.proofs.Ties.{is_tied_throughout}
use Rattle.gluing_laws.specs.SlidCodes.{HasTriangle, IsSlid}
use Rattle.gluing_laws.proofs.OutsidePairs.{outside_at, outside_of}
use Rattle.gluing_laws.proofs.CodeCircles.{class_count-circles, smoothing_by-same}
use Rattle.gluing_laws.proofs.TiedTable.{IsTied-state, is_tied-slots}
use Rattle.gluing_laws.proofs.InsideCircles.{class_count-inside, rest_circles-positive}
use Rattle.gluing_laws.proofs.SlideTerms.{inside_term, int_sum-slide}
use Rattle.gluing_laws.proofs.SplitStates.{eight, int_sum-by_three_bits, ones-set}
use Rattle.gluing_laws.proofs.SlidCodes.{one_of_three, flat_map-same, smoothings-hold, all_outside, AtInside, circles_at}

-- what the other crossings join depends on them and their bits alone
pub outside_of-same : (xs ys : List (List ℕ)) (c d e first second : ℕ) → length xs ≡ length ys
    → ((k slot : ℕ) → k < length xs → slot < 4 → k ≢ c → k ≢ d → k ≢ e → arc_in (get_or xs k []) slot ≡ arc_in (get_or ys k []) slot)
    → ((k : ℕ) → k ≢ c → k ≢ d → k ≢ e → bit first k ≡ bit second k)
    → outside_of xs c d e first ≡ outside_of ys c d e second
outside_of-same xs ys c d e first second size same same_bits =
    grind (arith, nat_tests, flat_map-same, outside_at, one_of_three, smoothing_by-same)

-- the circles of the rest, where the ends are joined in some way
abbrev pub circles_of_rest : ℕ → (ℕ → ℕ) → List (ℕ × ℕ) → List ℕ → ℕ
circles_of_rest n arcs outer joined = rest_circles n arcs outer joined - 1

circle_count-inside : (code : Code) (t0 t1 t2 : List ℕ) (arcs : ℕ → ℕ) (n c d e base state inside : ℕ)
    → HasTriangle code (t0 ∷ t1 ∷ t2 ∷ []) arcs c d e → c < length code.crossings → d < length code.crossings → e < length code.crossings
    → is_tied_throughout (t0 ∷ t1 ∷ t2 ∷ []) ≡ true → inside < 8 → AtInside n c d e base state inside
    → circle_count code state
    ≡ closed_inside (t0 ∷ t1 ∷ t2 ∷ []) inside
    + circles_of_rest (name_count code) arcs (outside_of code.crossings c d e base) (ends_joined (t0 ∷ t1 ∷ t2 ∷ []) inside)
circle_count-inside code t0 t1 t2 arcs n c d e base state inside has c_below d_below e_below all_tied inside_below at =
    let triangle = t0 ∷ t1 ∷ t2 ∷ [] in
    let tied = IsTied-state triangle all_tied inside inside_below in
    let outside = outside_of code.crossings c d e state in
    let outside_below = all_outside (λ x. x < name_count code) code c d e state
    (λ place slot below not_c not_d not_e slot_below. has.holds place slot below slot_below) in
    let touch = all_outside (IsNoSide arcs) code c d e state has.sides in
    let law = class_count-inside (name_count code) arcs outside triangle inside has.placed outside_below touch tied in
    let whole = ap class_count (circles_at code t0 t1 t2 arcs n c d e base state inside has c_below d_below e_below at tied.below) in
    let circles = class_count-circles code state (smoothings-hold code state has.holds) in
    let positive = rest_circles-positive (name_count code) arcs outside (ends_joined triangle inside) has.placed outside_below
    tied.ties_below in
    let same = ap (λ ps. rest_circles (name_count code) arcs ps (ends_joined triangle inside))
    (outside_of-same code.crossings code.crossings c d e state base refl (λ k slot below slot_below not_c not_d not_e. refl) at.others) in
    omega (arith, law, whole, circles, positive, same)

-- the eight states

AtInside-base : (n c d e base : ℕ) → bit base c ≡ 0 → bit base d ≡ 0 → bit base e ≡ 0 → AtInside n c d e base base 0
AtInside-base n c d e base at_c at_d at_e = omega arith

AtInside-first : (n c d e base state inside next : ℕ) → c < n → c ≢ d → c ≢ e → AtInside n c d e base state inside
    → bit inside 0 ≡ 0 → bit next 0 ≡ 1 → bit next 1 ≡ bit inside 1 → bit next 2 ≡ bit inside 2 → ones 3 next ≡ ones 3 inside + 1
    → AtInside n c d e base (state + 2 ^ c) next
AtInside-first n c d e base state inside next below c_d c_e at is_zero next_0 next_1 next_2 next_ones =
    grind (arith, nat_tests, ones-set, bit-set_other, bit-set_there)

AtInside-second : (n c d e base state inside next : ℕ) → d < n → c ≢ d → d ≢ e → AtInside n c d e base state inside
    → bit inside 1 ≡ 0 → bit next 0 ≡ bit inside 0 → bit next 1 ≡ 1 → bit next 2 ≡ bit inside 2 → ones 3 next ≡ ones 3 inside + 1
    → AtInside n c d e base (state + 2 ^ d) next
AtInside-second n c d e base state inside next below c_d d_e at is_zero next_0 next_1 next_2 next_ones =
    grind (arith, nat_tests, ones-set, bit-set_other, bit-set_there)

AtInside-third : (n c d e base state inside next : ℕ) → e < n → c ≢ e → d ≢ e → AtInside n c d e base state inside
    → bit inside 2 ≡ 0 → bit next 0 ≡ bit inside 0 → bit next 1 ≡ bit inside 1 → bit next 2 ≡ 1 → ones 3 next ≡ ones 3 inside + 1
    → AtInside n c d e base (state + 2 ^ e) next
AtInside-third n c d e base state inside next below c_e d_e at is_zero next_0 next_1 next_2 next_ones =
    grind (arith, nat_tests, ones-set, bit-set_other, bit-set_there)

eight-listed : (a b c d e f g h : ℤ)
    → a +ℤ b +ℤ (c +ℤ d) +ℤ (e +ℤ f +ℤ (g +ℤ h)) ≡ a +ℤ (b +ℤ (c +ℤ (d +ℤ (e +ℤ (f +ℤ (g +ℤ (h +ℤ pos 0)))))))
eight-listed a b c d e f g h = omega (arith, ints)

-- where a term is told by the state of the triangle, the eight terms are those of its eight states
eight-inside : (t u : ℕ → ℤ) (n c d e base : ℕ) → c < n → d < n → e < n → c ≢ d → c ≢ e → d ≢ e
    → bit base c ≡ 0 → bit base d ≡ 0 → bit base e ≡ 0
    → ((state inside : ℕ) → inside < 8 → AtInside n c d e base state inside → t state ≡ u inside)
    → eight c d e t base ≡ int_sum (map u (range_with_len 0 8))
eight-inside t u n c d e base c_below d_below e_below c_d c_e d_e at_c at_d at_e told =
    let s0 = AtInside-base n c d e base at_c at_d at_e in
    let s1 = AtInside-first n c d e base base 0 1 c_below c_d c_e s0 refl refl refl refl refl in
    let s2 = AtInside-second n c d e base base 0 2 d_below c_d d_e s0 refl refl refl refl refl in
    let s3 = AtInside-first n c d e base (base + 2 ^ d) 2 3 c_below c_d c_e s2 refl refl refl refl refl in
    let s4 = AtInside-third n c d e base base 0 4 e_below c_e d_e s0 refl refl refl refl refl in
    let s5 = AtInside-first n c d e base (base + 2 ^ e) 4 5 c_below c_d c_e s4 refl refl refl refl refl in
    let s6 = AtInside-second n c d e base (base + 2 ^ e) 4 6 d_below c_d d_e s4 refl refl refl refl refl in
    let s7 = AtInside-first n c d e base (base + 2 ^ e + 2 ^ d) 6 7 c_below c_d c_e s6 refl refl refl refl refl in
    ap₂ (λ x y. x +ℤ y)
    (ap₂ (λ x y. x +ℤ y)
    (ap₂ (λ x y. x +ℤ y) (told base 0 (omega arith) s0) (told (base + 2 ^ c) 1 (omega arith) s1))
    (ap₂ (λ x y. x +ℤ y) (told (base + 2 ^ d) 2 (omega arith) s2) (told (base + 2 ^ d + 2 ^ c) 3 (omega arith) s3)))
    (ap₂ (λ x y. x +ℤ y)
    (ap₂ (λ x y. x +ℤ y) (told (base + 2 ^ e) 4 (omega arith) s4) (told (base + 2 ^ e + 2 ^ c) 5 (omega arith) s5))
    (ap₂ (λ x y. x +ℤ y) (told (base + 2 ^ e + 2 ^ d) 6 (omega arith) s6) (told (base + 2 ^ e + 2 ^ d + 2 ^ c) 7 (omega arith) s7)))
    ∙ eight-listed (u 0) (u 1) (u 2) (u 3) (u 4) (u 5) (u 6) (u 7)

pub term_with-is : (plus minus : ℕ) (code : Code) (exponent : ℤ) (state : ℕ)
    → term_with plus minus code exponent state ≡ term_at plus minus exponent (one_count code state) (circle_count code state)
term_with-is plus minus code exponent state = grind (arith, nat_tests)

-- the eight terms of a code with a triangle
eight-triangle : (code : Code) (t0 t1 t2 : List ℕ) (arcs : ℕ → ℕ) (plus minus c d e base : ℕ) (exponent : ℤ)
    → HasTriangle code (t0 ∷ t1 ∷ t2 ∷ []) arcs c d e → c < length code.crossings → d < length code.crossings → e < length code.crossings
    → c ≢ d → c ≢ e → d ≢ e → is_tied_throughout (t0 ∷ t1 ∷ t2 ∷ []) ≡ true → bit base c ≡ 0 → bit base d ≡ 0 → bit base e ≡ 0
    → eight c d e (term_with plus minus code exponent) base
    ≡ int_sum (map (inside_term plus minus exponent (ones (length code.crossings) base)
    (circles_of_rest (name_count code) arcs (outside_of code.crossings c d e base)) (t0 ∷ t1 ∷ t2 ∷ [])) (range_with_len 0 8))
eight-triangle code t0 t1 t2 arcs plus minus c d e base exponent has c_below d_below e_below c_d c_e d_e all_tied at_c at_d at_e =
    let n = length code.crossings in
    let triangle = t0 ∷ t1 ∷ t2 ∷ [] in
    let rest = circles_of_rest (name_count code) arcs (outside_of code.crossings c d e base) in
    eight-inside (term_with plus minus code exponent) (inside_term plus minus exponent (ones n base) rest triangle) n c d e base c_below
    d_below e_below c_d c_e d_e at_c at_d at_e
    (λ state inside inside_below at. term_with-is plus minus code exponent state
    ∙ ap₂ (λ r k. term_at plus minus exponent r k) at.ones
    (circle_count-inside code t0 t1 t2 arcs n c d e base state inside has c_below d_below e_below all_tied inside_below at))

-- a third Reidemeister move keeps the state sum
pub sum_with-slide : (old new : Code) (c d e p q r plus minus : ℕ) (arcs : ℕ → ℕ) → IsSlid old new c d e p q r arcs
    → (exponent : ℤ) → sum_with plus minus new exponent ≡ sum_with plus minus old exponent
sum_with-slide old new c d e p q r plus minus arcs slid exponent =
    let n = length old.crossings in
    let size = slid.size in
    let c_below = slid.c_below in
    let d_below = slid.d_below in
    let e_below = slid.e_below in
    let loops = slid.loops in
    let names : name_count new ≡ name_count old = omega (arith, size, loops) in
    let before = triangle_before p q r in
    let after = triangle_after p q r in
    let tied = is_tied-slots p q r slid.p_below slid.q_below slid.r_below in
    let terms = λ (k : ℕ) (rest : List ℕ → ℕ) (triangle : List (List ℕ)).
    int_sum (map (inside_term plus minus exponent k rest triangle) (range_with_len 0 8)) in
    ap (λ k. int_sum (map (term_with plus minus new exponent) (range_with_len 0 (2 ^ k)))) size
    ∙ int_sum-by_three_bits (term_with plus minus new exponent) (term_with plus minus old exponent) n c d e c_below d_below e_below
    slid.c_d slid.c_e slid.d_e
    (λ base below at_c at_d at_e.
    let rest_new = circles_of_rest (name_count new) arcs (outside_of new.crossings c d e base) in
    let rest_old = circles_of_rest (name_count old) arcs (outside_of old.crossings c d e base) in
    let same_rest : rest_new ≡ rest_old =
    ap₂ (λ k ps. circles_of_rest k arcs ps) names
    (outside_of-same new.crossings old.crossings c d e base base size
    (λ k slot k_below slot_below not_c not_d not_e. slid.others k slot (omega arith) slot_below not_c not_d not_e) (λ k not_c not_d not_e. refl)) in
    eight-triangle new (slice_index_or after 0 []) (slice_index_or after 1 []) (slice_index_or after 2 []) arcs plus minus c d e base
    exponent slid.after (omega arith) (omega arith) (omega arith) slid.c_d slid.c_e slid.d_e tied.1 at_c at_d at_e
    ∙ ap₂ (λ k rest. terms (ones k base) rest after) size same_rest
    ∙ sym (int_sum-slide p q r slid.p_below slid.q_below slid.r_below slid.slidable plus minus exponent (ones n base) rest_old)
    ∙ sym (eight-triangle old (slice_index_or before 0 []) (slice_index_or before 1 []) (slice_index_or before 2 []) arcs plus minus
    c d e base exponent slid.before c_below d_below e_below slid.c_d slid.c_e slid.d_e tied.0 at_c at_d at_e))
