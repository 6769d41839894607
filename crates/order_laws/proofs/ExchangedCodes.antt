-- Codes of which two neighbouring crossings are exchanged: their states have the same circles, and their edges do the same to labels.
use Rattle.std.proofs.Common.{◌≡◌, ℕ, ◌+◌, ◌-◌, ◌*◌, ◌/◌, ◌%◌, ◌<◌, ◌∙◌, List, [], ◌∷◌, ◌++◌, length, map, get_or, refl, sym, subst, ap, ap₂, arith, Bool, ◌||◌}
use Rattle.std.specs.Prelude.{nat_eq, if◌then◌else◌}
use Rattle.std.specs.List.{filter, list_all, list_any, position_or_len, range_with_len}
use Rattle.std.proofs.lemmas.List.{length-append}
use Rattle.kh_types.specs.Bits.{bit}
use Rattle.kh_types.specs.CircleSteps.{arc_at, joined_slot}
use Rattle.kh_types.specs.Circles.{circle_count, circle_of, circles_of, smoothings_of}
use Rattle.kh_types.specs.Classes.{Respects, classes_of, is_least}
use Rattle.kh_types.specs.Code.{Code, arc_count, arc_in, arcs_and_loops, slots_of}
use Rattle.kh_types.specs.Generators.{Generator, generator_of}
use Rattle.kh_types.proofs.JoinedSlots.{across-respects, across-slot, arc_at-slot, respects-across, joined_slot-below}
use Rattle.square_laws.specs.Deformed.{label_number, row_number}
use Rattle.order_laws.proofs.ClampedClasses.{classes_of-any}
use Rattle.order_laws.proofs.ExchangedBits.{bit-exchanged, element-moved, exchanged, exchanged-twice, moved, moved-below}

-- a code with two neighbouring crossings, by what is listed before and behind them
abbrev pub code_with : List (List ℕ) → List (List ℕ) → ℕ → List ℕ → List ℕ → Code
code_with front back loops a b = record { crossings = front ++ a ∷ b ∷ back; loops = loops }

-- the labels of the touched circles, by the circles of a state, the names of arcs and loops, the slots of the crossing and the label
abbrev label_by : List ℕ → List ℕ → ℕ → ℕ → ℕ
label_by circles arcs label arc = bit label (position_or_len (nat_eq (circle_of circles arc)) (filter (is_least circles) arcs))

abbrev touched_by : List ℕ → List ℕ → ℕ → Bool
touched_by circles slots circle = list_any (λ slot. nat_eq (circle_of circles (arc_in slots slot)) circle) (range_with_len 0 4)

abbrev labels_by : List ℕ → List ℕ → List ℕ → ℕ → List ℕ
labels_by circles arcs slots label =
    map (label_by circles arcs label) (filter (touched_by circles slots) (filter (is_least circles) arcs))

-- the number of an edge, by the circles of both states, the names of arcs and loops, the slots of the crossing and the labels
abbrev number_by : ℕ → ℕ → List ℕ → List ℕ → List ℕ → List ℕ → ℕ → ℕ → ℕ
number_by h k before behind arcs slots tail head =
    if list_all (λ circle. touched_by before slots circle || nat_eq (label_by before arcs tail circle) (label_by behind arcs head circle))
    (filter (is_least before) arcs)
    then row_number h k (labels_by before arcs slots tail) (labels_by behind arcs slots head) else 0

number-by : (h k : ℕ) (code : Code) (tail head : Generator) (crossing : ℕ)
    → label_number h k code tail head crossing
    ≡ number_by h k (circles_of code tail.state) (circles_of code head.state) (arcs_and_loops code) (slots_of code.crossings crossing)
    tail.label head.label
number-by h k code tail head crossing = refl

module _ (front back : List (List ℕ)) (loops : ℕ) where
  abbrev n : ℕ
  n = length front + (2 + length back)

  pub length-with : (a b : List ℕ) → length (front ++ a ∷ b ∷ back) ≡ length front + (2 + length back)
  length-with a b = length-append front (a ∷ b ∷ back) ∙ omega arith

  -- what the smoothings of the exchanged state respect, is respected by those of the state
  respects-exchanged : (a b : List ℕ) (g : ℕ → ℕ) (s : ℕ)
      → Respects g (smoothings_of (front ++ b ∷ a ∷ back) (exchanged (length front) s))
      → Respects g (smoothings_of (front ++ a ∷ b ∷ back) s)
  respects-exchanged a b g s respects =
      let k = length front in
      let old = front ++ a ∷ b ∷ back in
      let new = front ++ b ∷ a ∷ back in
      let t = exchanged k s in
      respects-across g old s
      (λ place within.
      let l = place / 4 in
      let u = place % 4 in
      let m = moved k l in
      let j = joined_slot (bit s l) u in
      let u_below : u < 4 = omega arith in
      let j_below : j < 4 = joined_slot-below (bit s l) u u_below in
      let l_below : l < length front + (2 + length back) = omega (arith, within, length-with a b) in
      let m_below : m < length front + (2 + length back) =
      moved-below k l (length front + (2 + length back)) (omega arith) l_below in
      let carried : (slot : ℕ) → slot < 4 → arc_at old (4 * l + slot) ≡ arc_at new (4 * m + slot) =
      λ slot below. arc_at-slot old l slot below
      ∙ ap (λ (slots : List ℕ). arc_in slots slot) (sym (element-moved front back a b [] l))
      ∙ sym (arc_at-slot new m slot below) in
      let whole : 4 * l + u ≡ place = omega arith in
      ap g (carried j j_below
      ∙ ap (λ w. arc_at new w) (ap (λ c. 4 * m + joined_slot c u) (sym (bit-exchanged k s l)) ∙ sym (across-slot t m u u_below)))
      ∙ across-respects g new t respects (4 * m + u) (omega (arith, m_below, u_below, length-with b a))
      ∙ ap g (sym (carried u u_below) ∙ ap (λ w. arc_at old w) whole))

  pub circles-exchanged : (a b : List ℕ) (s : ℕ)
      → circles_of (code_with front back loops b a) (exchanged (length front) s) ≡ circles_of (code_with front back loops a b) s
  circles-exchanged a b s =
      let k = length front in
      let old = front ++ a ∷ b ∷ back in
      let new = front ++ b ∷ a ∷ back in
      let t = exchanged k s in
      let sizes : length new ≡ length old = length-with b a ∙ sym (length-with a b) in
      ap (λ size. classes_of (2 * size + loops + 1) (smoothings_of new t)) sizes
      ∙ classes_of-any (arc_count old + loops + 1) (smoothings_of new t) (smoothings_of old s) (omega arith)
      (λ g. respects-exchanged a b g s)
      (λ g respects. respects-exchanged b a g t
      (subst (λ (r : ℕ). Respects g (smoothings_of old r)) (sym (exchanged-twice k s)) respects))

  pub arcs-exchanged : (a b : List ℕ) → arcs_and_loops (code_with front back loops b a) ≡ arcs_and_loops (code_with front back loops a b)
  arcs-exchanged a b = ap (λ size. range_with_len 1 (2 * size + loops)) (length-with b a ∙ sym (length-with a b))

  pub circle_count-exchanged : (a b : List ℕ) (s : ℕ)
      → circle_count (code_with front back loops b a) (exchanged (length front) s) ≡ circle_count (code_with front back loops a b) s
  circle_count-exchanged a b s =
      ap₂ (λ (circles arcs : List ℕ). length (filter (is_least circles) arcs)) (circles-exchanged a b s) (arcs-exchanged a b)

  -- the number of an edge in the exchanged code
  pub number-exchanged : (h k : ℕ) (a b : List ℕ) (tail head : Generator) (place : ℕ)
      → label_number h k (code_with front back loops b a) (generator_of (exchanged (length front) tail.state) tail.label)
      (generator_of (exchanged (length front) head.state) head.label) (moved (length front) place + 1)
      ≡ label_number h k (code_with front back loops a b) tail head (place + 1)
  number-exchanged h k a b tail head place =
      let m = length front in
      let old = code_with front back loops a b in
      let new = code_with front back loops b a in
      let before = circles_of old tail.state in
      let behind = circles_of old head.state in
      let slots : slots_of (front ++ b ∷ a ∷ back) (moved m place + 1) ≡ slots_of (front ++ a ∷ b ∷ back) (place + 1) =
      ap (λ n. get_or (front ++ b ∷ a ∷ back) n []) (let e : moved m place + 1 - 1 ≡ moved m place = omega arith in e)
      ∙ element-moved front back a b [] place
      ∙ ap (λ n. get_or (front ++ a ∷ b ∷ back) n []) (let e : place ≡ place + 1 - 1 = omega arith in e) in
      number-by h k new (generator_of (exchanged m tail.state) tail.label) (generator_of (exchanged m head.state) head.label)
      (moved m place + 1)
      ∙ ap₂ (λ (c d : List ℕ). number_by h k c d (arcs_and_loops new) (slots_of (front ++ b ∷ a ∷ back) (moved m place + 1))
      tail.label head.label)
      (circles-exchanged a b tail.state) (circles-exchanged a b head.state)
      ∙ ap₂ (λ (arcs slots : List ℕ). number_by h k before behind arcs slots tail.label head.label)
      (arcs-exchanged a b) slots
      ∙ sym (number-by h k old tail head (place + 1))
