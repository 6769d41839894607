-- A code that is cut in two parts is the union of them under other numbers.
--
-- The parts are over the arcs of the code as names, and each arc has its head in one of them (`ends-both`). It gets its number in that
-- part, raised by the arcs of the first part where it is of the second; 0 and the numbers of loops stay.
use Rattle.std.proofs.Common.{◌≡◌, ℕ, inl, inr, ◌⊎◌, ◌+◌, ◌-◌, ◌<◌, ◌≤◌, ◌∙◌, [], length, map, sym, subst, ap, arith, Bool, not, ◌||◌, IsTrue}
use Rattle.std.specs.Prelude.{nat_eq, nat_lt, if◌then◌else◌}
use Rattle.std.proofs.lemmas.Bool.{cases_eq, cases_lt}
use Rattle.std.proofs.lemmas.Bool.Decides.{nat_tests}
use Rattle.std.proofs.lemmas.List.{get_or-append-add, get_or-map, get_or_append_left, length-append, length-map}
use Rattle.kh_types.specs.Acceptance.{accepted}
use Rattle.kh_types.specs.Code.{Code, IsArc, arc_count, arc_in}
use Rattle.kh_types.proofs.Heads.{HasNoSingleArcs-accepted}
use Rattle.gluing_laws.specs.Arcs.{arc_by_place}
use Rattle.gluing_laws.specs.Codes.{IsRenumbered, name_count}
use Rattle.code_passes.specs.Passes.{Pass}
use Rattle.code_passes.specs.Parts.{ArePaired, Parts, head_count, parts_of, passes_through, slots_in}
use Rattle.orient_arcs.specs.Renumbered.{number_in, order_of, renamed_crossing, renumber}
use Rattle.orient_arcs.proofs.Bridge.{number-arc, number-once, renamed-slot, slot-head}
use Rattle.orient_arcs.proofs.Members.{IsIn}
use Rattle.orient_arcs.proofs.PairedCodes.{ArePaired-directed, head-arc, some-head}
use Rattle.orient_arcs.proofs.PairedPasses.{counted-in, heads_of, in-counted}
use Rattle.order_laws.specs.Orders.{listed_by}
use Rattle.link_algebra.specs.Unions.{raised_slots, union_of}
use Rattle.link_algebra.proofs.UnitedCircles.{length-both, slot-raised}
use Rattle.union_laws.specs.Pieces.{IsCut, kept_first, kept_parts, part_of}
use Rattle.union_laws.proofs.KeptParts.{ArePaired-kept, IsCut-rest, ends-both, enters-same}
use Rattle.union_laws.proofs.KeptPlaces.{length-first}

-- paired parts give each name of theirs a number of its own, which is an arc
module _ (parts : Parts) (paired : ArePaired parts) where
  abbrev pub own_number : ℕ → ℕ
  own_number = number_in (order_of (passes_through parts))

  is-head : (name : ℕ) → 1 ≤ head_count parts name → IsIn name (heads_of parts paired)
  is-head name some = in-counted (λ (pass : Pass). pass.enters) (passes_through parts) name some

  number-own : (name : ℕ) → 1 ≤ head_count parts name → IsArc (renumber parts).crossings (own_number name)
  number-own name some =
      let is = number-arc parts paired name (is-head name some) in
      let size = length-map parts.crossings (renamed_crossing own_number) in
      record { positive = is.positive; within = omega (arith, is.within, size) }

  number-apart : (name other : ℕ) → 1 ≤ head_count parts name → 1 ≤ head_count parts other → own_number name ≡ own_number other
      → name ≡ other
  number-apart name other some other_some same = number-once parts paired name other (is-head name some) (is-head other other_some) same

  slot-some : (place slot : ℕ) → place < length parts.crossings → slot < 4 → 1 ≤ head_count parts (arc_by_place parts.crossings place slot)
  slot-some place slot below slot_below =
      counted-in (λ (pass : Pass). pass.enters) (passes_through parts) (arc_by_place parts.crossings place slot)
      (slot-head parts paired place slot below slot_below)

  pub slot-number : (place slot : ℕ) → place < length parts.crossings → slot < 4
      → arc_by_place (renumber parts).crossings place slot ≡ own_number (arc_by_place parts.crossings place slot)
  slot-number place slot below slot_below =
      ap (λ slots. arc_in slots slot) (get_or-map (renamed_crossing own_number) parts.crossings place [] [] below)
      ∙ renamed-slot own_number (slots_in parts.crossings place) slot slot_below

module _ (keep : ℕ → Bool) (code : Code) (loops others : ℕ) (holds : IsTrue (accepted code)) (cut : IsCut keep code.crossings)
    (adds : loops + others ≡ code.loops) where
  abbrev rest : ℕ → Bool
  rest place = not (keep place)

  abbrev first_parts : Parts
  first_parts = kept_parts keep code loops

  abbrev second_parts : Parts
  second_parts = kept_parts rest code others

  abbrev first : Code
  first = part_of keep code loops

  abbrev second : Code
  second = part_of rest code others

  abbrev old : Code
  old = listed_by code (kept_first keep code.crossings)

  pub first-paired : ArePaired first_parts
  first-paired = ArePaired-kept keep code loops cut holds

  pub second-paired : ArePaired second_parts
  second-paired = ArePaired-kept rest code others (IsCut-rest keep code.crossings cut) holds

  -- how many crossings there are
  pub length-part : length first.crossings ≡ length first_parts.crossings
  length-part = length-map first_parts.crossings (renamed_crossing (own_number first_parts first-paired))

  pub length-other : length second.crossings ≡ length second_parts.crossings
  length-other = length-map second_parts.crossings (renamed_crossing (own_number second_parts second-paired))

  pub length-parts : length first.crossings + length second.crossings ≡ length code.crossings
  length-parts =
      omega (
        arith,
        length-part,
        length-other,
        length-append first_parts.crossings second_parts.crossings,
        length-first keep code.crossings,
      )

  -- the new number of an arc, by the part in which it has its head
  abbrev pub cut_number : ℕ → ℕ
  cut_number x =
      if nat_eq x 0 || nat_lt (arc_count code.crossings) x then x
      else if nat_lt 0 (head_count first_parts x) then own_number first_parts first-paired x
      else own_number second_parts second-paired x + arc_count first.crossings

  -- a number is no arc, and stays
  record IsOut (x : ℕ) : Type 0 where
    same : cut_number x ≡ x
    outside : (x ≡ 0) ⊎ (arc_count code.crossings < x)

  -- an arc has its head in the first part, and gets the number that it has there
  record IsFirst (x : ℕ) : Type 0 where
    head : 1 ≤ head_count first_parts x
    same : cut_number x ≡ own_number first_parts first-paired x
    arc : IsArc first.crossings (own_number first_parts first-paired x)

  -- an arc has its head in the second part, and gets the number that it has there, raised
  record IsSecond (x : ℕ) : Type 0 where
    head : 1 ≤ head_count second_parts x
    same : cut_number x ≡ own_number second_parts second-paired x + arc_count first.crossings
    arc : IsArc second.crossings (own_number second_parts second-paired x)

  -- each arc has one head, in one of the parts
  heads-both : (x : ℕ) → head_count first_parts x + head_count second_parts x ≡ head_count (parts_of code) x
  heads-both x = ends-both (λ pass. pass.enters) enters-same keep code loops others x

  heads-few : (x : ℕ) → head_count (parts_of code) x ≤ 1
  heads-few x = let is = HasNoSingleArcs-accepted code holds in (ArePaired-directed code is.0 is.1).heads x

  arc-head : (x : ℕ) → 1 ≤ head_count (parts_of code) x → IsArc code.crossings x
  arc-head x some = let is = HasNoSingleArcs-accepted code holds in head-arc code is.0 is.1 x some

  is-first : (x : ℕ) → 1 ≤ head_count first_parts x → IsFirst x
  is-first x some =
      let arc = arc-head x (omega (arith, some, heads-both x)) in
      record {
        head = some;
        same = by x (arc_count code.crossings) (head_count first_parts x) (own_number first_parts first-paired x)
            (own_number second_parts second-paired x + arc_count first.crossings) arc.positive arc.within some;
        arc = number-own first_parts first-paired x some;
      }
    where
      by : (x most heads here there : ℕ) → 1 ≤ x → x ≤ most → 1 ≤ heads
          → (if nat_eq x 0 || nat_lt most x then x else if nat_lt 0 heads then here else there) ≡ here
      by x most heads here there positive within some = grind (arith, nat_tests)

  is-second : (x : ℕ) → 1 ≤ head_count second_parts x → IsSecond x
  is-second x some =
      let arc = arc-head x (omega (arith, some, heads-both x)) in
      record {
        head = some;
        same = by x (arc_count code.crossings) (head_count first_parts x) (own_number first_parts first-paired x)
            (own_number second_parts second-paired x + arc_count first.crossings) arc.positive arc.within
            (omega (arith, some, heads-both x, heads-few x));
        arc = number-own second_parts second-paired x some;
      }
    where
      by : (x most heads here there : ℕ) → 1 ≤ x → x ≤ most → heads ≡ 0
          → (if nat_eq x 0 || nat_lt most x then x else if nat_lt 0 heads then here else there) ≡ there
      by x most heads here there positive within none = grind (arith, nat_tests)

  -- one of the three holds of each number
  which : (x : ℕ) → IsOut x ⊎ (IsFirst x ⊎ IsSecond x)
  which x = elim (out_or_in x (arc_count code.crossings)) [
    | inl outside ↦ inl (record {
      same = by x (arc_count code.crossings)
          (if nat_lt 0 (head_count first_parts x) then own_number first_parts first-paired x
          else own_number second_parts second-paired x + arc_count first.crossings) outside;
      outside = outside;
    })
    | inr within ↦
        let is = HasNoSingleArcs-accepted code holds in
        let some = some-head code is.0 is.1 x (record { positive = within.0; within = within.1 }) in
        elim (cases_eq (head_count first_parts x) 0) [
          | inl none ↦ inr (inr (is-second x (omega (arith, some, none, heads-both x))))
          | inr here ↦ inr (inl (is-first x (omega (arith, here))))
        ]
  ]
    where
      out_or_in : (x most : ℕ) → ((x ≡ 0) ⊎ (most < x)) ⊎ ((1 ≤ x) × (x ≤ most))
      out_or_in x most = elim (cases_eq x 0) [
        | inl none ↦ inl (inl none)
        | inr some ↦ elim (cases_lt most x) [
          | inl past ↦ inl (inr past)
          | inr within ↦ inr (omega (arith, some), omega (arith, within))
        ]
      ]

      by : (x most inside : ℕ) → (x ≡ 0) ⊎ (most < x) → (if nat_eq x 0 || nat_lt most x then x else inside) ≡ x
      by x most inside outside = grind (arith, nat_tests)

  number-below : (x : ℕ) → x < name_count old → cut_number x < name_count old
  number-below x below =
      let size = length-first keep code.crossings in
      elim (which x) [
        | inl out ↦ omega (arith, out.same, below)
        | inr (inl one) ↦ omega (arith, one.same, one.arc.within, length-parts, size)
        | inr (inr other) ↦ omega (arith, other.same, other.arc.within, length-parts, size)
      ]

  numbers-apart : (x y : ℕ) → cut_number x ≡ cut_number y → x ≡ y
  numbers-apart x y same = elim (which x) [
    | inl x_out ↦ elim (which y) [
      | inl y_out ↦ sym x_out.same ∙ same ∙ y_out.same
      | inr (inl y_first) ↦ absurd (out-first x y x_out y_first same)
      | inr (inr y_second) ↦ absurd (out-second x y x_out y_second same)
    ]
    | inr (inl x_first) ↦ elim (which y) [
      | inl y_out ↦ absurd (out-first y x y_out x_first (sym same))
      | inr (inl y_first) ↦
          number-apart first_parts first-paired x y x_first.head y_first.head (sym x_first.same ∙ same ∙ y_first.same)
      | inr (inr y_second) ↦
          absurd (omega (arith, same, x_first.same, y_second.same, x_first.arc.within, y_second.arc.positive))
    ]
    | inr (inr x_second) ↦ elim (which y) [
      | inl y_out ↦ absurd (out-second y x y_out x_second (sym same))
      | inr (inl y_first) ↦
          absurd (omega (arith, same, y_first.same, x_second.same, y_first.arc.within, x_second.arc.positive))
      | inr (inr y_second) ↦
          number-apart second_parts second-paired x y x_second.head y_second.head
          (omega (arith, same, x_second.same, y_second.same))
    ]
  ]
    where
      out-first : (x y : ℕ) → IsOut x → IsFirst y → cut_number x ≡ cut_number y → ⊥
      out-first x y x_out y_first same = elim x_out.outside [
        | inl none ↦ omega (arith, none, same, x_out.same, y_first.same, y_first.arc.positive)
        | inr past ↦ omega (arith, past, same, x_out.same, y_first.same, y_first.arc.within, length-parts)
      ]

      out-second : (x y : ℕ) → IsOut x → IsSecond y → cut_number x ≡ cut_number y → ⊥
      out-second x y x_out y_second same = elim x_out.outside [
        | inl none ↦ omega (arith, none, same, x_out.same, y_second.same, y_second.arc.positive)
        | inr past ↦ omega (arith, past, same, x_out.same, y_second.same, y_second.arc.within, length-parts)
      ]

  -- the arcs at the slots of both parts
  arcs-front : (place slot : ℕ) → place < length first_parts.crossings → slot < 4
      → arc_by_place (union_of first second).crossings place slot ≡ cut_number (arc_by_place old.crossings place slot)
  arcs-front place slot below slot_below =
      let raised = map (raised_slots (arc_count first.crossings)) second.crossings in
      let x = arc_by_place first_parts.crossings place slot in
      let before : arc_by_place old.crossings place slot ≡ x =
      ap (λ slots. arc_in slots slot) (get_or_append_left first_parts.crossings second_parts.crossings [] place below) in
      ap (λ slots. arc_in slots slot) (get_or_append_left first.crossings raised [] place (omega (arith, below, length-part)))
      ∙ slot-number first_parts first-paired place slot below slot_below
      ∙ sym (is-first x (slot-some first_parts first-paired place slot below slot_below)).same
      ∙ ap cut_number (sym before)

  arcs-back : (k slot : ℕ) → k < length second_parts.crossings → slot < 4
      → arc_by_place (union_of first second).crossings (length first_parts.crossings + k) slot
      ≡ cut_number (arc_by_place old.crossings (length first_parts.crossings + k) slot)
  arcs-back k slot below slot_below =
      let raised = map (raised_slots (arc_count first.crossings)) second.crossings in
      let x = arc_by_place second_parts.crossings k slot in
      let before : arc_by_place old.crossings (length first_parts.crossings + k) slot ≡ x =
      ap (λ slots. arc_in slots slot) (get_or-append-add first_parts.crossings second_parts.crossings k []) in
      ap (λ m. arc_by_place (union_of first second).crossings (m + k) slot) (sym length-part)
      ∙ ap (λ slots. arc_in slots slot)
      (get_or-append-add first.crossings raised k []
      ∙ get_or-map (raised_slots (arc_count first.crossings)) second.crossings k [] [] (omega (arith, below, length-other)))
      ∙ slot-raised (arc_count first.crossings) (slots_in second.crossings k) slot slot_below
      ∙ ap (λ y. y + arc_count first.crossings) (slot-number second_parts second-paired k slot below slot_below)
      ∙ sym (is-second x (slot-some second_parts second-paired k slot below slot_below)).same
      ∙ ap cut_number (sym before)

  pub numbers-cut : IsRenumbered cut_number old (union_of first second)
  numbers-cut =
      let n = length first_parts.crossings in
      let size = length-append first_parts.crossings second_parts.crossings in
      record {
        size = length-both first second ∙ length-parts ∙ sym (length-first keep code.crossings);
        loops = adds;
        below = number-below;
        apart = λ x y x_below y_below same. numbers-apart x y same;
        arcs = λ place slot below slot_below. elim (cases_lt place n) [
          | inl front ↦ arcs-front place slot front slot_below
          | inr back ↦
              let e : n + (place - n) ≡ place = omega (arith, back) in
              subst (λ (k : ℕ). arc_by_place (union_of first second).crossings k slot ≡ cut_number (arc_by_place old.crossings k slot)) e
              (arcs-back (place - n) slot (omega (arith, below, back, size)) slot_below)
        ];
      }
