-- Parts that are those of a code under other names are paired where the code is.
--
-- Parts are those of a code under other names. A name of the parts is that of some arc, and slots hold it exactly where they hold the arc;
-- so it is as often a head as the arc is, and as often a tail. The arcs of a code are so once each, hence the names are; other numbers are
-- so never.
use Rattle.std.proofs.lemmas.Bool.Decides.{nat_tests}
use Rattle.std.proofs.Common.{◌≡◌, ℕ, zero, suc, inl, inr, ◌+◌, ◌-◌, ◌*◌, ◌/◌, ◌%◌, ◌<◌, ◌≤◌, ◌∙◌, List, [], length, refl, sym, ap, ap₂, arith, Bool, false, cond}
use Rattle.std.specs.Prelude.{nat_eq, if◌then◌else◌, slice_index_or}
use Rattle.std.specs.List.{count_by, flat_map, list_any, range_with_len}
use Rattle.std.proofs.lemmas.Bool.{cases_Bool, both_ways, eqb-true, ne_eqb}
use Rattle.std.proofs.lemmas.List.Sums.{sum_by-append}
use Rattle.kh_types.specs.Code.{Code, arc_in}
use Rattle.kh_types.specs.Darts.{arc_of, dart_at}
use Rattle.kh_types.proofs.RangeCounts.{list_any-at, list_any-one}
use Rattle.kh_types.proofs.DartPairs.{IsDart-at}
use Rattle.kh_types.specs.Directions.{HasNoSingleArcs}
use Rattle.kh_types.specs.Accepted.{IsDirected}
use Rattle.code_passes.specs.Passes.{Pass}
use Rattle.code_passes.specs.Parts.{Parts, ArePaired, parts_of, passes_at, slots_in, is_positive_at, head_count, tail_count}
use Rattle.orient_arcs.specs.Alike.{IsOf}
use Rattle.orient_arcs.proofs.AlikeCrossings.{same-test}
use Rattle.orient_arcs.proofs.PairedCodes.{ArePaired-directed, positive-is}

-- where slots hold one name of the parts exactly where they hold one arc of the code, these are as often heads, and as often tails
module _ (parts others : Parts) (x y : ℕ) where
  SameAt : ℕ → Type 0
  SameAt place =
      ((slot : ℕ) → slot < 4
      → nat_eq (arc_in (slots_in parts.crossings place) slot) x ≡ nat_eq (arc_in (slots_in others.crossings place) slot) y)
      × (is_positive_at parts.positive place ≡ is_positive_at others.positive place)

  abbrev heads_in : Parts → ℕ → ℕ → ℕ → ℕ
  heads_in ps z a n = count_by (λ (pass : Pass). nat_eq pass.enters z) (flat_map (passes_at ps) (range_with_len a n))

  abbrev tails_in : Parts → ℕ → ℕ → ℕ → ℕ
  tails_in ps z a n = count_by (λ (pass : Pass). nat_eq pass.leaves z) (flat_map (passes_at ps) (range_with_len a n))

  same-place : (place : ℕ) → SameAt place
      → (count_by (λ (pass : Pass). nat_eq pass.enters x) (passes_at parts place)
      ≡ count_by (λ (pass : Pass). nat_eq pass.enters y) (passes_at others place))
      × (count_by (λ (pass : Pass). nat_eq pass.leaves x) (passes_at parts place)
      ≡ count_by (λ (pass : Pass). nat_eq pass.leaves y) (passes_at others place))
  unfolding SameAt
  same-place place same =
      let slots = slots_in parts.crossings place in
      let other_slots = slots_in others.crossings place in
      by (is_positive_at parts.positive place) (is_positive_at others.positive place) same.1
      (λ slot. nat_eq (arc_in slots slot) x) (λ slot. nat_eq (arc_in other_slots slot) y) same.0
    where
      by : (b c : Bool) → b ≡ c → (p q : ℕ → Bool) → ((slot : ℕ) → slot < 4 → p slot ≡ q slot)
          → (0 + cond (p 0) 1 0 + cond (p (if b then 3 else 1)) 1 0 ≡ 0 + cond (q 0) 1 0 + cond (q (if c then 3 else 1)) 1 0)
          × (0 + cond (p 2) 1 0 + cond (p (if b then 1 else 3)) 1 0 ≡ 0 + cond (q 2) 1 0 + cond (q (if c then 1 else 3)) 1 0)
      by b c is p q each = grind (arith, nat_tests)

  same-counts : (a n : ℕ) → ((place : ℕ) → a ≤ place → place < a + n → SameAt place)
      → (heads_in parts x a n ≡ heads_in others y a n) × (tails_in parts x a n ≡ tails_in others y a n)
  same-counts a zero each = (refl, refl)
  same-counts a (suc n) each =
      let here = same-place a (each a (omega arith) (omega arith)) in
      let rest = same-counts (a + 1) n (λ place from below. each place (omega (arith, from)) (omega (arith, below))) in
      let more = flat_map (passes_at parts) (range_with_len (a + 1) n) in
      let other_more = flat_map (passes_at others) (range_with_len (a + 1) n) in (
        omega (
          arith,
          here.0,
          rest.0,
          sum_by-append (λ (pass : Pass). cond (nat_eq pass.enters x) 1 0) (passes_at parts a) more,
          sum_by-append (λ (pass : Pass). cond (nat_eq pass.enters y) 1 0) (passes_at others a) other_more,
        ),
        omega (
          arith,
          here.1,
          rest.1,
          sum_by-append (λ (pass : Pass). cond (nat_eq pass.leaves x) 1 0) (passes_at parts a) more,
          sum_by-append (λ (pass : Pass). cond (nat_eq pass.leaves y) 1 0) (passes_at others a) other_more,
        ),
      )

module _ (code : Code) (directed : IsDirected code.crossings) (moves : HasNoSingleArcs code.crossings) (parts : Parts)
    (of_code : IsOf code parts) where
  abbrev own : Parts
  own = parts_of code

  abbrev darts_count : ℕ
  darts_count = 4 * length code.crossings

  at-dart : (crossings : List (List ℕ)) (place slot : ℕ) → slot < 4
      → arc_of crossings (dart_at (4 * place + slot)) ≡ arc_in (slots_in crossings place) slot
  at-dart crossings place slot below =
      let p : (4 * place + slot) / 4 + 1 - 1 ≡ place = omega (arith, below) in
      let s : (4 * place + slot) % 4 ≡ slot = omega (arith, below) in
      ap₂ (λ k l. arc_in (slice_index_or crossings k []) l) p s

  -- a name of the parts has an arc of the code, and any other number has 0
  has-arc : (x : ℕ) → (y : ℕ) × ((head_count parts x ≡ head_count own y) × (tail_count parts x ≡ tail_count own y))
  unfolding SameAt
  has-arc x =
      let stands = λ (d : ℕ). nat_eq (arc_of parts.crossings (dart_at d)) x in
      elim (cases_Bool (list_any stands (range_with_len 0 darts_count))) [
        | inl some ↦
            let found = list_any-one stands 0 darts_count some in
            let d = found.0 in
            let below : d < darts_count = omega (arith, found.2) in
            let y = arc_of code.crossings (dart_at d) in
            let is_x = eqb-true (arc_of parts.crossings (dart_at d)) x found.3 in (
              y,
              counts x y (λ place slot place_below slot_below.
                  let e : ℕ = 4 * place + slot in
                  let e_below : 4 * place + slot < darts_count = omega (arith, place_below, slot_below) in
                  ap (λ z. nat_eq z x) (sym (at-dart parts.crossings place slot slot_below))
                  ∙ same-test (arc_of code.crossings (dart_at e)) y (arc_of parts.crossings (dart_at e)) x
                  (λ same. of_code.alike.onward e d e_below below same ∙ is_x)
                  (λ same. of_code.alike.back e d e_below below (same ∙ sym is_x))
                  ∙ ap (λ z. nat_eq z y) (at-dart code.crossings place slot slot_below)),
            )
        | inr none ↦ (
          0,
          counts x 0 (λ place slot place_below slot_below.
              let e : ℕ = 4 * place + slot in
              let e_below : 4 * place + slot < darts_count = omega (arith, place_below, slot_below) in
              let arc = directed.slots (dart_at e) (IsDart-at code.crossings e e_below) in
              ap (λ z. nat_eq z x) (sym (at-dart parts.crossings place slot slot_below))
              ∙ no-name stands e e_below none
              ∙ sym (ne_eqb (arc_of code.crossings (dart_at e)) 0 (λ zeroth. absurd (omega (arith, zeroth, arc.positive))))
              ∙ ap (λ z. nat_eq z 0) (at-dart code.crossings place slot slot_below)),
        )
      ]
    where
      no-name : (p : ℕ → Bool) (e : ℕ) → e < 4 * length code.crossings
          → list_any p (range_with_len 0 (4 * length code.crossings)) ≡ false → p e ≡ false
      no-name p e below none = elim (cases_Bool (p e)) [
        | inr fails ↦ fails
        | inl holds ↦ absurd
            (both_ways (list_any p (range_with_len 0 (4 * length code.crossings))) none
            (list_any-at p 0 (4 * length code.crossings) e (omega arith) (omega (arith, below)) holds))
      ]

      counts : (x y : ℕ) → ((place slot : ℕ) → place < length code.crossings → slot < 4
          → nat_eq (arc_in (slots_in parts.crossings place) slot) x ≡ nat_eq (arc_in (slots_in code.crossings place) slot) y)
          → (head_count parts x ≡ head_count (parts_of code) y) × (tail_count parts x ≡ tail_count (parts_of code) y)
      counts x y each =
          let size = of_code.alike.size in
          let both = same-counts parts (parts_of code) x y 0 (length code.crossings)
          (λ place from below.
          let within : place < length code.crossings = omega (arith, below) in
          let e : place + 1 - 1 ≡ place = omega arith in (
            λ slot slot_below. each place slot within slot_below,
            ap (λ k. is_positive_at parts.positive k) (sym e)
                ∙ of_code.signs (place + 1) (record { positive = omega arith; within = omega (arith, within) })
                ∙ sym (positive-is code directed moves place within),
          )) in (
            ap (λ n. heads_in parts (parts_of code) x y parts x 0 n) size ∙ both.0,
            ap (λ n. tails_in parts (parts_of code) x y parts x 0 n) size ∙ both.1,
          )

  pub ArePaired-of : ArePaired parts
  ArePaired-of =
      let paired = ArePaired-directed code directed moves in
      record {
        heads = λ x. let y = has-arc x in omega (arith, y.1.0, paired.heads y.0);
        tails = λ x. let y = has-arc x in y.1.1 ∙ paired.tails y.0 ∙ sym y.1.0;
      }
