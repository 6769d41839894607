-- Darts and the checkerboard of codes whose crossings are those of another in another order.
--
-- Darts go to darts, by the place of their crossing. An arc stands as often as before, as a sum over places does not know their order. A
-- choice of bits goes with the crossings, and each arc has an equation between the bits of its two crossings, which may change sides.
use Rattle.std.proofs.Common.{◌≡◌, ◌≢◌, ℕ, ◌⊎◌, inl, inr, ◌+◌, ◌-◌, ◌*◌, ◌/◌, ◌%◌, ◌^◌, ◌<◌, ◌≤◌, ◌∙◌, List, [], length, get_or, sym, ap, ap₂, subst, arith, cond}
use Rattle.std.specs.Prelude.{nat_eq}
use Rattle.std.specs.List.{range_with_len, sum_by}
use Rattle.std.proofs.lemmas.Bool.{eq-eqb}
use Rattle.kh_types.specs.declared.dart.Dart.{Dart}
use Rattle.kh_types.specs.Bits.{bit}
use Rattle.kh_types.specs.Checkerboard.{IsCheckerboard, solves_at}
use Rattle.kh_types.specs.Code.{IsArc, arc_count, arc_in, place_of}
use Rattle.kh_types.specs.Colours.{colour}
use Rattle.kh_types.specs.Darts.{HasArcsTwice, IsDart, arc_of, dart_at, first_dart, partner, partner_at, times}
use Rattle.kh_types.proofs.DartColours.{IsColoured-checkerboard}
use Rattle.kh_types.proofs.DartPairs.{IsDartOf-first_dart, IsOtherDart-partner, IsOtherPlace-partner_at, partner_at-only}
use Rattle.kh_types.proofs.ListSums.{sum_by-range_alike}
use Rattle.kh_types.proofs.Lists.{count_by-map}
use Rattle.kh_types.proofs.RangeCounts.{list_all-each}
use Rattle.cell_laws.proofs.Matched.{sum_by-paired}
use Rattle.order_laws.proofs.Shuffled.{IsArc-new, IsCrossing-at, IsShuffled, IsShuffled-back, slots-at}

abbrev dart_from : ℕ → ℕ → Dart
dart_from crossing slot = record { crossing = crossing; slot = slot }

-- where the dart at a place goes
abbrev pub carried : (ℕ → ℕ) → ℕ → ℕ
carried to place = 4 * to (place / 4) + place % 4

abbrev on_arc : List (List ℕ) → ℕ → ℕ → ℕ
on_arc crossings arc place = cond (nat_eq (arc_of crossings (dart_at place)) arc) 1 0

times-places : (crossings : List (List ℕ)) (arc : ℕ) → times crossings arc ≡ sum_by (on_arc crossings arc) (range_with_len 0 (4 * length crossings))
times-places crossings arc = count_by-map (λ dart. nat_eq (arc_of crossings dart) arc) dart_at (range_with_len 0 (4 * length crossings))

module _ (old new : List (List ℕ)) (to choices : ℕ → ℕ) (is : IsShuffled old new to choices) where
  abbrev home : IsShuffled new old to choices
  home = IsShuffled-back old new to choices is is.bits

  pub carried-below : (q : ℕ) → q < 4 * length old → carried to q < 4 * length old
  carried-below q below = by (q / 4) (q % 4) (length old) (to (q / 4)) (omega arith) (is.below (q / 4) (omega (arith, below)))
    where
      by : (l u n m : ℕ) → u < 4 → m < n → 4 * m + u < 4 * n
      by l u n m u_below below = omega (arith, u_below, below)

  pub carried-twice : (q : ℕ) → carried to (carried to q) ≡ q
  carried-twice q =
      let place : (4 * to (q / 4) + q % 4) / 4 ≡ to (q / 4) = omega arith in
      let slot : (4 * to (q / 4) + q % 4) % 4 ≡ q % 4 = omega arith in
      ap₂ (λ l u. 4 * to l + u) place slot ∙ ap (λ l. 4 * l + q % 4) (is.twice (q / 4)) ∙ omega arith

  pub arc-carried : (q : ℕ) → arc_of new (dart_at (carried to q)) ≡ arc_of old (dart_at q)
  arc-carried q =
      let place : (4 * to (q / 4) + q % 4) / 4 + 1 - 1 ≡ to (q / 4) = omega arith in
      let slot : (4 * to (q / 4) + q % 4) % 4 ≡ q % 4 = omega arith in
      let back : q / 4 ≡ q / 4 + 1 - 1 = omega arith in
      ap₂ (λ l u. arc_in (get_or new l []) u) place slot
      ∙ ap (λ slots. arc_in slots (q % 4)) (is.slots (q / 4) ∙ ap (λ l. get_or old l []) back)

  pub times-shuffled : (arc : ℕ) → times new arc ≡ times old arc
  times-shuffled arc =
      let m = 4 * length old in
      times-places new arc
      ∙ ap (λ n. sum_by (on_arc new arc) (range_with_len 0 (4 * n))) is.size
      ∙ sum_by-paired m m (carried to) (carried to) (on_arc new arc)
      (record {
        there_below = carried-below;
        back_below = carried-below;
        back_there = λ q below. carried-twice q;
        there_back = λ q below. carried-twice q;
      })
      ∙ sum_by-range_alike (λ q. on_arc new arc (carried to q)) (on_arc old arc) 0 m (λ q from below. at q)
      ∙ sym (times-places old arc)
    where
      at : (q : ℕ) → on_arc new arc (carried to q) ≡ on_arc old arc q
      at q = ap (λ a. cond (nat_eq a arc) 1 0) (arc-carried q)

  -- a dart where it stood
  abbrev pub dart_home : Dart → Dart
  dart_home dart = record { crossing = to (place_of dart.crossing) + 1; slot = dart.slot }

  pub arc-home : (dart : Dart) → arc_of old (record { crossing = to (place_of dart.crossing) + 1; slot = dart.slot }) ≡ arc_of new dart
  arc-home dart = ap (λ slots. arc_in slots dart.slot) (slots-at new old to choices home dart.crossing)

  pub IsDart-home : (dart : Dart) → IsDart new dart → IsDart old (record { crossing = to (place_of dart.crossing) + 1; slot = dart.slot })
  IsDart-home dart here = record { crossing = IsCrossing-at new old to choices home dart.crossing here.crossing; slot = here.slot }

  pub HasArcsTwice-shuffled : HasArcsTwice old → HasArcsTwice new
  HasArcsTwice-shuffled twice = record {
    slots = λ dart here.
        IsArc-new old new to choices is (arc_of new dart)
        (subst (λ (arc : ℕ). IsArc old arc) (arc-home dart)
        (twice.slots (record { crossing = to (place_of dart.crossing) + 1; slot = dart.slot }) (IsDart-home dart here)));
    twice = λ arc here. times-shuffled arc ∙ twice.twice arc (IsArc-new new old to choices home arc here);
  }

  -- partners go where darts go
  pub partner-carried : HasArcsTwice old → (q : ℕ) → q < 4 * length old → partner_at new (carried to q) ≡ carried to (partner_at old q)
  partner-carried twice q below =
      let other = IsOtherPlace-partner_at old q twice below in
      let o = partner_at old q in
      sym (partner_at-only new (carried to q) (carried to o) (HasArcsTwice-shuffled twice)
      (omega (arith, carried-below q below, is.size))
      (record {
        below = omega (arith, carried-below o other.below, is.size);
        differs = λ alike. other.differs (sym (carried-twice o) ∙ ap (carried to) alike ∙ carried-twice q);
        same_arc = arc-carried o ∙ other.same_arc ∙ sym (arc-carried q);
      }))

  -- colours go with the crossings
  colour-home : (choice : ℕ) (dart : Dart)
      → colour choice (record { crossing = to (place_of dart.crossing) + 1; slot = dart.slot }) ≡ colour (choices choice) dart
  colour-home choice dart =
      let l = place_of dart.crossing in
      let e : to l + 1 - 1 ≡ to l = omega arith in
      ap (λ b. (b + dart.slot) % 2)
      (ap (bit choice) e ∙ sym (is.bits choice (to l)) ∙ ap (bit (choices choice)) (is.twice l))

  same_crossing : (c d : ℕ) → 1 ≤ c → 1 ≤ d → to (place_of c) + 1 ≡ to (place_of d) + 1 → c ≡ d
  same_crossing c d c_positive d_positive alike =
      let places : to (c - 1) ≡ to (d - 1) = omega (arith, alike) in
      omega (arith, c_positive, d_positive, sym (is.twice (c - 1)) ∙ ap to places ∙ is.twice (d - 1))

  same_dart : (dart other : Dart) → dart.crossing ≡ other.crossing → dart.slot ≡ other.slot → dart ≡ other
  same_dart dart other crossing slot = ap₂ dart_from crossing slot

  home-once : (dart other : Dart) → IsDart new dart → IsDart new other
      → dart_home dart ≡ dart_home other → dart ≡ other
  home-once dart other is_dart is_other alike =
      same_dart dart other
      (same_crossing dart.crossing other.crossing is_dart.crossing.positive is_other.crossing.positive (ap (λ (d : Dart). d.crossing) alike))
      (ap (λ (d : Dart). d.slot) alike)

  odd_sum : (x s y t : ℕ) → (x + s) % 2 ≢ (y + t) % 2 → (x + (y + (s + t))) % 2 ≡ 1
  odd_sum x s y t differ =
      by ((x + s) % 2) ((y + t) % 2) ((x + (y + (s + t))) % 2) (omega arith) (omega arith) differ (omega arith)
    where
      by : (a b c : ℕ) → a < 2 → b < 2 → a ≢ b → c ≡ (a + b) % 2 → c ≡ 1
      by a b c a_below b_below differ is_c = elim (lt-or a b differ) [
        | inl less ↦ omega (arith, a_below, b_below, less, is_c)
        | inr more ↦ omega (arith, a_below, b_below, more, is_c)
      ]
        where
          lt-or : (a b : ℕ) → a ≢ b → (a < b) ⊎ (b < a)
          lt-or a b differ = grind arith

  pub IsCheckerboard-shuffled : HasArcsTwice old → IsCheckerboard old → IsCheckerboard new
  IsCheckerboard-shuffled twice board =
      let choice = board.choice in
      let coloured = IsColoured-checkerboard old board twice in
      let new_twice = HasArcsTwice-shuffled twice in
      record {
        choice = choices choice;
        below = subst (λ (n : ℕ). choices choice < 2 ^ n) (sym is.size) (is.choices_below choice board.below);
        solves = list_all-each (solves_at new (choices choice)) 1 (arc_count new)
            (λ arc from below.
            let first = first_dart new arc in
            let second = partner new first in
            let first_is = IsDartOf-first_dart new arc new_twice (record { positive = from; within = omega (arith, below) }) in
            let second_is = IsOtherDart-partner new first new_twice first_is.within in
            let x = bit (choices choice) (place_of first.crossing) in
            let y = bit (choices choice) (place_of second.crossing) in
            eq-eqb ((x + (y + (first.slot + second.slot))) % 2) 1
            (odd_sum x first.slot y second.slot
            (λ alike. second_is.differs
            (sym (home-once first second first_is.within second_is.within
            (coloured.once (dart_home first) (dart_home second) (IsDart-home first first_is.within)
            (IsDart-home second second_is.within)
            (arc-home first ∙ sym second_is.same_arc ∙ sym (arc-home second))
            (colour-home choice first ∙ alike ∙ sym (colour-home choice second))))))));
      }
