-- A slide keeps a checkerboard: the three crossings change their bits.
--
-- At the three crossings all bits change, and with them all colours. A dart there has the arc of its source, and where that arc was, it had
-- the colour that the dart has now; elsewhere nothing changes. So each arc has one dart of either colour again.
use Rattle.std.proofs.lemmas.Bool.Decides.{nat_tests}
use Rattle.std.proofs.Common.{◌≡◌, ◌≢◌, ℕ, inl, inr, ◌+◌, ◌-◌, ◌*◌, ◌/◌, ◌%◌, ◌^◌, ◌<◌, ◌≤◌, ◌∙◌, List, length, refl, sym, ap, ap₂, subst, arith}
use Rattle.std.specs.Prelude.{IsTrue}
use Rattle.std.proofs.lemmas.Bool.{cases_eq, cases_lt, eq-eqb}
use Rattle.std.proofs.Math.Nat.{add-div_right, div-eq_of_lt}
use Rattle.std.proofs.lemmas.Nat.{pow_pos}
use Rattle.kh_types.specs.declared.dart.Dart.{Dart}
use Rattle.kh_types.specs.Bits.{bit}
use Rattle.kh_types.specs.Code.{Code, place_of}
use Rattle.kh_types.specs.Darts.{dart_at, dart_place, first_dart, partner, partner_at, HasArcsTwice}
use Rattle.kh_types.specs.Checkerboard.{solves_at, IsCheckerboard}
use Rattle.kh_types.specs.Colours.{colour, IsColoured}
use Rattle.kh_types.specs.Acceptance.{accepted}
use Rattle.kh_types.proofs.RangeCounts.{list_all-each}
use Rattle.kh_types.proofs.DartPairs.{dart_at-place, dart_place-at, dart_place-below, IsDart-at, partner-at_place, IsOtherPlace-partner_at, IsDartOf-first_dart}
use Rattle.kh_types.proofs.DartColours.{IsColoured-checkerboard}
use Rattle.kh_types.proofs.AcceptedLemmas.{IsAccepted-is, HasArcsTwice-accepted}
use Rattle.kh_types.proofs.EdgeBits.{bit-set_there, bit-set_other, set-within}
use Rattle.kh_types.proofs.Ranges.{below_four}
use Rattle.kh_types.proofs.BitLemmas.{bit-cases}
use Rattle.slide_laws.specs.Slid.{on, source, slid}
use Rattle.slide_laws.proofs.Corners.{at_places, IsOutside, on-crossing, on-slot, on-on, on-zero, on-below, on-apart, source-x, source-rotated, source-outside, source-source, source-below}
use Rattle.slide_laws.proofs.Sides.{HasSides, HasSides-rotated}
use Rattle.slide_laws.proofs.SlidArcs.{length-slid, HasArcsTwice-slid, partner_at-slid}
use Rattle.gluing_laws.specs.Codes.{arc_of_dart}
use Rattle.gluing_laws.proofs.DartPairs.{arc_of-dart}

-- a bit changed

pub record IsFlipped (number flipped place : ℕ) : Type 0 where
  pub there : bit flipped place + bit number place ≡ 1
  pub others : (k : ℕ) → k ≢ place → bit flipped k ≡ bit number k

odd-before : (q : ℕ) → (q + 1) % 2 ≡ 1 → q % 2 ≡ 0
odd-before q odd = omega (arith, odd)

pub flip : (number place count : ℕ) → place < count → number < 2 ^ count
    → (flipped : ℕ) × (flipped < 2 ^ count) × IsFlipped number flipped place
flip number place count within below = elim (bit-cases number place) [
  | inl off ↦
      let there = bit-set_there number place off in (
        number + 2 ^ place,
        set-within number place count within below off,
        record { there = omega (arith, there, off); others = bit-set_other number place off },
      )
  | inr bit_on ↦
      let unit = 2 ^ place in
      let large : unit ≤ number = elim (cases_lt number unit) [
        | inl less ↦
            let zero_bit : bit number place ≡ 0 = ap (λ q. q % 2) (div-eq_of_lt less) in
            absurd (omega (arith, zero_bit, bit_on))
        | inr not_less ↦ omega (arith, not_less)
      ] in
      let rest = number - unit in
      let whole : rest + unit ≡ number = omega (arith, large) in
      let off : bit rest place ≡ 0 =
      odd-before (rest / unit) (sym (ap (λ q. q % 2) (add-div_right rest (pow_pos place))) ∙ ap (λ k. bit k place) whole ∙ bit_on) in (
        rest,
        omega (arith, below, whole),
        record {
          there = omega (arith, off, bit_on);
          others = λ k other. sym (bit-set_other rest place off k other) ∙ ap (λ m. bit m k) whole;
        },
      )
]

-- the bits of three crossings changed
pub record AreFlipped (number flipped c d e : ℕ) : Type 0 where
  pub at_c : bit flipped c + bit number c ≡ 1
  pub at_d : bit flipped d + bit number d ≡ 1
  pub at_e : bit flipped e + bit number e ≡ 1
  pub others : (k : ℕ) → k ≢ c → k ≢ d → k ≢ e → bit flipped k ≡ bit number k

pub flip_three : (number c d e count : ℕ) → c < count → d < count → e < count → c ≢ d → c ≢ e → d ≢ e → number < 2 ^ count
    → (flipped : ℕ) × (flipped < 2 ^ count) × AreFlipped number flipped c d e
flip_three number c d e count c_below d_below e_below c_d c_e d_e below =
    let first = flip number c count c_below below in
    let second = flip first.0 d count d_below first.1 in
    let third = flip second.0 e count e_below second.1 in
    let first_c = first.2.there in
    let second_d = second.2.there in
    let third_e = third.2.there in
    let c_third = third.2.others c c_e in
    let c_second = second.2.others c c_d in
    let d_third = third.2.others d d_e in
    let d_first = first.2.others d (λ same. c_d (sym same)) in
    let e_second = second.2.others e (λ same. d_e (sym same)) in
    let e_first = first.2.others e (λ same. c_e (sym same)) in (
      third.0,
      third.1,
      record {
        at_c = omega (arith, first_c, c_third, c_second);
        at_d = omega (arith, second_d, d_third, d_first);
        at_e = omega (arith, third_e, e_second, e_first);
        others = λ k not_c not_d not_e. third.2.others k not_e ∙ second.2.others k not_d ∙ first.2.others k not_c;
      },
    )

-- colours by places

abbrev pub tint : ℕ → ℕ → ℕ
tint choice place = bit choice (place / 4) + place % 4

-- opposite slots have one colour, neighbours and partners two
pub record IsTinted (n : ℕ) (partner tints : ℕ → ℕ) : Type 0 where
  pub next : (place : ℕ) → (tints (on place 1) + tints place) % 2 ≡ 1
  pub across : (place : ℕ) → (tints (on place 2) + tints place) % 2 ≡ 0
  pub partners : (place : ℕ) → place < 4 * n → (tints place + tints (partner place)) % 2 ≡ 1

tint-on : (choice place steps : ℕ) → tint choice (on place steps) ≡ bit choice (place / 4) + (place % 4 + steps) % 4
tint-on choice place steps = ap₂ (λ k s. bit choice k + s) (on-crossing place steps) (on-slot place steps)

IsTinted-coloured : (crossings : List (List ℕ)) (choice : ℕ) → HasArcsTwice crossings → IsColoured crossings choice
    → IsTinted (length crossings) (partner_at crossings) (tint choice)
IsTinted-coloured crossings choice twice coloured = record {
  next = λ place. next_to (bit choice (place / 4)) (place % 4) (tint choice (on place 1)) (tint-on choice place 1);
  across = λ place. across_from (bit choice (place / 4)) (place % 4) (tint choice (on place 2)) (tint-on choice place 2);
  partners = λ place below.
      let partner = IsOtherPlace-partner_at crossings place twice below in
      let other = partner_at crossings place in
      apart (tint choice place) (tint choice other)
      (λ same. partner.differs
      (sym (dart_place-at other)
      ∙ ap dart_place
      (coloured.once (dart_at other) (dart_at place) (IsDart-at crossings other partner.below) (IsDart-at crossings place below)
      partner.same_arc (colour-at other ∙ sym same ∙ sym (colour-at place)))
      ∙ dart_place-at place));
}
  where
    next_to : (b slot t : ℕ) → t ≡ b + (slot + 1) % 4 → (t + (b + slot)) % 2 ≡ 1
    next_to b slot t is = omega (arith, is)

    across_from : (b slot t : ℕ) → t ≡ b + (slot + 2) % 4 → (t + (b + slot)) % 2 ≡ 0
    across_from b slot t is = omega (arith, is)

    apart : (s t : ℕ) → (s % 2 ≡ t % 2 → ⊥) → (s + t) % 2 ≡ 1
    apart s t differ = elim (cases_eq (s % 2) (t % 2)) [
      | inl same ↦ absurd (differ same)
      | inr other ↦ odd s t other
    ]
      where
        odd : (s t : ℕ) → s % 2 ≢ t % 2 → (s + t) % 2 ≡ 1
        odd s t other = omega (arith, other)

    colour-at : (place : ℕ) → colour choice (dart_at place) ≡ tint choice place % 2
    colour-at place = let e : place / 4 + 1 - 1 ≡ place / 4 = omega arith in ap (λ k. (bit choice k + place % 4) % 2) e

-- where an arc comes from, there was the colour that its new place has now: at the three crossings all colours have changed

odd-turned : (a b : ℕ) → (a + b) % 2 ≡ 1 → (b + a) % 2 ≡ 1
odd-turned a b odd = omega (arith, odd)

odd-even : (a b c : ℕ) → (b + a) % 2 ≡ 1 → (c + b) % 2 ≡ 0 → (c + a) % 2 ≡ 1
odd-even a b c odd even = omega (arith, odd, even)

moved-tints_x : (n : ℕ) (partner tints : ℕ → ℕ) (x y z : ℕ) → IsTinted n partner tints → HasSides n partner x y z → (j : ℕ) → j < 4
    → (tints (source x y z (on x j)) + tints (on x j)) % 2 ≡ 1
moved-tints_x n partner tints x y z tinted sides =
    let at = λ (j a b : ℕ) (source_is : source x y z (on x j) ≡ a) (here : on x j ≡ b) (odd : (tints a + tints b) % 2 ≡ 1).
    ap₂ (λ s t. (tints s + tints t) % 2) source_is here ∙ odd in
    -- the side to y, and that to z
    let to_y : (tints (on y 1) + tints x) % 2 ≡ 1 =
    odd-turned (tints x) (tints (on y 1)) (subst (λ (k : ℕ). (tints x + tints k) % 2 ≡ 1) sides.from_x (tinted.partners x sides.x_below)) in
    let to_z : (tints z + tints (on x 1)) % 2 ≡ 1 =
    subst (λ (k : ℕ). (tints z + tints k) % 2 ≡ 1) sides.from_z (tinted.partners z sides.z_below) in
    let across_y : (tints (on y 3) + tints (on y 1)) % 2 ≡ 0 =
    subst (λ (k : ℕ). (tints k + tints (on y 1)) % 2 ≡ 0) (on-on y 1 2) (tinted.across (on y 1)) in
    let across_x : (tints (on x 3) + tints (on x 1)) % 2 ≡ 0 =
    subst (λ (k : ℕ). (tints k + tints (on x 1)) % 2 ≡ 0) (on-on x 1 2) (tinted.across (on x 1)) in
    below_four (λ j. (tints (source x y z (on x j)) + tints (on x j)) % 2 ≡ 1)
    (at 0 (on y 3) x (source-x x y z 0 (omega arith)) (on-zero x) (odd-even (tints x) (tints (on y 1)) (tints (on y 3)) to_y across_y))
    (at 1 (on z 2) (on x 1) (source-x x y z 1 (omega arith)) refl
    (odd-even (tints (on x 1)) (tints z) (tints (on z 2)) to_z (tinted.across z)))
    (at 2 (on y 1) (on x 2) (source-x x y z 2 (omega arith)) refl
    (even-turned (tints x) (tints (on x 2)) (tints (on y 1)) (tinted.across x) to_y))
    (at 3 z (on x 3) (source-x x y z 3 (omega arith)) refl
    (even-turned (tints (on x 1)) (tints (on x 3)) (tints z) across_x to_z))
  where
    even-turned : (a b c : ℕ) → (b + a) % 2 ≡ 0 → (c + a) % 2 ≡ 1 → (c + b) % 2 ≡ 1
    even-turned a b c even odd = omega (arith, odd, even)

moved-tints : (n : ℕ) (partner tints after : ℕ → ℕ) (x y z : ℕ) → IsTinted n partner tints → HasSides n partner x y z
    → ((j : ℕ) → (after (on x j) + tints (on x j)) % 2 ≡ 1) → ((j : ℕ) → (after (on y j) + tints (on y j)) % 2 ≡ 1)
    → ((j : ℕ) → (after (on z j) + tints (on z j)) % 2 ≡ 1) → ((place : ℕ) → IsOutside x y z place → after place ≡ tints place)
    → (place : ℕ) → (after place + tints (source x y z place)) % 2 ≡ 0
moved-tints n partner tints after x y z tinted sides at_x at_y at_z at_others =
    let second = HasSides-rotated n partner x y z sides in
    let third = HasSides-rotated n partner y z x second in
    let once = source-rotated x y z sides.apart in
    let twice = once ∙ source-rotated y z x second.apart in
    at_places x y z (λ place. (after place + tints (source x y z place)) % 2 ≡ 0)
    (λ j below. both (after (on x j)) (tints (on x j)) (tints (source x y z (on x j))) (at_x j)
    (moved-tints_x n partner tints x y z tinted sides j below))
    (λ j below. subst (λ (f : ℕ → ℕ). (after (on y j) + tints (f (on y j))) % 2 ≡ 0) (sym once)
    (both (after (on y j)) (tints (on y j)) (tints (source y z x (on y j))) (at_y j)
    (moved-tints_x n partner tints y z x tinted second j below)))
    (λ j below. subst (λ (f : ℕ → ℕ). (after (on z j) + tints (f (on z j))) % 2 ≡ 0) (sym twice)
    (both (after (on z j)) (tints (on z j)) (tints (source z x y (on z j))) (at_z j)
    (moved-tints_x n partner tints z x y tinted third j below)))
    (λ place outside. ap₂ (λ s t. (s + t) % 2) (at_others place outside) (ap tints (source-outside x y z place outside))
    ∙ doubled (tints place))
  where
    both : (a b c : ℕ) → (a + b) % 2 ≡ 1 → (c + b) % 2 ≡ 1 → (a + c) % 2 ≡ 0
    both a b c first second = omega (arith, first, second)

    doubled : (a : ℕ) → (a + a) % 2 ≡ 0
    doubled a = omega arith

tint-flipped : (number flipped place j : ℕ) → bit flipped (place / 4) + bit number (place / 4) ≡ 1
    → (tint flipped (on place j) + tint number (on place j)) % 2 ≡ 1
tint-flipped number flipped place j there = grind (arith, nat_tests)

pub IsCheckerboard-slid : (code : Code) (x y z : ℕ) → IsTrue (accepted code)
    → HasSides (length code.crossings) (partner_at code.crossings) x y z → IsCheckerboard (slid code.crossings x y z)
IsCheckerboard-slid code x y z is sides =
    let crossings = code.crossings in
    let n = length crossings in
    let new = slid crossings x y z in
    let size = length-slid crossings x y z in
    let twice = HasArcsTwice-accepted code is in
    let new_twice = HasArcsTwice-slid crossings x y z twice sides in
    let board = ((IsAccepted-is code).0 is).checkerboard in
    let tinted = IsTinted-coloured crossings board.choice twice (IsColoured-checkerboard crossings board twice) in
    let x_below = sides.x_below in
    let y_below = sides.y_below in
    let z_below = sides.z_below in
    let flipped = flip_three board.choice (x / 4) (y / 4) (z / 4) n (omega (arith, x_below)) (omega (arith, y_below))
    (omega (arith, z_below)) sides.apart.x_y sides.apart.x_z sides.apart.y_z board.below in
    let choice = flipped.0 in
    let moved = moved-tints n (partner_at crossings) (tint board.choice) (tint choice) x y z tinted sides
    (λ j. tint-flipped board.choice choice x j flipped.2.at_c) (λ j. tint-flipped board.choice choice y j flipped.2.at_d)
    (λ j. tint-flipped board.choice choice z j flipped.2.at_e)
    (λ place outside. ap (λ b. b + place % 4) (flipped.2.others (place / 4) outside.not_x outside.not_y outside.not_z)) in
    record {
      choice = choice;
      below = subst (λ (k : ℕ). choice < 2 ^ k) (sym size) flipped.1;
      solves = list_all-each (solves_at new choice) 1 (2 * length new) (λ arc from below.
          let first = IsDartOf-first_dart new arc new_twice (record { positive = from; within = omega (arith, below) }) in
          let dart = first_dart new arc in
          let place = dart_place dart in
          let within : place < 4 * n = subst (λ (k : ℕ). place < 4 * k) size (dart_place-below new dart first.within) in
          let is_dart = dart_at-place new dart first.within in
          let from_place = source x y z place in
          let other = partner_at crossings from_place in
          let other_is : partner new dart ≡ dart_at (source x y z other) =
          ap (partner new) (sym is_dart) ∙ partner-at_place new place ∙ ap dart_at (partner_at-slid crossings x y z place twice sides within) in
          let old_odd = tinted.partners from_place (source-below n x y z sides.apart x_below y_below z_below place within) in
          let here = moved place in
          let there = subst (λ (k : ℕ). (tint choice (source x y z other) + tint board.choice k) % 2 ≡ 0) (source-source x y z sides.apart other)
          (moved (source x y z other)) in
          let odd = odd_sum (tint choice place) (tint board.choice from_place) (tint board.choice other) (tint choice (source x y z other)) here
          old_odd there in
          eq-eqb
          ((bit choice (place_of dart.crossing) + (bit choice (place_of (partner new dart).crossing) + (dart.slot + (partner new dart).slot)))
          % 2)
          1
          (ap₂ (λ (s t : Dart). (bit choice (place_of s.crossing) + (bit choice (place_of t.crossing) + (s.slot + t.slot))) % 2) (sym is_dart)
          other_is
          ∙ by_places choice place (source x y z other) odd));
    }
  where
    odd_sum : (a b c d : ℕ) → (a + b) % 2 ≡ 0 → (b + c) % 2 ≡ 1 → (d + c) % 2 ≡ 0 → (a + d) % 2 ≡ 1
    odd_sum a b c d first second third = omega (arith, first, second, third)

    regrouped : (a b s t : ℕ) → (a + s + (b + t)) % 2 ≡ 1 → (a + (b + (s + t))) % 2 ≡ 1
    regrouped a b s t odd = omega (arith, odd)

    by_places : (choice place other : ℕ) → (tint choice place + tint choice other) % 2 ≡ 1
        → (bit choice (place / 4 + 1 - 1) + (bit choice (other / 4 + 1 - 1) + (place % 4 + other % 4))) % 2 ≡ 1
    by_places choice place other odd = grind (arith, nat_tests, odd, regrouped)

-- the two arcs of a pass differ, where there is a checkerboard
pub passes-apart : (crossings : List (List ℕ)) → HasArcsTwice crossings → IsCheckerboard crossings → (place : ℕ)
    → place < 4 * length crossings → arc_of_dart crossings place ≢ arc_of_dart crossings (on place 2)
passes-apart crossings twice board place below same =
    let coloured = IsColoured-checkerboard crossings board twice in
    let behind = on place 2 in
    let same_dart = coloured.once (dart_at behind) (dart_at place) (IsDart-at crossings behind (on-below (length crossings) place 2 below))
    (IsDart-at crossings place below) (arc_of-dart crossings behind ∙ sym same ∙ sym (arc_of-dart crossings place))
    (by_places board.choice place behind (on-crossing place 2) (on-slot place 2)) in
    on-apart place 2 0 (omega arith) (omega arith) (omega arith)
    (sym (dart_place-at behind) ∙ ap dart_place same_dart ∙ dart_place-at place ∙ sym (on-zero place))
  where
    alike : (b slot : ℕ) → (b + (slot + 2) % 4) % 2 ≡ (b + slot) % 2
    alike b slot = omega arith

    by_places : (choice place behind : ℕ) → behind / 4 ≡ place / 4 → behind % 4 ≡ (place % 4 + 2) % 4
        → colour choice (dart_at behind) ≡ colour choice (dart_at place)
    by_places choice place behind crossing slot = grind (arith, nat_tests, alike)
