-- Where each arc stands twice, it has two darts, which are partners.
--
-- Darts are places 4k + slot, so that searches are over a range. An arc that stands twice has two places that pass the test of its darts;
-- without the dart itself one is left, which the search for a partner finds, and which is the only one (`partner_at-only`). So the partner
-- of the partner is the dart. All is said by places first, then carried over to darts.
use Rattle.std.proofs.lemmas.Bool.Decides.{nat_tests}
use Rattle.std.proofs.Common.{◌≡◌, ◌≢◌, ℕ, ◌⊎◌, inl, inr, ◌*◌, ◌<◌, ◌∙◌, List, refl, sym, ap, subst, length, arith, Bool, true, false, not, ◌&&◌}
use Rattle.std.specs.Prelude.{nat_eq, Option, unwrap_or}
use Rattle.std.specs.List.{count_by, find, range_with_len}
use Rattle.std.specs.Option.{option_map}
use Rattle.std.proofs.lemmas.Bool.{and_right, eq-eqb, eqb-true, false_from_ne_true}
use Rattle.kh_types.specs.declared.dart.Dart.{Dart}
use Rattle.kh_types.specs.Code.{IsArc}
use Rattle.kh_types.specs.Darts.{dart_at, dart_place, arc_of, times, first_dart, is_same_dart, partner, partner_at, IsDart, IsDartOf, HasArcsTwice, IsOtherDart, HasPairedDarts, IsPairing}
use Rattle.kh_types.proofs.Lists.{count_by-map}
use Rattle.kh_types.proofs.Ranges.{find-map}
use Rattle.kh_types.proofs.RangeCounts.{count_by-one_more, found-counted, only-counted}
use Rattle.kh_types.proofs.DartLemmas.{is_partner_at, is_dart_of}

-- darts by their places

pub dart_place-at : (place : ℕ) → dart_place (dart_at place) ≡ place
dart_place-at place = omega arith

pub IsDart-at : (crossings : List (List ℕ)) (place : ℕ) → place < 4 * length crossings → IsDart crossings (dart_at place)
IsDart-at crossings place below = omega arith

pub dart_place-below : (crossings : List (List ℕ)) (dart : Dart) → IsDart crossings dart → dart_place dart < 4 * length crossings
dart_place-below crossings dart is = omega arith

pub dart_at-place : (crossings : List (List ℕ)) (dart : Dart) → IsDart crossings dart → dart_at (dart_place dart) ≡ dart
dart_at-place crossings dart is = grind (arith, nat_tests)

-- two darts are one exactly where their places are
is_same_dart-at : (place : ℕ) → is_same_dart (dart_at place) (dart_at place) ≡ true
is_same_dart-at place = grind (arith, nat_tests)

same_place : (place other : ℕ) → is_same_dart (dart_at place) (dart_at other) ≡ true → place ≡ other
same_place place other holds = grind (arith, nat_tests)

-- the places of the darts of an arc are as many as its darts
count-is_dart_of : (crossings : List (List ℕ)) (arc : ℕ)
    → count_by (is_dart_of crossings arc) (range_with_len 0 (4 * length crossings)) ≡ times crossings arc
count-is_dart_of crossings arc = grind (arith, nat_tests, count_by-map)

-- another place with a dart of the same arc
pub record IsOtherPlace (crossings : List (List ℕ)) (place other : ℕ) : Type 0 where
  pub below : other < 4 * length crossings
  pub differs : other ≢ place
  pub same_arc : arc_of crossings (dart_at other) ≡ arc_of crossings (dart_at place)

-- these are the places that a search for a partner accepts
is_partner_at-other : (crossings : List (List ℕ)) (place other : ℕ) → IsOtherPlace crossings place other
    → is_partner_at crossings (dart_at place) other ≡ true
is_partner_at-other crossings place other is = grind (arith, nat_tests)

other-is_partner_at : (crossings : List (List ℕ)) (place other : ℕ) → other < 4 * length crossings
    → is_partner_at crossings (dart_at place) other ≡ true → IsOtherPlace crossings place other
other-is_partner_at crossings place other below passes = grind (arith, nat_tests)

-- where the arc of a dart stands twice, the search accepts one place
count-is_partner_at : (crossings : List (List ℕ)) (place : ℕ) → place < 4 * length crossings
    → times crossings (arc_of crossings (dart_at place)) ≡ 2
    → count_by (is_partner_at crossings (dart_at place)) (range_with_len 0 (4 * length crossings)) ≡ 1
count-is_partner_at crossings place below twice =
    let arc = arc_of crossings (dart_at place) in
    let two = count-is_dart_of crossings arc ∙ twice in
    let one_more = count_by-one_more (is_dart_of crossings arc) (is_partner_at crossings (dart_at place)) 0 (4 * length crossings) place
    (omega arith) (omega (arith, below)) (eq-eqb arc arc refl)
    (and_right (nat_eq arc arc) (not (is_same_dart (dart_at place) (dart_at place))) (ap not (is_same_dart-at place)))
    (λ k other. sym (and_true (is_dart_of crossings arc k) (is_same_dart (dart_at k) (dart_at place))
    (false_from_ne_true (is_same_dart (dart_at k) (dart_at place)) (λ same. other (same_place k place same))))) in
    omega (arith, two, one_more)
  where
    and_true : (b c : Bool) → c ≡ false → (b && not c) ≡ b
    and_true true c fails = ap not fails
    and_true false c fails = refl

-- the partner of the dart at a place is the dart at the place that the search finds
found_dart : (o : Option ℕ) (place : ℕ) → unwrap_or (option_map dart_at o) (dart_at place) ≡ dart_at (unwrap_or o place)
found_dart o place = grind (arith, nat_tests)

partner-found : (crossings : List (List ℕ)) (place : ℕ)
    → partner crossings (dart_at place)
    ≡ dart_at (unwrap_or (find (is_partner_at crossings (dart_at place)) (range_with_len 0 (4 * length crossings))) place)
partner-found crossings place = grind (arith, nat_tests, find-map, found_dart, is_partner_at)

pub partner-at_place : (crossings : List (List ℕ)) (place : ℕ)
    → partner crossings (dart_at place) ≡ dart_at (partner_at crossings place)
partner-at_place crossings place = grind (arith, nat_tests, is_partner_at, partner-found, dart_place-at)

-- the arc of the dart at a place stands twice
twice-at : (crossings : List (List ℕ)) (place : ℕ) → HasArcsTwice crossings → place < 4 * length crossings
    → times crossings (arc_of crossings (dart_at place)) ≡ 2
twice-at crossings place twice below =
    twice.twice (arc_of crossings (dart_at place)) (twice.slots (dart_at place) (IsDart-at crossings place below))

-- the partner of a place is another place with a dart of the same arc
pub IsOtherPlace-partner_at : (crossings : List (List ℕ)) (place : ℕ) → HasArcsTwice crossings → place < 4 * length crossings
    → IsOtherPlace crossings place (partner_at crossings place)
IsOtherPlace-partner_at crossings place twice below =
    let count = count-is_partner_at crossings place below (twice-at crossings place twice below) in
    let found = found-counted (is_partner_at crossings (dart_at place)) 0 (4 * length crossings) (omega (arith, count)) in
    let is : partner_at crossings place ≡ found.0 =
    ap dart_place (partner-found crossings place ∙ ap (λ o. dart_at (unwrap_or o place)) found.1.first) ∙ dart_place-at found.0 in
    subst (λ (other : ℕ). IsOtherPlace crossings place other) (sym is)
    (other-is_partner_at crossings place found.0 (omega (arith, found.1.below)) found.1.passes)

-- and the only one
pub partner_at-only : (crossings : List (List ℕ)) (place other : ℕ) → HasArcsTwice crossings → place < 4 * length crossings
    → IsOtherPlace crossings place other → other ≡ partner_at crossings place
partner_at-only crossings place other twice below is =
    let partner = IsOtherPlace-partner_at crossings place twice below in
    only-counted (is_partner_at crossings (dart_at place)) 0 (4 * length crossings) other (partner_at crossings place)
    (count-is_partner_at crossings place below (twice-at crossings place twice below))
    (omega arith) (omega (arith, is.below)) (is_partner_at-other crossings place other is)
    (omega arith) (omega (arith, partner.below)) (is_partner_at-other crossings place (partner_at crossings place) partner)

-- so the places are partners in pairs, and none is alone
pub partner_at-partner_at : (crossings : List (List ℕ)) (place : ℕ) → HasArcsTwice crossings → place < 4 * length crossings
    → partner_at crossings (partner_at crossings place) ≡ place
partner_at-partner_at crossings place twice below =
    let partner = IsOtherPlace-partner_at crossings place twice below in
    sym
    (partner_at-only crossings (partner_at crossings place) place twice partner.below
    (record { below = below; differs = λ same. partner.differs (sym same); same_arc = sym partner.same_arc }))

pub IsPairing-partner_at : (crossings : List (List ℕ)) → HasArcsTwice crossings
    → IsPairing (4 * length crossings) (partner_at crossings)
IsPairing-partner_at crossings twice = record {
  below = λ place below. (IsOtherPlace-partner_at crossings place twice below).below;
  back = λ place below. partner_at-partner_at crossings place twice below;
}

-- the same of darts

pub partner-is : (crossings : List (List ℕ)) (dart : Dart) → IsDart crossings dart
    → partner crossings dart ≡ dart_at (partner_at crossings (dart_place dart))
partner-is crossings dart is = grind (arith, nat_tests, dart_at-place, partner-at_place)

pub IsOtherDart-partner : (crossings : List (List ℕ)) (dart : Dart) → HasArcsTwice crossings → IsDart crossings dart
    → IsOtherDart crossings dart (partner crossings dart)
IsOtherDart-partner crossings dart twice is =
    let place = dart_place dart in
    let partner = IsOtherPlace-partner_at crossings place twice (dart_place-below crossings dart is) in
    let is_partner = partner-is crossings dart is in
    record {
      within = subst (λ (d : Dart). IsDart crossings d) (sym is_partner)
          (IsDart-at crossings (partner_at crossings place) partner.below);
      differs = λ same. partner.differs
          (sym (dart_place-at (partner_at crossings place)) ∙ ap dart_place (sym is_partner ∙ same));
      same_arc = ap (λ d. arc_of crossings d) is_partner ∙ partner.same_arc
          ∙ ap (λ d. arc_of crossings d) (dart_at-place crossings dart is);
    }

pub partner-only : (crossings : List (List ℕ)) (dart other : Dart) → HasArcsTwice crossings → IsDart crossings dart
    → IsOtherDart crossings dart other → other ≡ partner crossings dart
partner-only crossings dart other twice is is_other =
    let dart_back = dart_at-place crossings dart is in
    let other_back = dart_at-place crossings other is_other.within in
    sym other_back
    ∙ ap dart_at
    (partner_at-only crossings (dart_place dart) (dart_place other) twice (dart_place-below crossings dart is)
    (record {
      below = dart_place-below crossings other is_other.within;
      differs = λ same. is_other.differs (sym other_back ∙ ap dart_at same ∙ dart_back);
      same_arc = ap (λ d. arc_of crossings d) other_back ∙ is_other.same_arc ∙ ap (λ d. arc_of crossings d) (sym dart_back);
    }))
    ∙ sym (partner-is crossings dart is)

pub partner-partner : (crossings : List (List ℕ)) (dart : Dart) → HasArcsTwice crossings → IsDart crossings dart
    → partner crossings (partner crossings dart) ≡ dart
partner-partner crossings dart twice is =
    let other = IsOtherDart-partner crossings dart twice is in
    sym
    (partner-only crossings (partner crossings dart) dart twice other.within
    (record { within = is; differs = λ same. other.differs (sym same); same_arc = sym other.same_arc }))

-- whether two darts are one
cases_dart : (crossings : List (List ℕ)) (dart other : Dart) → IsDart crossings dart → IsDart crossings other
    → (dart ≡ other) ⊎ (dart ≢ other)
cases_dart crossings dart other is is_other = grind (arith, nat_tests)

-- each dart of an arc is a given dart of it or that one's partner
pub dart_or_partner : (crossings : List (List ℕ)) (dart other : Dart) → HasArcsTwice crossings → IsDart crossings dart
    → IsDart crossings other → arc_of crossings other ≡ arc_of crossings dart → (other ≡ dart) ⊎ (other ≡ partner crossings dart)
dart_or_partner crossings dart other twice is is_other same_arc = elim (cases_dart crossings other dart is_other is) [
  | inl same ↦ inl same
  | inr differs ↦ inr
      (partner-only crossings dart other twice is (record { within = is_other; differs = differs; same_arc = same_arc }))
]

-- the first dart of an arc is one of its darts
pub IsDartOf-first_dart : (crossings : List (List ℕ)) (arc : ℕ) → HasArcsTwice crossings → IsArc crossings arc
    → IsDartOf crossings arc (first_dart crossings arc)
IsDartOf-first_dart crossings arc twice is_arc =
    let places = range_with_len 0 (4 * length crossings) in
    let two = count-is_dart_of crossings arc ∙ twice.twice arc is_arc in
    let found = found-counted (is_dart_of crossings arc) 0 (4 * length crossings) (omega (arith, two)) in
    let is : first_dart crossings arc ≡ dart_at found.0 =
    ap (λ o. unwrap_or o (dart_at 0))
    (find-map (λ dart. nat_eq (arc_of crossings dart) arc) dart_at places ∙ ap (λ o. option_map dart_at o) found.1.first) in
    subst (λ (dart : Dart). IsDartOf crossings arc dart) (sym is)
    (record {
      within = IsDart-at crossings found.0 (omega (arith, found.1.below));
      on_arc = eqb-true (arc_of crossings (dart_at found.0)) arc found.1.passes;
    })

-- so each dart of an arc is the first one or the first one's partner
pub first_dart_or_partner : (crossings : List (List ℕ)) (arc : ℕ) (dart : Dart) → HasArcsTwice crossings → IsArc crossings arc
    → IsDartOf crossings arc dart → (dart ≡ first_dart crossings arc) ⊎ (dart ≡ partner crossings (first_dart crossings arc))
first_dart_or_partner crossings arc dart twice is_arc is = grind (arith, nat_tests, IsDartOf-first_dart, dart_or_partner)

pub HasPairedDarts-twice : (crossings : List (List ℕ)) → HasArcsTwice crossings → HasPairedDarts crossings
HasPairedDarts-twice crossings twice = record {
  first = λ arc is. IsDartOf-first_dart crossings arc twice is;
  other = λ dart is. IsOtherDart-partner crossings dart twice is;
  two = λ dart other is is_other. dart_or_partner crossings dart other twice is is_other.within is_other.on_arc;
  back = λ dart is. partner-partner crossings dart twice is;
}
