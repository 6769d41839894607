-- The arcs of a code after a slide.
--
-- After a slide the arc at a dart is the one that stood at its source. Sources are one to one on the darts of the triangle, and other darts
-- keep their arcs. So each arc stands at two darts again, and the partner of a dart is the one whose source was the partner of its source.
use Rattle.std.proofs.Common.{◌≡◌, ◌≢◌, ℕ, zero, suc, ◌⊎◌, inl, inr, ◌+◌, ◌*◌, ◌/◌, ◌%◌, ◌<◌, ◌≤◌, ◌∙◌, List, [], length, refl, sym, ap, subst, arith, Bool, true, false, not, ◌&&◌}
use Rattle.std.specs.Prelude.{nat_eq, slice_index_or}
use Rattle.std.specs.List.{count_by, range_with_len}
use Rattle.std.proofs.lemmas.Bool.{cases_eq, eq-eqb, eqb-true}
use Rattle.std.proofs.lemmas.Bool.Decides.{nat_tests}
use Rattle.std.proofs.lemmas.List.FromFn.{get_or-map-range_with_len, length-map-range_with_len}
use Rattle.kh_types.specs.Code.{IsArc}
use Rattle.kh_types.specs.Darts.{dart_at, dart_place, arc_of, times, first_dart, partner_at, HasArcsTwice}
use Rattle.kh_types.proofs.Lists.{count_by-map}
use Rattle.kh_types.proofs.RangeCounts.{count_by-but, count_by-alike, but}
use Rattle.kh_types.proofs.DartPairs.{IsOtherPlace-partner_at, partner_at-only, dart_at-place, dart_place-below, IsDart-at, IsDartOf-first_dart}
use Rattle.slide_laws.specs.Slid.{source, slid, slid_crossing}
use Rattle.slide_laws.proofs.Corners.{source-source, source-below}
use Rattle.slide_laws.proofs.Sides.{HasSides, slid_partner}
use Rattle.gluing_laws.specs.Codes.{arc_of_dart}
use Rattle.gluing_laws.proofs.DartPairs.{arc_of-dart}

pub length-slid : (crossings : List (List ℕ)) (x y z : ℕ) → length (slid crossings x y z) ≡ length crossings
length-slid crossings x y z = length-map-range_with_len (slid_crossing crossings x y z) 0 (length crossings)

-- the arc at a dart is the one that stood at its source
pub arc_of_dart-slid : (crossings : List (List ℕ)) (x y z place : ℕ) → place < 4 * length crossings
    → arc_of_dart (slid crossings x y z) place ≡ arc_of_dart crossings (source x y z place)
arc_of_dart-slid crossings x y z place below =
    let crossing = place / 4 in
    let slot = place % 4 in
    let here : 0 + crossing ≡ crossing = omega arith in
    let whole : 4 * crossing + slot ≡ place = omega arith in
    ap (λ slots. slice_index_or slots slot 0)
    (get_or-map-range_with_len (slid_crossing crossings x y z) 0 (length crossings) crossing crossing [] (omega (arith, below)) here)
    ∙ get_or-map-range_with_len (λ k. arc_of_dart crossings (source x y z (4 * crossing + k))) 0 4 slot slot 0 (omega arith) (omega arith)
    ∙ ap (λ k. arc_of_dart crossings (source x y z k)) whole

pub arc_of-slid : (crossings : List (List ℕ)) (x y z place : ℕ) → place < 4 * length crossings
    → arc_of (slid crossings x y z) (dart_at place) ≡ arc_of crossings (dart_at (source x y z place))
arc_of-slid crossings x y z place below = grind (arith, nat_tests, arc_of-dart, arc_of_dart-slid)

-- exactly two numbers of a range pass

count-none : (q : ℕ → Bool) (a n : ℕ) → ((k : ℕ) → a ≤ k → k < a + n → q k ≡ false) → count_by q (range_with_len a n) ≡ 0
count-none q a n none = count_by-alike q (λ k. false) a n none ∙ count-false a n
  where
    count-false : (a n : ℕ) → count_by (λ k. false) (range_with_len a n) ≡ 0
    count-false a zero = refl
    count-false a (suc n) = count-false (a + 1) n

pub count-two : (q : ℕ → Bool) (n m other : ℕ) → m < n → other < n → other ≢ m → q m ≡ true → q other ≡ true
    → ((k : ℕ) → k < n → q k ≡ true → (k ≡ m) ⊎ (k ≡ other)) → count_by q (range_with_len 0 n) ≡ 2
count-two q n m other m_below other_below apart m_passes other_passes only =
    let first = count_by-but q 0 n m (omega arith) (omega (arith, m_below)) m_passes in
    let second = count_by-but (but q m) 0 n other (omega arith) (omega (arith, other_below))
    (but-passes (q other) m other apart other_passes) in
    let rest = count-none (but (but q m) other) 0 n
    (λ k from below. neither (q k) m other k (λ passes. only k (omega (arith, below)) passes)) in
    omega (arith, first, second, rest)
  where
    but-passes : (b : Bool) (m k : ℕ) → k ≢ m → b ≡ true → (b && not (nat_eq k m)) ≡ true
    but-passes true m k apart passes = grind (arith, nat_tests)
    but-passes false m k apart passes = passes

    neither : (b : Bool) (m other k : ℕ) → (b ≡ true → (k ≡ m) ⊎ (k ≡ other)) → ((b && not (nat_eq k m)) && not (nat_eq k other)) ≡ false
    neither true m other k only = elim (only refl) [
      | inl is ↦ ap (λ b. not b && not (nat_eq k other)) (eq-eqb k m is)
      | inr is ↦ ap (λ b. not (nat_eq k m) && not b) (eq-eqb k other is) ∙ and_false (not (nat_eq k m))
    ]
      where
        and_false : (b : Bool) → (b && false) ≡ false
        and_false true = refl
        and_false false = refl
    neither false m other k only = refl

-- each arc stands twice

pub times-two : (crossings after : List (List ℕ)) (x y z arc : ℕ) → HasArcsTwice crossings
    → HasSides (length crossings) (partner_at crossings) x y z → IsArc crossings arc
    → times (slid crossings x y z) arc ≡ 2
times-two crossings after x y z arc twice sides is_arc =
    let n = length crossings in
    let new = slid crossings x y z in
    let back = source-source x y z sides.apart in
    let below = source-below n x y z sides.apart sides.x_below sides.y_below sides.z_below in
    let first = IsDartOf-first_dart crossings arc twice is_arc in
    let place = dart_place (first_dart crossings arc) in
    let within : place < 4 * n = dart_place-below crossings (first_dart crossings arc) first.within in
    let here : arc_of crossings (dart_at place) ≡ arc =
    ap (arc_of crossings) (dart_at-place crossings (first_dart crossings arc) first.within) ∙ first.on_arc in
    let partner = IsOtherPlace-partner_at crossings place twice within in
    let other = partner_at crossings place in
    let size = length-slid crossings x y z in
    count_by-map (λ dart. nat_eq (arc_of new dart) arc) dart_at (range_with_len 0 (4 * length new))
    ∙ ap (λ k. count_by (λ p. nat_eq (arc_of new (dart_at p)) arc) (range_with_len 0 (4 * k))) size
    ∙ count-two (λ p. nat_eq (arc_of new (dart_at p)) arc) (4 * n) (source x y z place) (source x y z other)
    (below place within) (below other partner.below)
    (λ same. partner.differs (sym (back other) ∙ ap (source x y z) same ∙ back place))
    (eq-eqb (arc_of new (dart_at (source x y z place))) arc
    (arc_of-slid crossings x y z (source x y z place) (below place within) ∙ ap (λ k. arc_of crossings (dart_at k)) (back place) ∙ here))
    (eq-eqb (arc_of new (dart_at (source x y z other))) arc
    (arc_of-slid crossings x y z (source x y z other) (below other partner.below)
    ∙ ap (λ k. arc_of crossings (dart_at k)) (back other) ∙ partner.same_arc ∙ here))
    (λ k k_below passes.
    let on_arc : arc_of crossings (dart_at (source x y z k)) ≡ arc =
    sym (arc_of-slid crossings x y z k k_below) ∙ eqb-true (arc_of new (dart_at k)) arc passes in
    elim (cases_eq (source x y z k) place) [
      | inl is ↦ inl (sym (back k) ∙ ap (source x y z) is)
      | inr differs ↦
          let is = partner_at-only crossings place (source x y z k) twice within
          (record { below = below k k_below; differs = differs; same_arc = on_arc ∙ sym here }) in
          inr (sym (back k) ∙ ap (source x y z) is)
    ])

pub HasArcsTwice-slid : (crossings : List (List ℕ)) (x y z : ℕ) → HasArcsTwice crossings
    → HasSides (length crossings) (partner_at crossings) x y z → HasArcsTwice (slid crossings x y z)
HasArcsTwice-slid crossings x y z twice sides =
    let n = length crossings in
    let new = slid crossings x y z in
    let size = length-slid crossings x y z in
    let below = source-below n x y z sides.apart sides.x_below sides.y_below sides.z_below in
    let moved : (arc : ℕ) → IsArc crossings arc → IsArc new arc =
    λ arc is. record { positive = is.positive; within = subst (λ (k : ℕ). arc ≤ 2 * k) (sym size) is.within } in
    let moved_back : (arc : ℕ) → IsArc new arc → IsArc crossings arc =
    λ arc is. record { positive = is.positive; within = subst (λ (k : ℕ). arc ≤ 2 * k) size is.within } in
    record {
      slots = λ dart is.
          let place = dart_place dart in
          let within : place < 4 * n = subst (λ (k : ℕ). place < 4 * k) size (dart_place-below new dart is) in
          let from = source x y z place in
          let arc : arc_of new dart ≡ arc_of crossings (dart_at from) =
          ap (arc_of new) (sym (dart_at-place new dart is)) ∙ arc_of-slid crossings x y z place within in
          subst (λ (a : ℕ). IsArc new a) (sym arc)
          (moved (arc_of crossings (dart_at from)) (twice.slots (dart_at from) (IsDart-at crossings from (below place within))));
      twice = λ arc is. times-two crossings new x y z arc twice sides (moved_back arc is);
    }

-- the partner of a dart
pub partner_at-slid : (crossings : List (List ℕ)) (x y z place : ℕ) → HasArcsTwice crossings
    → HasSides (length crossings) (partner_at crossings) x y z → place < 4 * length crossings
    → partner_at (slid crossings x y z) place ≡ slid_partner (partner_at crossings) x y z place
partner_at-slid crossings x y z place twice sides within =
    let n = length crossings in
    let new = slid crossings x y z in
    let size = length-slid crossings x y z in
    let back = source-source x y z sides.apart in
    let below = source-below n x y z sides.apart sides.x_below sides.y_below sides.z_below in
    let from = source x y z place in
    let partner = IsOtherPlace-partner_at crossings from twice (below place within) in
    let other = partner_at crossings from in
    sym
    (partner_at-only new place (source x y z other) (HasArcsTwice-slid crossings x y z twice sides)
    (subst (λ (k : ℕ). place < 4 * k) (sym size) within)
    (record {
      below = subst (λ (k : ℕ). source x y z other < 4 * k) (sym size) (below other partner.below);
      differs = λ same. partner.differs (sym (back other) ∙ ap (source x y z) same);
      same_arc = arc_of-slid crossings x y z (source x y z other) (below other partner.below)
          ∙ ap (λ k. arc_of crossings (dart_at k)) (back other) ∙ partner.same_arc ∙ sym (arc_of-slid crossings x y z place within);
    }))
