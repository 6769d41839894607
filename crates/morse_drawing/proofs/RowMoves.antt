-- The row after each rule of the drawing is a row again: the open darts of one face, each once, each leading by face steps to its
-- left neighbour, and the first to the last. A row may be turned round, its first dart put at its end: so each rule is shown at
-- the front of a row. Rule 3: two neighbours become partners and leave the row; the way that led to the right one of them now
-- goes on along that from the left one. Rule 2: a bare crossing is joined at one of its darts to a dart of the row, and its other
-- three darts take that dart's place, since the face steps go round the crossing from dart to dart. Rule 1: the four darts of a
-- bare crossing are a row, as each leads to the next one round it.
use Rattle.std.proofs.Common.{◌≡◌, ◌≢◌, ℕ, ◌*◌, ◌/◌, ◌<◌, ◌∙◌, List, [], ◌∷◌, ◌++◌, refl, sym, ap, subst, arith}
use Rattle.std.specs.List.{AllByRecursion}
use Rattle.std.proofs.lemmas.List.{append_assoc, append-nil}
use Rattle.kh_types.specs.Darts.{turned, face_step}
use Rattle.face_walk.specs.AddedArcs.{HasArcMore}
use Rattle.face_walk.proofs.OpenFaces.{turned-turned_back}
use Rattle.morse_drawing.specs.DartRows.{IsLink, AreLinked, AreRound, AreDifferent, IsDartRow, turned_back, other_three}
use Rattle.morse_drawing.proofs.RowPlaces.{IsBare}
use Rattle.kh_types.proofs.Lists.{AllByRecursion-append, AllByRecursion-both, AllByRecursion-weaker}
use Rattle.morse_drawing.proofs.Links.{IsLink-through, IsLink-moved, AreLinked-append, AreLinked-from, AreLinked-moved}

-- a row is turned round: its first dart goes to its end

different_more : (x : ℕ) (xs : List ℕ) → AreDifferent xs → AllByRecursion (λ z. z ≢ x) xs → AreDifferent (xs ++ x ∷ [])
different_more x [] once beside = (tt, tt)
different_more x (y ∷ ys) once beside =
    (AllByRecursion-append (λ z. z ≢ y) ys (x ∷ []) once.0 (λ same. beside.0 (sym same), tt), different_more x ys once.1 beside.1)

round_once : (n : ℕ) (partner : ℕ → ℕ) (x : ℕ) (xs : List ℕ) → AreRound n partner (x ∷ xs) → AreRound n partner (xs ++ x ∷ [])
round_once n partner x [] round = round
round_once n partner x (y ∷ ys) round = AreLinked-append n partner y x y ys [] round.1 round.0

row_once : (n : ℕ) (partner : ℕ → ℕ) (x : ℕ) (xs : List ℕ) → IsDartRow n partner (x ∷ xs) → IsDartRow n partner (xs ++ x ∷ [])
row_once n partner x xs row = record {
  round = round_once n partner x xs row.round;
  are_open = AllByRecursion-append (λ z. (z < 4 * n) × (partner z ≡ z)) xs (x ∷ []) row.are_open.1 (row.are_open.0, tt);
  once = different_more x xs row.once.1 row.once.0;
}

pub IsDartRow-turned : (n : ℕ) (partner : ℕ → ℕ) (xs ys : List ℕ) → IsDartRow n partner (xs ++ ys) → IsDartRow n partner (ys ++ xs)
IsDartRow-turned n partner [] ys row = subst (λ (zs : List ℕ). IsDartRow n partner zs) (sym (append-nil ys)) row
IsDartRow-turned n partner (x ∷ xs) ys row =
    subst (λ (zs : List ℕ). IsDartRow n partner zs) (append_assoc ys (x ∷ []) xs)
    (IsDartRow-turned n partner xs (ys ++ x ∷ [])
    (subst (λ (zs : List ℕ). IsDartRow n partner zs) (append_assoc xs ys (x ∷ [])) (row_once n partner x (xs ++ ys) row)))

-- a list of links that leads further on at its left
AreLinked-to : (n : ℕ) (partner : ℕ → ℕ) (left further right : ℕ) (bs : List ℕ) → left < 4 * n → partner left ≢ left
    → IsLink n partner left further → AreLinked n partner left bs right → AreLinked n partner further bs right
AreLinked-to n partner left further right [] below is_closed more linked =
    IsLink-through n partner right left further below is_closed linked more
AreLinked-to n partner left further right (b ∷ bs) below is_closed more linked =
    (IsLink-through n partner b left further below is_closed linked.0 more, linked.1)

-- the darts of a row that are neither of the two of a new arc are as open as before
pub beside_two : (n : ℕ) (partner : ℕ → ℕ) (dart other : ℕ) (xs : List ℕ) → AllByRecursion (λ z. (z < 4 * n) × (partner z ≡ z)) xs
    → AllByRecursion (λ z. z ≢ dart) xs → AllByRecursion (λ z. z ≢ other) xs
    → AllByRecursion (λ z. (z < 4 * n) × ((z ≢ dart) × (z ≢ other))) xs
beside_two n partner dart other xs is_open one two =
    AllByRecursion-both (λ z. (z < 4 * n) × (partner z ≡ z)) (λ z. (z ≢ dart) × (z ≢ other))
    (λ z. (z < 4 * n) × ((z ≢ dart) × (z ≢ other))) xs
    (λ z here apart. (here.0, apart)) is_open
    (AllByRecursion-both (λ z. z ≢ dart) (λ z. z ≢ other) (λ z. (z ≢ dart) × (z ≢ other)) xs (λ z first second. (first, second)) one two)

pub open_after : (n : ℕ) (before after : ℕ → ℕ) (dart other : ℕ) (xs : List ℕ) → HasArcMore (4 * n) before after dart other
    → AllByRecursion (λ z. (z < 4 * n) × (before z ≡ z)) xs → AllByRecursion (λ z. (z < 4 * n) × ((z ≢ dart) × (z ≢ other))) xs
    → AllByRecursion (λ z. (z < 4 * n) × (after z ≡ z)) xs
open_after n before after dart other xs more is_open beside =
    AllByRecursion-both (λ z. (z < 4 * n) × (before z ≡ z)) (λ z. (z < 4 * n) × ((z ≢ dart) × (z ≢ other)))
    (λ z. (z < 4 * n) × (after z ≡ z)) xs
    (λ z here apart. (here.0, more.others z here.0 apart.1.0 apart.1.1 ∙ here.1)) is_open beside

-- rule 3: two neighbours become partners, and leave the row

close_round : (n : ℕ) (before after : ℕ → ℕ) (dart other : ℕ) (zs : List ℕ) → HasArcMore (4 * n) before after dart other
    → AllByRecursion (λ z. (z < 4 * n) × ((z ≢ dart) × (z ≢ other))) zs → AreRound n before (dart ∷ other ∷ zs) → AreRound n after zs
close_round n before after dart other [] more beside round = tt
close_round n before after dart other (z ∷ zs) more beside round =
    let to_other : IsLink n after z other =
    IsLink-moved n before after dart other z z other more (ap turned (more.others z beside.0.0 beside.0.1.0 beside.0.1.1)) round.1.0 in
    AreLinked-from n after z other z zs more.other_below (λ same. more.apart (sym more.other_after ∙ same)) to_other
    (AreLinked-moved n before after dart other z dart other zs more (ap turned (more.other_after ∙ sym more.dart_open)) beside.1 round.1.1)

close_first : (n : ℕ) (before after : ℕ → ℕ) (dart other : ℕ) (zs : List ℕ) → HasArcMore (4 * n) before after dart other
    → IsDartRow n before (dart ∷ other ∷ zs) → IsDartRow n after zs
close_first n before after dart other zs more row =
    let beside = beside_two n before dart other zs row.are_open.1.1 row.once.0.1 row.once.1.0 in
    record {
      round = close_round n before after dart other zs more beside row.round;
      are_open = open_after n before after dart other zs more row.are_open.1.1 beside;
      once = row.once.1.1;
    }

pub IsDartRow-closed : (n : ℕ) (before after : ℕ → ℕ) (dart other : ℕ) (front back : List ℕ) → HasArcMore (4 * n) before after dart other
    → IsDartRow n before (front ++ dart ∷ other ∷ back) → IsDartRow n after (front ++ back)
IsDartRow-closed n before after dart other front back more row =
    IsDartRow-turned n after back front
    (close_first n before after dart other (back ++ front) more (IsDartRow-turned n before front (dart ∷ other ∷ back) row))

-- rule 2: a bare crossing is joined at one of its darts to a dart of the row, and its other three take that dart's place

turned-thrice : (x : ℕ) → turned x ≡ turned_back (turned_back (turned_back x))
turned-thrice x = omega arith

-- a step to the next open dart
IsLink-next_page : (n : ℕ) (partner : ℕ → ℕ) (x y : ℕ) → face_step partner x ≡ y → IsLink n partner x y
IsLink-next_page n partner x y next_page = record { between = []; way = next_page; closed = tt }

cross_first : (n : ℕ) (before after : ℕ → ℕ) (dart other : ℕ) (zs : List ℕ) → HasArcMore (4 * n) before after dart other
    → IsBare n before (dart ∷ zs) other → IsDartRow n before (dart ∷ zs) → IsDartRow n after (other_three other ++ zs)
cross_first n before after dart other zs more bare row =
    let one = turned_back other in
    let two = turned_back one in
    let three = turned_back two in
    let one_crossing : one / 4 ≡ other / 4 = omega arith in
    let two_crossing : two / 4 ≡ other / 4 = omega arith in
    let three_crossing : three / 4 ≡ other / 4 = omega arith in
    let one_below : one < 4 * n = omega (arith, bare.below) in
    let two_below : two < 4 * n = omega (arith, bare.below) in
    let three_below : three < 4 * n = omega (arith, bare.below) in
    let away : (x : ℕ) → x / 4 ≡ other / 4 → x ≢ dart = λ x at same. bare.beside.0 (ap (λ z. z / 4) (sym same) ∙ at) in
    let stays : (x : ℕ) → x < 4 * n → x / 4 ≡ other / 4 → x ≢ other → after x ≡ x =
    λ x below at not_other. more.others x below (away x at) not_other ∙ bare.alone x at in
    let one_open = stays one one_below one_crossing (λ same. omega (arith, same)) in
    let two_open = stays two two_below two_crossing (λ same. omega (arith, same)) in
    let three_open = stays three three_below three_crossing (λ same. omega (arith, same)) in
    let not_at : (x : ℕ) → x / 4 ≡ other / 4 → AllByRecursion (λ z. z ≢ x) zs =
    λ x at. AllByRecursion-weaker (λ z. z / 4 ≢ other / 4) (λ z. z ≢ x) zs (λ z differ same. differ (ap (λ w. w / 4) same ∙ at))
    bare.beside.1 in
    let beside = beside_two n before dart other zs row.are_open.1 row.once.0 (not_at other refl) in
    let dart_closed : after dart ≢ dart = λ same. more.apart (sym same ∙ more.dart_after) in
    let other_closed : after other ≢ other = λ same. more.apart (sym more.other_after ∙ same) in
    let moved : AreLinked n after dart zs other =
    AreLinked-moved n before after dart other dart dart other zs more (ap turned (more.other_after ∙ sym more.dart_open)) beside row.round in
    let from_one : AreLinked n after dart zs one =
    AreLinked-from n after dart other one zs bare.below other_closed
    (IsLink-next_page n after one other (ap turned one_open ∙ turned-turned_back other)) moved in
    let to_three : AreLinked n after three zs one =
    AreLinked-to n after dart three one zs more.dart_below dart_closed
    (IsLink-next_page n after dart three (ap turned more.dart_after ∙ turned-thrice other)) from_one in
    record {
      round = (
        IsLink-next_page n after two one (ap turned two_open ∙ turned-turned_back one),
        (IsLink-next_page n after three two (ap turned three_open ∙ turned-turned_back two), to_three),
      );
      are_open = (
        (one_below, one_open),
        ((two_below, two_open), ((three_below, three_open), open_after n before after dart other zs more row.are_open.1 beside)),
      );
      once = (
        ((λ same. omega (arith, same)), ((λ same. omega (arith, same)), not_at one one_crossing)),
        (((λ same. omega (arith, same)), not_at two two_crossing), (not_at three three_crossing, row.once.1)),
      );
    }

all_turned : (P : ℕ → Type 0) (xs ys : List ℕ) → AllByRecursion P (xs ++ ys) → AllByRecursion P (ys ++ xs)
all_turned P [] ys holds = subst (λ (zs : List ℕ). AllByRecursion P zs) (sym (append-nil ys)) holds
all_turned P (x ∷ xs) ys holds =
    subst (λ (zs : List ℕ). AllByRecursion P zs) (append_assoc ys (x ∷ []) xs)
    (all_turned P xs (ys ++ x ∷ [])
    (subst (λ (zs : List ℕ). AllByRecursion P zs) (append_assoc xs ys (x ∷ []))
    (AllByRecursion-append P (xs ++ ys) (x ∷ []) holds.1 (holds.0, tt))))

pub IsDartRow-crossed : (n : ℕ) (before after : ℕ → ℕ) (dart other : ℕ) (front back : List ℕ) → HasArcMore (4 * n) before after dart other
    → IsBare n before (front ++ dart ∷ back) other → IsDartRow n before (front ++ dart ∷ back)
    → IsDartRow n after (front ++ other_three other ++ back)
IsDartRow-crossed n before after dart other front back more bare row =
    subst (λ (zs : List ℕ). IsDartRow n after zs) (sym (append_assoc front (other_three other) back))
    (IsDartRow-turned n after (other_three other ++ back) front
    (cross_first n before after dart other (back ++ front) more
    (record {
      below = bare.below;
      alone = bare.alone;
      beside = all_turned (λ z. z / 4 ≢ other / 4) front (dart ∷ back) bare.beside;
    }) (IsDartRow-turned n before front (dart ∷ back) row)))

-- rule 1: the four darts of a bare crossing
