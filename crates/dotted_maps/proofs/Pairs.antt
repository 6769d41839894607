-- The discs of a pairing with itself are its pairs: twice a sum over the discs is the sum over the opened arcs, where both ends
-- of each pair have the same summand. As no arc is at two ends, no other pair has an end of a pair (by induction on the pairs).
-- So no join leads out of a pair, and the class of its ends has one of them as its least point: of the two ends of each pair,
-- just one stands for a disc. Added up over the pairs this is half the sum over their ends, and these are the opened arcs in
-- another order.
use Rattle.std.proofs.Common.{◌≡◌, ◌≢◌, ℕ, ◌⊎◌, inl, inr, ◌+◌, ◌*◌, ◌<◌, ◌≤◌, ◌∙◌, List, [], ◌∷◌, ◌++◌, refl, sym, ap, ap₂, arith, cond}
use Rattle.std.specs.Prelude.{nat_eq, slice_index}
use Rattle.std.specs.List.{sum_by, count_by, AllByRecursion, Contains}
use Rattle.std.proofs.lemmas.Bool.Decides.{nat_tests}
use Rattle.std.proofs.lemmas.List.Sums.{sum_by-cons}
use Rattle.std.proofs.lemmas.List.Sorted.{sum_by-IsPermutation}
use Rattle.kh_types.specs.Classes.{classes_of, is_least, Respects}
use Rattle.kh_types.proofs.ClassLemmas.{classes-together}
use Rattle.kh_types.proofs.ListSums.{sum_by-filter}
use Rattle.kh_types.proofs.Lists.{AllByRecursion-append, AllByRecursion-first}
use Rattle.surface_laws.proofs.Components.{AllByRecursion-weaker}
use Rattle.surface_laws.specs.Points.{Points, AreAmong, IsOpenPairing, ends_of, discs}
use Rattle.dotted_maps.proofs.LeastPoints.{AreJoins, joins-below, class-respected, AreAmong-append}

pub all-both : {X : Type 0} (P Q R : X → Type 0) (xs : List X) → ((x : X) → P x → Q x → R x) → AllByRecursion P xs
    → AllByRecursion Q xs → AllByRecursion R xs
all-both P Q R [] from all others = tt
all-both P Q R (x ∷ xs) from all others = (from x all.0 others.0, all-both P Q R xs from all.1 others.1)

-- whether a number is at a pair
abbrev at_pair : ℕ × ℕ → ℕ → ℕ
at_pair pair z = cond (nat_eq z pair.0) 1 (cond (nat_eq z pair.1) 1 0)

abbrev ends_count : ℕ → List (ℕ × ℕ) → ℕ
ends_count x pairs = count_by (nat_eq x) (ends_of pairs)

ends_count-cons : (x : ℕ) (pair : ℕ × ℕ) (pairs : List (ℕ × ℕ))
    → ends_count x (pair ∷ pairs) ≡ cond (nat_eq x pair.0) 1 0 + (cond (nat_eq x pair.1) 1 0 + ends_count x pairs)
ends_count-cons x pair pairs =
    sum_by-cons (λ y. cond (nat_eq x y) 1 0) pair.0 (pair.1 ∷ ends_of pairs)
    ∙ ap (λ n. cond (nat_eq x pair.0) 1 0 + n) (sum_by-cons (λ y. cond (nat_eq x y) 1 0) pair.1 (ends_of pairs))

not-end : (x y z c n : ℕ) → cond (nat_eq x y) 1 0 + (cond (nat_eq x z) 1 0 + c) ≡ n → n ≡ 0 → (y ≢ x) × ((z ≢ x) × (c ≡ 0))
not-end x y z c n is none = grind (arith, nat_tests)

abbrev IsApart : ℕ → ℕ × ℕ → Type 0
IsApart x pair = (pair.0 ≢ x) × (pair.1 ≢ x)

none-there : (x : ℕ) (pairs : List (ℕ × ℕ)) → ends_count x pairs ≡ 0 → AllByRecursion (IsApart x) pairs
none-there x [] none = tt
none-there x (pair ∷ pairs) none =
    let here = not-end x pair.0 pair.1 (ends_count x pairs) (ends_count x (pair ∷ pairs)) (sym (ends_count-cons x pair pairs)) none in
    ((here.0, here.1.0), none-there x pairs here.1.1)

first-end : (x y c n : ℕ) → cond (nat_eq x x) 1 0 + (cond (nat_eq x y) 1 0 + c) ≡ n → n ≤ 1 → (x ≢ y) × (c ≡ 0)
first-end x y c n is few = grind (arith, nat_tests)

second-end : (x y c n : ℕ) → cond (nat_eq y x) 1 0 + (cond (nat_eq y y) 1 0 + c) ≡ n → n ≤ 1 → c ≡ 0
second-end x y c n is few = grind (arith, nat_tests)

later-few : (a b c n : ℕ) → n ≡ a + (b + c) → n ≤ 1 → c ≤ 1
later-few a b c n is few = omega (arith, is, few)

at-none : (x y z : ℕ) → z ≢ x → z ≢ y → at_pair (x, y) z ≡ 0
at-none x y z not_x not_y = grind (arith, nat_tests)

at-first : (x y : ℕ) → at_pair (x, y) x ≡ 1
at-first x y = grind (arith, nat_tests)

at-second : (x y : ℕ) → at_pair (x, y) y ≡ 1
at-second x y = grind (arith, nat_tests)

at-some : (x y z n : ℕ) → cond (nat_eq z x) 1 (cond (nat_eq z y) 1 0) ≡ n → n ≡ 1 → (z ≡ x) ⊎ (z ≡ y)
at-some x y z n is one = grind (arith, nat_tests)

-- no other pair has an end of a pair
pub record IsAlone (pairs : List (ℕ × ℕ)) (pair : ℕ × ℕ) : Type 0 where
  pub apart : pair.0 ≢ pair.1
  pub respects : Respects (at_pair pair) pairs

abbrev IsOnce : List (ℕ × ℕ) → Type 0
IsOnce pairs = (x : ℕ) → ends_count x pairs ≤ 1

abbrev HasNeither : ℕ × ℕ → ℕ × ℕ → Type 0
HasNeither pair other = IsApart pair.0 other × IsApart pair.1 other

all-alone : (pairs : List (ℕ × ℕ)) → IsOnce pairs → AllByRecursion (IsAlone pairs) pairs
all-alone [] once = tt
all-alone (pair ∷ pairs) once =
    let first = first-end pair.0 pair.1 (ends_count pair.0 pairs) (ends_count pair.0 (pair ∷ pairs))
    (sym (ends_count-cons pair.0 pair pairs)) (once pair.0) in
    let second = second-end pair.0 pair.1 (ends_count pair.1 pairs) (ends_count pair.1 (pair ∷ pairs))
    (sym (ends_count-cons pair.1 pair pairs)) (once pair.1) in
    let neither : AllByRecursion (HasNeither pair) pairs =
    all-both (IsApart pair.0) (IsApart pair.1) (HasNeither pair) pairs (λ other a b. (a, b)) (none-there pair.0 pairs first.1)
    (none-there pair.1 pairs second) in
    let here : IsAlone (pair ∷ pairs) pair =
    record {
      apart = first.0;
      respects = (
        at-first pair.0 pair.1 ∙ sym (at-second pair.0 pair.1),
        AllByRecursion-weaker (HasNeither pair) (λ other. at_pair pair other.0 ≡ at_pair pair other.1) pairs
            (λ other has.
            at-none pair.0 pair.1 other.0 has.0.0 has.1.0
            ∙ sym (at-none pair.0 pair.1 other.1 has.0.1 has.1.1)) neither,
      );
    } in
    let later = all-alone pairs
    (λ x. later-few (cond (nat_eq x pair.0) 1 0) (cond (nat_eq x pair.1) 1 0) (ends_count x pairs) (ends_count x (pair ∷ pairs))
    (ends_count-cons x pair pairs) (once x)) in (
      here,
      all-both (HasNeither pair) (IsAlone pairs) (IsAlone (pair ∷ pairs)) pairs
          (λ other has alone. record {
            apart = alone.apart;
            respects = (
              at-none other.0 other.1 pair.0 (λ is. has.0.0 (sym is)) (λ is. has.0.1 (sym is))
                  ∙ sym (at-none other.0 other.1 pair.1 (λ is. has.1.0 (sym is)) (λ is. has.1.1 (sym is))),
              alone.respects,
            );
          }) neither later,
    )

-- one end of each pair is the least point of a disc of the pairing with itself

one-least : (c x y a : ℕ) → (c ≡ x) ⊎ (c ≡ y) → x ≢ y → cond (nat_eq c x) a 0 + (cond (nat_eq c y) a 0 + 0) ≡ a
one-least c x y a is apart = elim is [
  | inl first ↦ at-x c x y a first apart
  | inr second ↦ at-y c x y a second apart
]
  where
    at-x : (c x y a : ℕ) → c ≡ x → x ≢ y → cond (nat_eq c x) a 0 + (cond (nat_eq c y) a 0 + 0) ≡ a
    at-x c x y a is apart = grind (arith, nat_tests)

    at-y : (c x y a : ℕ) → c ≡ y → x ≢ y → cond (nat_eq c x) a 0 + (cond (nat_eq c y) a 0 + 0) ≡ a
    at-y c x y a is apart = grind (arith, nat_tests)

-- points, and a pairing of some of them
pub record IsDisjoint (size : ℕ) (points : List ℕ) (m : List (ℕ × ℕ)) : Type 0 where
  pub joins : AreJoins size points (m ++ m)
  pub among : AreAmong points m
  pub once : IsOnce m

abbrev least_amount : List ℕ → (ℕ → ℕ) → ℕ → ℕ
least_amount classes amount x = cond (is_least classes x) (amount x) 0

abbrev HalfCounts : List ℕ → (ℕ → ℕ) → ℕ × ℕ → Type 0
HalfCounts classes amount pair =
    least_amount classes amount pair.0 + (least_amount classes amount pair.1 + 0) ≡ amount pair.0

half-counts : (size : ℕ) (points : List ℕ) (m : List (ℕ × ℕ)) (amount : ℕ → ℕ) → IsDisjoint size points m → Respects amount m
    → AllByRecursion (HalfCounts (classes_of size (m ++ m)) amount) m
half-counts size points m amount is respects =
    let classes = classes_of size (m ++ m) in
    let below = joins-below size points (m ++ m) is.joins in
    let Tied : ℕ × ℕ → Type 0 = λ pair. slice_index classes pair.0 ≡ slice_index classes pair.1 in
    let Has : ℕ × ℕ → Type 0 = λ pair. Contains points pair.0 × Contains points pair.1 in
    let Amounts : ℕ × ℕ → Type 0 = λ pair. amount pair.0 ≡ amount pair.1 in
    let Both : ℕ × ℕ → Type 0 = λ pair. Tied pair × Amounts pair in
    let Known : ℕ × ℕ → Type 0 = λ pair. Has pair × IsAlone m pair in
    let both = all-both Tied Amounts Both m (λ pair a b. (a, b))
    (AllByRecursion-first Tied m m (classes-together size (m ++ m) below)) respects in
    let known = all-both Has (IsAlone m) Known m (λ pair a b. (a, b)) is.among (all-alone m is.once) in
    all-both Both Known (HalfCounts classes amount) m
    (λ pair tied here.
    let c = slice_index classes pair.0 in
    let ends : (c ≡ pair.0) ⊎ (c ≡ pair.1) =
    at-some pair.0 pair.1 c (at_pair pair pair.0)
    (sym (class-respected (at_pair pair) size points (m ++ m) pair.0 is.joins here.0.0
    (AllByRecursion-append (λ other. at_pair pair other.0 ≡ at_pair pair other.1) m m here.1.respects here.1.respects)))
    (at-first pair.0 pair.1) in
    ap₂ (λ x y. cond (nat_eq c pair.0) (amount pair.0) 0 + (cond (nat_eq x pair.1) y 0 + 0)) (sym tied.0) (sym tied.1)
    ∙ one-least c pair.0 pair.1 (amount pair.0) ends here.1.apart) both known

-- so discs are counted half as often as ends

halves : (classes : List ℕ) (amount : ℕ → ℕ) (m : List (ℕ × ℕ)) → AllByRecursion (HalfCounts classes amount) m
    → Respects amount m → 2 * sum_by (least_amount classes amount) (ends_of m) ≡ sum_by amount (ends_of m)
halves classes amount [] half respects = refl
halves classes amount (pair ∷ m) half respects =
    let h = least_amount classes amount in
    let rest = halves classes amount m half.1 respects.1 in
    let left = sum_by-cons h pair.0 (pair.1 ∷ ends_of m) ∙ ap (λ n. h pair.0 + n) (sum_by-cons h pair.1 (ends_of m)) in
    let right = sum_by-cons amount pair.0 (pair.1 ∷ ends_of m) ∙ ap (λ n. amount pair.0 + n) (sum_by-cons amount pair.1 (ends_of m)) in
    summed (sum_by h (pair.0 ∷ pair.1 ∷ ends_of m)) (sum_by amount (pair.0 ∷ pair.1 ∷ ends_of m)) (h pair.0) (h pair.1)
    (sum_by h (ends_of m)) (amount pair.0) (amount pair.1) (sum_by amount (ends_of m)) left right half.0 respects.0 rest
  where
    summed : (s t x y z a b c : ℕ) → s ≡ x + (y + z) → t ≡ a + (b + c) → x + (y + 0) ≡ a → a ≡ b → 2 * z ≡ c → 2 * s ≡ t
    summed s t x y z a b c is_s is_t half same rest = omega (arith, is_s, is_t, half, same, rest)

pub pairs-counted : (points : Points) (m : List (ℕ × ℕ)) (amount : ℕ → ℕ) → AllByRecursion (λ x. x < points.size) points.opened
    → IsOpenPairing points m → AreAmong points.opened m → Respects amount m
    → 2 * sum_by amount (discs points m m) ≡ sum_by amount points.opened
pairs-counted points m amount below pairing among respects =
    let classes = classes_of points.size (m ++ m) in
    let h = least_amount classes amount in
    let disjoint : IsDisjoint points.size points.opened m =
    record {
      joins = record { below = below; among = AreAmong-append points.opened m m among among };
      among = among;
      once = pairing.once;
    } in
    ap (λ n. 2 * n)
    (sum_by-filter amount (is_least classes) points.opened
    ∙ sym (sum_by-IsPermutation h points.opened (ends_of m) pairing.ends))
    ∙ halves classes amount m (half-counts points.size points.opened m amount disjoint respects) respects
    ∙ sum_by-IsPermutation amount points.opened (ends_of m) pairing.ends
