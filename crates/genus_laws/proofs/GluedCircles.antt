-- The circles of two parts that meet in open points: the closed ones of the first part, and those of what it joins the open points to
-- and of the second part.
--
-- A circle of the whole has an open point or has none. With none it is closed in the first part, or lies in the second. With one, its open
-- points are joined in the first part by paths, and each path may be replaced by a pair of its two ends: so these circles are those of the
-- pairing and of the second part.
use Rattle.std.proofs.Common.{◌≡◌, ℕ, suc, inl, inr, ◌+◌, ◌<◌, ◌∙◌, List, [], ◌∷◌, ◌++◌, refl, sym, ap, ap₂, arith, Bool, true, false, not, ◌&&◌, cond, eq-eqb}
use Rattle.std.specs.Prelude.{nat_eq, slice_index, unwrap_or}
use Rattle.std.specs.List.{find, list_any, range_with_len}
use Rattle.std.proofs.lemmas.Bool.{cases_Bool, eqb-true, false_from_ne_true, and_parts}
use Rattle.kh_types.specs.Classes.{classes_of, is_least, Respects, AreBelow, IsNamed}
use Rattle.kh_types.proofs.ClassLemmas.{classes-together, classes-finest, Respects-append, Respects-first, Respects-second, AreBelow-append}
use Rattle.kh_types.proofs.JoinedClasses.{IsNamed-classes_of}
use Rattle.kh_types.proofs.RangeCounts.{list_any-at, list_any-one, count_by-alike, counted}
use Rattle.genus_laws.specs.Orbits.{is_in, count_in, parts_in}
use Rattle.genus_laws.specs.Pairings.{JoinOpen, seek, JoinOpenAlone, has_open, is_closed_circle}
use Rattle.genus_laws.proofs.Counts.{count_by-matched, count_by-either, counted-one}
use Rattle.genus_laws.proofs.PartCounts.{AreFiner}
use Rattle.genus_laws.proofs.DiscCounts.{all_three, both_pass}
use Rattle.genus_laws.proofs.Paths.{false_true, IsSought, IsSought-seek}

-- what depends on a class alone
Respects-after : (f c : ℕ → ℕ) (pairs : List (ℕ × ℕ)) → Respects c pairs → Respects (λ x. f (c x)) pairs
Respects-after f c [] respects = tt
Respects-after f c (pair ∷ pairs) respects = (ap f respects.0, Respects-after f c pairs respects.1)

-- what has one value at open points that another function has one value at
Respects-open : (n : ℕ) (opened : ℕ → Bool) (c g : ℕ → ℕ) (pairs : List (ℕ × ℕ)) → AreBelow n pairs → JoinOpenAlone n opened pairs
    → Respects c pairs → ((x y : ℕ) → x < n → y < n → opened x ≡ true → opened y ≡ true → c x ≡ c y → g x ≡ g y) → Respects g pairs
Respects-open n opened c g pairs below alone respects same =
    alone g (λ x y x_below y_below x_open y_open together.
    same x y x_below y_below x_open y_open (classes-finest c n pairs respects below x y x_below y_below together))

open_at : (n : ℕ) (opened : ℕ → Bool) (classes : List ℕ) (x y : ℕ) → y < n → opened y ≡ true
    → slice_index classes y ≡ slice_index classes x → has_open n opened classes x ≡ true
open_at n opened classes x y below is same =
    list_any-at (λ z. opened z && nat_eq (slice_index classes z) (slice_index classes x)) 0 n y (omega arith) (omega (arith, below))
    (ap₂ (λ s t. s && t) is (eq-eqb (slice_index classes y) (slice_index classes x) same))

open_found : (n : ℕ) (opened : ℕ → Bool) (classes : List ℕ) (x : ℕ) → has_open n opened classes x ≡ true
    → (y : ℕ) × IsSought n classes opened x y
open_found n opened classes x has =
    let found = list_any-one (λ z. opened z && nat_eq (slice_index classes z) (slice_index classes x)) 0 n has in
    let passes = and_parts (opened found.0) (nat_eq (slice_index classes found.0) (slice_index classes x)) found.3 in (
      found.0,
      record {
        below = omega (arith, found.2);
        is = passes.0;
        together = eqb-true (slice_index classes found.0) (slice_index classes x) passes.1;
      },
    )

-- the classes c of the first part, a of both, and d of the open points
pub record AreGlued (n : ℕ) (opened : ℕ → Bool) (c a d : List ℕ) : Type 0 where
  pub c_named : IsNamed n c
  pub a_named : IsNamed n a
  pub d_named : IsNamed n d
  pub coarser : (x y : ℕ) → x < n → y < n → slice_index c x ≡ slice_index c y → slice_index a x ≡ slice_index a y
  pub closed : (x y : ℕ) → x < n → y < n → has_open n opened c x ≡ false → slice_index a y ≡ slice_index a x
      → slice_index c y ≡ slice_index c x
  pub onward : (x y : ℕ) → x < n → y < n → slice_index d x ≡ slice_index d y → slice_index a x ≡ slice_index a y
  pub back : (x y : ℕ) → x < n → y < n → opened x ≡ true → opened y ≡ true → slice_index a x ≡ slice_index a y
      → slice_index d x ≡ slice_index d y
  pub kept : (x : ℕ) → x < n → opened x ≡ true → opened (slice_index d x) ≡ true

pub AreGlued-parts : (n : ℕ) (opened : ℕ → Bool) (xs ys m : List (ℕ × ℕ)) → AreBelow n xs → AreBelow n ys → JoinOpenAlone n opened ys
    → JoinOpen n opened (classes_of n xs) m
    → AreGlued n opened (classes_of n xs) (classes_of n (xs ++ ys)) (classes_of n (m ++ ys))
AreGlued-parts n opened xs ys m xs_below ys_below are join =
    let c = classes_of n xs in
    let a = classes_of n (xs ++ ys) in
    let d = classes_of n (m ++ ys) in
    let c_of : ℕ → ℕ = λ x. slice_index c x in
    let a_of : ℕ → ℕ = λ x. slice_index a x in
    let d_of : ℕ → ℕ = λ x. slice_index d x in
    let a_below = AreBelow-append n xs ys xs_below ys_below in
    let d_below = AreBelow-append n m ys join.below ys_below in
    let d_named = IsNamed-classes_of n (m ++ ys) d_below in
    let c_respects = classes-together n xs xs_below in
    let a_respects = classes-together n (xs ++ ys) a_below in
    let a_xs = Respects-first a_of xs ys a_respects in
    let a_ys = Respects-second a_of xs ys a_respects in
    let d_respects = classes-together n (m ++ ys) d_below in
    let d_m = Respects-first d_of m ys d_respects in
    let d_ys = Respects-second d_of m ys d_respects in
    let coarser : (x y : ℕ) → x < n → y < n → c_of x ≡ c_of y → a_of x ≡ a_of y = classes-finest a_of n xs a_xs xs_below in
    let a_m : Respects a_of m =
    join.only a_of (λ x y x_below y_below x_open y_open same. coarser x y x_below y_below same) in
    -- the circle of an open point, as a function of the first part's class
    let at : ℕ → ℕ =
    λ z. cond (list_any (λ y. opened y && nat_eq (c_of y) z) (range_with_len 0 n))
    (suc (d_of (unwrap_or (find (λ y. opened y && nat_eq (c_of y) z) (range_with_len 0 n)) 0))) 0 in
    let at_open : (x : ℕ) → x < n → opened x ≡ true → at (c_of x) ≡ suc (d_of x) =
    λ x below is.
    let sought = IsSought-seek n c opened x x (record { below = below; is = is; together = refl }) in
    ap (λ b. cond b (suc (d_of (seek n c opened x))) 0) (open_at n opened c x x below is refl)
    ∙ ap suc (join.joins d_of d_m (seek n c opened x) x sought.below below sought.is is sought.together) in
    let at_xs : Respects (λ x. at (c_of x)) xs = Respects-after at c_of xs c_respects in
    let at_ys : Respects (λ x. at (c_of x)) ys =
    Respects-open n opened d_of (λ x. at (c_of x)) ys ys_below are d_ys
    (λ x y x_below y_below x_open y_open same. at_open x x_below x_open ∙ ap suc same ∙ sym (at_open y y_below y_open)) in
    let one_open : ℕ → ℕ = λ x. counted (opened x) in
    let open_m : Respects one_open m =
    join.only one_open (λ x y x_below y_below x_open y_open same. ap counted (x_open ∙ sym y_open)) in
    let open_ys : Respects one_open ys =
    Respects-open n opened d_of one_open ys ys_below are d_ys
    (λ x y x_below y_below x_open y_open same. ap counted (x_open ∙ sym y_open)) in
    record {
      c_named = IsNamed-classes_of n xs xs_below;
      a_named = IsNamed-classes_of n (xs ++ ys) a_below;
      d_named = d_named;
      coarser = coarser;
      closed = λ x y x_below y_below none same.
          let here : ℕ → ℕ = λ z. counted (nat_eq z (c_of x)) in
          let outside : (z : ℕ) → z < n → opened z ≡ true → nat_eq (c_of z) (c_of x) ≡ false =
          λ z below is.
          false_from_ne_true (nat_eq (c_of z) (c_of x))
          (λ is_here. false_true (sym none ∙ open_at n opened c x z below is (eqb-true (c_of z) (c_of x) is_here))) in
          let here_ys : Respects (λ z. here (c_of z)) ys =
          Respects-open n opened d_of (λ z. here (c_of z)) ys ys_below are d_ys
          (λ z w z_below w_below z_open w_open _. ap counted (outside z z_below z_open ∙ sym (outside w w_below w_open))) in
          eqb-true (c_of y) (c_of x)
          (counted-one (nat_eq (c_of y) (c_of x))
          (classes-finest (λ z. here (c_of z)) n (xs ++ ys)
          (Respects-append (λ z. here (c_of z)) xs ys (Respects-after here c_of xs c_respects) here_ys) a_below y x y_below x_below same
          ∙ ap counted (eq-eqb (c_of x) (c_of x) refl)));
      onward = classes-finest a_of n (m ++ ys) (Respects-append a_of m ys a_m a_ys) d_below;
      back = λ x y x_below y_below x_open y_open same.
          suc_one (d_of x) (d_of y)
          (sym (at_open x x_below x_open)
          ∙ classes-finest (λ z. at (c_of z)) n (xs ++ ys) (Respects-append (λ z. at (c_of z)) xs ys at_xs at_ys) a_below x y
          x_below y_below same
          ∙ at_open y y_below y_open);
      kept = λ x below is.
          counted-one (opened (d_of x))
          (classes-finest one_open n (m ++ ys) (Respects-append one_open m ys open_m open_ys) d_below (d_of x) x
          (omega (arith, d_named.least x below, below)) below (d_named.own x below)
          ∙ ap counted is);
    }
  where
    suc_one : (x y : ℕ) → suc x ≡ suc y → x ≡ y
    suc_one x y same = omega (arith, same)

-- the circles of both parts, in each class of whatever is coarser
glued-counted : (n : ℕ) (opened : ℕ → Bool) (c a d all : List ℕ) (name : ℕ) → AreGlued n opened c a d → AreFiner n a all
    → parts_in n all name a
    ≡ count_in n all name (is_closed_circle n opened c) + count_in n all name (λ x. opened x && is_least d x)
glued-counted n opened c a d all name are finer =
    let has : ℕ → Bool = has_open n opened c in
    let all_of : (x y : ℕ) → x < n → y < n → slice_index a x ≡ slice_index a y → slice_index all x ≡ slice_index all y =
    λ x y x_below y_below same. sym (finer x x_below) ∙ ap (λ z. slice_index all z) same ∙ finer y y_below in
    let same_name : (x : ℕ) → x < n → has x ≡ false → slice_index a x ≡ slice_index c x =
    λ x below none.
    let a_x = slice_index a x in
    let c_x = slice_index c x in
    let a_small = are.a_named.least x below in
    let c_small = are.c_named.least x below in
    let c_a : slice_index c a_x ≡ c_x = are.closed x a_x below (omega (arith, a_small, below)) none (are.a_named.own x below) in
    let a_c : slice_index a c_x ≡ a_x = are.coarser c_x x (omega (arith, c_small, below)) below (are.c_named.own x below) in
    omega (
      arith,
      c_a,
      a_c,
      are.c_named.least a_x (omega (arith, a_small, below)),
      are.a_named.least c_x (omega (arith, c_small, below)),
    ) in
    let split : parts_in n all name a
    ≡ count_in n all name (λ x. is_least a x && not (has x)) + count_in n all name (λ x. is_least a x && has x) =
    count_by-either (λ x. is_in all name x && (is_least a x && not (has x))) (λ x. is_in all name x && (is_least a x && has x))
    (λ x. is_in all name x && is_least a x) n (λ x below. parted (is_in all name x) (is_least a x) (has x)) in
    let closed : count_in n all name (λ x. is_least a x && not (has x)) ≡ count_in n all name (is_closed_circle n opened c) =
    count_by-alike (λ x. is_in all name x && (is_least a x && not (has x))) (λ x. is_in all name x && (is_least c x && not (has x))) 0 n
    (λ x from below. ap (λ t. is_in all name x && t) (elim (cases_Bool (has x)) [
      | inl some ↦ ended (is_least a x) (is_least c x) (has x) some
      | inr none ↦ ap (λ z. nat_eq z x && not (has x)) (same_name x (omega (arith, below)) none)
    ])) in
    let p : ℕ → Bool = λ x. is_in all name x && (is_least a x && has x) in
    let q : ℕ → Bool = λ x. is_in all name x && (opened x && is_least d x) in
    let p_each = λ (x : ℕ) (holds : p x ≡ true). all_three (is_in all name x) (is_least a x) (has x) holds in
    let q_each = λ (x : ℕ) (holds : q x ≡ true). all_three (is_in all name x) (opened x) (is_least d x) holds in
    let sought : (x : ℕ) → has x ≡ true → IsSought n c opened x (seek n c opened x) =
    λ x some. let found = open_found n opened c x some in IsSought-seek n c opened x found.0 found.1 in
    let crossing : count_in n all name (λ x. is_least a x && has x) ≡ count_in n all name (λ x. opened x && is_least d x) =
    count_by-matched p q (λ x. slice_index d (seek n c opened x)) (λ x. slice_index a x) n
    (λ x below holds.
    let passes = p_each x holds in
    let s = seek n c opened x in
    let there = sought x passes.2 in
    let d_s = slice_index d s in
    let d_s_below : d_s < n = omega (arith, are.d_named.least s there.below, there.below) in
    let a_same : slice_index a d_s ≡ slice_index a x =
    are.onward d_s s d_s_below there.below (are.d_named.own s there.below) ∙ are.coarser s x there.below below there.together in (
      d_s_below,
      both_pass (is_in all name d_s) (opened d_s) (is_least d d_s)
          (ap (λ z. nat_eq z name) (all_of d_s x d_s_below below a_same) ∙ passes.0) (are.kept s there.below there.is)
          (eq-eqb (slice_index d d_s) d_s (are.d_named.own s there.below)),
    ))
    (λ x y x_below y_below x_holds y_holds same.
    let x_passes = p_each x x_holds in
    let y_passes = p_each y y_holds in
    let x_there = sought x x_passes.2 in
    let y_there = sought y y_passes.2 in
    let s = seek n c opened x in
    let t = seek n c opened y in
    sym (eqb-true (slice_index a x) x x_passes.1) ∙ sym (are.coarser s x x_there.below x_below x_there.together)
    ∙ are.onward s t x_there.below y_there.below same ∙ are.coarser t y y_there.below y_below y_there.together
    ∙ eqb-true (slice_index a y) y y_passes.1)
    (λ y below holds.
    let passes = q_each y holds in
    let a_y = slice_index a y in
    let a_y_below : a_y < n = omega (arith, are.a_named.least y below, below) in
    let own = are.a_named.own y below in (
      a_y_below,
      both_pass (is_in all name a_y) (is_least a a_y) (has a_y)
          (ap (λ z. nat_eq z name) (all_of a_y y a_y_below below own) ∙ passes.0) (eq-eqb (slice_index a a_y) a_y own)
          (elim (cases_Bool (has a_y)) [
            | inl some ↦ some
            | inr none ↦
                open_at n opened c a_y y below passes.1 (are.closed a_y y a_y_below below none (sym own))
          ]),
    ))
    (λ x y x_below y_below x_holds y_holds same.
    let x_passes = q_each x x_holds in
    let y_passes = q_each y y_holds in
    sym (eqb-true (slice_index d x) x x_passes.2) ∙ are.back x y x_below y_below x_passes.1 y_passes.1 same
    ∙ eqb-true (slice_index d y) y y_passes.2) in
    split ∙ ap₂ (λ s t. s + t) closed crossing
  where
    parted : (s b t : Bool) → counted (s && b) ≡ counted (s && (b && not t)) + counted (s && (b && t))
    parted false b t = refl
    parted true false t = refl
    parted true true true = refl
    parted true true false = refl

    ended : (s t b : Bool) → b ≡ true → (s && not b) ≡ (t && not b)
    ended s t true is = none s ∙ sym (none t)
      where
        none : (b : Bool) → (b && false) ≡ false
        none true = refl
        none false = refl
    ended s t false is = absurd (false_true is)

pub circles-glued : (n : ℕ) (opened : ℕ → Bool) (xs ys m : List (ℕ × ℕ)) (all : List ℕ) (name : ℕ) → AreBelow n xs → AreBelow n ys
    → JoinOpenAlone n opened ys → JoinOpen n opened (classes_of n xs) m
    → ((x : ℕ) → x < n → slice_index all (slice_index (classes_of n (xs ++ ys)) x) ≡ slice_index all x)
    → parts_in n all name (classes_of n (xs ++ ys))
    ≡ count_in n all name (is_closed_circle n opened (classes_of n xs))
    + count_in n all name (λ x. opened x && is_least (classes_of n (m ++ ys)) x)
circles-glued n opened xs ys m all name xs_below ys_below are join finer =
    glued-counted n opened (classes_of n xs) (classes_of n (xs ++ ys)) (classes_of n (m ++ ys)) all name
    (AreGlued-parts n opened xs ys m xs_below ys_below are join) finer
