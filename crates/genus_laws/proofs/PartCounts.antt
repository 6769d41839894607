-- How many parts lie in a class, when two parts become one, and when two classes do.
use Rattle.std.proofs.Common.{◌≡◌, ◌≢◌, ℕ, ◌⊎◌, inl, inr, ◌+◌, ◌<◌, ◌∙◌, List, refl, sym, ap, ap₂, length, arith, Bool, true, false, ◌&&◌, eq-eqb}
use Rattle.std.specs.Prelude.{nat_eq, slice_index, min, max}
use Rattle.std.proofs.lemmas.Bool.{cases_Bool, cases_eq}
use Rattle.std.proofs.lemmas.Bool.Decides.{nat_tests}
use Rattle.kh_types.specs.Classes.{merged, joined, is_least, IsNamed}
use Rattle.kh_types.specs.Permutations.{AreJoined}
use Rattle.kh_types.proofs.ClassLemmas.{slice_index-joined}
use Rattle.kh_types.proofs.JoinedClasses.{greater_fails, max-fixed, min-fixed, other_same}
use Rattle.kh_types.proofs.RangeCounts.{count_by-alike, counted}
use Rattle.genus_laws.specs.Orbits.{is_in, count_in, parts_in}
use Rattle.genus_laws.proofs.Counts.{count_by-one_less, count_by-either}

-- parts are finer than classes: a part's name is in the class of each of its numbers
abbrev pub AreFiner : ℕ → List ℕ → List ℕ → Type 0
AreFiner n parts classes = (x : ℕ) → x < n → slice_index classes (slice_index parts x) ≡ slice_index classes x

-- one class number, after two have become one
max-below : (x y n : ℕ) → x < n → y < n → max x y < n
max-below x y n x_below y_below = grind (arith, nat_tests)

-- the least numbers of the parts, after two parts have become one: the greater of the two names is one no more
pub record OneLess (before after : List ℕ) (n gone : ℕ) : Type 0 where
  pub below : gone < n
  pub was : is_least before gone ≡ true
  pub is : is_least after gone ≡ false
  pub others : (z : ℕ) → z < n → z ≢ gone → is_least before z ≡ is_least after z

OneLess-joined : (n : ℕ) (before after : List ℕ) (x y : ℕ) → IsNamed n before → x < n → y < n → AreJoined before after x y
    → OneLess before after n (max (slice_index before x) (slice_index before y))
OneLess-joined n before after x y named x_below y_below merge =
    let a = slice_index before x in
    let b = slice_index before y in
    let at : (z : ℕ) → z < n → slice_index after z ≡ merged a b (slice_index before z) =
    λ z below. ap (λ cs. slice_index cs z) merge.one ∙ slice_index-joined before (x, y) z (omega (arith, named.size, below)) in
    let own_x = named.own x x_below in
    let own_y = named.own y y_below in
    let own_max : slice_index before (max a b) ≡ max a b = max-fixed (λ z. slice_index before z) a b own_x own_y in
    let own_min : slice_index before (min a b) ≡ min a b = min-fixed (λ z. slice_index before z) a b own_x own_y in
    let m_below : max a b < n =
    max-below a b n (omega (arith, named.least x x_below, x_below)) (omega (arith, named.least y y_below, y_below)) in
    record {
      below = m_below;
      was = eq-eqb (slice_index before (max a b)) (max a b) own_max;
      is = ap (λ c. nat_eq c (max a b)) (at (max a b) m_below)
          ∙ greater_fails a b (slice_index before (max a b)) (max a b) merge.apart refl own_max;
      others = λ z below other. sym
          (ap (λ c. nat_eq c z) (at z below)
          ∙ other_same a b (slice_index before z) z other
          (λ is_min. ap (λ w. slice_index before w) is_min ∙ own_min ∙ sym is_min));
    }

-- two parts of one class become one: that class has one part fewer, and the others have as many
pub parts_in-joined : (n : ℕ) (classes before after : List ℕ) (x y name : ℕ) → IsNamed n before → x < n → y < n
    → AreJoined before after x y → AreFiner n before classes → slice_index classes x ≡ slice_index classes y
    → parts_in n classes name before ≡ parts_in n classes name after + counted (is_in classes name x)
parts_in-joined n classes before after x y name named x_below y_below merge finer together =
    let a = slice_index before x in
    let b = slice_index before y in
    let less = OneLess-joined n before after x y named x_below y_below merge in
    let class_max : slice_index classes (max a b) ≡ slice_index classes x =
    in_max (λ z. slice_index classes z) a b (slice_index classes x) (finer x x_below) (finer y y_below ∙ sym together) in
    let in_same : is_in classes name (max a b) ≡ is_in classes name x = ap (λ c. nat_eq c name) class_max in
    elim (cases_Bool (is_in classes name x)) [
      | inl inside ↦
          count_by-one_less (λ z. is_in classes name z && is_least before z) (λ z. is_in classes name z && is_least after z) n (max a b)
          less.below (ap₂ (λ s t. s && t) (in_same ∙ inside) less.was)
          (ap₂ (λ s t. s && t) (in_same ∙ inside) less.is)
          (λ z below other. ap (λ t. is_in classes name z && t) (less.others z below other))
          ∙ ap (λ s. parts_in n classes name after + counted s) (sym inside)
      | inr outside ↦
          count_by-alike (λ z. is_in classes name z && is_least before z) (λ z. is_in classes name z && is_least after z) 0 n
          (λ z from below. elim (cases_eq z (max a b)) [
            | inr other ↦ ap (λ t. is_in classes name z && t) (less.others z (omega (arith, below)) other)
            | inl same ↦ none (is_in classes name z) (is_least before z) (is_least after z)
                (ap (is_in classes name) same ∙ in_same ∙ outside)
          ])
          ∙ plus_none (parts_in n classes name after)
          ∙ ap (λ s. parts_in n classes name after + counted s) (sym outside)
    ]
  where
    none : (s t u : Bool) → s ≡ false → (s && t) ≡ (s && u)
    none s t u fails = ap (λ v. v && t) fails ∙ ap (λ v. v && u) (sym fails)

    plus_none : (c : ℕ) → c ≡ c + counted false
    plus_none c = omega arith

    in_max : (f : ℕ → ℕ) (a b c : ℕ) → f a ≡ c → f b ≡ c → f (max a b) ≡ c
    in_max f a b c at_a at_b = elim (which a b) [ inl is ↦ ap f is ∙ at_a | inr is ↦ ap f is ∙ at_b ]
      where
        which : (a b : ℕ) → (max a b ≡ a) ⊎ (max a b ≡ b)
        which a b = grind (arith, nat_tests)

-- two classes become one, which has the numbers of both, and the others stay

is_in-one : (a b class : ℕ) → a ≢ b
    → counted (nat_eq (merged a b class) (min a b)) ≡ counted (nat_eq class a) + counted (nat_eq class b)
is_in-one a b class apart = grind (arith, nat_tests)

is_in-other : (a b class name : ℕ) → name ≢ min a b → name ≢ max a b → nat_eq (merged a b class) name ≡ nat_eq class name
is_in-other a b class name not_min not_max = grind (arith, nat_tests)

tested : (s u v t : Bool) → counted s ≡ counted u + counted v → counted (s && t) ≡ counted (u && t) + counted (v && t)
tested s u v true is = true_each s ∙ is ∙ ap₂ (λ c d. c + d) (sym (true_each u)) (sym (true_each v))
  where
    true_each : (b : Bool) → counted (b && true) ≡ counted b
    true_each true = refl
    true_each false = refl
tested s u v false is = false_each s ∙ ap₂ (λ c d. c + d) (sym (false_each u)) (sym (false_each v))
  where
    false_each : (b : Bool) → counted (b && false) ≡ 0
    false_each true = refl
    false_each false = refl

pub count_in-one : (n : ℕ) (classes : List ℕ) (x y : ℕ) (test : ℕ → Bool) → length classes ≡ n
    → slice_index classes x ≢ slice_index classes y
    → count_in n (joined classes (x, y)) (min (slice_index classes x) (slice_index classes y)) test
    ≡ count_in n classes (slice_index classes x) test + count_in n classes (slice_index classes y) test
count_in-one n classes x y test size apart =
    let a = slice_index classes x in
    let b = slice_index classes y in
    count_by-either (λ z. is_in classes a z && test z) (λ z. is_in classes b z && test z)
    (λ z. is_in (joined classes (x, y)) (min a b) z && test z) n
    (λ z below. tested (is_in (joined classes (x, y)) (min a b) z) (is_in classes a z) (is_in classes b z) (test z)
    (ap (λ c. counted (nat_eq c (min a b))) (slice_index-joined classes (x, y) z (omega (arith, size, below)))
    ∙ is_in-one a b (slice_index classes z) apart))

pub count_in-other : (n : ℕ) (classes : List ℕ) (x y name : ℕ) (test : ℕ → Bool) → length classes ≡ n
    → name ≢ min (slice_index classes x) (slice_index classes y) → name ≢ max (slice_index classes x) (slice_index classes y)
    → count_in n (joined classes (x, y)) name test ≡ count_in n classes name test
count_in-other n classes x y name test size not_min not_max =
    let a = slice_index classes x in
    let b = slice_index classes y in
    count_by-alike (λ z. is_in (joined classes (x, y)) name z && test z) (λ z. is_in classes name z && test z) 0 n
    (λ z from below. ap (λ s. s && test z)
    (ap (λ c. nat_eq c name) (slice_index-joined classes (x, y) z (omega (arith, size, below)))
    ∙ is_in-other a b (slice_index classes z) name not_min not_max))
