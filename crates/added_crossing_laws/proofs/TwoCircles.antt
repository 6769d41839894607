-- Where two classes of some points become one, two circles do.
--
-- Fine and coarse classes are each named by their least points. Of the two fine classes that become one the lesser name is kept and the
-- greater is gone. Every other class has its old name (`others-merged`), so the coarse names are the fine ones without the one that is gone
-- (`names-merged`). The four arcs of a crossing are on the two fine classes: these are touched before (`touched-first`), and the one that
-- is kept after (`touched-second`).
use Rattle.std.proofs.Common.{◌≡◌, ◌≢◌, ℕ, inl, inr, ◌⊎◌, ◌<◌, ◌≤◌, ◌∙◌, List, [], ◌∷◌, refl, sym, ap, ap₂, subst, arith, Bool, true, not, ◌&&◌}
use Rattle.std.specs.Prelude.{nat_eq, slice_index, min, max}
use Rattle.std.specs.List.{filter, list_any, range_with_len}
use Rattle.std.specs.Cmp.{both_ways}
use Rattle.std.proofs.lemmas.Bool.{cases_Bool, cases_eq, and_parts, eq-eqb, eqb-true, false_from_ne_true}
use Rattle.std.proofs.lemmas.Bool.Decides.{nat_tests}
use Rattle.kh_types.specs.Classes.{is_least}
use Rattle.kh_types.specs.Edges.{is_other}
use Rattle.kh_types.proofs.FilteredRanges.{filter-filter, filter-one, filter-two}
use Rattle.kh_types.proofs.Lists.{filter-range_agree}
use Rattle.kh_types.proofs.RangeCounts.{list_any-at, list_any-one}
use Rattle.kh_types.proofs.JoinedClasses.{min-cases}
use Rattle.added_crossing_laws.proofs.Members.{IsOneOf}
use Rattle.added_crossing_laws.proofs.Pants.{names}
use Rattle.kh_types.proofs.Tests.{other-differs, other-passes}

-- classes of points, each named by its least point
pub record AreNamed (count : ℕ) (alive : ℕ → Bool) (classes : List ℕ) : Type 0 where
  pub is : (x : ℕ) → IsOneOf count alive x → IsOneOf count alive (slice_index classes x)
  pub own : (x : ℕ) → IsOneOf count alive x → slice_index classes (slice_index classes x) ≡ slice_index classes x
  pub least : (x : ℕ) → IsOneOf count alive x → slice_index classes x ≤ x

-- a class is one of two
abbrev pub IsEither : List ℕ → ℕ → ℕ → ℕ → Type 0
IsEither classes a b class = (class ≡ slice_index classes a) ⊎ (class ≡ slice_index classes b)

pub record AreMerged (count : ℕ) (alive : ℕ → Bool) (fine coarse : List ℕ) (a b : ℕ) : Type 0 where
  pub a_is : IsOneOf count alive a
  pub b_is : IsOneOf count alive b
  pub apart : slice_index fine a ≢ slice_index fine b
  pub joined : slice_index coarse a ≡ slice_index coarse b
  pub keeps : (x y : ℕ) → IsOneOf count alive x → IsOneOf count alive y → slice_index fine x ≡ slice_index fine y
      → slice_index coarse x ≡ slice_index coarse y
  pub parts : (x y : ℕ) → IsOneOf count alive x → IsOneOf count alive y → slice_index coarse x ≡ slice_index coarse y
      → (slice_index fine x ≡ slice_index fine y)
      ⊎ (IsEither fine a b (slice_index fine x) × IsEither fine a b (slice_index fine y))
  pub fine_named : AreNamed count alive fine
  pub coarse_named : AreNamed count alive coarse

abbrev pub kept_of : List ℕ → ℕ → ℕ → ℕ
kept_of fine a b = min (slice_index fine a) (slice_index fine b)

abbrev pub gone_of : List ℕ → ℕ → ℕ → ℕ
gone_of fine a b = max (slice_index fine a) (slice_index fine b)

least-either : (p q f c : ℕ) → (f ≡ p) ⊎ (f ≡ q) → f ≤ c → c ≤ p → c ≤ q → c ≡ min p q
least-either p q f c (inl is) least first second = grind (arith, nat_tests)
least-either p q f c (inr is) least first second = grind (arith, nat_tests)

coarse-a : (count : ℕ) (alive : ℕ → Bool) (fine coarse : List ℕ) (a b : ℕ) → AreMerged count alive fine coarse a b
    → slice_index coarse a ≡ kept_of fine a b
coarse-a count alive fine coarse a b merged =
    let p = slice_index fine a in
    let q = slice_index fine b in
    let c = slice_index coarse a in
    let c_is = merged.coarse_named.is a merged.a_is in
    let p_is = merged.fine_named.is a merged.a_is in
    let q_is = merged.fine_named.is b merged.b_is in
    let own = merged.coarse_named.own a merged.a_is in
    let at_p : slice_index coarse p ≡ c = merged.keeps p a p_is merged.a_is (merged.fine_named.own a merged.a_is) in
    let at_q : slice_index coarse q ≡ c =
    merged.keeps q b q_is merged.b_is (merged.fine_named.own b merged.b_is) ∙ sym merged.joined in
    let either : IsEither fine a b (slice_index fine c) =
    elim (merged.parts c a c_is merged.a_is own) [ inl same ↦ inl same | inr both ↦ both.0 ] in
    least-either p q (slice_index fine c) c either (merged.fine_named.least c c_is)
    (omega (arith, at_p, merged.coarse_named.least p p_is)) (omega (arith, at_q, merged.coarse_named.least q q_is))

coarse-either : (count : ℕ) (alive : ℕ → Bool) (fine coarse : List ℕ) (a b x : ℕ) → AreMerged count alive fine coarse a b
    → IsOneOf count alive x → IsEither fine a b (slice_index fine x) → slice_index coarse x ≡ kept_of fine a b
coarse-either count alive fine coarse a b x merged is (inl same) =
    merged.keeps x a is merged.a_is same ∙ coarse-a count alive fine coarse a b merged
coarse-either count alive fine coarse a b x merged is (inr same) =
    merged.keeps x b is merged.b_is same ∙ sym merged.joined ∙ coarse-a count alive fine coarse a b merged

coarse-neither : (count : ℕ) (alive : ℕ → Bool) (fine coarse : List ℕ) (a b x : ℕ) → AreMerged count alive fine coarse a b
    → IsOneOf count alive x → (IsEither fine a b (slice_index fine x) → ⊥) → slice_index coarse x ≡ slice_index fine x
coarse-neither count alive fine coarse a b x merged is not =
    let c = slice_index coarse x in
    let f = slice_index fine x in
    let c_is = merged.coarse_named.is x is in
    let f_is = merged.fine_named.is x is in
    let same : slice_index fine c ≡ f =
    elim (merged.parts c x c_is is (merged.coarse_named.own x is)) [ inl same ↦ same | inr both ↦ absurd (not both.1) ] in
    let at_f : slice_index coarse f ≡ c = merged.keeps f x f_is is (merged.fine_named.own x is) in
    omega (arith, same, at_f, merged.fine_named.least c c_is, merged.coarse_named.least f f_is)

-- one and others
either_cases : (count : ℕ) (alive : ℕ → Bool) (fine : List ℕ) (a b x : ℕ)
    → IsEither fine a b (slice_index fine x) ⊎ (IsEither fine a b (slice_index fine x) → ⊥)
either_cases count alive fine a b x = elim (cases_eq (slice_index fine x) (slice_index fine a)) [
  | inl first ↦ inl (inl first)
  | inr not_first ↦ elim (cases_eq (slice_index fine x) (slice_index fine b)) [
    | inl second ↦ inl (inr second)
    | inr not_second ↦ inr (neither fine a b x not_first not_second)
  ]
]
  where
    neither : (fine : List ℕ) (a b x : ℕ) → slice_index fine x ≢ slice_index fine a → slice_index fine x ≢ slice_index fine b
        → IsEither fine a b (slice_index fine x) → ⊥
    neither fine a b x not_first not_second (inl is) = not_first is
    neither fine a b x not_first not_second (inr is) = not_second is

either-gone : (p q f : ℕ) → f ≡ max p q → (f ≡ p) ⊎ (f ≡ q)
either-gone p q f is = grind (arith, nat_tests)

either-kept : (p q f : ℕ) → (f ≡ p) ⊎ (f ≡ q) → f ≢ max p q → f ≡ min p q
either-kept p q f (inl is) other = grind (arith, nat_tests)
either-kept p q f (inr is) other = grind (arith, nat_tests)

pub one-merged : (count : ℕ) (alive : ℕ → Bool) (fine coarse : List ℕ) (a b x : ℕ) → AreMerged count alive fine coarse a b
    → IsOneOf count alive x → slice_index fine x ≡ gone_of fine a b → slice_index coarse x ≡ kept_of fine a b
one-merged count alive fine coarse a b x merged is gone =
    coarse-either count alive fine coarse a b x merged is
    (either-gone (slice_index fine a) (slice_index fine b) (slice_index fine x) gone)

pub others-merged : (count : ℕ) (alive : ℕ → Bool) (fine coarse : List ℕ) (a b x : ℕ) → AreMerged count alive fine coarse a b
    → IsOneOf count alive x → slice_index fine x ≢ gone_of fine a b → slice_index coarse x ≡ slice_index fine x
others-merged count alive fine coarse a b x merged is other = elim (either_cases count alive fine a b x) [
  | inl either ↦
      coarse-either count alive fine coarse a b x merged is either
      ∙ sym (either-kept (slice_index fine a) (slice_index fine b) (slice_index fine x) either other)
  | inr neither ↦ coarse-neither count alive fine coarse a b x merged is neither
]

pub order-merged : (count : ℕ) (alive : ℕ → Bool) (fine coarse : List ℕ) (a b : ℕ) → AreMerged count alive fine coarse a b
    → kept_of fine a b < gone_of fine a b
order-merged count alive fine coarse a b merged = ordered (slice_index fine a) (slice_index fine b) merged.apart
  where
    ordered : (p q : ℕ) → p ≢ q → min p q < max p q
    ordered p q apart = grind (arith, nat_tests)

-- the names
kept-own : (count : ℕ) (alive : ℕ → Bool) (fine coarse : List ℕ) (a b : ℕ) → AreMerged count alive fine coarse a b
    → IsOneOf count alive (kept_of fine a b) × (slice_index fine (kept_of fine a b) ≡ kept_of fine a b)
kept-own count alive fine coarse a b merged =
    elim (min-cases (slice_index fine a) (slice_index fine b)) [
      | inl first ↦
          subst (λ z. IsOneOf count alive z × (slice_index fine z ≡ z)) (sym first)
          (merged.fine_named.is a merged.a_is, merged.fine_named.own a merged.a_is)
      | inr second ↦
          subst (λ z. IsOneOf count alive z × (slice_index fine z ≡ z)) (sym second)
          (merged.fine_named.is b merged.b_is, merged.fine_named.own b merged.b_is)
    ]

gone-own : (count : ℕ) (alive : ℕ → Bool) (fine coarse : List ℕ) (a b : ℕ) → AreMerged count alive fine coarse a b
    → IsOneOf count alive (gone_of fine a b) × (slice_index fine (gone_of fine a b) ≡ gone_of fine a b)
gone-own count alive fine coarse a b merged =
    elim (max_is (slice_index fine a) (slice_index fine b)) [
      | inl first ↦
          subst (λ z. IsOneOf count alive z × (slice_index fine z ≡ z)) (sym first)
          (merged.fine_named.is a merged.a_is, merged.fine_named.own a merged.a_is)
      | inr second ↦
          subst (λ z. IsOneOf count alive z × (slice_index fine z ≡ z)) (sym second)
          (merged.fine_named.is b merged.b_is, merged.fine_named.own b merged.b_is)
    ]
  where
    max_is : (p q : ℕ) → (max p q ≡ p) ⊎ (max p q ≡ q)
    max_is p q = grind (arith, nat_tests)

same-name : (count : ℕ) (alive : ℕ → Bool) (fine coarse : List ℕ) (a b x : ℕ) → AreMerged count alive fine coarse a b
    → IsOneOf count alive x → is_least coarse x ≡ (is_least fine x && is_other (gone_of fine a b) x)
same-name count alive fine coarse a b x merged is =
    let gone = gone_of fine a b in
    let kept = kept_of fine a b in
    both_ways (is_least coarse x) (is_least fine x && is_other gone x)
    (λ least.
    let own : slice_index coarse x ≡ x = eqb-true (slice_index coarse x) x least in
    elim (cases_eq (slice_index fine x) gone) [
      | inl is_gone ↦
          let at_kept : x ≡ kept = sym own ∙ one-merged count alive fine coarse a b x merged is is_gone in
          absurd (omega (
            arith,
            order-merged count alive fine coarse a b merged,
            ap (λ z. slice_index fine z) at_kept,
            (kept-own count alive fine coarse a b merged).1,
            is_gone,
          ))
      | inr other ↦
          let fine_own : slice_index fine x ≡ x = sym (others-merged count alive fine coarse a b x merged is other) ∙ own in
          ap₂ (λ s t. s && t) (eq-eqb (slice_index fine x) x fine_own) (other-passes gone x (λ same. other (fine_own ∙ same)))
    ])
    (λ both.
    let parts = and_parts (is_least fine x) (is_other gone x) both in
    let own : slice_index fine x ≡ x = eqb-true (slice_index fine x) x parts.0 in
    eq-eqb (slice_index coarse x) x
    (others-merged count alive fine coarse a b x merged is (λ same. other-differs gone x parts.1 (sym own ∙ same)) ∙ own))

pub names-merged : (count : ℕ) (alive : ℕ → Bool) (fine coarse : List ℕ) (a b : ℕ) → AreMerged count alive fine coarse a b
    → names count alive coarse ≡ filter (is_other (gone_of fine a b)) (names count alive fine)
names-merged count alive fine coarse a b merged =
    let gone = gone_of fine a b in
    let range = range_with_len 1 count in
    filter-filter alive (is_least coarse) range
    ∙ filter-range_agree (λ x. alive x && is_least coarse x) (λ x. (alive x && is_least fine x) && is_other gone x) 1 count
    (λ x above below. elim (cases_Bool (alive x)) [
      | inl is ↦
          ap (λ t. t && is_least coarse x) is
          ∙ same-name count alive fine coarse a b x merged (record { above = above; below = below; passes = is })
          ∙ ap (λ t. (t && is_least fine x) && is_other gone x) (sym is)
      | inr not_alive ↦
          ap (λ t. t && is_least coarse x) not_alive ∙ ap (λ t. (t && is_least fine x) && is_other gone x) (sym not_alive)
    ])
    ∙ sym (ap (λ (xs : List ℕ). filter (is_other gone) xs) (filter-filter alive (is_least fine) range)
    ∙ filter-filter (λ x. alive x && is_least fine x) (is_other gone) range)

-- what is touched: the classes of some arcs
abbrev pub touches : List ℕ → (ℕ → ℕ) → ℕ → Bool
touches classes arc class = list_any (λ slot. nat_eq (slice_index classes (arc slot)) class) (range_with_len 0 4)

-- the arcs at the slots of a crossing are alive, and their classes are those of the arcs at the slots 0 and 2
pub record AreSlots (count : ℕ) (alive : ℕ → Bool) (fine : List ℕ) (arc : ℕ → ℕ) : Type 0 where
  pub is : (slot : ℕ) → slot < 4 → IsOneOf count alive (arc slot)
  pub either : (slot : ℕ) → slot < 4 → IsEither fine (arc 0) (arc 2) (slice_index fine (arc slot))

touched-from : (classes : List ℕ) (arc : ℕ → ℕ) (slot : ℕ) → slot < 4 → touches classes arc (slice_index classes (arc slot)) ≡ true
touched-from classes arc slot below =
    list_any-at (λ s. nat_eq (slice_index classes (arc s)) (slice_index classes (arc slot))) 0 4 slot (omega arith) (omega (arith, below))
    (eq-eqb (slice_index classes (arc slot)) (slice_index classes (arc slot)) refl)

cases_two : (p q : ℕ) → ((min p q ≡ p) × (max p q ≡ q)) ⊎ ((min p q ≡ q) × (max p q ≡ p))
cases_two p q = grind (arith, nat_tests)

only_two : (p q f x : ℕ) → (f ≡ p) ⊎ (f ≡ q) → f ≡ x → x ≢ min p q → x ≢ max p q → ⊥
only_two p q f x (inl is) class not_kept not_gone = grind (arith, nat_tests)
only_two p q f x (inr is) class not_kept not_gone = grind (arith, nat_tests)

touched-kept : (fine : List ℕ) (arc : ℕ → ℕ) → touches fine arc (kept_of fine (arc 0) (arc 2)) ≡ true
touched-kept fine arc = elim (cases_two (slice_index fine (arc 0)) (slice_index fine (arc 2))) [
  | inl first ↦ ap (touches fine arc) first.0 ∙ touched-from fine arc 0 (omega arith)
  | inr second ↦ ap (touches fine arc) second.0 ∙ touched-from fine arc 2 (omega arith)
]

touched-gone : (fine : List ℕ) (arc : ℕ → ℕ) → touches fine arc (gone_of fine (arc 0) (arc 2)) ≡ true
touched-gone fine arc = elim (cases_two (slice_index fine (arc 0)) (slice_index fine (arc 2))) [
  | inl first ↦ ap (touches fine arc) first.1 ∙ touched-from fine arc 2 (omega arith)
  | inr second ↦ ap (touches fine arc) second.1 ∙ touched-from fine arc 0 (omega arith)
]

pub touched-first : (count : ℕ) (alive : ℕ → Bool) (fine coarse : List ℕ) (arc : ℕ → ℕ)
    → AreMerged count alive fine coarse (arc 0) (arc 2) → AreSlots count alive fine arc
    → filter (touches fine arc) (names count alive fine) ≡ kept_of fine (arc 0) (arc 2) ∷ gone_of fine (arc 0) (arc 2) ∷ []
touched-first count alive fine coarse arc merged slots =
    let a = arc 0 in
    let b = arc 2 in
    let kept = kept_of fine a b in
    let gone = gone_of fine a b in
    let p : ℕ → Bool = λ x. (alive x && is_least fine x) && touches fine arc x in
    let kept_is = kept-own count alive fine coarse a b merged in
    let gone_is = gone-own count alive fine coarse a b merged in
    ap (λ (xs : List ℕ). filter (touches fine arc) xs) (filter-filter alive (is_least fine) (range_with_len 1 count))
    ∙ filter-filter (λ x. alive x && is_least fine x) (touches fine arc) (range_with_len 1 count)
    ∙ filter-two p 1 count kept gone kept_is.0.above (order-merged count alive fine coarse a b merged) gone_is.0.below
    (ap₂ (λ s t. s && t) (ap₂ (λ s t. s && t) kept_is.0.passes (eq-eqb (slice_index fine kept) kept kept_is.1))
    (touched-kept fine arc))
    (ap₂ (λ s t. s && t) (ap₂ (λ s t. s && t) gone_is.0.passes (eq-eqb (slice_index fine gone) gone gone_is.1))
    (touched-gone fine arc))
    (λ x above below not_kept not_gone.
    false_from_ne_true (p x)
    (λ passes.
    let parts = and_parts (alive x && is_least fine x) (touches fine arc x) passes in
    let found = list_any-one (λ slot. nat_eq (slice_index fine (arc slot)) x) 0 4 parts.1 in
    let class : slice_index fine (arc found.0) ≡ x = eqb-true (slice_index fine (arc found.0)) x found.3 in
    only_two (slice_index fine a) (slice_index fine b) (slice_index fine (arc found.0)) x
    (slots.either found.0 (omega (arith, found.2))) class not_kept not_gone))

pub touched-second : (count : ℕ) (alive : ℕ → Bool) (fine coarse : List ℕ) (arc : ℕ → ℕ)
    → AreMerged count alive fine coarse (arc 0) (arc 2) → AreSlots count alive fine arc
    → filter (touches coarse arc) (names count alive coarse) ≡ kept_of fine (arc 0) (arc 2) ∷ []
touched-second count alive fine coarse arc merged slots =
    let a = arc 0 in
    let b = arc 2 in
    let kept = kept_of fine a b in
    let p : ℕ → Bool = λ x. (alive x && is_least coarse x) && touches coarse arc x in
    let all_kept : (slot : ℕ) → slot < 4 → slice_index coarse (arc slot) ≡ kept =
    λ slot below. coarse-either count alive fine coarse a b (arc slot) merged (slots.is slot below) (slots.either slot below) in
    let kept_is = kept-own count alive fine coarse a b merged in
    let own : slice_index coarse kept ≡ kept =
    ap (λ z. slice_index coarse z) (sym (all_kept 0 (omega arith))) ∙ merged.coarse_named.own a merged.a_is ∙ all_kept 0 (omega arith) in
    ap (λ (xs : List ℕ). filter (touches coarse arc) xs) (filter-filter alive (is_least coarse) (range_with_len 1 count))
    ∙ filter-filter (λ x. alive x && is_least coarse x) (touches coarse arc) (range_with_len 1 count)
    ∙ filter-one p 1 count kept kept_is.0.above kept_is.0.below
    (ap₂ (λ s t. s && t) (ap₂ (λ s t. s && t) kept_is.0.passes (eq-eqb (slice_index coarse kept) kept own))
    (ap (touches coarse arc) (sym (all_kept 0 (omega arith))) ∙ touched-from coarse arc 0 (omega arith)))
    (λ x above below not_kept.
    false_from_ne_true (p x)
    (λ passes.
    let parts = and_parts (alive x && is_least coarse x) (touches coarse arc x) passes in
    let found = list_any-one (λ slot. nat_eq (slice_index coarse (arc slot)) x) 0 4 parts.1 in
    not_kept (sym (eqb-true (slice_index coarse (arc found.0)) x found.3) ∙ all_kept found.0 (omega (arith, found.2)))))
