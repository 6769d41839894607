-- Where each point is an end of two pairs at most, a class has two ends free or none.
--
-- Each point has as many ends free as pairs are missing to two. Without pairs each class is one point, with two ends free. A pair takes an
-- end of each of its points: two classes with two ends free each become one with two, and a class that is joined with itself has none left.
use Rattle.std.proofs.Common.{◌≡◌, ◌≢◌, ℕ, inl, inr, ◌⊎◌, ◌+◌, ◌-◌, ◌<◌, ◌≤◌, ◌∙◌, List, [], ◌∷◌, length, refl, sym, ap, ap₂, subst, arith, Bool, true, false, cond}
use Rattle.std.specs.Prelude.{nat_eq, slice_index, min}
use Rattle.std.specs.List.{fold, sum_by, range_with_len}
use Rattle.std.proofs.Math.Path.{fun_ext}
use Rattle.std.proofs.lemmas.Bool.{cases_eq, eq-eqb, eqb-true, false_from_ne_true}
use Rattle.std.proofs.lemmas.Bool.Decides.{nat_tests}
use Rattle.std.proofs.lemmas.List.Sums.{sum_by-cons}
use Rattle.kh_types.specs.Bits.{one_if}
use Rattle.kh_types.specs.Classes.{merged, joined, classes_of, AreBelow}
use Rattle.kh_types.proofs.ClassLemmas.{slice_index-joined, length-joined}
use Rattle.kh_types.proofs.JoinedClasses.{joined-together, slice_index-range}
use Rattle.kh_types.proofs.ListSums.{sum_by-plus, sum_by-single, sum_by-range_alike}
use Rattle.std.proofs.lemmas.List.FromFn.{length-range_with_len}
use Rattle.added_crossing_laws.specs.Pairings.{ends_in, end_count}
use Rattle.surface_laws.proofs.JoinedCounts.{test-others, term-lesser}

-- what the points of a class have free
abbrev pub free_in : ℕ → List ℕ → (ℕ → ℕ) → ℕ → ℕ
free_in n classes free k = sum_by (λ x. cond (nat_eq (slice_index classes x) k) (free x) 0) (range_with_len 0 n)

-- one pair less
abbrev left_free : (ℕ → ℕ) → ℕ × ℕ → ℕ → ℕ
left_free free pair x = free x - ends_in x pair

abbrev pub zero_or : Bool → ℕ → ℕ
zero_or b n = cond b n 0

at_one : (n : ℕ) (classes : List ℕ) (a k : ℕ) → a < n
    → sum_by (λ x. cond (nat_eq (slice_index classes x) k) (cond (nat_eq a x) 1 0) 0) (range_with_len 0 n)
    ≡ cond (nat_eq (slice_index classes a) k) 1 0
at_one n classes a k below =
    let f : ℕ → ℕ = λ x. cond (nat_eq (slice_index classes x) k) (cond (nat_eq a x) 1 0) 0 in
    sum_by-single f 0 n a (omega arith) (omega (arith, below))
    (λ x above x_below other. other_zero (nat_eq (slice_index classes x) k) a x other)
    ∙ ap (λ b. cond (nat_eq (slice_index classes a) k) (cond b 1 0) 0) (eq-eqb a a refl)
  where
    other_zero : (b : Bool) (a x : ℕ) → x ≢ a → zero_or b (one_if (nat_eq a x)) ≡ 0
    other_zero b a x other = grind (arith, nat_tests)

split_term : (b : Bool) (free first second : ℕ) → first + second ≤ free
    → cond b free 0 ≡ cond b (free - (first + second)) 0 + (cond b first 0 + cond b second 0)
split_term true free first second few = omega (arith, few)
split_term false free first second few = omega arith

free-less : (n : ℕ) (classes : List ℕ) (free : ℕ → ℕ) (pair : ℕ × ℕ) (k : ℕ) → pair.0 < n → pair.1 < n
    → ((x : ℕ) → x < n → ends_in x pair ≤ free x)
    → free_in n classes free k
    ≡ free_in n classes (left_free free pair) k
    + (cond (nat_eq (slice_index classes pair.0) k) 1 0 + cond (nat_eq (slice_index classes pair.1) k) 1 0)
free-less n classes free pair k first_below second_below few =
    let range = range_with_len 0 n in
    let left : ℕ → ℕ = λ x. cond (nat_eq (slice_index classes x) k) (left_free free pair x) 0 in
    let first : ℕ → ℕ = λ x. cond (nat_eq (slice_index classes x) k) (cond (nat_eq pair.0 x) 1 0) 0 in
    let second : ℕ → ℕ = λ x. cond (nat_eq (slice_index classes x) k) (cond (nat_eq pair.1 x) 1 0) 0 in
    sum_by-range_alike (λ x. cond (nat_eq (slice_index classes x) k) (free x) 0) (λ x. left x + (first x + second x)) 0 n
    (λ x above below.
    split_term (nat_eq (slice_index classes x) k) (free x) (cond (nat_eq pair.0 x) 1 0) (cond (nat_eq pair.1 x) 1 0)
    (few x (omega (arith, below))))
    ∙ sum_by-plus left (λ x. first x + second x) range
    ∙ ap (λ s. sum_by left range + s)
    (sum_by-plus first second range ∙ ap₂ (λ s t. s + t) (at_one n classes pair.0 k first_below) (at_one n classes pair.1 k second_below))

-- two classes become one

free-others : (n : ℕ) (classes : List ℕ) (free : ℕ → ℕ) (pair : ℕ × ℕ) (k : ℕ) → length classes ≡ n
    → k ≢ slice_index classes pair.0 → k ≢ slice_index classes pair.1
    → free_in n (joined classes pair) free k ≡ free_in n classes free k
free-others n classes free pair k size not_first not_second =
    let u = slice_index classes pair.0 in
    let v = slice_index classes pair.1 in
    sum_by-range_alike (λ x. cond (nat_eq (slice_index (joined classes pair) x) k) (free x) 0)
    (λ x. cond (nat_eq (slice_index classes x) k) (free x) 0) 0 n
    (λ x above below.
    ap (λ c. cond (nat_eq c k) (free x) 0) (slice_index-joined classes pair x (omega (arith, below, size)))
    ∙ ap (λ b. cond b (free x) 0) (test-others u v (slice_index classes x) k not_first not_second))

free-lesser : (n : ℕ) (classes : List ℕ) (free : ℕ → ℕ) (pair : ℕ × ℕ) → length classes ≡ n
    → slice_index classes pair.0 ≢ slice_index classes pair.1
    → free_in n (joined classes pair) free (min (slice_index classes pair.0) (slice_index classes pair.1))
    ≡ free_in n classes free (slice_index classes pair.0) + free_in n classes free (slice_index classes pair.1)
free-lesser n classes free pair size apart =
    let u = slice_index classes pair.0 in
    let v = slice_index classes pair.1 in
    let first : ℕ → ℕ = λ x. cond (nat_eq (slice_index classes x) u) (free x) 0 in
    let second : ℕ → ℕ = λ x. cond (nat_eq (slice_index classes x) v) (free x) 0 in
    sum_by-range_alike (λ x. cond (nat_eq (slice_index (joined classes pair) x) (min u v)) (free x) 0) (λ x. first x + second x) 0 n
    (λ x above below.
    ap (λ c. cond (nat_eq c (min u v)) (free x) 0) (slice_index-joined classes pair x (omega (arith, below, size)))
    ∙ term-lesser u v (slice_index classes x) (free x) apart)
    ∙ sum_by-plus first second (range_with_len 0 n)

-- each class has two ends free or none
abbrev pub HasEven : ℕ → Type 0
HasEven count = (count ≡ 0) ⊎ (count ≡ 2)

abbrev pub AreEven : ℕ → List ℕ → (ℕ → ℕ) → Type 0
AreEven n classes free = (x : ℕ) → x < n → HasEven (free_in n classes free (slice_index classes x))

one-class : (u v k before after : ℕ) → u ≡ v → before ≡ after + (cond (nat_eq u k) 1 0 + cond (nat_eq v k) 1 0) → HasEven before
    → HasEven after
one-class u v k before after same less (inl none) = inl (omega (arith, none, less))
one-class u v k before after same less (inr two) = elim (cases_eq u k) [
  | inl is ↦ inl (both u v k before after is same less two)
  | inr not ↦ inr (neither u v k before after not same less two)
]
  where
    both : (u v k before after : ℕ) → u ≡ k → u ≡ v → before ≡ after + (cond (nat_eq u k) 1 0 + cond (nat_eq v k) 1 0) → before ≡ 2
        → after ≡ 0
    both u v k before after is same less two = grind (arith, nat_tests)

    neither : (u v k before after : ℕ) → u ≢ k → u ≡ v → before ≡ after + (cond (nat_eq u k) 1 0 + cond (nat_eq v k) 1 0)
        → before ≡ 2 → after ≡ 2
    neither u v k before after not same less two = grind (arith, nat_tests)

first-one : (u v before after : ℕ) → u ≢ v → before ≡ after + (cond (nat_eq u u) 1 0 + cond (nat_eq v u) 1 0) → HasEven before
    → after ≡ 1
first-one u v before after apart less (inl none) = grind (arith, nat_tests)
first-one u v before after apart less (inr two) = grind (arith, nat_tests)

second-one : (u v before after : ℕ) → u ≢ v → before ≡ after + (cond (nat_eq u v) 1 0 + cond (nat_eq v v) 1 0) → HasEven before
    → after ≡ 1
second-one u v before after apart less (inl none) = grind (arith, nat_tests)
second-one u v before after apart less (inr two) = grind (arith, nat_tests)

others-same : (u v k before after : ℕ) → k ≢ u → k ≢ v → before ≡ after + (cond (nat_eq u k) 1 0 + cond (nat_eq v k) 1 0)
    → before ≡ after
others-same u v k before after not_first not_second less = grind (arith, nat_tests)

merged-ends : (u v k : ℕ) → (merged u v k ≡ min u v) ⊎ ((merged u v k ≡ k) × (k ≢ u) × (k ≢ v))
merged-ends u v k = grind (arith, nat_tests)

AreEven-joined : (n : ℕ) (classes : List ℕ) (free : ℕ → ℕ) (pair : ℕ × ℕ) → length classes ≡ n → pair.0 < n → pair.1 < n
    → ((x : ℕ) → x < n → ends_in x pair ≤ free x) → AreEven n classes free
    → AreEven n (joined classes pair) (left_free free pair)
AreEven-joined n classes free pair size first_below second_below few even x x_below =
    let u = slice_index classes pair.0 in
    let v = slice_index classes pair.1 in
    let k = slice_index classes x in
    let left = left_free free pair in
    let less : (k : ℕ) → free_in n classes free k
    ≡ free_in n classes left k + (cond (nat_eq u k) 1 0 + cond (nat_eq v k) 1 0) =
    λ k. free-less n classes free pair k first_below second_below few in
    elim (cases_eq u v) [
      | inl same ↦
          subst (λ (cs : List ℕ). HasEven (free_in n cs left (slice_index cs x))) (sym (joined-together classes pair same))
          (one-class u v k (free_in n classes free k) (free_in n classes left k) same (less k) (even x x_below))
      | inr apart ↦
          subst (λ (c : ℕ). HasEven (free_in n (joined classes pair) left c))
          (sym (slice_index-joined classes pair x (omega (arith, x_below, size))))
          (elim (merged-ends u v k) [
            | inl lesser ↦
                subst (λ (c : ℕ). HasEven (free_in n (joined classes pair) left c)) (sym lesser)
                (inr (free-lesser n classes left pair size apart
                ∙ ap₂ (λ (s t : ℕ). s + t)
                (first-one u v (free_in n classes free u) (free_in n classes left u) apart (less u) (even pair.0 first_below))
                (second-one u v (free_in n classes free v) (free_in n classes left v) apart (less v) (even pair.1 second_below))))
            | inr other ↦
                subst (λ (c : ℕ). HasEven (free_in n (joined classes pair) left c)) (sym other.0)
                (subst HasEven
                (others-same u v k (free_in n classes free k) (free_in n classes left k) other.1 other.2 (less k)
                ∙ sym (free-others n classes left pair k size other.1 other.2))
                (even x x_below))
          ])
    ]

same_free : (f : ℕ) → f ≡ f - 0
same_free f = omega arith

AreEven-fold : (n : ℕ) (classes : List ℕ) (free : ℕ → ℕ) (pairs : List (ℕ × ℕ)) → length classes ≡ n → AreBelow n pairs
    → ((x : ℕ) → x < n → end_count pairs x ≤ free x) → AreEven n classes free
    → AreEven n (fold joined classes pairs) (λ x. free x - end_count pairs x)
AreEven-fold n classes free [] size below few even =
    subst (λ (g : ℕ → ℕ). AreEven n classes g) (fun_ext (λ x. same_free (free x))) even
AreEven-fold n classes free (pair ∷ pairs) size below few even =
    let more : (x : ℕ) → end_count (pair ∷ pairs) x ≡ ends_in x pair + end_count pairs x = λ x. sum_by-cons (ends_in x) pair pairs in
    subst (λ (g : ℕ → ℕ). AreEven n (fold joined (joined classes pair) pairs) g)
    (fun_ext (λ x. less_twice (free x) (ends_in x pair) (end_count pairs x) (end_count (pair ∷ pairs) x) (more x)))
    (AreEven-fold n (joined classes pair) (left_free free pair) pairs (length-joined classes pair ∙ size) below.1
    (λ x x_below. fewer (free x) (ends_in x pair) (end_count pairs x) (end_count (pair ∷ pairs) x) (more x) (few x x_below))
    (AreEven-joined n classes free pair size below.0.0 below.0.1
    (λ x x_below. few_now (free x) (ends_in x pair) (end_count pairs x) (end_count (pair ∷ pairs) x) (more x) (few x x_below)) even))
  where
    less_twice : (f e d all : ℕ) → all ≡ e + d → f - e - d ≡ f - all
    less_twice f e d all is = omega (arith, is)

    fewer : (f e d all : ℕ) → all ≡ e + d → all ≤ f → d ≤ f - e
    fewer f e d all is few = omega (arith, is, few)

    few_now : (f e d all : ℕ) → all ≡ e + d → all ≤ f → e ≤ f
    few_now f e d all is few = omega (arith, is, few)

-- at first each point is alone, with two ends free
alone : (n : ℕ) → AreEven n (range_with_len 0 n) (λ x. 2)
alone n x x_below =
    let at : (z : ℕ) → z < n → slice_index (range_with_len 0 n) z ≡ z = slice_index-range n in
    let f : ℕ → ℕ = λ z. cond (nat_eq (slice_index (range_with_len 0 n) z) (slice_index (range_with_len 0 n) x)) 2 0 in
    inr (sum_by-single f 0 n x (omega arith) (omega (arith, x_below))
    (λ z above below other.
    ap (λ b. cond b 2 0)
    (false_from_ne_true (nat_eq (slice_index (range_with_len 0 n) z) (slice_index (range_with_len 0 n) x))
    (λ same.
    other (sym (at z (omega (arith, below)))
    ∙ eqb-true (slice_index (range_with_len 0 n) z) (slice_index (range_with_len 0 n) x) same ∙ at x x_below))))
    ∙ ap (λ b. cond b 2 0) (eq-eqb (slice_index (range_with_len 0 n) x) (slice_index (range_with_len 0 n) x) refl))

pub AreEven-classes : (n : ℕ) (pairs : List (ℕ × ℕ)) → AreBelow n pairs → ((x : ℕ) → x < n → end_count pairs x ≤ 2)
    → AreEven n (classes_of n pairs) (λ x. 2 - end_count pairs x)
AreEven-classes n pairs below few =
    AreEven-fold n (range_with_len 0 n) (λ x. 2) pairs (length-range_with_len 0 n) below few (alone n)
