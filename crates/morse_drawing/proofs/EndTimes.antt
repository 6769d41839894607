-- How often a label stands in a row, and rows whose labels are renamed.
use Rattle.std.proofs.Common.{◌≡◌, ◌≢◌, ℕ, zero, suc, ◌+◌, ◌<◌, ◌≤◌, List, [], ◌∷◌, ◌++◌, ◌⊎◌, inl, inr, length, map, sym, ap, ap₂, refl, arith, cond}
use Rattle.std.specs.Prelude.{nat_eq}
use Rattle.std.specs.List.{range_with_len, sum_by}
use Rattle.std.proofs.lemmas.Bool.{cases_eq, eq-eqb, ne_eqb}
use Rattle.std.proofs.lemmas.Bool.Decides.{nat_tests}
use Rattle.kh_types.proofs.ListSums.{sum_by-none, sum_by-plus}
use Rattle.std.proofs.lemmas.List.Sums.{sum_by-cons}
use Rattle.morse_drawing.specs.DartRows.{IsIn}
use Rattle.morse_drawing.proofs.NumberedEnds.{relabelled}

abbrev pub hit : ℕ → ℕ → ℕ
hit z n = cond (nat_eq z n) 1 0

abbrev pub times : ℕ → List ℕ → ℕ
times n [] = 0
times n (z ∷ zs) = hit z n + times n zs

pub hit-same : (z n : ℕ) → z ≡ n → hit z n ≡ 1
hit-same z n same = ap (λ b. cond b 1 0) (eq-eqb z n same)

pub hit-apart : (z n : ℕ) → z ≢ n → hit z n ≡ 0
hit-apart z n apart = ap (λ b. cond b 1 0) (ne_eqb z n apart)

pub relabelled-old : (old new n : ℕ) → n ≡ old → relabelled old new n ≡ new
relabelled-old old new n same = ap (λ b. cond b new n) (eq-eqb n old same)

pub relabelled-other : (old new n : ℕ) → n ≢ old → relabelled old new n ≡ n
relabelled-other old new n apart = ap (λ b. cond b new n) (ne_eqb n old apart)

-- labels that become one were one, or the old and the new
pub relabelled-same : (old new u v : ℕ) → relabelled old new u ≡ relabelled old new v
    → (u ≡ v) ⊎ (((u ≡ old) × (v ≡ new)) ⊎ ((u ≡ new) × (v ≡ old)))
relabelled-same old new u v same = grind (arith, nat_tests)

pub times-new : (old new : ℕ) (zs : List ℕ) → old ≢ new → times new (map (relabelled old new) zs) ≡ times new zs + times old zs
times-new old new [] apart = refl
times-new old new (z ∷ zs) apart = let later = times-new old new zs apart in grind (arith, nat_tests, later)

pub times-old : (old new : ℕ) (zs : List ℕ) → old ≢ new → times old (map (relabelled old new) zs) ≡ 0
times-old old new [] apart = refl
times-old old new (z ∷ zs) apart = let later = times-old old new zs apart in grind (arith, nat_tests, later)

pub times-other : (old new n : ℕ) (zs : List ℕ) → n ≢ old → n ≢ new → times n (map (relabelled old new) zs) ≡ times n zs
times-other old new n [] one two = refl
times-other old new n (z ∷ zs) one two = let later = times-other old new n zs one two in grind (arith, nat_tests, later)

-- a label that does not stand there is not renamed
pub map-relabelled_none : (old new : ℕ) (zs : List ℕ) → times old zs ≡ 0 → map (relabelled old new) zs ≡ zs
map-relabelled_none old new [] none = refl
map-relabelled_none old new (z ∷ zs) none =
    let apart : z ≢ old = λ same. omega (arith, none, hit-same z old same) in
    ap₂ (λ w ws. w ∷ ws) (relabelled-other old new z apart) (map-relabelled_none old new zs (omega (arith, none)))

pub times-append : (n : ℕ) (xs ys : List ℕ) → times n (xs ++ ys) ≡ times n xs + times n ys
times-append n [] ys = omega arith
times-append n (x ∷ xs) ys = omega (arith, times-append n xs ys)

pub times-in : (y : ℕ) (zs : List ℕ) → IsIn y zs → 1 ≤ times y zs
times-in y [] is_in = absurd is_in
times-in y (z ∷ zs) is_in = elim is_in [
  | inl same ↦ omega (arith, hit-same z y (sym same))
  | inr later ↦ omega (arith, times-in y zs later)
]

pub times-out : (y : ℕ) (zs : List ℕ) → (IsIn y zs → ⊥) → times y zs ≡ 0
times-out y [] out = refl
times-out y (z ∷ zs) out = grind (arith, nat_tests, hit-apart z y (λ same. out (inl (sym same))), times-out y zs (λ later. out (inr later)))

-- labels that all stand in a row are no more than its length
hit-once : (z a n : ℕ) → sum_by (λ l. hit z l) (range_with_len a n) ≤ 1
hit-once z a zero = omega arith
hit-once z a (suc n) = elim (cases_eq z a) [
  | inl same ↦
      omega (
        arith,
        sum_by-cons (λ l. hit z l) a (range_with_len (a + 1) n),
        hit-same z a same,
        sum_by-none (λ l. hit z l) (a + 1) n (λ x from below. hit-apart z x (λ is. absurd (omega (arith, same, is, from)))),
      )
  | inr other ↦
      omega (arith, sum_by-cons (λ l. hit z l) a (range_with_len (a + 1) n), hit-apart z a other, hit-once z (a + 1) n)
]

sum-times : (a n : ℕ) (zs : List ℕ) → sum_by (λ l. times l zs) (range_with_len a n) ≤ length zs
sum-times a n [] = omega (arith, sum_by-none (λ l. 0) a n (λ x from below. refl))
sum-times a n (z ∷ zs) =
    omega (arith, sum_by-plus (λ l. hit z l) (λ l. times l zs) (range_with_len a n), hit-once z a n, sum-times a n zs)

sum-ones : (f : ℕ → ℕ) (a n : ℕ) → ((x : ℕ) → a ≤ x → x < a + n → 1 ≤ f x) → n ≤ sum_by f (range_with_len a n)
sum-ones f a zero all = omega arith
sum-ones f a (suc n) all =
    omega (
      arith,
      sum_by-cons f a (range_with_len (a + 1) n),
      all a (omega arith) (omega arith),
      sum-ones f (a + 1) n (λ x from below. all x (omega (arith, from)) (omega (arith, below))),
    )

pub few-labels : (a n : ℕ) (zs : List ℕ) → ((x : ℕ) → a ≤ x → x < a + n → 1 ≤ times x zs) → n ≤ length zs
few-labels a n zs all = omega (arith, sum-ones (λ l. times l zs) a n all, sum-times a n zs)
