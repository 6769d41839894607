-- The sum of the values of a list, where some of its elements change.
use Rattle.std.proofs.Common.{◌≡◌, ℕ, zero, suc, ◌+◌, ◌<◌, List, [], ◌∷◌, length, refl, arith, sum_by}
use Rattle.std.specs.Prelude.{◌≢◌, slice_index_or}
use Rattle.std.proofs.lemmas.List.Sums.{sum_by-cons}

-- two lists of one length with the same values have the same sum
pub sum_by-same : {X : Type 0} (f : X → ℕ) (d : X) (xs ys : List X) → length xs ≡ length ys
    → ((k : ℕ) → f (slice_index_or xs k d) ≡ f (slice_index_or ys k d)) → sum_by f xs ≡ sum_by f ys
sum_by-same f d [] [] lengths same = refl
sum_by-same f d [] (y ∷ ys) lengths same = absurd (omega arith)
sum_by-same f d (x ∷ xs) [] lengths same = absurd (omega arith)
sum_by-same f d (x ∷ xs) (y ∷ ys) lengths same =
    let first : f x ≡ f y = same 0 in
    let rest = sum_by-same f d xs ys (omega arith) (λ k. same (suc k)) in
    omega (arith, first, rest, sum_by-cons f x xs, sum_by-cons f y ys)

-- where one value is greater by one, so is the sum
pub sum_by-one_more : {X : Type 0} (f : X → ℕ) (d : X) (xs ys : List X) (at : ℕ) → length xs ≡ length ys → at < length ys
    → f (slice_index_or xs at d) + 1 ≡ f (slice_index_or ys at d)
    → ((k : ℕ) → k ≢ at → f (slice_index_or xs k d) ≡ f (slice_index_or ys k d)) → sum_by f xs + 1 ≡ sum_by f ys
sum_by-one_more f d xs [] at lengths within greater same = absurd (omega arith)
sum_by-one_more f d [] (y ∷ ys) at lengths within greater same = absurd (omega arith)
sum_by-one_more f d (x ∷ xs) (y ∷ ys) zero lengths within greater same =
    let first : f x + 1 ≡ f y = greater in
    let rest = sum_by-same f d xs ys (omega arith) (λ k. same (suc k) (λ e. omega arith)) in
    omega (arith, first, rest, sum_by-cons f x xs, sum_by-cons f y ys)
sum_by-one_more f d (x ∷ xs) (y ∷ ys) (suc at) lengths within greater same =
    let first : f x ≡ f y = same 0 (λ e. omega arith) in
    let rest = sum_by-one_more f d xs ys at (omega arith) (omega arith) greater (λ k other. same (suc k) (λ e. other (omega arith))) in
    omega (arith, first, rest, sum_by-cons f x xs, sum_by-cons f y ys)

-- where two neighbouring values are greater by one, the sum is greater by two
pub sum_by-two_more : {X : Type 0} (f : X → ℕ) (d : X) (xs ys : List X) (at : ℕ) → length xs ≡ length ys → suc at < length ys
    → f (slice_index_or xs at d) + 1 ≡ f (slice_index_or ys at d)
    → f (slice_index_or xs (suc at) d) + 1 ≡ f (slice_index_or ys (suc at) d)
    → ((k : ℕ) → k ≢ at → k ≢ suc at → f (slice_index_or xs k d) ≡ f (slice_index_or ys k d)) → sum_by f xs + 2 ≡ sum_by f ys
sum_by-two_more f d xs [] at lengths within first_more second_more same = absurd (omega arith)
sum_by-two_more f d [] (y ∷ ys) at lengths within first_more second_more same = absurd (omega arith)
sum_by-two_more f d (x ∷ xs) (y ∷ ys) zero lengths within first_more second_more same =
    let first : f x + 1 ≡ f y = first_more in
    let rest = sum_by-one_more f d xs ys 0 (omega arith) (omega arith) second_more
    (λ k other. same (suc k) (λ e. omega arith) (λ e. other (omega arith))) in
    omega (arith, first, rest, sum_by-cons f x xs, sum_by-cons f y ys)
sum_by-two_more f d (x ∷ xs) (y ∷ ys) (suc at) lengths within first_more second_more same =
    let first : f x ≡ f y = same 0 (λ e. omega arith) (λ e. omega arith) in
    let rest = sum_by-two_more f d xs ys at (omega arith) (omega arith) first_more second_more
    (λ k other not_next. same (suc k) (λ e. other (omega arith)) (λ e. not_next (omega arith))) in
    omega (arith, first, rest, sum_by-cons f x xs, sum_by-cons f y ys)

-- the sum of values 0
pub sum_by-nothing : {X : Type 0} (f : X → ℕ) (d : X) (xs : List X) → ((k : ℕ) → f (slice_index_or xs k d) ≡ 0) → sum_by f xs ≡ 0
sum_by-nothing f d [] zeros = refl
sum_by-nothing f d (x ∷ xs) zeros =
    let first : f x ≡ 0 = zeros 0 in
    let rest = sum_by-nothing f d xs (λ k. zeros (suc k)) in
    omega (arith, first, rest, sum_by-cons f x xs)
