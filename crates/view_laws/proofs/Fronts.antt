-- One crossing brought to the front: the places of the crossings before and behind.
use Rattle.std.proofs.lemmas.Bool.Decides.{nat_tests}
use Rattle.std.proofs.Common.{◌≡◌, ◌≢◌, ℕ, zero, suc, ◌⊎◌, inl, inr, ◌+◌, ◌<◌, ◌≤◌, ◌∙◌, List, [], ◌∷◌, ◌++◌, length, get_or, take, drop, refl, sym, ap, arith}
use Rattle.view_laws.specs.Fronts.{first_to, place_behind}

-- the place of the list that comes at a place of the others, when the one at a place is taken out
pub past : ℕ → ℕ → ℕ
past zero l = suc l
past (suc k) zero = zero
past (suc k) (suc l) = suc (past k l)

pub past-is : (k l : ℕ) → ((l < k) × (past k l ≡ l)) ⊎ ((k ≤ l) × (past k l ≡ l + 1))
unfolding past
past-is zero l = inr (omega arith, omega arith)
past-is (suc k) zero = inl (omega arith, refl)
past-is (suc k) (suc l) = elim (past-is k l) [
  | inl low ↦ inl (omega (arith, low.0), ap suc low.1)
  | inr high ↦ inr (omega (arith, high.0), omega (arith, high.1))
]

pub past-suc : (z i : ℕ) → past (suc z) (suc i) ≡ suc (past z i)
unfolding past
past-suc z i = refl

pub past-first : (z : ℕ) → past (suc z) 0 ≡ 0
unfolding past
past-first z = refl

pub others-at : (k : ℕ) (xs : List (List ℕ)) (l : ℕ) → k < length xs → get_or (take k xs ++ drop (suc k) xs) l [] ≡ get_or xs (past k l) []
unfolding past
others-at k [] l below = absurd (omega (arith, below))
others-at zero (x ∷ xs) l below = refl
others-at (suc k) (x ∷ xs) zero below = refl
others-at (suc k) (x ∷ xs) (suc l) below = others-at k xs l (omega (arith, below))

pub length-others : (k : ℕ) (xs : List (List ℕ)) → k < length xs → length (take k xs ++ drop (suc k) xs) + 1 ≡ length xs
length-others k [] below = absurd (omega (arith, below))
length-others zero (x ∷ xs) below = omega arith
length-others (suc k) (x ∷ xs) below = let rest = length-others k xs (omega (arith, below)) in omega (arith, rest)

-- the place of the list that comes at a place, when the one at a place is first
pub home : ℕ → ℕ → ℕ
home k zero = k
home k (suc m) = past k m

pub first-at : (k : ℕ) (xs : List (List ℕ)) (m : ℕ) → k < length xs → get_or (first_to k xs) m [] ≡ get_or xs (home k m) []
unfolding home
first-at k xs zero below = refl
first-at k xs (suc m) below = others-at k xs m below

pub length-first : (k : ℕ) (xs : List (List ℕ)) → k < length xs → length (first_to k xs) ≡ length xs
length-first k xs below = let rest = length-others k xs below in omega (arith, rest)

pub behind-low : (k l : ℕ) → l < k → place_behind k l ≡ l + 1
behind-low k l low = grind (arith, nat_tests)

pub behind-own : (k : ℕ) → place_behind k k ≡ 0
behind-own k = grind (arith, nat_tests)

pub behind-high : (k l : ℕ) → k < l → place_behind k l ≡ l
behind-high k l high = grind (arith, nat_tests)

pub order_of_two : (k l : ℕ) → (l < k) ⊎ ((l ≡ k) ⊎ (k < l))
order_of_two k l = grind (arith, nat_tests)

pub home-zero : (k : ℕ) → home k 0 ≡ k
unfolding home
home-zero k = refl

pub home-suc : (k m : ℕ) → home k (suc m) ≡ past k m
unfolding home
home-suc k m = refl

pub home-low : (k l : ℕ) → l < k → home k (l + 1) ≡ l
unfolding home
home-low k l low =
    let e : l + 1 ≡ suc l = omega arith in
    ap (home k) e ∙ elim (past-is k l) [ inl is ↦ is.1 | inr is ↦ absurd (omega (arith, low, is.0)) ]

pub home-high : (k m : ℕ) → k < m → home k m ≡ m
unfolding home
home-high k zero high = absurd (omega (arith, high))
home-high k (suc m) high = elim (past-is k m) [ inl is ↦ absurd (omega (arith, high, is.0)) | inr is ↦ is.1 ∙ omega arith ]

pub home-behind : (k l : ℕ) → home k (place_behind k l) ≡ l
home-behind k l = elim (order_of_two k l) [
  | inl low ↦ ap (home k) (behind-low k l low) ∙ home-low k l low
  | inr other ↦ elim other [
    | inl own ↦ ap (λ z. home k (place_behind k z)) own ∙ ap (home k) (behind-own k) ∙ home-zero k ∙ sym own
    | inr high ↦ ap (home k) (behind-high k l high) ∙ home-high k l high
  ]
]

pub behind-home : (k m : ℕ) → place_behind k (home k m) ≡ m
unfolding home
behind-home k zero = behind-own k
behind-home k (suc m) = elim (past-is k m) [
  | inl low ↦ ap (place_behind k) low.1 ∙ behind-low k m low.0 ∙ omega arith
  | inr high ↦ ap (place_behind k) high.1 ∙ behind-high k (m + 1) (omega (arith, high.0)) ∙ omega arith
]

pub home-below : (k m n : ℕ) → k < n → m < n → home k m < n
unfolding home
home-below k zero n k_below below = k_below
home-below k (suc m) n k_below below = elim (past-is k m) [
  | inl low ↦ omega (arith, low.1, below)
  | inr high ↦ omega (arith, high.1, below)
]

pub behind-below : (k l n : ℕ) → k < n → l < n → place_behind k l < n
behind-below k l n k_below below = elim (order_of_two k l) [
  | inl low ↦ omega (arith, behind-low k l low, low, k_below)
  | inr other ↦ elim other [
    | inl own ↦ let e = ap (place_behind k) own ∙ behind-own k in omega (arith, e, k_below)
    | inr high ↦ omega (arith, behind-high k l high, below)
  ]
]

pub behind-apart : (k a b : ℕ) → a ≢ b → place_behind k a ≢ place_behind k b
behind-apart k a b apart same = apart (sym (home-behind k a) ∙ ap (home k) same ∙ home-behind k b)
