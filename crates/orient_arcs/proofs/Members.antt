-- Lists of numbers in which none stands twice.
use Rattle.std.proofs.lemmas.Bool.Decides.{nat_tests}
use Rattle.std.proofs.Common.{◌≡◌, ◌≢◌, ℕ, zero, suc, ◌⊎◌, inl, inr, ◌+◌, ◌<◌, ◌≤◌, ◌∙◌, List, [], ◌∷◌, ◌++◌, length, take, get_or, refl, sym, ap, arith, Bool, true, false, ◌||◌}
use Rattle.std.specs.Prelude.{nat_eq}
use Rattle.std.specs.List.{position_or_len}
use Rattle.std.proofs.lemmas.Bool.{cases_eq, eq-eqb, cases_Bool, both_ways, ne_eqb}
use Rattle.orient_arcs.specs.Renumbered.{is_in}

abbrev pub IsIn : ℕ → List ℕ → Type 0
IsIn x [] = ⊥
IsIn x (y ∷ ys) = (x ≡ y) ⊎ IsIn x ys

abbrev pub AreDistinct : List ℕ → Type 0
AreDistinct [] = Unit
AreDistinct (x ∷ xs) = (IsIn x xs → ⊥) × AreDistinct xs

pub IsIn-same : (x z : ℕ) (xs : List ℕ) → z ≡ x → IsIn z xs → IsIn x xs
IsIn-same x z [] same is = is
IsIn-same x z (y ∷ ys) same (inl first) = inl (sym same ∙ first)
IsIn-same x z (y ∷ ys) same (inr later) = inr (IsIn-same x z ys same later)

pub IsIn-left : (x : ℕ) (xs ys : List ℕ) → IsIn x xs → IsIn x (xs ++ ys)
IsIn-left x [] ys is = absurd is
IsIn-left x (y ∷ xs) ys (inl same) = inl same
IsIn-left x (y ∷ xs) ys (inr later) = inr (IsIn-left x xs ys later)

pub IsIn-right : (x : ℕ) (xs ys : List ℕ) → IsIn x ys → IsIn x (xs ++ ys)
IsIn-right x [] ys is = is
IsIn-right x (y ∷ xs) ys is = inr (IsIn-right x xs ys is)

pub IsIn-parts : (x : ℕ) (xs ys : List ℕ) → IsIn x (xs ++ ys) → IsIn x xs ⊎ IsIn x ys
IsIn-parts x [] ys is = inr is
IsIn-parts x (y ∷ xs) ys (inl same) = inl (inl same)
IsIn-parts x (y ∷ xs) ys (inr later) = grind (arith, nat_tests, IsIn-parts x xs ys later)

pub AreDistinct-append : (xs ys : List ℕ) → AreDistinct xs → AreDistinct ys → ((x : ℕ) → IsIn x xs → IsIn x ys → ⊥)
    → AreDistinct (xs ++ ys)
AreDistinct-append [] ys first second apart = second
AreDistinct-append (x ∷ xs) ys first second apart = (
  λ is. elim (IsIn-parts x xs ys is) [ inl front ↦ first.0 front | inr back ↦ apart x (inl refl) back ],
  AreDistinct-append xs ys first.1 second (λ y y_in. apart y (inr y_in)),
)

-- of numbers of which none stands twice there are at most as many as of those among which they stand
record HasFewer (x : ℕ) (ys : List ℕ) : Type 0 where
  pub rest : List ℕ
  pub size : length ys ≡ length rest + 1
  pub others : (y : ℕ) → IsIn y ys → y ≢ x → IsIn y rest

without : (x : ℕ) (ys : List ℕ) → IsIn x ys → HasFewer x ys
without x [] is = absurd is
without x (y ∷ ys) (inl same) = record {
  rest = ys;
  size = omega arith;
  others = λ z z_in differs. elim z_in [ inl z_is ↦ absurd (differs (z_is ∙ sym same)) | inr later ↦ later ];
}
without x (y ∷ ys) (inr later) =
    let fewer = without x ys later in
    record {
      rest = y ∷ fewer.rest;
      size = omega (arith, fewer.size);
      others = λ z z_in differs. elim z_in [ inl z_is ↦ inl z_is | inr z_later ↦ inr (fewer.others z z_later differs) ];
    }

pub length-among : (xs ys : List ℕ) → AreDistinct xs → ((x : ℕ) → IsIn x xs → IsIn x ys) → length xs ≤ length ys
length-among [] ys distinct among = omega arith
length-among (x ∷ xs) ys distinct among =
    let fewer = without x ys (among x (inl refl)) in
    let rest = length-among xs fewer.rest distinct.1
    (λ z z_in. fewer.others z (among z (inr z_in)) (λ same. distinct.0 (IsIn-same x z xs same z_in))) in
    omega (arith, rest, fewer.size)

-- the test
pub is_in-true : (x : ℕ) (xs : List ℕ) → IsIn x xs → is_in xs x ≡ true
is_in-true x [] is = absurd is
is_in-true x (y ∷ ys) (inl same) = ap (λ b. b || is_in ys x) (eq-eqb x y same)
is_in-true x (y ∷ ys) (inr later) = ap (λ b. nat_eq x y || b) (is_in-true x ys later) ∙ or_true (nat_eq x y)
  where
    or_true : (b : Bool) → (b || true) ≡ true
    or_true b = grind (arith, nat_tests)

pub true-is_in : (x : ℕ) (xs : List ℕ) → is_in xs x ≡ true → IsIn x xs
true-is_in x [] holds = absurd (false_true holds)
  where
    false_true : false ≡ true → ⊥
    false_true same = cc
true-is_in x (y ∷ ys) holds = elim (cases_eq x y) [
  | inl same ↦ inl same
  | inr other ↦ inr (true-is_in x ys (ap (λ b. b || is_in ys x) (sym (ne_eqb x y other)) ∙ holds))
]

pub false-is_in : (x : ℕ) (xs : List ℕ) → is_in xs x ≡ false → IsIn x xs → ⊥
false-is_in x xs fails is = both_ways (is_in xs x) fails (is_in-true x xs is)

pub is_in-false : (x : ℕ) (xs : List ℕ) → (IsIn x xs → ⊥) → is_in xs x ≡ false
is_in-false x xs out = grind (arith, nat_tests, cases_Bool, true-is_in)

-- numbers at places
pub IsIn-get : (xs : List ℕ) (at : ℕ) → at < length xs → IsIn (get_or xs at 0) xs
IsIn-get [] at below = absurd (omega (arith, below))
IsIn-get (x ∷ xs) zero below = inl refl
IsIn-get (x ∷ xs) (suc at) below = inr (IsIn-get xs at (omega (arith, below)))

pub get-IsIn : (x : ℕ) (xs : List ℕ) → IsIn x xs → (at : ℕ) × (at < length xs) × (get_or xs at 0 ≡ x)
get-IsIn x [] is = absurd is
get-IsIn x (y ∷ ys) (inl same) = (0, omega arith, sym same)
get-IsIn x (y ∷ ys) (inr later) = let found = get-IsIn x ys later in (suc found.0, omega (arith, found.1), found.2)

-- none stands before its place
pub apart-before : (xs : List ℕ) (at : ℕ) → AreDistinct xs → at < length xs → IsIn (get_or xs at 0) (take at xs) → ⊥
apart-before [] at distinct below is = absurd (omega (arith, below))
apart-before (x ∷ xs) zero distinct below is = is
apart-before (x ∷ xs) (suc at) distinct below (inl same) = grind (arith, nat_tests, IsIn-same, IsIn-get)
apart-before (x ∷ xs) (suc at) distinct below (inr later) = apart-before xs at distinct.1 (omega (arith, below)) later

-- the place of the number at a place
pub position-get : (xs : List ℕ) (at : ℕ) → AreDistinct xs → at < length xs → position_or_len (nat_eq (get_or xs at 0)) xs ≡ at
position-get [] at distinct below = absurd (omega (arith, below))
position-get (x ∷ xs) zero distinct below = grind (arith, nat_tests, eq-eqb)
position-get (x ∷ xs) (suc at) distinct below =
    grind (arith, nat_tests, ne_eqb, IsIn-same, IsIn-get, position-get xs at distinct.1 (omega (arith, below)))
