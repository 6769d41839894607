-- Lists of entries that are put together.
use Rattle.std.proofs.Common.{◌≡◌, ◌≢◌, ℕ, zero, suc, ◌+◌, ◌<◌, ◌≤◌, ◌∙◌, inl, inr, List, [], ◌∷◌, ◌++◌, length, get_or, map, refl, sym, ap, subst, arith}
use Rattle.std.specs.Prelude.{slice_index}
use Rattle.std.specs.List.{All, Contains, flat_map, range_with_len}
use Rattle.std.specs.List.Sorted.{IsStrictlyIncreasing}
use Rattle.std.proofs.lemmas.Bool.{cases_eq}
use Rattle.std.proofs.lemmas.List.{get_or_default, map-append}
use Rattle.std.proofs.lemmas.List.Elements.{All-append, All-head, All-nil, All-tail}
use Rattle.std.proofs.lemmas.Map.Made.{Contains-tail}
use Rattle.kh_types.proofs.Lists.{Contains-flat_map, Contains-range, Contains-later, Contains-first}
use Rattle.sparse_block.specs.Entries.{Entry, value_at}
use Rattle.sparse_block.proofs.AscendingLemmas.{Ascend, ascend-earlier, increasing-tail}
use Rattle.sparse_block.proofs.EntryLemmas.{value_at-here, value_at-later}

-- a column at a place: the entries there have one value, and there is an entry where this is not 0
pub value_at-is : (entries : List Entry) (place value : ℕ) → All (λ (e : Entry). e.place ≡ place → e.value ≡ value) entries
    → (value ≢ 0 → Contains (map (λ (e : Entry). e.place) entries) place) → value_at entries place ≡ value
value_at-is [] place value are has = elim (cases_eq value 0) [
  | inl none ↦ sym none
  | inr some ↦ let found = has some in absurd (omega (arith, found.1))
]
value_at-is (e ∷ es) place value are has = elim (cases_eq e.place place) [
  | inl here ↦
      value_at-here e es place here ∙ All-head (λ (e : Entry). e.place ≡ place → e.value ≡ value) e es are here
  | inr later ↦
      value_at-later e es place later
      ∙ value_at-is es place value (All-tail (λ (e : Entry). e.place ≡ place → e.value ≡ value) e es are)
      (λ some. Contains-tail e.place (map (λ (e : Entry). e.place) es) place later (has some))
]

-- what holds of all that is made of the numbers of a range
pub All-flat_map-range : {X : Type 0} (P : X → Type 0) (f : ℕ → List X) (a n : ℕ)
    → ((k : ℕ) → a ≤ k → k < a + n → All P (f k)) → All P (flat_map f (range_with_len a n))
All-flat_map-range P f a zero each = All-nil P
All-flat_map-range P f a (suc n) each =
    All-append P (f a) (flat_map f (range_with_len (a + 1) n)) (each a (omega arith) (omega arith))
    (All-flat_map-range P f (a + 1) n (λ k from below. each k (omega arith) (omega arith)))

pub All-elements : {X : Type 0} (P : X → Type 0) (xs : List X) → ((x : X) → Contains xs x → P x) → All P xs
All-elements P xs each k d below =
    each (get_or xs k d) (k, below, get_or_default xs k (get_or xs k d) d below)

increasing-first : (x : ℕ) (xs : List ℕ) → IsStrictlyIncreasing (x ∷ xs) → (k : ℕ) → k < length xs → x < slice_index xs k
increasing-first x [] ascending k below = absurd (omega (arith, below))
increasing-first x (y ∷ ys) ascending zero below = let next : x < y = ascending 0 (omega arith) in next
increasing-first x (y ∷ ys) ascending (suc k) below =
    let next : x < y = ascending 0 (omega arith) in
    omega (arith, next, increasing-first y ys (increasing-tail x (y ∷ ys) ascending) k (omega (arith, below)))

increasing-contains : (x y : ℕ) (xs : List ℕ) → IsStrictlyIncreasing (x ∷ xs) → Contains xs y → x < y
increasing-contains x y xs ascending (k, below, is) =
    omega (arith, increasing-first x xs ascending k below, get_or_default xs k 0 y below, is)

-- entries made of numbers that ascend
pub ascend-map : (p b a : ℕ) (f : ℕ → Entry) (xs : List ℕ) → IsStrictlyIncreasing xs
    → ((x : ℕ) → Contains xs x → ((f x).place < b) × (0 < (f x).value) × ((f x).value < p))
    → ((x y : ℕ) → Contains xs x → Contains xs y → x < y → (f x).place < (f y).place)
    → ((x : ℕ) → Contains xs x → a ≤ (f x).place) → Ascend p a b (map f xs)
ascend-map p b a f [] ascending each order from = tt
ascend-map p b a f (x ∷ xs) ascending each order from =
    let first = Contains-first x xs in
    let here = each x first in (
      from x first,
      here.0,
      here.1,
      here.2,
      ascend-map p b ((f x).place + 1) f xs (increasing-tail x xs ascending) (λ y has. each y (Contains-later x y xs has))
          (λ y z has_y has_z less. order y z (Contains-later x y xs has_y) (Contains-later x z xs has_z) less)
          (λ y has. omega (arith, order x y first (Contains-later x y xs has) (increasing-contains x y xs ascending has))),
    )

pub ascend-append : (p a b c : ℕ) (xs ys : List Entry) → Ascend p a b xs → Ascend p b c ys → a ≤ b → b ≤ c → Ascend p a c (xs ++ ys)
ascend-append p a b c [] ys first second before within = ascend-earlier p a b c ys before second
ascend-append p a b c (e ∷ es) ys first second before within = (
  first.0,
  omega (arith, first.1),
  first.2,
  first.3,
  ascend-append p (e.place + 1) b c es ys first.4 second (omega (arith, first.1)) within,
)

-- what is among the images of one of the lists is among those of all
map-flat_map : {X : Type 0} (g : X → ℕ) (f : ℕ → List X) (ks : List ℕ) → map g (flat_map f ks) ≡ flat_map (λ k. map g (f k)) ks
map-flat_map g f [] = refl
map-flat_map g f (k ∷ ks) = map-append g (f k) (flat_map f ks) ∙ ap (λ ys. map g (f k) ++ ys) (map-flat_map g f ks)

pub Contains-images : {X : Type 0} (g : X → ℕ) (f : ℕ → List X) (n k y : ℕ) → k < n → Contains (map g (f k)) y
    → Contains (map g (flat_map f (range_with_len 0 n))) y
Contains-images g f n k y below has =
    subst (λ (ys : List ℕ). Contains ys y) (sym (map-flat_map g f (range_with_len 0 n)))
    (Contains-flat_map (λ k. map g (f k)) (range_with_len 0 n) k y (Contains-range n k below) has)
