-- Products of numbers that are 0 or 1 but for one, and the weights of cylinders and of pairs of pants.
use Rattle.std.proofs.Common.{◌≡◌, ◌≢◌, ℕ, inl, inr, ◌⊎◌, ◌+◌, ◌-◌, ◌*◌, ◌/◌, ◌%◌, ◌^◌, ◌<◌, ◌∙◌, List, [], ◌∷◌, refl, sym, ap, ap₂, arith, Bool, true, false, cond, ◌&&◌, ◌||◌}
use Rattle.std.specs.Prelude.{nat_eq}
use Rattle.std.specs.List.{list_all, Contains}
use Rattle.std.proofs.lemmas.Bool.{cases_Bool, cases_eq, eq-eqb, ne_eqb, and_parts, or_parts}
use Rattle.std.specs.Str.{bytes_eq}
use Rattle.std.proofs.Math.Nat.{pow-succ', pow-zero}
use Rattle.kh_types.specs.Bits.{one_if}
use Rattle.kh_types.specs.Differential.{is_merge, is_split}
use Rattle.kh_types.proofs.Lists.{Contains-later, Contains-cases}
use Rattle.surface_laws.specs.Surfaces.{weight, product_below}
use Rattle.surface_laws.proofs.Products.{product_below-ones, product_below-without, without}
use Rattle.added_crossing_laws.specs.Saddles.{changed}
use Rattle.surface_laws.proofs.Tables.{two_labels, three_labels}

all-true : (p : ℕ → Bool) (xs : List ℕ) (x : ℕ) → list_all p xs ≡ true → Contains xs x → p x ≡ true
all-true p [] x all (i, below, is) = absurd (omega (arith, below))
all-true p (y ∷ ys) x all has =
    let parts = and_parts (p y) (list_all p ys) all in
    elim (Contains-cases y x ys has) [ inl is ↦ ap p (sym is) ∙ parts.0 | inr later ↦ all-true p ys x parts.1 later ]

-- one of them fails
record Fails (p : ℕ → Bool) (xs : List ℕ) : Type 0 where
  at : ℕ
  has : Contains xs at
  fails : p at ≡ false

all-false : (p : ℕ → Bool) (xs : List ℕ) → list_all p xs ≡ false → Fails p xs
all-false p [] all = absurd (cc)
all-false p (y ∷ ys) all = elim (cases_Bool (p y)) [
  | inr fails ↦ record { at = y; has = (0, omega arith, refl); fails = fails }
  | inl passes ↦
      let later = all-false p ys (ap (λ b. b && list_all p ys) (sym passes) ∙ all) in
      record { at = later.at; has = Contains-later y later.at ys later.has; fails = later.fails }
]

product-zero : (n k : ℕ) (f : ℕ → ℕ) → k < n → f k ≡ 0 → product_below n f ≡ 0
product-zero n k f below none =
    product_below-without n k f below ∙ ap (λ x. x * product_below n (without k f)) none ∙ omega arith

-- the numbers that count are those of some names, and one of them is that of a change; at the others labels agree or not. They are the
-- names of a list that are not touched
pub record IsEdgeProduct (n : ℕ) (f : ℕ → ℕ) (names circles : List ℕ) (touched agree : ℕ → Bool) (number kept : ℕ) : Type 0 where
  pub cases : (k : ℕ) → Contains names k ⊎ (f k ≡ 1)
  pub other : (k : ℕ) → Contains names k → k ≢ kept → f k ≡ cond (agree k) 1 0
  pub at_kept : f kept ≡ number
  pub kept_below : kept < n
  pub below : (k : ℕ) → Contains names k → k < n
  pub forward : (k : ℕ) → Contains names k → k ≢ kept → Contains circles k
  pub untouched : (k : ℕ) → Contains names k → k ≢ kept → touched k ≡ false
  pub back : (k : ℕ) → Contains circles k → touched k ≡ false → Contains names k
  pub not_kept : (k : ℕ) → Contains circles k → touched k ≡ false → k ≢ kept

either_true : (a b : Bool) → a ≡ false → (a || b) ≡ true → b ≡ true
either_true true b fails either = absurd (cc)
either_true false b fails either = either

pub value-edge : (n : ℕ) (f : ℕ → ℕ) (names circles : List ℕ) (touched agree : ℕ → Bool) (number kept : ℕ)
    → IsEdgeProduct n f names circles touched agree number kept
    → product_below n f ≡ cond (list_all (λ c. touched c || agree c) circles) number 0
value-edge n f names circles touched agree number kept is =
    let keeps = list_all (λ c. touched c || agree c) circles in
    elim (cases_Bool keeps) [
      | inr breaks ↦
          let found = all-false (λ c. touched c || agree c) circles breaks in
          let parts = or_parts (touched found.at) (agree found.at) found.fails in
          let name = is.back found.at found.has parts.0 in
          product-zero n found.at f (is.below found.at name)
          (is.other found.at name (is.not_kept found.at found.has parts.0) ∙ ap one_if parts.1)
          ∙ sym (ap (λ b. cond b number 0) breaks)
      | inl keeps_all ↦
          product_below-without n kept f is.kept_below
          ∙ ap₂ (λ x y. x * y) is.at_kept
          (product_below-ones n (without kept f)
          (λ k below. elim (cases_eq k kept) [
            | inl same ↦ ap (λ b. cond b 1 (f k)) (eq-eqb k kept same)
            | inr other ↦ ap (λ b. cond b 1 (f k)) (ne_eqb k kept other) ∙ elim (is.cases k) [
              | inr one ↦ one
              | inl name ↦
                  is.other k name other
                  ∙ ap one_if
                  (either_true (touched k) (agree k) (is.untouched k name other)
                  (all-true (λ c. touched c || agree c) circles k keeps_all (is.forward k name other)))
            ]
          ]))
          ∙ times_one number ∙ sym (ap (λ b. cond b number 0) keeps_all)
    ]
  where
    times_one : (x : ℕ) → x * 1 ≡ x
    times_one x = omega arith

-- weights of spheres with two or three faces

pub cylinder-weight : (h minus x y : ℕ) → x < 2 → y < 2
    → weight h minus 0 (x % 2 + 2 * (1 - y) % 2) (x / 2 + 2 * (1 - y) / 2) ≡ cond (nat_eq x y) 1 0
cylinder-weight h minus =
    two_labels (λ x y. weight h minus 0 (x % 2 + 2 * (1 - y) % 2) (x / 2 + 2 * (1 - y) / 2) ≡ cond (nat_eq x y) 1 0) (pow-zero minus)
    refl refl (pow-zero h)

pow-one : (n : ℕ) → n ^ 1 ≡ n
pow-one n = pow-succ' n 0 ∙ ap (λ x. n * x) (pow-zero n) ∙ times_one n
  where
    times_one : (x : ℕ) → x * 1 ≡ x
    times_one x = omega arith

pub merge-weight : (h minus x y z : ℕ) → x < 2 → y < 2 → z < 2
    → weight h minus 0 ((x % 2 + y % 2) + 2 * (1 - z) % 2) ((x / 2 + y / 2) + 2 * (1 - z) / 2)
    ≡ changed h minus (x ∷ y ∷ []) (z ∷ [])
merge-weight h minus =
    three_labels
    (λ x y z. weight h minus 0 ((x % 2 + y % 2) + 2 * (1 - z) % 2) ((x / 2 + y / 2) + 2 * (1 - z) / 2)
    ≡ changed h minus (x ∷ y ∷ []) (z ∷ []))
    (pow-zero minus) refl refl (pow-zero h) refl (pow-zero h) refl (pow-one h)

pub split-weight : (h minus x y z : ℕ) → x < 2 → y < 2 → z < 2
    → weight h minus 0 ((2 * (1 - y) % 2 + 2 * (1 - z) % 2) + x % 2) ((2 * (1 - y) / 2 + 2 * (1 - z) / 2) + x / 2)
    ≡ changed h minus (x ∷ []) (y ∷ z ∷ [])
split-weight h minus =
    three_labels
    (λ x y z. weight h minus 0 ((2 * (1 - y) % 2 + 2 * (1 - z) % 2) + x % 2) ((2 * (1 - y) / 2 + 2 * (1 - z) / 2) + x / 2)
    ≡ changed h minus (x ∷ []) (y ∷ z ∷ []))
    (pow-one minus) (pow-zero minus) (pow-zero minus) refl refl refl refl (pow-zero h)

-- where h and minus are 0

abbrev rows : Bool → Bool → Bool → ℕ
rows a b d = cond a 1 (cond b 0 (cond d 0 0))

pub edge-plain : (keeps : Bool) (labels others : List ℕ)
    → cond keeps (changed 0 0 labels others) 0 ≡ cond (keeps && (is_merge labels others || is_split labels others)) 1 0
edge-plain false labels others = refl
edge-plain true labels others =
    none (is_merge labels others || is_split labels others) (bytes_eq labels (1 ∷ 1 ∷ []) && bytes_eq others (1 ∷ []))
    (bytes_eq labels (0 ∷ []) && bytes_eq others (0 ∷ 0 ∷ []))
  where
    none : (a b d : Bool) → rows a b d ≡ one_if a
    none true b d = refl
    none false true d = refl
    none false false true = refl
    none false false false = refl
