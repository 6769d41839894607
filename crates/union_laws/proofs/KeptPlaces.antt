-- The crossings of a code that a test keeps, then the others: they are its crossings in another order.
--
-- The order is a list of places (`kept_order`): those that are kept, ascending, and then the others, ascending. So each place stands in it
-- once, and a search for a crossing finds the same one in either order, where all that it could find is of one side.
use Rattle.std.proofs.Common.{◌≡◌, ◌≢◌, ℕ, zero, suc, inl, inr, ◌⊎◌, ◌+◌, ◌-◌, ◌<◌, ◌∙◌, List, [], ◌∷◌, ◌++◌, length, get_or, map, refl, sym, subst, ap, ap₂, arith, Bool, true, false, cond, not}
use Rattle.std.specs.List.{filter, range_with_len}
use Rattle.std.proofs.lemmas.Bool.{cases_eq, cases_lt}
use Rattle.std.proofs.lemmas.List.{get_or-append-add, get_or-map, get_or_append_left, length-append, length-map, map-append}
use Rattle.std.proofs.lemmas.List.Filters.{length-filter_both}
use Rattle.std.proofs.lemmas.List.FromFn.{length-range_with_len}
use Rattle.code_passes.specs.Parts.{slots_in}
use Rattle.orient_arcs.proofs.FirstArcs.{Passes-filter, ascending-filter}
use Rattle.order_laws.specs.Orders.{IsReordered}
use Rattle.order_laws.proofs.Reordered.{reordered-map}
use Rattle.union_laws.specs.Pieces.{kept_first, kept_places}

-- one element more, which is put between two others
reordered-inserted : {A : Type 0} (x : A) (xs front back : List A) → IsReordered xs (front ++ back)
    → IsReordered (x ∷ xs) (front ++ (x ∷ back))
reordered-inserted x xs [] back order = ([], xs, refl, order)
reordered-inserted {A} x xs (y ∷ front) back (before, after, is, order) = (
  x ∷ before,
  after,
  ap (λ (zs : List A). x ∷ zs) is,
  reordered-inserted x (before ++ after) front back order,
)

-- what of a list passes a test, then the rest, is the list in another order
pub reordered-parted : {A : Type 0} (p : A → Bool) (xs : List A) → IsReordered xs (filter p xs ++ filter (λ x. not (p x)) xs)
reordered-parted p [] = refl
reordered-parted {A} p (x ∷ xs) = step (p x) (reordered-parted p xs)
  where
    step : (b : Bool) → IsReordered xs (filter p xs ++ filter (λ y. not (p y)) xs)
        → IsReordered (x ∷ xs)
        (cond b (x ∷ filter p xs) (filter p xs)
        ++ cond (not b) (x ∷ filter (λ y. not (p y)) xs) (filter (λ y. not (p y)) xs))
    step true rest = ([], xs, refl, rest)
    step false rest = reordered-inserted x xs (filter p xs) (filter (λ y. not (p y)) xs) rest

-- what a function makes of a range that begins one later
map-range_later : {X : Type 0} (f : ℕ → X) (a n : ℕ) → map f (range_with_len (a + 1) n) ≡ map (λ k. f (suc k)) (range_with_len a n)
map-range_later f a zero = refl
map-range_later {X} f a (suc n) =
    let e : a + 1 ≡ suc a = omega arith in
    ap₂ (λ (x : X) (xs : List X). x ∷ xs) (ap f e) (map-range_later f (a + 1) n)

-- a list by its places
pub map-places : {X : Type 0} (xs : List X) (d : X) → map (λ k. get_or xs k d) (range_with_len 0 (length xs)) ≡ xs
map-places [] d = refl
map-places {X} (x ∷ xs) d =
    ap (λ (ys : List X). x ∷ ys) (map-range_later (λ k. get_or (x ∷ xs) k d) 0 (length xs) ∙ map-places xs d)

-- the places of all crossings, those first that are kept
abbrev pub kept_order : (ℕ → Bool) → List (List ℕ) → List ℕ
kept_order keep crossings = kept_places keep crossings ++ kept_places (λ place. not (keep place)) crossings

-- the place of the crossing that stands at a place of this order
abbrev pub place_in : (ℕ → Bool) → List (List ℕ) → ℕ → ℕ
place_in keep crossings k = get_or (kept_order keep crossings) k 0

module _ (keep : ℕ → Bool) (crossings : List (List ℕ)) where
  abbrev others : ℕ → Bool
  others place = not (keep place)

  pub kept_first-order : map (slots_in crossings) (kept_order keep crossings) ≡ kept_first keep crossings
  kept_first-order = map-append (slots_in crossings) (kept_places keep crossings) (kept_places others crossings)

  -- the crossings in this order
  pub reordered-kept : IsReordered crossings (kept_first keep crossings)
  reordered-kept =
      subst (λ (xs : List (List ℕ)). IsReordered xs (kept_first keep crossings)) (map-places crossings [])
      (subst (λ (ys : List (List ℕ)). IsReordered (map (slots_in crossings) (range_with_len 0 (length crossings))) ys) kept_first-order
      (reordered-map (slots_in crossings) (range_with_len 0 (length crossings)) (kept_order keep crossings)
      (reordered-parted keep (range_with_len 0 (length crossings)))))

  -- the order has each place once
  pub length-order : length (kept_order keep crossings) ≡ length crossings
  length-order =
      length-append (kept_places keep crossings) (kept_places others crossings)
      ∙ length-filter_both keep others (λ place. refl) (range_with_len 0 (length crossings))
      ∙ length-range_with_len 0 (length crossings)

  pub length-first : length (kept_first keep crossings) ≡ length crossings
  length-first =
      ap length (sym kept_first-order) ∙ length-map (kept_order keep crossings) (slots_in crossings) ∙ length-order

  -- what stands at a place of the order: a crossing that is kept, or one of the others
  pub slots-first : (k : ℕ) → k < length crossings → slots_in (kept_first keep crossings) k ≡ slots_in crossings (place_in keep crossings k)
  slots-first k below =
      ap (λ xs. get_or xs k []) (sym kept_first-order)
      ∙ get_or-map (slots_in crossings) (kept_order keep crossings) k 0 [] (omega (arith, below, length-order))

  pub place-front : (k : ℕ) → k < length (kept_places keep crossings) → place_in keep crossings k ≡ get_or (kept_places keep crossings) k 0
  place-front k below = get_or_append_left (kept_places keep crossings) (kept_places others crossings) 0 k below

  pub place-back : (k : ℕ)
      → place_in keep crossings (length (kept_places keep crossings) + k) ≡ get_or (kept_places others crossings) k 0
  place-back k = get_or-append-add (kept_places keep crossings) (kept_places others crossings) k 0

  -- a place of the order is one of the code, and tells by the test on which side it stands
  record IsPlaced (k : ℕ) (side : Bool) : Type 0 where
    below : place_in keep crossings k < length crossings
    side_is : keep (place_in keep crossings k) ≡ side

  placed-front : (k : ℕ) → k < length (kept_places keep crossings) → IsPlaced k true
  placed-front k within =
      let is = Passes-filter keep 0 (length crossings) k within in
      let e = place-front k within in
      record { below = omega (arith, e, is.below); side_is = ap keep e ∙ is.passes }

  placed-back : (k : ℕ) → k < length (kept_places others crossings) → IsPlaced (length (kept_places keep crossings) + k) false
  placed-back k within =
      let is = Passes-filter others 0 (length crossings) k within in
      let e = place-back k in
      record {
        below = omega (arith, e, is.below);
        side_is = ap keep e ∙ was_not (keep (get_or (kept_places others crossings) k 0)) is.passes;
      }
    where
      was_not : (b : Bool) → not b ≡ true → b ≡ false
      was_not true is = sym is
      was_not false is = refl

  -- where a place of the order stands
  side-of : (k : ℕ) → k < length crossings
      → ((k < length (kept_places keep crossings)) × IsPlaced k true)
      ⊎ ((m : ℕ) × (k ≡ length (kept_places keep crossings) + m) × (m < length (kept_places others crossings)) × IsPlaced k false)
  side-of k within =
      let n = length (kept_places keep crossings) in
      elim (cases_lt k n) [
        | inl front ↦ inl (front, placed-front k front)
        | inr back ↦
            let e : n + (k - n) ≡ k = omega (arith, back) in
            let inside : k - n < length (kept_places others crossings) =
            omega (arith, within, back, length-order, length-append (kept_places keep crossings) (kept_places others crossings)) in
            inr (k - n, sym e, inside, subst (λ (l : ℕ). IsPlaced l false) e (placed-back (k - n) inside))
      ]

  pub place-below : (k : ℕ) → k < length crossings → place_in keep crossings k < length crossings
  place-below k within = elim (side-of k within) [ inl front ↦ front.1.below | inr back ↦ back.3.below ]

  -- the places of one side ascend, and those of two sides differ
  places-apart : (k l : ℕ) → k < l → l < length crossings → place_in keep crossings k ≢ place_in keep crossings l
  places-apart k l before within same = elim (side-of k (omega (arith, before, within))) [
    | inl k_front ↦ elim (side-of l within) [
      | inl l_front ↦
          omega (
            arith,
            same,
            place-front k k_front.0,
            place-front l l_front.0,
            ascending-filter keep 0 (length crossings) k l before l_front.0,
          )
      | inr l_back ↦ sides (keep (place_in keep crossings k)) (keep (place_in keep crossings l)) k_front.1.side_is l_back.3.side_is
          (ap keep same)
    ]
    | inr k_back ↦ elim (side-of l within) [
      | inl l_front ↦ omega (arith, before, k_back.1, l_front.0)
      | inr l_back ↦
          let k_at : place_in keep crossings k ≡ get_or (kept_places others crossings) k_back.0 0 =
          ap (place_in keep crossings) k_back.1 ∙ place-back k_back.0 in
          let l_at : place_in keep crossings l ≡ get_or (kept_places others crossings) l_back.0 0 =
          ap (place_in keep crossings) l_back.1 ∙ place-back l_back.0 in
          omega (
            arith,
            same,
            k_at,
            l_at,
            ascending-filter others 0 (length crossings) k_back.0 l_back.0 (omega (arith, before, k_back.1, l_back.1)) l_back.2,
          )
    ]
  ]
    where
      sides : (b c : Bool) → b ≡ true → c ≡ false → b ≡ c → ⊥
      sides b c is fails same = absurd (cc)

  -- so no place stands twice
  pub place-once : (k l : ℕ) → k < length crossings → l < length crossings → place_in keep crossings k ≡ place_in keep crossings l → k ≡ l
  place-once k l k_within l_within same = elim (cases_lt k l) [
    | inl before ↦ absurd (places-apart k l before l_within same)
    | inr not_before ↦ elim (cases_eq k l) [
      | inl one ↦ one
      | inr differ ↦ absurd (places-apart l k (omega (arith, not_before, differ)) k_within (sym same))
    ]
  ]
