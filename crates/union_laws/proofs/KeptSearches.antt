-- A search for a crossing, where the crossings that are kept stand first.
--
-- A search over all places finds nothing among those that are dropped, where all that passes is kept, and the same among those that are
-- kept (`find-parted`). So it finds the same in the new order, where it stands at another place (`find-ordered`).
use Rattle.std.proofs.Common.{◌≡◌, ℕ, zero, suc, inl, inr, ◌+◌, ◌<◌, ◌≤◌, ◌∙◌, List, ◌∷◌, ◌++◌, length, map, refl, sym, ap, ap₂, arith, Bool, true, false, cond, not, Option, Some, None}
use Rattle.std.specs.List.{filter, find, range_with_len}
use Rattle.std.specs.Option.{option_map, option_or}
use Rattle.std.proofs.lemmas.Bool.{cases_Bool}
use Rattle.std.proofs.lemmas.List.{map-id}
use Rattle.std.proofs.lemmas.List.Folds.{find-append}
use Rattle.kh_types.proofs.Ranges.{find-map}
use Rattle.link_algebra.proofs.PartLemmas.{map-numbered}
use Rattle.union_laws.proofs.KeptPlaces.{kept_order, length-order, map-places, place_in}

-- numbers from 1 are places, each more by 1
pub range-later : (a n : ℕ) → range_with_len (a + 1) n ≡ map (λ k. k + 1) (range_with_len a n)
range-later a n = sym (map-numbered (λ k. k) a n ∙ map-id (range_with_len (a + 1) n))

-- a search by numbers from 1 is one by places
pub find-numbers : (p : ℕ → Bool) (n : ℕ)
    → find p (range_with_len 1 n) ≡ option_map (λ k. k + 1) (find (λ k. p (k + 1)) (range_with_len 0 n))
find-numbers p n = ap (find p) (range-later 0 n) ∙ find-map p (λ k. k + 1) (range_with_len 0 n)

-- where all that passes a search is kept, it finds the same among what is kept
find-kept : (keep q : ℕ → Bool) (a n : ℕ) → ((k : ℕ) → a ≤ k → k < a + n → q k ≡ true → keep k ≡ true)
    → find q (filter keep (range_with_len a n)) ≡ find q (range_with_len a n)
find-kept keep q a zero all = refl
find-kept keep q a (suc n) all =
    step (keep a) (all a (omega arith) (omega arith))
    (find-kept keep q (a + 1) n (λ k from below. all k (omega arith) (omega arith)))
  where
    step : (b : Bool) → (q a ≡ true → b ≡ true)
        → find q (filter keep (range_with_len (a + 1) n)) ≡ find q (range_with_len (a + 1) n)
        → find q (cond b (a ∷ filter keep (range_with_len (a + 1) n)) (filter keep (range_with_len (a + 1) n)))
        ≡ cond (q a) (Some a) (find q (range_with_len (a + 1) n))
    step true kept rest = ap (λ o. cond (q a) (Some a) o) rest
    step false kept rest = elim (cases_Bool (q a)) [
      | inl passes ↦ absurd (differ (kept passes))
      | inr fails ↦ rest ∙ ap (λ b. cond b (Some a) (find q (range_with_len (a + 1) n))) (sym fails)
    ]
      where
        differ : false ≡ true → ⊥
        differ same = cc

-- and nothing where all that passes is dropped
find-dropped : (keep q : ℕ → Bool) (a n : ℕ) → ((k : ℕ) → a ≤ k → k < a + n → q k ≡ true → keep k ≡ false)
    → find q (filter keep (range_with_len a n)) ≡ None
find-dropped keep q a zero none = refl
find-dropped keep q a (suc n) none =
    step (keep a) (none a (omega arith) (omega arith))
    (find-dropped keep q (a + 1) n (λ k from below. none k (omega arith) (omega arith)))
  where
    step : (b : Bool) → (q a ≡ true → b ≡ false) → find q (filter keep (range_with_len (a + 1) n)) ≡ None
        → find q (cond b (a ∷ filter keep (range_with_len (a + 1) n)) (filter keep (range_with_len (a + 1) n))) ≡ None
    step false dropped rest = rest
    step true dropped rest = elim (cases_Bool (q a)) [
      | inl passes ↦ absurd (differ (dropped passes))
      | inr fails ↦ ap (λ b. cond b (Some a) (find q (filter keep (range_with_len (a + 1) n)))) fails ∙ rest
    ]
      where
        differ : true ≡ false → ⊥
        differ same = cc

-- the search over what is kept, then what is not
find-parted : (keep q : ℕ → Bool) (n : ℕ) (side : Bool) → ((k : ℕ) → k < n → q k ≡ true → keep k ≡ side)
    → find q (filter keep (range_with_len 0 n) ++ filter (λ k. not (keep k)) (range_with_len 0 n)) ≡ find q (range_with_len 0 n)
find-parted keep q n true all =
    find-append q (filter keep (range_with_len 0 n)) (filter (λ k. not (keep k)) (range_with_len 0 n))
    ∙ ap₂ option_or (find-kept keep q 0 n (λ k from below. all k (omega (arith, below))))
    (find-dropped (λ k. not (keep k)) q 0 n (λ k from below passes. ap not (all k (omega (arith, below)) passes)))
    ∙ alone (find q (range_with_len 0 n))
  where
    alone : (o : Option ℕ) → option_or o None ≡ o
    alone None = refl
    alone (Some x) = refl
find-parted keep q n false all =
    find-append q (filter keep (range_with_len 0 n)) (filter (λ k. not (keep k)) (range_with_len 0 n))
    ∙ ap₂ option_or (find-dropped keep q 0 n (λ k from below. all k (omega (arith, below))))
    (find-kept (λ k. not (keep k)) q 0 n (λ k from below passes. ap not (all k (omega (arith, below)) passes)))

-- so it finds the same crossing where those that are kept stand first
pub find-ordered : (keep : ℕ → Bool) (crossings : List (List ℕ)) (q : ℕ → Bool) (side : Bool)
    → ((k : ℕ) → k < length crossings → q k ≡ true → keep k ≡ side)
    → find q (range_with_len 0 (length crossings))
    ≡ option_map (place_in keep crossings) (find (λ k. q (place_in keep crossings k)) (range_with_len 0 (length crossings)))
find-ordered keep crossings q side all =
    let order = kept_order keep crossings in
    let place = place_in keep crossings in
    sym (find-parted keep q (length crossings) side all)
    ∙ ap (find q) (sym (map-places order 0))
    ∙ find-map q place (range_with_len 0 (length order))
    ∙ ap (λ (n : ℕ). option_map place (find (λ k. q (place k)) (range_with_len 0 n))) (length-order keep crossings)
