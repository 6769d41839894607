-- Crossings listed one after another.
use Rattle.std.proofs.Common.{◌≡◌, ℕ, zero, suc, ◌+◌, ◌-◌, ◌<◌, ◌∙◌, List, [], ◌∷◌, ◌++◌, length, map, take, get_or, refl, sym, ap, arith}
use Rattle.std.specs.List.{range_with_len}
use Rattle.std.proofs.lemmas.List.{append_assoc, map_more}
use Rattle.kh_types.specs.Code.{crossing_numbers, slots_of}
use Rattle.kh_types.specs.Directions.{is_positive, positive_at}
use Rattle.link_algebra.specs.Unions.{raised_slots}

pub union_more : (first second : List (List ℕ)) (by k crossing : ℕ) → k < length second → crossing ≡ k + 1
    → first ++ map (raised_slots by) (take (k + 1) second)
    ≡ (first ++ map (raised_slots by) (take k second)) ++ raised_slots by (slots_of second crossing) ∷ []
union_more first second by k crossing within is =
    ap (λ xs. first ++ xs) (map_more (raised_slots by) second k [] within)
    ∙ sym (append_assoc first (map (raised_slots by) (take k second)) (raised_slots by (get_or second k []) ∷ []))
    ∙ ap (λ m. (first ++ map (raised_slots by) (take k second)) ++ raised_slots by (get_or second m []) ∷ [])
    (let e : k ≡ crossing - 1 = omega (arith, is) in e)

pub map-numbered : {X : Type 0} (f : ℕ → X) (a n : ℕ) → map (λ k. f (k + 1)) (range_with_len a n) ≡ map f (range_with_len (a + 1) n)
map-numbered f a zero = refl
map-numbered f a (suc n) = ap (λ xs. f (a + 1) ∷ xs) (map-numbered f (a + 1) n)

-- the signs by place are those by number
pub signs_listed : (crossings : List (List ℕ)) → map (positive_at crossings) (range_with_len 0 (length crossings))
    ≡ map (is_positive crossings) (crossing_numbers crossings)
signs_listed crossings = map-numbered (is_positive crossings) 0 (length crossings)
