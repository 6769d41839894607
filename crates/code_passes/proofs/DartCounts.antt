-- How often an arc stands in a code, crossing by crossing.
use Rattle.std.proofs.lemmas.Bool.Decides.{nat_tests}
use Rattle.std.proofs.Common.{◌≡◌, ℕ, zero, suc, ◌+◌, ◌*◌, ◌<◌, ◌∙◌, List, [], ◌∷◌, length, refl, ap, arith}
use Rattle.std.specs.Prelude.{nat_eq, slice_index_or}
use Rattle.std.specs.List.{sum_by, range_with_len}
use Rattle.std.proofs.lemmas.List.Sums.{sum_by-cons}
use Rattle.kh_types.specs.Code.{arc_in}
use Rattle.kh_types.specs.Darts.{dart_at, arc_of, times}
use Rattle.kh_types.proofs.Lists.{count_by-map}
use Rattle.code_passes.proofs.Sums.{value_if}
use Rattle.kh_types.proofs.ListSums.{sum_by-range_alike}

-- a sum over four times as many numbers, by fours
abbrev four : (ℕ → ℕ) → ℕ → ℕ
four f place = f (4 * place) + f (4 * place + 1) + f (4 * place + 2) + f (4 * place + 3)

sum-fours : (f : ℕ → ℕ) (a n : ℕ) → sum_by f (range_with_len (4 * a) (4 * n)) ≡ sum_by (four f) (range_with_len a n)
sum-fours f a zero = refl
sum-fours f a (suc n) =
    let e : 4 * suc n ≡ suc (suc (suc (suc (4 * n)))) = omega arith in
    let b : 4 * a + 1 + 1 + 1 + 1 ≡ 4 * (a + 1) = omega arith in
    let two : f (4 * a + 1 + 1) ≡ f (4 * a + 2) = let g : 4 * a + 1 + 1 ≡ 4 * a + 2 = omega arith in ap f g in
    let three : f (4 * a + 1 + 1 + 1) ≡ f (4 * a + 3) = let g : 4 * a + 1 + 1 + 1 ≡ 4 * a + 3 = omega arith in ap f g in
    let last = range_with_len (4 * a + 1 + 1 + 1 + 1) (4 * n) in
    let rest : sum_by f last ≡ sum_by (four f) (range_with_len (a + 1) n) =
    ap (λ x. sum_by f (range_with_len x (4 * n))) b ∙ sum-fours f (a + 1) n in
    let cut = sum_by-cons (four f) a (range_with_len (a + 1) n) in
    ap (λ k. sum_by f (range_with_len (4 * a) k)) e
    ∙ omega (
      arith,
      two,
      three,
      rest,
      cut,
      sum_by-cons f (4 * a) ((4 * a + 1) ∷ (4 * a + 1 + 1) ∷ (4 * a + 1 + 1 + 1) ∷ last),
      sum_by-cons f (4 * a + 1) ((4 * a + 1 + 1) ∷ (4 * a + 1 + 1 + 1) ∷ last),
      sum_by-cons f (4 * a + 1 + 1) ((4 * a + 1 + 1 + 1) ∷ last),
      sum_by-cons f (4 * a + 1 + 1 + 1) last,
    )

-- how often an arc stands in four slots
abbrev pub times_in : List ℕ → ℕ → ℕ
times_in slots arc =
    value_if 1 (nat_eq (arc_in slots 0) arc) + value_if 1 (nat_eq (arc_in slots 1) arc) + value_if 1 (nat_eq (arc_in slots 2) arc)
    + value_if 1 (nat_eq (arc_in slots 3) arc)

-- whether the dart at a place is of an arc, as 1 or 0
abbrev on_arc : List (List ℕ) → ℕ → ℕ → ℕ
on_arc crossings arc place = value_if 1 (nat_eq (arc_of crossings (dart_at place)) arc)

on_arc-at : (crossings : List (List ℕ)) (arc place slot : ℕ) → slot < 4
    → on_arc crossings arc (4 * place + slot) ≡ value_if 1 (nat_eq (arc_in (slice_index_or crossings place []) slot) arc)
on_arc-at crossings arc place slot below = grind (arith, nat_tests)

pub times-crossings : (crossings : List (List ℕ)) (arc : ℕ)
    → times crossings arc ≡ sum_by (λ place. times_in (slice_index_or crossings place []) arc) (range_with_len 0 (length crossings))
times-crossings crossings arc =
    let n = length crossings in
    count_by-map (λ dart. nat_eq (arc_of crossings dart) arc) dart_at (range_with_len 0 (4 * n))
    ∙ sum-fours (on_arc crossings arc) 0 n
    ∙ sum_by-range_alike (four (on_arc crossings arc)) (λ place. times_in (slice_index_or crossings place []) arc) 0 n
    (λ place from below.
    let first : on_arc crossings arc (4 * place) ≡ on_arc crossings arc (4 * place + 0) =
    let e : 4 * place ≡ 4 * place + 0 = omega arith in ap (on_arc crossings arc) e in
    omega (
      arith,
      first,
      on_arc-at crossings arc place 0 (omega arith),
      on_arc-at crossings arc place 1 (omega arith),
      on_arc-at crossings arc place 2 (omega arith),
      on_arc-at crossings arc place 3 (omega arith),
    ))
