-- The smoothings of crossings by darts, which are numbered without regard to arcs.
use Rattle.std.proofs.lemmas.Bool.Decides.{nat_tests}
use Rattle.std.proofs.Common.{◌≡◌, ℕ, zero, suc, ◌+◌, ◌*◌, ◌/◌, ◌%◌, ◌<◌, ◌≤◌, ◌∙◌, List, [], ◌∷◌, ◌++◌, sym, refl, length, ap, ap₂, arith}
use Rattle.std.specs.Prelude.{slice_index_or}
use Rattle.std.specs.List.{flat_map, range_with_len}
use Rattle.std.proofs.lemmas.List.{map-append}
use Rattle.kh_types.specs.Code.{arc_in}
use Rattle.kh_types.specs.Classes.{AreBelow}
use Rattle.kh_types.specs.Components.{passes_of}
use Rattle.kh_types.proofs.ClassLemmas.{AreBelow-append}
use Rattle.gluing_laws.specs.Arcs.{arc_by_place}
use Rattle.gluing_laws.specs.Codes.{arc_of_dart}
use Rattle.gluing_laws.specs.Glue.{renamed}

-- the darts of the crossing at a place of the list, by their slots
abbrev pub darts_of : ℕ → List ℕ
darts_of place = 4 * place ∷ (4 * place + 1) ∷ (4 * place + 2) ∷ (4 * place + 3) ∷ []

-- smoothings, on any four names

-- the smoothings of a code are those of its darts, each dart standing for its arc

abbrev at_dart : (ℕ → ℕ → ℕ) → ℕ → ℕ
at_dart arc dart = arc (dart / 4) (dart % 4)

-- the same of passes

abbrev pub dart_passes : ℕ → List (ℕ × ℕ)
dart_passes count = flat_map (λ place. passes_of (darts_of place)) (range_with_len 0 count)

pair-darts : (arc : ℕ → ℕ → ℕ) (place : ℕ) (quadruple : List ℕ)
    → ((slot : ℕ) → slot < 4 → arc_in quadruple slot ≡ arc place slot)
    → passes_of quadruple ≡ renamed (at_dart arc) (passes_of (darts_of place))
pair-darts arc place quadruple same = grind (arith, nat_tests)

passes-from : (arc : ℕ → ℕ → ℕ) (at : ℕ) (xs : List (List ℕ))
    → ((k slot : ℕ) → k < length xs → slot < 4 → arc_in (slice_index_or xs k []) slot ≡ arc (at + k) slot)
    → flat_map passes_of xs
    ≡ renamed (at_dart arc) (flat_map (λ place. passes_of (darts_of place)) (range_with_len at (length xs)))
passes-from arc at [] same = refl
passes-from arc at (x ∷ xs) same =
    let here : at + 0 ≡ at = omega arith in
    let more = flat_map (λ place. passes_of (darts_of place)) (range_with_len (at + 1) (length xs)) in
    ap₂ (λ ps qs. ps ++ qs)
    (pair-darts arc at x (λ slot below. same 0 slot (omega arith) below ∙ ap (λ k. arc k slot) here))
    (passes-from arc (at + 1) xs (λ k slot below slot_below.
    let next : at + suc k ≡ at + 1 + k = omega arith in
    same (suc k) slot (omega (arith, below)) slot_below ∙ ap (λ j. arc j slot) next))
    ∙ sym (map-append (λ pair. (at_dart arc pair.0, at_dart arc pair.1)) (passes_of (darts_of at)) more)

pub passes_of-darts : (crossings : List (List ℕ)) → flat_map passes_of crossings ≡ renamed (arc_of_dart crossings) (dart_passes (length crossings))
passes_of-darts crossings =
    passes-from (arc_by_place crossings) 0 crossings
    (λ k slot below slot_below. let e : k ≡ 0 + k = omega arith in ap (λ j. arc_by_place crossings j slot) e)

dart_passes-from : (n at count : ℕ) → at + count ≤ n
    → AreBelow (4 * n) (flat_map (λ place. passes_of (darts_of place)) (range_with_len at count))
dart_passes-from n at zero within = tt
dart_passes-from n at (suc count) within = grind (arith, nat_tests, AreBelow-append, dart_passes-from n (at + 1) count (omega arith))

pub dart_passes-below : (count : ℕ) → AreBelow (4 * count) (dart_passes count)
dart_passes-below count = dart_passes-from count 0 count (omega arith)
