-- The loop of `live_places` (src/building.rt): places alive, one degree more.
use Rattle.std.proofs.Common.{◌≡◌, ℕ, ◌+◌, ◌<◌, ◌≤◌, ◌∙◌, [], ◌∷◌, ℤ, pos, ◌+ℤ◌, length, take, take_all, get_or, sym, ap, ap₂, arith}
use Rattle.std.specs.List.{count_by, sum_by}
use Rattle.std.proofs.lemmas.List.{take_more}
use Rattle.std.proofs.lemmas.List.Sums.{sum_by-append, sum_by-cons}
use Rattle.kh_types.specs.Complex.{Complex, Degree, alive_count, empty_degree}
use Rattle.kh_types.proofs.ComplexLemmas.{degree_of-number}
use Rattle.sparse_block.specs.Complexes.{live_places}

-- the places alive of the first degrees together, from the least on
abbrev pub live_places_to : Complex → ℕ → ℕ
live_places_to complex count = sum_by (λ degree. count_by (λ is_alive. is_alive) degree.alive) (take count complex.degrees)

abbrev live_in : Degree → ℕ
live_in degree = count_by (λ is_alive. is_alive) degree.alive

pub live-more : (complex : Complex) (k : ℕ) (i : ℤ) (sum next : ℕ) → sum ≡ live_places_to complex k → k < length complex.degrees
    → i ≡ complex.low +ℤ pos k → next ≡ sum + alive_count complex i → next ≡ live_places_to complex (k + 1)
live-more complex k i sum next is_sum below is_degree is_next =
    let degree = get_or complex.degrees k empty_degree in
    let here : alive_count complex i ≡ live_in degree =
    ap (alive_count complex) is_degree ∙ ap live_in (degree_of-number complex k) in
    let one : sum_by live_in (degree ∷ []) ≡ live_in degree = sum_by-cons live_in degree [] ∙ omega arith in
    is_next ∙ ap₂ (λ (x y : ℕ). x + y) is_sum (here ∙ sym one) ∙ sym (sum_by-append live_in (take k complex.degrees) (degree ∷ []))
    ∙ ap (sum_by live_in) (sym (take_more complex.degrees k empty_degree below))

pub live-all : (complex : Complex) (k : ℕ) → length complex.degrees ≤ k → live_places_to complex k ≡ live_places complex
live-all complex k all = ap (sum_by live_in) (take_all k complex.degrees all)

pub ruleset places = (live-more, live-all)
