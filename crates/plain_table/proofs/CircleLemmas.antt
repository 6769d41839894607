-- The step of the loop over crossings.
use Rattle.std.proofs.Common.{◌≡◌, ℕ, ◌+◌, ◌<◌, ◌∷◌, [], ◌++◌, List, length, take, get_or, ap, sym, ◌∙◌, arith}
use Rattle.std.specs.List.{flat_map, enumerate_from}
use Rattle.std.proofs.lemmas.List.{take_more, length-take-le, append-nil}
use Rattle.std.proofs.lemmas.List.Concat.{flat_map-append}
use Rattle.kh_types.specs.Bits.{bit}
use Rattle.kh_types.specs.Circles.{smoothing_of, smoothings_of}
use Rattle.kh_types.proofs.Lists.{enumerate_from-push}

-- the smoothings of the crossings up to one more
pub smoothings_more : (crossings : List (List ℕ)) (state at : ℕ) (crossing : List ℕ) → at < length crossings
    → crossing ≡ get_or crossings at crossing
    → smoothings_of (take (at + 1) crossings) state
    ≡ smoothings_of (take at crossings) state ++ smoothing_of (bit state at) crossing
smoothings_more crossings state at crossing within is_crossing =
    let front : List (List ℕ) = take at crossings in
    let long : length front ≡ at = length-take-le at crossings (omega arith) in
    let piece : ℕ × List ℕ → List (ℕ × ℕ) = λ at. smoothing_of (bit state at.0) at.1 in
    let all : enumerate_from 0 (take (at + 1) crossings) ≡ enumerate_from 0 front ++ (at, crossing) ∷ [] =
    ap (enumerate_from 0) (take_more crossings at crossing within ∙ ap (λ (x : List ℕ). front ++ x ∷ []) (sym is_crossing))
    ∙ enumerate_from-push 0 front crossing
    ∙ ap (λ (m : ℕ). enumerate_from 0 front ++ (m, crossing) ∷ []) (omega (arith, long)) in
    ap (flat_map piece) all
    ∙ flat_map-append piece (enumerate_from 0 front) ((at, crossing) ∷ [])
    ∙ ap (λ (ys : List (ℕ × ℕ)). smoothings_of front state ++ ys) (append-nil (smoothing_of (bit state at) crossing))
