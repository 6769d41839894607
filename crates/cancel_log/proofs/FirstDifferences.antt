-- Two lists of lines are one, or they first differ at one place.
use Rattle.std.proofs.Common.{◌≡◌, ◌⊎◌, ℕ, zero, suc, ◌<◌, ◌∙◌, Bool, true, false, List, [], ◌∷◌, take, inl, inr, refl, sym, ap, ap₂, arith}
use Rattle.std.specs.Prelude.{slice_get}
use Rattle.std.specs.Str.{bytes_eq}
use Rattle.std.proofs.lemmas.Bool.Decides.{not_from_Decides}
use Rattle.std.proofs.lemmas.Slice.Eq.{bytes_eq-Decides}
use Rattle.cancel_log.specs.Verdicts.{DifferFirst}

-- they are one, or they differ
abbrev pub Compared : List (List ℕ) → List (List ℕ) → Type 0
Compared lines others = (lines ≡ others) ⊎ ((place : ℕ) × DifferFirst lines others place)

-- with a line before each
compared_step : (same : Bool) (line other : List ℕ) (lines others : List (List ℕ)) → bytes_eq line other ≡ same → Compared lines others
    → Compared (line ∷ lines) (other ∷ others)
compared_step true line other lines others is (inl alike) =
    inl (ap₂ (λ (l : List ℕ) (ls : List (List ℕ)). l ∷ ls) ((bytes_eq-Decides line other).0 is) alike)
compared_step true line other lines others is (inr (place, first)) = inr (
  suc place,
  record {
    before = ap₂ (λ (l : List ℕ) (ls : List (List ℕ)). l ∷ ls) ((bytes_eq-Decides line other).0 is) first.before;
    differ = first.differ;
  },
)
compared_step false line other lines others is rest = inr (
  0,
  record {
    before = refl;
    differ = λ same. not_from_Decides (bytes_eq line other) (bytes_eq-Decides line other) is (cc (same));
  },
)

-- two lists of lines are compared
pub compared : (lines others : List (List ℕ)) → Compared lines others
compared [] [] = inl refl
compared [] (other ∷ others) = inr (0, record { before = refl; differ = λ same. absurd (cc (same)) })
compared (line ∷ lines) [] = inr (0, record { before = refl; differ = λ same. absurd (cc (same)) })
compared (line ∷ lines) (other ∷ others) =
    compared_step (bytes_eq line other) line other lines others refl (compared lines others)

-- what stands before a place is in the lines up to there
slice_get-take : (n : ℕ) (lines : List (List ℕ)) (place : ℕ) → place < n → slice_get (take n lines) place ≡ slice_get lines place
slice_get-take zero lines place below = absurd (omega (arith, below))
slice_get-take (suc n) [] place below = refl
slice_get-take (suc n) (line ∷ lines) zero below = refl
slice_get-take (suc n) (line ∷ lines) (suc place) below = slice_get-take n lines place (omega (arith, below))

-- they do not differ before a place where they first differ
not-before : (lines others : List (List ℕ)) (place later : ℕ) → DifferFirst lines others place → DifferFirst lines others later
    → place < later → ⊥
not-before lines others place later first also below =
    first.differ
    (sym (slice_get-take later lines place below)
    ∙ ap (λ (ls : List (List ℕ)). slice_get ls place) also.before
    ∙ slice_get-take later others place below)

-- the place is one
pub DifferFirst-one : (lines others : List (List ℕ)) (place other : ℕ) → DifferFirst lines others place → DifferFirst lines others other
    → place ≡ other
DifferFirst-one lines others place other first also =
    let before = not-before lines others place other first also in
    let behind = not-before lines others other place also first in
    omega (arith, before, behind)
