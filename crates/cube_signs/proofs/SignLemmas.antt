-- Signs of edges, and one edge more out of a state.
use Rattle.std.proofs.Common.{◌≡◌, ◌≢◌, ℕ, ◌+◌, ◌-◌, ◌%◌, ◌<◌, ◌∙◌, List, ◌++◌, sym, ap, arith, Option, None}
use Rattle.std.specs.Prelude.{nat_eq, if◌then◌else◌, slice_index_or}
use Rattle.std.proofs.lemmas.Bool.Decides.{nat_tests}
use Rattle.kh_types.specs.Bits.{bit}
use Rattle.kh_types.proofs.BitLemmas.{ones-more}
use Rattle.kh_types.proofs.Ranges.{flat_map-range_more}
use Rattle.circle_smoothing.specs.declared.change.Edge.{Edge}
use Rattle.cube_signs.specs.Columns.{out_along, outs_at, outs_to, edge_sign_at}
use Rattle.cube_signs.specs.declared.outs.Out.{Out}

-- -1 to a power, modulo p
abbrev sign_of : ℕ → ℕ → ℕ
sign_of p count = if nat_eq (count % 2) 0 then 1 else p - 1

turned : (p count : ℕ) → 1 < p → p - sign_of p count ≡ sign_of p (count + 1)
turned p count above = grind (arith, nat_tests)

pub sign-same : (p sign state place b : ℕ) → sign ≡ edge_sign_at p state place → b ≡ bit state place → b ≡ 0 → sign ≡ edge_sign_at p state (place + 1)
sign-same p sign state place b is is_bit has7 = grind (arith, nat_tests, ones-more)

pub sign-turned : (p sign state place b : ℕ) → 1 < p → sign ≡ edge_sign_at p state place → b ≡ bit state place → b < 2 → b ≢ 0
    → p - sign ≡ edge_sign_at p state (place + 1)
sign-turned p sign state place b above is is_bit few some = grind (arith, nat_tests, ones-more, turned)

pub sign-positive : (p state place : ℕ) → 1 < p → 0 < edge_sign_at p state place
sign-positive p state place above = grind (arith, nat_tests)

pub sign-below : (p state place : ℕ) → 1 < p → edge_sign_at p state place < p
sign-below p state place above = grind (arith, nat_tests)

-- one edge more
pub outs-more : (p : ℕ) (steps : List (Option Edge)) (bases : List ℕ) (state place sign : ℕ) (made next : List Out)
    → made ≡ outs_to p steps bases state place → sign ≡ edge_sign_at p state place
    → next ≡ made ++ out_along sign bases state place (slice_index_or steps place None) → next ≡ outs_to p steps bases state (place + 1)
unfolding outs_at
outs-more p steps bases state place sign made next is_made is_sign is_next =
    is_next ∙ ap (λ (xs : List Out). xs ++ out_along sign bases state place (slice_index_or steps place None)) is_made
    ∙ ap (λ s. outs_to p steps bases state place ++ out_along s bases state place (slice_index_or steps place None)) is_sign
    ∙ sym (flat_map-range_more (outs_at p steps bases state) 0 place place (omega arith))
