use Rattle.std.proofs.Common.{◌+◌, ap, arith, drop, slice_index, sym, ◌∙◌}
use Rattle.gauss_code.specs.Grammar.{number_places}
use Rattle.gauss_code.proofs.PlaceLemmas.{place_later, place_skipped}
use Rattle.gauss_code.proofs.faults.number_place.Goals as goal
use Rattle.gauss_code.proofs.faults.number_place.Goals.{then-is_number_token+else-before-eq0, else-is_number_token}

-- one number less, or none
pub loop-token-preserved : goal.loop-token-preserved
loop-token-preserved c =
    let tokens = c.args.tokens.now in
    let i = c.loop-token.token-index in
    elim c.if-is_number_token.branch [
      | then-is_number_token+else-before-eq0 w ↦
          sym (place_later tokens i _ c.loop-token.before c.if-is_number_token.before (omega arith) (sym c.is_number_token.ensures ∙ w.if-is_number_token.true)
          (omega (arith, w.before-is, w.if-before-eq0.false)))
          ∙ c.loop-token.invariant
      | else-is_number_token w ↦
          ap (λ n. slice_index (number_places (drop (i + 1) tokens)) n) w.before-is
          ∙ ap (λ places. slice_index places c.loop-token.before) (sym (place_skipped tokens i _ (omega arith) (sym c.is_number_token.ensures ∙ w.if-is_number_token.false)))
          ∙ c.loop-token.invariant
    ]
