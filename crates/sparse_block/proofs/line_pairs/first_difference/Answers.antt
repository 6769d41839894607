use Rattle.std.proofs.lemmas.Bool.Decides.{nat_tests}
use Rattle.std.proofs.Common.{arith, inl, inr, sym, ◌∙◌}
use Rattle.sparse_block.proofs.AgreeLemmas.{agree_ends, agree_none, agree_step}
use Rattle.sparse_block.proofs.RestLemmas.{more-from_indices, shorter_steps}
use Rattle.sparse_block.proofs.line_pairs.first_difference.Goals as goal
use Rattle.sparse_block.proofs.line_pairs.first_difference.Goals.{then-at-left, else-at-left+then-other_at-right}

pub places-init : goal.places-init
places-init c =
    record {
      within = omega arith;
      other_within = omega arith;
      agree = agree_none c.requires.left.0 c.requires.right.0 c.requires.left.1 c.requires.right.1 c.args.left.now c.args.right.now
          c.requires.left.2 c.requires.right.2;
    }

pub returns-then-here-there : goal.returns-then-here-there
returns-then-here-there c =
    let left = c.args.left.now in
    let right = c.args.right.now in
    let more = more-from_indices left right c.places.at c.places.other_at
    (elim c.if-at-left.branch [
      | then-at-left w ↦ inl w.if-at-left.true
      | else-at-left+then-other_at-right w ↦ inr w.if-other_at-right.true
    ]) in
    agree_ends c.first_place-place.result left right _ _ c.places.invariant.agree more c.first_place-place.ensures.place
    (λ same. c.if-here-there.true (c.entry_here-here.ensures.value ∙ same ∙ sym c.entry_here-there.ensures.value))

pub places-smaller : goal.places-smaller
places-smaller = grind (arith, nat_tests, more-from_indices, then-at-left, else-at-left+then-other_at-right, shorter_steps)

pub places-preserved : goal.places-preserved
places-preserved c =
    let left = c.args.left.now in
    let right = c.args.right.now in
    let more = more-from_indices left right c.places.at c.places.other_at
    (elim c.if-at-left.branch [
      | then-at-left w ↦ inl w.if-at-left.true
      | else-at-left+then-other_at-right w ↦ inr w.if-other_at-right.true
    ]) in
    record {
      within = c.entry_here-here.ensures.within;
      other_within = c.entry_here-there.ensures.within;
      agree = agree_step c.first_place-place.result c.entry_here-here.result.value c.entry_here-there.result.value left right _ _ _ _
          c.places.invariant.agree more c.first_place-place.ensures.place c.entry_here-here.ensures.value c.entry_here-there.ensures.value
          c.if-here-there.false c.entry_here-here.ensures.rest c.entry_here-there.ensures.rest;
    }
