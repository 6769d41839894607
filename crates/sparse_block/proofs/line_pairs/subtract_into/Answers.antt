use Rattle.std.proofs.Common.{List, subst, sym, arith, inl, inr}
use Rattle.std.proofs.lemmas.List.{drop_all}
use Rattle.sparse_block.specs.Entries.{Entry}
use Rattle.sparse_block.proofs.PairLemmas.{Merged, merged_all, merged_none, merged_step}
use Rattle.sparse_block.proofs.RestLemmas.{more-from_indices, shorter_steps}
use Rattle.sparse_block.proofs.line_pairs.subtract_into.Goals as goal
use Rattle.sparse_block.proofs.line_pairs.subtract_into.Goals.{then-at-line, else-at-line+then-other_at-other}

pub places-init : goal.places-init
places-init g c =
    let line = c.args.line.now in
    let other = c.args.other.now in
    let p = g.F.PrimeField.P in
    let factor = g.F.PrimeField.value_of c.args.factor in
    record {
      within = omega arith;
      other_within = omega arith;
      merged = subst (λ (made : List Entry). Merged p factor line other made line other) (sym c.clear.ensures.items)
          (merged_none p factor c.requires.line.0 c.requires.other.0 line other c.requires.line.1 c.requires.other.1);
    }

pub places-smaller : goal.places-smaller
places-smaller g c =
    let line = c.args.line.now in
    let other = c.args.other.now in
    let more = more-from_indices line other c.places.at c.places.other_at
    (elim c.if-at-line.branch [
      | then-at-line w ↦ inl w.if-at-line.true
      | else-at-line+then-other_at-other w ↦ inr w.if-other_at-other.true
    ]) in
    shorter_steps line other c.places.at c.places.other_at c.entry_here-here.result.next c.entry_here-there.result.next
    c.first_place-place.result more c.first_place-place.ensures.place c.entry_here-here.ensures.rest c.entry_here-there.ensures.rest
    c.entry_here-here.ensures.within c.entry_here-there.ensures.within

pub places-preserved : goal.places-preserved
places-preserved g c =
    let line = c.args.line.now in
    let other = c.args.other.now in
    let p = g.F.PrimeField.P in
    let more = more-from_indices line other c.places.at c.places.other_at
    (elim c.if-at-line.branch [
      | then-at-line w ↦ inl w.if-at-line.true
      | else-at-line+then-other_at-other w ↦ inr w.if-other_at-other.true
    ]) in
    record {
      within = c.entry_here-here.ensures.within;
      other_within = c.entry_here-there.ensures.within;
      merged = merged_step p (g.F.PrimeField.value_of c.args.factor) c.first_place-place.result c.less.result
          c.entry_here-here.result.value c.entry_here-there.result.value line other c.places.made.items c.push_value.new.made.items
          _ _ _ _ c.places.invariant.merged more c.first_place-place.ensures.place c.entry_here-here.ensures.value
          c.entry_here-there.ensures.value c.less.ensures.value c.in_ok-push_value.ensures c.entry_here-here.ensures.rest
          c.entry_here-there.ensures.rest;
    }

pub returns : goal.returns
returns g c size are are_other =
    let line = c.args.line.now in
    let other = c.args.other.now in
    merged_all g.F.PrimeField.P (g.F.PrimeField.value_of c.args.factor) size line other c.places.made.items _ _
    c.places.invariant.merged (drop_all c.places.at line c.if-at-line.false)
    (drop_all c.places.other_at other c.if-other_at-other.false) are are_other
