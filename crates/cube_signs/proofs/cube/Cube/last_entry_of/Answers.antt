use Rattle.std.proofs.Common.{◌≡◌, ◌∙◌, ℕ, List, ap, arith}
use Rattle.cube_signs.specs.declared.outs.Out.{Out}
use Rattle.cube_signs.specs.Columns.{column_along}
use Rattle.cube_signs.proofs.BlockLemmas.{column-around, label-small}
use Rattle.cube_signs.proofs.cube.Cube.last_entry_of.Goals as goal

pub last_entry-requires-clause-label : goal.last_entry-requires-clause-label
last_entry-requires-clause-label c =
    let tail = c.requires.tail in
    let small = label-small c.args.self.now tail.0 tail.1 c.args.tail c.ranks.ensures.code c.ranks.ensures.few tail.2 in
    omega (arith, small, ap (λ generator. generator.label) c.tail.view_is)

pub returns : goal.returns
returns c p bases i j prime found are_bases tails =
    let tail = c.args.tail in
    let ranks = c.ranks.result.now in
    let outs = c.args.around.now.outs.items in
    let column = column_along ranks c.tail.inside.label c.deref.result.now in
    let is_label : c.tail.inside.label ≡ tail.label = ap (λ generator. generator.label) c.tail.view_is in
    record {
      entries = column;
      are = column-around p c.args.self.now i j tail outs bases ranks column prime c.ranks.ensures.code tails found are_bases
          c.ranks.ensures.ranks
          (ap (λ (label : ℕ). column_along ranks label c.deref.result.now) is_label
          ∙ ap (λ (outs : List Out). column_along ranks tail.label outs) c.deref.ensures.value);
      is = c.last_entry.ensures;
    }
