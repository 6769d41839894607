use Rattle.std.proofs.Common.{◌≡◌, ◌∙◌, ◌<◌, ℕ, ℤ, List, map, ap, arith}
use Rattle.std.proofs.lemmas.Result.{on_ok_weaker}
use Rattle.kh_types.specs.Generators.{states}
use Rattle.cube_signs.specs.declared.outs.Out.{Out}
use Rattle.cube_signs.specs.Columns.{AreOuts, IsColumn, IsTail, column_along}
use Rattle.cube_signs.specs.Tables.{own_base}
use Rattle.cube_signs.proofs.BlockLemmas.{column-around, label-small}
use Rattle.cube_signs.proofs.cube.Cube.put_column_of.Goals as goal

pub put_entries-requires-clause-label : goal.put_entries-requires-clause-label
put_entries-requires-clause-label c =
    let tail = c.requires.tail in
    let small = label-small c.args.self.now tail.0 tail.1 c.args.tail c.ranks.ensures.code c.ranks.ensures.few tail.2 in
    omega (arith, small, ap (λ generator. generator.label) c.tail.view_is)

pub returns : goal.returns
returns c =
    let code = c.args.self.now in
    let tail = c.args.tail in
    let ranks = c.ranks.result.now in
    let outs = c.args.around.now.outs.items in
    let column = c.put_entries.new.column.items in
    let is_label : c.tail.inside.label ≡ tail.label = ap (λ generator. generator.label) c.tail.view_is in
    on_ok_weaker {P = column ≡ column_along ranks c.tail.inside.label c.deref.result.now}
    {Q = (p : ℕ) (bases : List ℕ) (i j : ℤ) → 1 < p → AreOuts p code bases tail.state outs
    → bases ≡ map (own_base code j) (states code) → IsTail code i j tail → IsColumn p code i j tail column}
    c.put_entries.result
    (λ is p bases i j prime found are_bases tails.
    column-around p code i j tail outs bases ranks column prime c.ranks.ensures.code tails found are_bases c.ranks.ensures.ranks
    (is ∙ ap (λ (label : ℕ). column_along ranks label c.deref.result.now) is_label
    ∙ ap (λ (outs : List Out). column_along ranks tail.label outs) c.deref.ensures.value)) c.put_entries.ensures
