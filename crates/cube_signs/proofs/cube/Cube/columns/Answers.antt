use Rattle.std.proofs.lemmas.Bool.Decides.{nat_tests}
use Rattle.std.proofs.Common.{◌≡◌, ◌≤◌, ◌∙◌, length, ap, sym, subst, arith}
use Rattle.std.proofs.lemmas.List.{map_push}
use Rattle.smallvec.specs.SmallVec.{SmallVec}
use Rattle.sparse_block.specs.Entries.{Entry}
use Rattle.sparse_block.specs.Inside.{entries_in}
use Rattle.cube_signs.specs.Columns.{IsColumn}
use Rattle.cube_signs.proofs.BlockLemmas.{IsTail-at, columns-more, columns-none, found-nowhere}
use Rattle.cube_signs.proofs.cube.Cube.columns.Goals as goal

pub names-init : goal.names-init
names-init c =
    let code = c.args.self.now in
    let few : length code.crossings ≤ 20 = omega (arith, c.crossing_count.ensures.count, c.crossing_count.ensures.few) in
    record {
      columns = columns-none c.args.p code c.args.at.i c.args.at.j c.args.names.now (entries_in c.in_ok-columns.columns.items)
          (ap entries_in c.in_ok-columns.ensures.items);
      found = found-nowhere c.args.p code c.args.bases.now c.nowhere-around.result.state c.nowhere-around.result.outs.items
          c.nowhere-around.ensures.state few;
    }

pub put_column-requires-clause-tail : goal.put_column-requires-clause-tail
put_column-requires-clause-tail c = (
  c.args.at.i,
  c.args.at.j,
  IsTail-at c.args.self.now c.args.at.i c.args.at.j c.args.names.now c.names.k c.index-names-k.result c.requires.names c.names-test.true
      c.index-names-k.is,
)

pub names-preserved : goal.names-preserved
names-preserved c =
    let p = c.args.p in
    let code = c.args.self.now in
    let at = c.args.at in
    let names = c.args.names.now in
    let k = c.names.k in
    let tail = c.index-names-k.result in
    let tails = IsTail-at code at.i at.j names k tail c.requires.names c.names-test.true c.index-names-k.is in
    let line = c.in_ok-from_slice.field-0 in
    let same : c.put_column.new.column.items ≡ line.items = sym (c.in_ok-from_slice.ensures.ok ∙ c.deref.ensures.value) in
    let column : IsColumn p code at.i at.j tail line.items =
    subst (IsColumn p code at.i at.j tail) same (c.in_ok-put_column.ensures.column at.i at.j c.requires.bases tails) in
    record {
      columns = columns-more p code at.i at.j names k tail line.items (entries_in c.names.columns.items) (entries_in c.push.new.self.items)
          c.names-test.true c.index-names-k.is column c.names.invariant.columns
          (ap entries_in c.in_ok-push.ensures.items
          ∙ map_push (λ (line : SmallVec Entry). line.items) c.names.columns.items line);
      found = c.in_ok-put_column.ensures.found;
    }

pub returns : goal.returns
returns = grind (arith, nat_tests)
