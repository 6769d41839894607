use Rattle.std.proofs.Common.{◌≡◌, ◌∙◌, ℕ, pos, ◌+ℤ◌, length, map, ap, sym, subst, arith}
use Rattle.std.proofs.lemmas.List.{length-map}
use Rattle.sparse_block.specs.Opening.{IsColumnOf}
use Rattle.cube_signs.specs.ChosenParts.{moved_entry}
use Rattle.cube_signs.specs.Columns.{IsColumn}
use Rattle.cube_signs.proofs.BlockSources.{written-whole}
use Rattle.cube_signs.proofs.HeldChosen.{column-held, heads-held, place-held, tail-held}
use Rattle.cube_signs.proofs.chosen_opening.ChosenBlockColumnSource.put_column.Goals as goal

pub index-tail-requires : goal.index-tail-requires
index-tail-requires g c =
    omega (
      arith,
      place-held c.self.inside.chosen c.self.invariant c.self.view_is c.args.k c.args.place c.index.result.now c.requires.degree
          c.requires.place c.index.ensures,
      c.index.result.now.ok.0,
    )

pub put_column_near-requires-clause-tail : goal.put_column_near-requires-clause-tail
put_column_near-requires-clause-tail g c = (
  _,
  _,
  tail-held c.self.inside.chosen c.self.invariant c.self.view_is c.args.k c.args.place c.index.result.now c.requires.degree
      c.requires.place c.index.ensures c.index-tail.result.now c.index-tail.ensures,
)

pub renumber-requires : goal.renumber-requires
renumber-requires g c =
    heads-held c.self.inside.chosen c.self.invariant c.self.view_is c.args.k c.args.place c.index.result.now c.requires.degree
    c.requires.place c.index.ensures c.index-tail.result.now c.index-tail.ensures c.deref-2.result.now c.list_at.result.now
    c.list_at.ensures c.deref-2.ensures.value c.state_count.ensures.size

pub returns-clause-column : goal.returns-clause-column
returns-clause-column g c =
    let complex = c.args.self.now.complex in
    let tail = c.index-tail.result.now in
    let entries = c.put_column_near.new.column.items in
    let move = moved_entry c.list_at.result.now in
    let moved : c.renumber.new.column ≡ map move entries = c.renumber.ensures ∙ ap (map move) c.deref_mut.ensures.value in
    let written = written-whole c.put_column_near.new.column.len entries c.renumber.new.column c.put_column_near.new.column.ok.0
    (ap length moved ∙ length-map entries move) in
    subst (IsColumnOf g.F.PrimeField.P complex (complex.low +ℤ pos c.args.k) c.args.place) (sym (written ∙ moved))
    (column-held c.self.inside.chosen c.self.invariant c.self.view_is c.args.k c.args.place c.index.result.now c.requires.degree
    c.requires.place c.index.ensures tail c.index-tail.ensures c.deref-2.result.now c.list_at.result.now c.list_at.ensures
    c.deref-2.ensures.value entries
    (λ i j are tails.
    subst (λ (p : ℕ). IsColumn p c.self.inside.cube.now i j tail entries) c.P.ensures
    (c.in_ok-put_column_near.ensures.column i j (c.deref.ensures.value ∙ are) tails)))
