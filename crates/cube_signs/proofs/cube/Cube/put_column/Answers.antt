use Rattle.std.proofs.Common.{◌≡◌, ℕ, ap, subst}
use Rattle.std.proofs.lemmas.Result.{on_ok_weaker}
use Rattle.cube_signs.specs.Columns.{AreOuts}
use Rattle.cube_signs.proofs.cube.Cube.put_column.Goals as goal

pub put_column_of-requires-clause-outs : goal.put_column_of-requires-clause-outs
put_column_of-requires-clause-outs c =
    let is_state : c.tail.inside.state ≡ c.args.tail.state = ap (λ generator. generator.state) c.tail.view_is in (
      c.args.p,
      c.args.bases.now,
      subst (λ (state : ℕ). AreOuts c.args.p c.args.self.now c.args.bases.now state c.go_to.new.around.outs.items) is_state
          c.in_ok-go_to.ensures.outs,
    )

pub returns-clause-column : goal.returns-clause-column
returns-clause-column c =
    let is_state : c.tail.inside.state ≡ c.args.tail.state = ap (λ generator. generator.state) c.tail.view_is in
    on_ok_weaker c.put_column_of.result
    (λ columns i j are_bases tails.
    columns c.args.p c.args.bases.now i j c.requires.prime
    (subst (λ (state : ℕ). AreOuts c.args.p c.args.self.now c.args.bases.now state c.go_to.new.around.outs.items) is_state
    c.in_ok-go_to.ensures.outs) are_bases tails) c.put_column_of.ensures
