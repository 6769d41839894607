use Rattle.std.proofs.Common.{◌++◌, ◌∙◌, subst, sym}
use Rattle.crossing_maps.specs.declared.bridges.Bridge.{Bridge}
use Rattle.std.proofs.lemmas.Result.{on_ok_weaker}
use Rattle.scan_laws.specs.Adding.{origins_with}
use Rattle.tangle_scan.specs.AddedBridges.{IsSaddleIn, IsSaddleOf, LeadFrom, pairs_in}
use Rattle.tangle_scan.specs.Additions.{code_in, origins_to, scan_in}
use Rattle.tangle_scan.proofs.MoreColumns.{columns-both}
use Rattle.tangle_scan.proofs.adding.columns.push_both.Goals as goal

pub push_columns_of-requires-clause-bridges : goal.push_columns_of-requires-clause-bridges
push_columns_of-requires-clause-bridges g c =
    subst (λ m. LeadFrom c.args.links.now.adding.now 0 m c.args.bridges.now.zero.items) c.requires.pairs c.requires.bridges.zero

pub push_columns_of-requires-2-clause-bridges : goal.push_columns_of-requires-2-clause-bridges
push_columns_of-requires-2-clause-bridges g c =
    subst (λ m. LeadFrom c.args.links.now.adding.now 1 m c.args.bridges.now.one.items) c.requires.pairs c.requires.bridges.one

pub push_columns_of-requires-2-clause-saddle : goal.push_columns_of-requires-2-clause-saddle
push_columns_of-requires-2-clause-saddle g c =
    let adding = c.args.links.now.adding.now in
    subst (λ (saddle : Bridge). IsSaddleOf adding c.args.parent.now.place saddle) (sym c.push_columns_of.ensures.saddle)
    (subst (λ m. IsSaddleIn adding m c.args.bridges.now.saddle) c.requires.pairs c.requires.bridges.saddle)

pub returns-clause-bridges : goal.returns-clause-bridges
returns-clause-bridges g c =
    let adding = c.args.links.now.adding.now in
    on_ok_weaker c.push_columns_of-2.result
    (λ one. record {
      zero = subst (λ m. LeadFrom adding 0 m c.push_columns_of.new.bridges.items) (sym c.requires.pairs)
          c.in_ok-push_columns_of.ensures.bridges;
      one = subst (λ m. LeadFrom adding 1 m c.push_columns_of-2.new.bridges.items) (sym c.requires.pairs) one;
      saddle = subst (λ (saddle : Bridge). IsSaddleIn adding (pairs_in adding c.args.bridges.now) saddle)
          (sym (c.push_columns_of-2.ensures.saddle ∙ c.push_columns_of.ensures.saddle)) c.requires.bridges.saddle;
    })
    c.push_columns_of-2.ensures.bridges

pub returns-clause-columns : goal.returns-clause-columns
returns-clause-columns g c =
    let adding = c.args.links.now.adding.now in
    let place = c.args.parent.now.place in
    columns-both g.F.PrimeField.P adding c.push_columns_of-2.result place c.push_columns_of-2.new.made.items
    c.requires.parent.successors.alive
    (c.push_columns_of-2.ensures.columns (origins_to adding place ++ origins_with (code_in adding) (scan_in adding) place 0)
    (c.in_ok-push_columns_of.ensures.columns (origins_to adding place) c.requires.made))
