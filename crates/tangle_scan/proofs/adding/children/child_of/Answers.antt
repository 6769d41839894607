use Rattle.std.proofs.Common.{◌+◌, subst, sym, arith}
use Rattle.scan_laws.specs.Adding.{origin_of}
use Rattle.tangle_scan.specs.Additions.{StandsAt}
use Rattle.tangle_scan.proofs.ChildPlaces.{chosen-stands}
use Rattle.tangle_scan.proofs.adding.children.child_of.Goals as goal

pub overflow_add-result : goal.overflow_add-result
overflow_add-result c =
    let adding = c.args.links.now.adding.now in
    let place = c.args.parent.now.place in
    let stands =
    subst (λ n. StandsAt adding (origin_of place c.args.smoothing c.args.label) (n + c.args.label)) (sym c.first.ensures)
    (chosen-stands adding place c.args.smoothing c.args.label c.args.parent.now.successors.now c.requires.parent.within
    c.requires.smoothing c.requires.parent.successors c.requires.label) in
    omega (arith, stands.within, c.requires.links.1.count, c.requires.links.1.fits)

pub returns-clause-child : goal.returns-clause-child
returns-clause-child c =
    let adding = c.args.links.now.adding.now in
    let place = c.args.parent.now.place in
    record {
      stands = subst (λ e. StandsAt adding (origin_of place e c.args.label) (c.first.result + c.args.label)) (sym c.side_of.ensures.smoothing)
          (subst (λ n. StandsAt adding (origin_of place c.args.smoothing c.args.label) (n + c.args.label)) (sym c.first.ensures)
          (chosen-stands adding place c.args.smoothing c.args.label c.args.parent.now.successors.now c.requires.parent.within
          c.requires.smoothing c.requires.parent.successors c.requires.label));
      side = c.side_of.ensures.side;
    }
