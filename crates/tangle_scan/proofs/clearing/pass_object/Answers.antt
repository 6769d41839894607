use Rattle.tangle_scan.proofs.Passes.{from-eliminated, from-none, indexed}
use Rattle.tangle_scan.proofs.clearing.pass_object.Goals as goal

pub pivot_of-requires-clause-indexed : goal.pivot_of-requires-clause-indexed
pivot_of-requires-clause-indexed g c = indexed g.F.PrimeField.P c.args.front.now c.args.rowed c.requires.rowed

pub returns-in-Some : goal.returns-in-Some
returns-in-Some g c =
    from-eliminated g.F.PrimeField.P c.args.front.now c.args.rowed _ c.eliminate.result c.eliminate.ensures

pub returns-in_default : goal.returns-in_default
returns-in_default g c = from-none g.F.PrimeField.P c.args.front.now c.args.rowed c.requires.rowed
