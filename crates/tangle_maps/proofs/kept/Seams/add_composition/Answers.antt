use Rattle.std.proofs.Common.{◌∙◌, arith, subst, sym}
use Rattle.std.specs.Global.{Vec}
use Rattle.std.proofs.lemmas.List.{length-set}
use Rattle.std.proofs.lemmas.List.Elements.{All-set}
use Rattle.tangle_maps.specs.KeptSeams.{AreKeptSeams}
use Rattle.tangle_maps.specs.declared.kept.KeptSeam.{KeptSeam}
use Rattle.tangle_maps.proofs.kept.Seams.add_composition.Goals as goal

pub add_in-requires-clause-list : goal.add_in-requires-clause-list
add_in-requires-clause-list g c =
    subst (λ (list : Vec KeptSeam). AreKeptSeams list.items) (sym c.index_mut.ensures.value)
    (c.self.invariant.each c.list_of.result c.index_mut.result.now (omega (arith, c.list_of.ensures, c.self.invariant.many)))

pub invariant_of-self : goal.invariant_of-self
invariant_of-self g c = record {
  many = length-set c.self.inside.lists.items c.list_of.result c.add_in.new.list ∙ c.self.invariant.many;
  each = All-set (λ (list : Vec KeptSeam). AreKeptSeams list.items) c.self.inside.lists.items c.list_of.result c.add_in.new.list
      c.add_in.ensures.list c.self.invariant.each;
}
