use Rattle.std.proofs.Common.{sym, ap₂, ◌∙◌, subst}
use Rattle.std.specs.List.{Contains}
use Rattle.tangle_maps.specs.Seams.{genus_by}
use Rattle.tangle_maps.specs.Pairings.{IsOpened}
use Rattle.tangle_maps.proofs.SeamLemmas.{seam_made, components_opened}
use Rattle.tangle_maps.proofs.seam.Seam.new.Goals as goal

pub genera-genera-requires-clause-components : goal.genera-genera-requires-clause-components
genera-genera-requires-clause-components c =
    subst (λ xs. IsOpened xs) (sym c.deref.ensures.0)
    (components_opened c.join_pairs.new.classes c.args.opened.now c.least_names-components.result.items c.requires.opened
    c.least_names-components.ensures)

pub returns : goal.returns
returns c =
    seam_made c.args.opened.now c.args.first.now.partners c.args.middle.now.partners c.args.last.now.partners
    (record {
      first = c.least_names-first_discs.result;
      second = c.least_names-second.result;
      whole = c.least_names-whole.result;
      components = c.least_names-components.result;
      genera = c.genera-genera.result;
    })
    c.join_pairs.new.classes c.joined-ends.result c.joined.result c.joined-2.result c.named-arcs.result.items
    c.joined-ends.ensures c.join_pairs.ensures c.joined.ensures c.joined-2.ensures c.least_names-whole.ensures
    c.least_names-first_discs.ensures c.least_names-second.ensures c.least_names-components.ensures c.named-arcs.ensures
    (λ k has.
    c.genera-genera.ensures k (subst (λ xs. Contains xs k) (sym c.deref.ensures.0) has)
    ∙ ap₂ (λ x y. genus_by k x y c.deref-4.result.now c.deref-5.result.now) c.deref-2.ensures.0 c.deref-3.ensures.0
    ∙ ap₂ (λ x y. genus_by k c.named-arcs.result.items c.least_names-first_discs.result.items x y) c.deref-4.ensures.0 c.deref-5.ensures.0)
