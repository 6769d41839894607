use Rattle.std.proofs.Common.{ℕ, List, ◌++◌, ◌∙◌, sym, subst, ap, ap₂, arith, length}
use Rattle.std.proofs.lemmas.List.{length-append, length-map}
use Rattle.std.specs.Prelude.{slice_index}
use Rattle.std.specs.List.{Contains}
use Rattle.tangle_maps.specs.Pairings.{IsOpened}
use Rattle.tangle_maps.proofs.SeamLemmas.{components_opened, least-named}
use Rattle.crossing_maps.specs.Counts.{genus_at}
use Rattle.crossing_maps.proofs.Placed.{places-same}
use Rattle.crossing_maps.proofs.bridges.seam_on.Goals as goal

pub genera_in-genera-requires-clause-components : goal.genera_in-genera-requires-clause-components
genera_in-genera-requires-clause-components c =
    subst (λ xs. IsOpened xs) (sym c.deref-7.ensures.0)
    (components_opened c.args.classes.now c.args.near.now c.least_names-components.result.items c.requires.near.below
    c.least_names-components.ensures)

pub returns-clause-seam : goal.returns-clause-seam
returns-clause-seam c =
    let parts = c.least_names-components.ensures ∙ least-named c.args.classes.now c.args.near.now in
    record {
      parts = parts;
      first = c.named-discs.ensures;
      second = c.appended.ensures
          ∙ ap₂ (λ (xs : List ℕ) (ys : List ℕ). xs ++ ys) c.named-closed.ensures (c.deref-8.ensures.0 ∙ c.named-others.ensures);
      whole = c.named-rims.ensures;
      genera = λ k has.
          c.genera_in-genera.ensures k (subst (λ xs. Contains xs k) (sym (c.deref-7.ensures.0 ∙ parts)) has)
          ∙ ap (λ at. genus_at at k)
          (places-same (c.deref.ensures.0 ∙ c.named-rims.ensures) (c.deref-2.ensures.0 ∙ c.named-discs.ensures)
          (c.deref-3.ensures.0 ∙ c.named-closed.ensures) (c.deref-4.ensures.0 ∙ c.named-others.ensures)
          (c.deref-5.ensures.0 ∙ c.strips_on-lowers.ensures) (c.deref-6.ensures.0 ∙ c.named-raises.ensures));
    }

pub returns-clause-circles : goal.returns-clause-circles
returns-clause-circles c =
    let f = slice_index c.args.classes.now in
    omega (
      arith,
      c.requires.places.both,
      ap (λ (xs : List ℕ). length xs) c.appended.ensures,
      length-append c.named-closed.result.items c.deref-8.result.now,
      ap (λ (xs : List ℕ). length xs) c.named-closed.ensures,
      ap (λ (xs : List ℕ). length xs) (c.deref-8.ensures.0 ∙ c.named-others.ensures),
      length-map c.args.places.now.closed.now f,
      length-map c.args.places.now.others.now f,
    )
