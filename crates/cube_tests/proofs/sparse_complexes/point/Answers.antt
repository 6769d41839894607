use Rattle.std.proofs.Common.{◌∙◌, List, [], ◌∷◌, ap}
use Rattle.kh_types.specs.Generators.{Generator}
use Rattle.sparse_block.specs.Entries.{Entry}
use Rattle.sparse_block.specs.Inside.{lists_in, lines_in}
use Rattle.sparse_block.proofs.WorkedLemmas.{point-build}
use Rattle.cube_tests.proofs.sparse_complexes.point.Goals as goal

pub new-requires-clause-counts : goal.new-requires-clause-counts
new-requires-clause-counts c =
    let can =
    point-build (lists_in c.in_ok-names.names.items) (lines_in c.in_ok-columns.columns.items)
    (ap lists_in c.in_ok-names.ensures.items
    ∙ ap (λ (names : List Generator). names ∷ [])
    (c.in_ok-vec.ensures.items ∙ ap (λ (name : Generator). name ∷ []) c.name.ensures))
    (ap lines_in c.in_ok-columns.ensures.items
    ∙ ap (λ (lines : List (List Entry)). lines ∷ []) c.in_ok-lines.ensures) in
    can.counts

pub new-requires-clause-sizes : goal.new-requires-clause-sizes
new-requires-clause-sizes c =
    let can =
    point-build (lists_in c.in_ok-names.names.items) (lines_in c.in_ok-columns.columns.items)
    (ap lists_in c.in_ok-names.ensures.items
    ∙ ap (λ (names : List Generator). names ∷ [])
    (c.in_ok-vec.ensures.items ∙ ap (λ (name : Generator). name ∷ []) c.name.ensures))
    (ap lines_in c.in_ok-columns.ensures.items
    ∙ ap (λ (lines : List (List Entry)). lines ∷ []) c.in_ok-lines.ensures) in
    can.sizes

pub new-requires-clause-entries : goal.new-requires-clause-entries
new-requires-clause-entries c =
    let can =
    point-build (lists_in c.in_ok-names.names.items) (lines_in c.in_ok-columns.columns.items)
    (ap lists_in c.in_ok-names.ensures.items
    ∙ ap (λ (names : List Generator). names ∷ [])
    (c.in_ok-vec.ensures.items ∙ ap (λ (name : Generator). name ∷ []) c.name.ensures))
    (ap lines_in c.in_ok-columns.ensures.items
    ∙ ap (λ (lines : List (List Entry)). lines ∷ []) c.in_ok-lines.ensures) in
    can.entries

pub new-requires-clause-squares : goal.new-requires-clause-squares
new-requires-clause-squares c =
    let can =
    point-build (lists_in c.in_ok-names.names.items) (lines_in c.in_ok-columns.columns.items)
    (ap lists_in c.in_ok-names.ensures.items
    ∙ ap (λ (names : List Generator). names ∷ [])
    (c.in_ok-vec.ensures.items ∙ ap (λ (name : Generator). name ∷ []) c.name.ensures))
    (ap lines_in c.in_ok-columns.ensures.items
    ∙ ap (λ (lines : List (List Entry)). lines ∷ []) c.in_ok-lines.ensures) in
    can.squares
