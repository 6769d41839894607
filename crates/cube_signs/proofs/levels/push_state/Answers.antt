use Rattle.std.proofs.Common.{◌≡◌, ◌∙◌, ◌++◌, ◌∷◌, [], List, ℕ, set, ap, sym}
use Rattle.std.specs.Prelude.{slice_index_or}
use Rattle.std.specs.Global.{Vec}
use Rattle.std.proofs.lemmas.List.{map-set}
use Rattle.sparse_block.specs.Inside.{lists_in}
use Rattle.sparse_block.proofs.LineLemmas.{list-lists_in}
use Rattle.cube_signs.proofs.levels.push_state.Goals as goal

pub returns : goal.returns
returns c =
    let levels = c.args.levels.now.items in
    let place = c.args.place in
    let own : slice_index_or (lists_in levels) place [] ≡ c.index_mut.result.now.items =
    list-lists_in levels place c.index_mut.result.now c.requires c.index_mut.ensures.value in
    map-set (λ (level : Vec ℕ). level.items) levels place c.push.new.self
    ∙ ap (set (lists_in levels) place) (c.in_ok-push.ensures.items ∙ ap (λ (xs : List ℕ). xs ++ c.args.state ∷ []) (sym own))
