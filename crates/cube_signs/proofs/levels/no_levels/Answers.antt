use Rattle.std.proofs.Common.{◌∙◌, ◌++◌, ◌∷◌, [], List, ℕ, ap, sym, arith}
use Rattle.std.specs.Global.{Vec}
use Rattle.std.proofs.lemmas.List.{map_push}
use Rattle.std.proofs.lemmas.List.FromFn.{map-range_with_len_more}
use Rattle.sparse_block.specs.Inside.{lists_in}
use Rattle.cube_signs.specs.Tables.{no_states, none_of}
use Rattle.cube_signs.proofs.levels.no_levels.Goals as goal

pub levels-init : goal.levels-init
levels-init c = ap lists_in c.in_ok-levels.ensures.items

pub levels-preserved : goal.levels-preserved
levels-preserved c =
    ap lists_in c.in_ok-push.ensures.items ∙ map_push (λ (level : Vec ℕ). level.items) c.levels.levels.items c.new.result
    ∙ ap (λ (lists : List (List ℕ)). lists ++ c.new.result.items ∷ []) c.levels.invariant
    ∙ ap (λ (none : List ℕ). no_states c.levels.counter ++ none ∷ []) c.new.ensures.items
    ∙ sym (map-range_with_len_more none_of 0 c.levels.counter c.levels.counter (omega arith))
