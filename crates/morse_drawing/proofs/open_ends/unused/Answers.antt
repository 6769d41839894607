use Rattle.std.proofs.Common.{◌∙◌, ℕ, ap, sym, refl, rules}
use Rattle.std.specs.Prelude.{Option, unwrap_or}
use Rattle.std.proofs.lemmas.Iterator.{YieldsList-from_range}
use Rattle.std.proofs.lemmas.Iterator.Search.{find_from_yields_List}
use Rattle.morse_drawing.specs.OpenEnds.{is_free}
use Rattle.morse_drawing.proofs.EndLemmas.{option_map-same}
use Rattle.morse_drawing.proofs.open_ends.unused.Goals as goal

pub returns : goal.returns
returns c =
    let found =
    find_from_yields_List (λ (line : ℕ). is_free c.args.row.now line) _ _ c.find.result c.find.ensures.ran
    (YieldsList-from_range 0 64 64 refl refl) (λ x b q k. search rules) in
    c.unwrap_or.ensures ∙ ap (λ (o : Option ℕ). unwrap_or o 0) (sym (option_map-same c.find.result) ∙ found)
