use Rattle.std.proofs.Common.{◌∙◌, ap, sym, nat_eq, rules, tests, Bor}
use Rattle.std.specs.Prelude.{Option}
use Rattle.std.specs.Option.{option_map, option_map_or}
use Rattle.std.proofs.lemmas.Iterator.{YieldsList-from_slice}
use Rattle.std.proofs.lemmas.Iterator.Search.{find_from_yields_List}
use Rattle.sparse_block.specs.Entries.{Entry}
use Rattle.sparse_block.proofs.reading.value_at.Goals as goal

pub returns-in-Some : goal.returns-in-Some
returns-in-Some c =
    let found =
    find_from_yields_List (λ (e : Entry). nat_eq e.place c.args.place) _ _ c.find.result c.find.ensures.ran
    (YieldsList-from_slice c.args.entries.now cc) (λ x b q k. search (rules, tests)) in
    c.value.ensures.value
    ∙ ap (λ (found : Option Entry). option_map_or (λ (e : Entry). e.value) found 0)
    (ap (λ (found : Option (Bor Entry)). option_map (λ (e : Bor Entry). e.now) found) (sym c.in-Some.is) ∙ found)

pub returns-in-None : goal.returns-in-None
returns-in-None c =
    let found =
    find_from_yields_List (λ (e : Entry). nat_eq e.place c.args.place) _ _ c.find.result c.find.ensures.ran
    (YieldsList-from_slice c.args.entries.now cc) (λ x b q k. search (rules, tests)) in
    ap (λ (found : Option Entry). option_map_or (λ (e : Entry). e.value) found 0)
    (ap (λ (found : Option (Bor Entry)). option_map (λ (e : Bor Entry). e.now) found) (sym c.in-None.is) ∙ found)
