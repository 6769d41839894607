-- What is spelled is read: a spelling leads the machine to its end, with the items that it spells.
use Rattle.std.proofs.Common.{◌≡◌, List, [], ◌∷◌, ◌++◌, Some, sym, ◌∙◌, ap, refl, append_assoc}
use Rattle.std.specs.List.{flat_map}
use Rattle.std.proofs.lemmas.List.{append-nil}
use Rattle.kh_lex.specs.declared.symbol.Symbol.{Symbol}
use Rattle.kh_lex.specs.declared.symbol.Symbol.TheVariants.{RightBracket}
use Rattle.pd_code.specs.declared.machine.State.TheVariants.{Start, Listed, Done}
use Rattle.pd_code.specs.declared.item.Item.{Item}
use Rattle.pd_code.specs.declared.item.Item.TheVariants as kinds
use Rattle.pd_code.specs.Grammar.{next_symbols, pd_spelled}
use Rattle.kh_lex.specs.Machine.{run}
use Rattle.pd_code.specs.Machine.{pd_advanced, pd_progress}

-- items behind commas are read
run-next : (items more : List Item) (rest : List Symbol) → run pd_advanced (pd_progress Listed items) (flat_map next_symbols more ++ rest) ≡ run pd_advanced (pd_progress Listed (items ++ more)) rest
run-next items [] rest = ap (λ i. run pd_advanced (pd_progress Listed i) rest) (sym (append-nil items))
run-next items ((kinds.Crossing i j k l) ∷ more) rest =
    run-next (items ++ kinds.Crossing i j k l ∷ []) more rest ∙ ap (λ i. run pd_advanced (pd_progress Listed i) rest) (append_assoc items (kinds.Crossing i j k l ∷ []) more)
run-next items ((kinds.Loop n) ∷ more) rest =
    run-next (items ++ kinds.Loop n ∷ []) more rest ∙ ap (λ i. run pd_advanced (pd_progress Listed i) rest) (append_assoc items (kinds.Loop n ∷ []) more)

-- a spelling leads to the end, with its items
pub run-pd_spelled : (items : List Item) → run pd_advanced (pd_progress Start []) (pd_spelled items) ≡ Some (pd_progress Done items)
run-pd_spelled [] = refl
run-pd_spelled ((kinds.Crossing i j k l) ∷ items) = run-next (kinds.Crossing i j k l ∷ []) items (RightBracket ∷ [])
run-pd_spelled ((kinds.Loop n) ∷ items) = run-next (kinds.Loop n ∷ []) items (RightBracket ∷ [])
