use Rattle.std.proofs.Common.{◌≡◌, ◌∙◌, length, ap, sym, arith, rules}
use Rattle.std.specs.List.{find, range_with_len}
use Rattle.kh_types.specs.Darts.{partner_at}
use Rattle.morse_drawing.specs.Pages.{leads_on}
use Rattle.morse_drawing.proofs.step.leading.Goals as goal

pub returns : goal.returns
returns c =
    let page = c.args.page.now in
    let all : length page.row ≡ c.places.place = search (rules, arith) in
    sym
    (ap (λ n. find (leads_on (partner_at c.args.diagram.now.crossings) page.drawn page.row) (range_with_len 0 n)) all ∙ c.places.invariant)
