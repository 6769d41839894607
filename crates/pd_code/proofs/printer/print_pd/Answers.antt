use Rattle.std.proofs.Common.{◌≡◌, Ok, rules, subst, sym}
use Rattle.pd_code.specs.Printing.{pd_text}
use Rattle.pd_code.specs.Reading.{IsPdReading}
use Rattle.pd_code.proofs.PrintingLemmas.{IsPdReading-pd_text}
use Rattle.pd_code.proofs.printer.print_pd.Goals as goal

-- the text is that of the code, which reads as the code
pub returns-clause-reads_back : goal.returns-clause-reads_back
returns-clause-reads_back c = λ few_loops.
    let same : c.into_bytes.result.items ≡ pd_text c.args.diagram.now = search rules in
    subst (λ text. IsPdReading text (Ok c.args.diagram.now)) (sym same)
    (IsPdReading-pd_text c.args.diagram.now c.in_ok-items.ensures.four c.in_ok-items.ensures.few few_loops)
