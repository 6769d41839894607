use Rattle.std.proofs.Common.{◌≡◌, ◌≤◌, All, Ok, length, rules, subst, sym}
use Rattle.kh_types.specs.declared.limits.TheConstants.{CROSSINGS}
use Rattle.gauss_code.specs.Printing.{gauss_text}
use Rattle.gauss_code.specs.Reading.{IsGaussReading}
use Rattle.gauss_code.proofs.PrintedCodes.{IsGaussReading-gauss_text}
use Rattle.gauss_code.proofs.printer.print_gauss.Goals as goal

-- the text is that of the code, which reads as the code
pub returns-clause-reads_back : goal.returns-clause-reads_back
returns-clause-reads_back c = λ few_loops.
    let code = c.args.diagram.now in
    let same : c.into_bytes.result.items ≡ gauss_text code = search rules in
    let four : All (λ slots. length slots ≡ 4) code.crossings = search rules in
    let few : length code.crossings ≤ CROSSINGS = search rules in
    subst (λ text. IsGaussReading text (Ok code)) (sym same) (IsGaussReading-gauss_text code c.crossings.ensures.accepted four few few_loops)
