use Rattle.std.proofs.Common.{◌≡◌, ap, arith, sym, ◌∙◌}
use Rattle.kh_lex.specs.Symbols.{symbols_of}
use Rattle.gauss_code.specs.Faults.{first_gauss_fault}
use Rattle.gauss_code.specs.Grammar.{number_places, gauss_spelled}
use Rattle.gauss_code.proofs.FewNumbers.{few_numbers}
use Rattle.gauss_code.proofs.ReadingLemmas.{IsGaussReading-fault}
use Rattle.gauss_code.proofs.reader.read_gauss.Goals as goal

-- the listing is that of a text, which is short
pub first_gauss_fault-requires : goal.first_gauss_fault-requires
first_gauss_fault-requires c =
    few_numbers c.args.text.now c.deref.result.now c.in_ok-listing.listing c.in_ok-listing.ensures.gauss_spelled
    (omega (arith, c.deref.ensures.len, c.in_ok-tokens.ensures.few, c.requires))

-- its first fault is that of the text
pub returns-in-Some-clause-reads : goal.returns-in-Some-clause-reads
returns-in-Some-clause-reads c = λ some.
    let tokens = c.in_ok-tokens.tokens.items in
    let spells : symbols_of c.args.text.now tokens ≡ gauss_spelled c.in_ok-listing.listing
    = ap (symbols_of c.args.text.now) (sym c.deref.ensures.value) ∙ c.in_ok-listing.ensures.gauss_spelled in
    IsGaussReading-fault c.args.text.now tokens c.in_ok-listing.listing c.in-Some.fault c.in_ok-tokens.ensures.cut spells
    (ap (λ t. first_gauss_fault c.in_ok-listing.listing (number_places t)) (sym c.deref-2.ensures.value) ∙ sym c.first_gauss_fault.ensures ∙ c.in-Some.is)
