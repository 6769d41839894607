-- What the reading of a text comes to: a code, or why there is none.
use Rattle.std.specs.Prelude.{◌≡◌, ◌⊎◌, ℕ, List, Result, Ok, Err, Some, None}
use Rattle.kh_types.specs.Code.{Code}
use Rattle.kh_lex.specs.declared.stop.LexStop.TheVariants as lexical
use Rattle.kh_lex.specs.Cuts.{Stops}
use Rattle.kh_lex.specs.Grammar.{LeavesGrammar}
use Rattle.gauss_code.specs.declared.stop.GaussStop.{GaussStop}
use Rattle.gauss_code.specs.declared.stop.GaussStop.TheVariants.{Text, Number, NoMemory}
use Rattle.gauss_code.specs.Listings.{Listing}
use Rattle.gauss_code.specs.Grammar.{IsGaussText, Lists}
use Rattle.gauss_code.specs.Faults.{first_gauss_fault, signs_of}
use Rattle.gauss_code.specs.Codes.{listed_code}

-- a text reads as a code: it lists what has no fault, and the code is that of its body and signs
pub record ReadsAsGauss (text : List ℕ) (code : Code) : Type 0 where
  pub listing : Listing
  pub places : List ℕ
  pub lists : Lists text listing places
  pub good : first_gauss_fault listing places ≡ None
  pub same : code ≡ listed_code listing.body (signs_of listing)

-- a text lists what has a fault, and this is the first
pub record HasFault (text : List ℕ) (stop : GaussStop) : Type 0 where
  pub listing : Listing
  pub places : List ℕ
  pub lists : Lists text listing places
  pub first : first_gauss_fault listing places ≡ Some stop

-- what the reading of a text comes to. A byte that begins no token, or a number that is too large, is the first such fault of the
-- text, and then the grammar is not asked; where the text leaves the grammar, its labels are not; running out of memory is no
-- reading
abbrev pub IsGaussReading : List ℕ → Result Code GaussStop → Type 0
IsGaussReading text (Ok code) = ReadsAsGauss text code
IsGaussReading text (Err (Text place)) = Stops 0 text (lexical.Bad place) ⊎ LeavesGrammar IsGaussText text place
IsGaussReading text (Err (Number place)) = Stops 0 text (lexical.Number place)
IsGaussReading text (Err NoMemory) = ⊥
IsGaussReading text (Err stop) = HasFault text stop
