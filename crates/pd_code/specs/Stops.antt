-- What a fault of the tokens is for the text.
use Rattle.kh_lex.specs.declared.stop.LexStop.{LexStop}
use Rattle.kh_lex.specs.declared.stop.LexStop.TheVariants as lexical
use Rattle.pd_code.specs.declared.stop.PdStop.{PdStop}
use Rattle.pd_code.specs.declared.stop.PdStop.TheVariants.{Text, Number, NoMemory}

-- a byte that begins no token is a fault of the text
abbrev pub pd_stop_of : LexStop → PdStop
pd_stop_of (lexical.Bad place) = Text place
pd_stop_of (lexical.Number place) = Number place
pd_stop_of lexical.NoMemory = NoMemory
