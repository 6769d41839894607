-- What a fault of the tokens is for the text.
use Rattle.kh_lex.specs.declared.stop.LexStop.{LexStop}
use Rattle.kh_lex.specs.declared.stop.LexStop.TheVariants as lexical
use Rattle.gauss_code.specs.declared.stop.GaussStop.{GaussStop}
use Rattle.gauss_code.specs.declared.stop.GaussStop.TheVariants.{Text, Number, NoMemory}

-- a byte that begins no token is a fault of the text
abbrev pub gauss_stop_of : LexStop → GaussStop
gauss_stop_of (lexical.Bad place) = Text place
gauss_stop_of (lexical.Number place) = Number place
gauss_stop_of lexical.NoMemory = NoMemory
