-- The replies of the commands `mirror` and `reverse` to a diagram.
use Rattle.kh_types.specs.Code.{Code}
use Rattle.link_algebra.specs.Mirrors.{mirror_of, reversal_of}
use Rattle.word_line.specs.declared.command.Form.TheVariants.{Pd}
use Rattle.kh_replies.specs.Convert.{convert_reply}
use Rattle.kh_runs.specs.Replies.{Reply}

-- the mirror of the diagram as a planar diagram text
abbrev pub mirror_reply : Code → Reply
mirror_reply code = convert_reply Pd (mirror_of code)

-- its reversal as such a text
abbrev pub reverse_reply : Code → Reply
reverse_reply code = convert_reply Pd (reversal_of code)
