use Rattle.kh_replies.proofs.JonesLemmas.{line_of_sum}
use Rattle.kh_replies.proofs.jones.jones_line.Goals as goal

pub returns : goal.returns
returns c = line_of_sum c.args.counted.now c.state_sum.result c.in_ok-line.line.items c.state_sum.ensures c.in_ok-line.ensures.text
