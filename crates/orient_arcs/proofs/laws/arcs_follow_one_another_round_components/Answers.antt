use Rattle.orient_arcs.proofs.FirstArcs.{number-next, next-once, number-inside, GoesRound-accepted}
use Rattle.orient_arcs.proofs.laws.arcs_follow_one_another_round_components.Goals as goal

pub returns : goal.returns
returns c = record {
  stays = number-next;
  once = next-once;
  interval = number-inside;
  round = GoesRound-accepted;
}
