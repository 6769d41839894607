use Rattle.diagram_moves.proofs.Numbered.{IsAccepted-renumber, components-renumber, over-renumber, sign-renumber, circles-renumber, state_sum-renumber}
use Rattle.diagram_moves.proofs.laws.planar_parts_become_accepted_codes.Goals as goal

pub returns : goal.returns
returns c = record {
  accepted = IsAccepted-renumber;
  components = components-renumber;
  over = over-renumber;
  signs = sign-renumber;
  circles = circles-renumber;
  sums = state_sum-renumber;
}
