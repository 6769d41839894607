use Rattle.link_laws.proofs.WorkedPaths.{circles-one, curl-loop, trefoil-chiral, trefoil-knotted, trefoils-one}
use Rattle.link_laws.proofs.worked.worked_links.Goals as goal

pub returns : goal.returns
returns c =
    record {
      curl = curl-loop;
      trefoils = trefoils-one;
      circles = circles-one;
      knotted = trefoil-knotted;
      chiral = trefoil-chiral;
    }
