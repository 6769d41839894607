use Rattle.layer_laws.proofs.RenamedLayers.{survivors-renamed}
use Rattle.layer_laws.proofs.laws.survivors.renamed_layers_have_the_same_survivors.Goals as goal

pub returns : goal.returns
returns c p to sign first second field filtered other_filtered are i t =
    survivors-renamed p to sign first second are field filtered other_filtered i t
