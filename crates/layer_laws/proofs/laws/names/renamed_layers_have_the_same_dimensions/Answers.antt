use Rattle.layer_laws.proofs.RenamedLayers.{dimension-renamed}
use Rattle.layer_laws.proofs.laws.names.renamed_layers_have_the_same_dimensions.Goals as goal

pub returns : goal.returns
returns c p to sign first second field complex other_complex are i j =
    dimension-renamed p to sign first second are field complex other_complex i j
