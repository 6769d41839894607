use Rattle.kh_types.proofs.FewComponents.{component_count-le, first_fault-other}
use Rattle.kh_types.proofs.laws.sizes.components_are_few.Goals as goal

pub returns-clause-few : goal.returns-clause-few
returns-clause-few c = component_count-le

pub returns-clause-texts : goal.returns-clause-texts
returns-clause-texts c = first_fault-other
