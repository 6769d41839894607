use Rattle.product_laws.proofs.Kuenneth.{dimension-product}
use Rattle.product_laws.proofs.laws.products_multiply_dimensions.Goals as goal

pub returns : goal.returns
returns g c = dimension-product
