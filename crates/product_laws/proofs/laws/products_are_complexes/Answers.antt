use Rattle.product_laws.proofs.Squares.{AreComplex-product}
use Rattle.product_laws.proofs.laws.products_are_complexes.Goals as goal

pub returns : goal.returns
returns g c = AreComplex-product
