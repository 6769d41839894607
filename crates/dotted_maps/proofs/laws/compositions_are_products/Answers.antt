use Rattle.dotted_maps.proofs.MapProducts.{matrix-composed, matrix-added, IsComposition-made}
use Rattle.dotted_maps.proofs.laws.compositions_are_products.Goals as goal

pub returns : goal.returns
returns c = record {
  product = λ p h k points m n o w first second whole row column cancels placed glued other outer inside is.
      matrix-composed p h k points m n o w first second whole row column cancels
      record { placed = placed; first = glued; second = other; whole = outer; inside = inside } is;
  added = λ p h k points m n o w first second whole old factor row column cancels placed glued other outer inside is.
      matrix-added p h k points m n o w first second whole old factor row column cancels
      record { placed = placed; first = glued; second = other; whole = outer; inside = inside } is;
  made = IsComposition-made;
}
