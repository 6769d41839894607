use Rattle.std.proofs.Common.{◌≡◌, length, arith, rules, FitsSigned, w16}
use Rattle.std.proofs.lemmas.Int.{ints}
use Rattle.std.proofs.lemmas.List.{length-map}
use Rattle.std.specs.Global.{Vec}
use Rattle.kh_types.specs.Generators.{Generator}
use Rattle.sparse_block.specs.Inside.{lists_in}
use Rattle.sparse_block.proofs.KeptLemmas.{high-seen}
use Rattle.sparse_block.proofs.complex.Complex.high.Goals as goal

pub returns : goal.returns
returns g c =
    let names = c.self.inside.names in
    let low_fits : FitsSigned w16 c.self.inside.low = search rules in
    let count : c.len.result ≡ length (lists_in names.items) =
    omega (arith, c.len.ensures, names.ok.0, length-map names.items (λ (degree : Vec Generator). degree.items)) in
    omega (
      arith,
      ints,
      low_fits,
      count,
      c.from.ensures,
      c.self.invariant.end,
      c.self.invariant.some,
      high-seen c.self.invariant c.self.view_is,
    )
