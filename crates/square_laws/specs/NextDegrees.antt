-- The degrees between which the differential leads.
use Rattle.std.specs.Prelude.{◌≡◌, pos, ◌+ℤ◌}
use Rattle.kh_types.specs.Code.{Code}
use Rattle.kh_types.specs.Generators.{Generator, homological_degree, quantum_degree}

-- a generator of the next homological degree and the same quantum degree (Bar-Natan 2002, section 3)
pub record IsNext (code : Code) (tail head : Generator) : Type 0 where
  pub homological : homological_degree code head ≡ homological_degree code tail +ℤ pos 1
  pub quantum : quantum_degree code head ≡ quantum_degree code tail
