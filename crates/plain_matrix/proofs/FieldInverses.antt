-- A field has inverses.
use Rattle.std.proofs.Common.{ℕ, arith}
use Rattle.prime_field.specs.Residues.{IsField}
use Rattle.kh_types.specs.Residues.{HasInverses}

pub inverses-field : (p : ℕ) → IsField p → HasInverses p
inverses-field p field = omega arith
