-- The deformed cube of an accepted code as cells.
use Rattle.std.proofs.Common.{◌≡◌, ◌≢◌, ℕ, ◌+◌, ◌*◌, ◌%◌, ◌<◌, ◌∙◌, inl, inr, pos, ◌+ℤ◌, ◌-ℤ◌, sym, ap, arith, IsTrue}
use Rattle.std.specs.Prelude.{◌≤ℤ◌}
use Rattle.std.specs.List.{sum_by}
use Rattle.std.proofs.lemmas.Int.{ints}
use Rattle.std.proofs.Math.Nat.{zero-mod}
use Rattle.std.proofs.Math.Path.{fun_ext}
use Rattle.kh_types.specs.Acceptance.{accepted}
use Rattle.kh_types.specs.Code.{Code}
use Rattle.kh_types.specs.Generators.{Generator, generators, label_degree, one_count}
use Rattle.kh_types.specs.Residues.{Same}
use Rattle.kh_types.proofs.ListSums.{sum_by-alike}
use Rattle.cell_laws.specs.Cells.{Cells}
use Rattle.cell_laws.specs.Cubes.{cube_of}
use Rattle.square_laws.specs.Deformed.{deformed_coefficient}
use Rattle.cell_laws.specs.DeformedCubes.{deformed_cube_of}
use Rattle.square_laws.proofs.DeformedSquares.{deformed-square}
use Rattle.square_laws.proofs.RaisedDegrees.{deformed-plain, deformed-raised}

pub cube-plain : (p : ℕ) (code : Code) (plus minus : ℕ) → 1 < p → deformed_cube_of p 0 code plus minus ≡ cube_of p code plus minus
cube-plain p code plus minus above =
    ap with_coefficients (fun_ext (λ tail. fun_ext (λ head. deformed-plain p code tail head above)))
  where
    with_coefficients : (Generator → Generator → ℕ) → Cells Generator
    with_coefficients coefficient = record {
      list = generators code;
      homological = λ x. pos (one_count code x.state) -ℤ pos minus;
      quantum = λ x. label_degree code x +ℤ (pos (one_count code x.state + plus) -ℤ pos (2 * minus));
      coefficient = coefficient;
    }

pub cube-homological : (p h : ℕ) (code : Code) (plus minus : ℕ) (x y : Generator) → IsTrue (accepted code)
    → deformed_coefficient p h code x y ≢ 0
    → (deformed_cube_of p h code plus minus).homological y ≡ (deformed_cube_of p h code plus minus).homological x +ℤ pos 1
cube-homological p h code plus minus x y is some = omega (arith, ints, (deformed-raised p h code x y is some).homological)

pub cube-quantum : (p h : ℕ) (code : Code) (plus minus : ℕ) (x y : Generator) → IsTrue (accepted code)
    → deformed_coefficient p h code x y ≢ 0
    → (deformed_cube_of p h code plus minus).quantum x ≤ℤ (deformed_cube_of p h code plus minus).quantum y
cube-quantum p h code plus minus x y is some = elim (deformed-raised p h code x y is some).quantum [
  | inl same ↦ omega (arith, ints, same)
  | inr higher ↦ omega (arith, ints, higher)
]

pub cube-squares : (p h : ℕ) (code : Code) (x z : Generator) → 0 < p → IsTrue (accepted code)
    → Same p (sum_by (λ y. deformed_coefficient p h code x y * deformed_coefficient p h code y z) (generators code)) 0
cube-squares p h code x z positive is =
    ap (λ n. n % p)
    (sum_by-alike (λ y. deformed_coefficient p h code x y * deformed_coefficient p h code y z)
    (λ y. deformed_coefficient p h code y z * deformed_coefficient p h code x y)
    (λ y. commuted (deformed_coefficient p h code x y) (deformed_coefficient p h code y z)) (generators code))
    ∙ deformed-square p h code x z positive is ∙ sym (zero-mod p)
  where
    commuted : (a b : ℕ) → a * b ≡ b * a
    commuted a b = omega arith
