-- Bytes that are taken one behind the other.
use Rattle.std.proofs.Common.{◌≡◌, ℕ, List, [], ◌++◌, refl, sym, ap, ◌∙◌, append_assoc, Option, None, Some}
use Rattle.std.specs.Io.KnownBytes.{Consumes}
use Rattle.kh_io.proofs.KnownBytes.{Consumes-trans}
use Rattle.line_reader.specs.Advances.{IsAdvanced}

-- a source that is not read loses nothing
pub Consumes-none : (left : Option (List ℕ)) → Consumes left left []
Consumes-none None = tt
Consumes-none (Some bytes) = refl

-- one taking behind another
pub IsAdvanced-trans : (a b c : List ℕ) (x y z : Option (List ℕ)) (first second : List ℕ) → IsAdvanced a b x y first
    → IsAdvanced b c y z second → IsAdvanced a c x z (first ++ second)
IsAdvanced-trans a b c x y z first second one two = record {
  given = one.given ++ two.given;
  consumed = Consumes-trans x y z one.given two.given one.consumed two.consumed;
  same = sym (append_assoc a one.given two.given) ∙ ap (λ l. l ++ two.given) one.same ∙ append_assoc first b two.given
      ∙ ap (λ l. first ++ l) two.same ∙ sym (append_assoc first second c);
}

-- and what the source gave
pub given-trans : (a b c : List ℕ) (x y z : Option (List ℕ)) (first second : List ℕ) (one : IsAdvanced a b x y first) (two : IsAdvanced b c y z second)
    → (IsAdvanced-trans a b c x y z first second one two).given ≡ one.given ++ two.given
unfolding IsAdvanced-trans
given-trans a b c x y z first second one two = refl
