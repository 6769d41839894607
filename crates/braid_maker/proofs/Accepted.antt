-- The closure of a braid is accepted.
use Rattle.std.proofs.Common.{◌≡◌, ℕ, zero, suc, ◌+◌, ◌*◌, ◌/◌, ◌%◌, ◌^◌, ◌<◌, ◌≤◌, ℤ, List, length, refl, ap, subst, arith, Bool, true, false, cond}
use Rattle.std.specs.Prelude.{IsTrue, nat_abs, nat_eq, pos, neg_ℤ}
use Rattle.kh_types.specs.declared.limits.TheConstants.{COMPONENTS}
use Rattle.kh_types.specs.Acceptance.{accepted}
use Rattle.kh_types.specs.Components.{component_count}
use Rattle.kh_types.proofs.AcceptedLemmas.{HasArcsTwice-directed, IsAccepted-is}
use Rattle.circle_smoothing.specs.GeneratorCounts.{generator_count}
use Rattle.orient_arcs.proofs.Bridge.{IsDirected-renumbered}
use Rattle.orient_arcs.proofs.AlikeCrossings.{AreAlike-renumbered, AreAlike-then}
use Rattle.braid_maker.specs.Braids.{lower_left_is_over, left_of}
use Rattle.braid_maker.specs.Closures.{AreLetters, closure, closure_parts, code_of_number, letters_of, straight_count}
use Rattle.code_passes.specs.Parts.{ArePaired, Parts}
use Rattle.orient_arcs.specs.Renumbered.{renumber}
use Rattle.gluing_laws.specs.Alike.{AreAlike}
use Rattle.kh_types.specs.Accepted.{IsDirected}
use Rattle.braid_maker.proofs.AlikeCodes.{IsCheckerboard-alike_braid, face_count-alike_braid}
use Rattle.braid_maker.proofs.CircleJoins.{IsBraidCode, generator_count-braid}
use Rattle.braid_maker.proofs.ComponentJoins.{component_count-braid}
use Rattle.braid_maker.proofs.Names.{AreAlike-named}
use Rattle.braid_maker.proofs.Paired.{ArePaired-named}

-- what renumbering gives of parts: a directed code that is alike to them
pub record IsRenumbered (parts : Parts) : Type 0 where
  pub directed : IsDirected (renumber parts).crossings
  pub alike : AreAlike parts.crossings (renumber parts).crossings

pub ArePaired-closure : (strands : ℕ) (letters : List ℤ) → ArePaired (closure_parts strands letters)
ArePaired-closure strands letters =
    ArePaired-named strands (length letters) (left_of letters) (lower_left_is_over letters) (straight_count strands letters)

pub IsBraidCode-closure : (strands : ℕ) (letters : List ℤ) → AreLetters strands letters → IsRenumbered (closure_parts strands letters)
    → IsBraidCode (length letters) (left_of letters) (lower_left_is_over letters) strands (closure strands letters)
IsBraidCode-closure strands letters are is = record {
  alike = AreAlike-then _ _ _
      (AreAlike-named strands (length letters) (left_of letters) (lower_left_is_over letters) (straight_count strands letters)) is.alike;
  twice = HasArcsTwice-directed (closure strands letters).crossings is.directed;
  first = λ place below. (are place below).0;
  last = λ place below. (are place below).1;
  loops = refl;
}

pub accepted-closure : (strands : ℕ) (letters : List ℤ) → AreLetters strands letters → strands ≤ COMPONENTS
    → IsRenumbered (closure_parts strands letters) → IsTrue (accepted (closure strands letters))
accepted-closure strands letters are few is =
    let code = closure strands letters in
    let n = length letters in
    let left = left_of letters in
    let over = lower_left_is_over letters in
    let braid = IsBraidCode-closure strands letters are is in
    let components = component_count-braid n left over strands code braid in
    (IsAccepted-is code).1
    (record {
      directed = is.directed;
      checkerboard = IsCheckerboard-alike_braid n left over code.crossings braid.alike braid.twice;
      faces = face_count-alike_braid n (strands + 1) left over code.crossings braid.alike braid.twice
          (λ x below. omega (arith, (are x below).1));
      components = omega (arith, components, few);
    })

pub generators-closure : (strands : ℕ) (letters : List ℤ) → AreLetters strands letters → IsRenumbered (closure_parts strands letters)
    → generator_count (closure strands letters) ≤ 2 ^ strands * 3 ^ length letters
generators-closure strands letters are is =
    generator_count-braid (length letters) (left_of letters) (lower_left_is_over letters) strands (closure strands letters)
    (IsBraidCode-closure strands letters are is)

pub components-closure : (strands : ℕ) (letters : List ℤ) → AreLetters strands letters → IsRenumbered (closure_parts strands letters)
    → component_count (closure strands letters).crossings + (closure strands letters).loops ≤ strands
components-closure strands letters are is =
    component_count-braid (length letters) (left_of letters) (lower_left_is_over letters) strands (closure strands letters)
    (IsBraidCode-closure strands letters are is)

-- the letters of a number

pub length-letters : (count number : ℕ) → length (letters_of count number) ≡ count
length-letters zero number = refl
length-letters (suc count) number = ap suc (length-letters count (number / 4))

letter-between : (a b c : Bool) → (let m = nat_abs (cond a (pos 1) (cond b (neg_ℤ (pos 1)) (cond c (pos 2) (neg_ℤ (pos 2))))) in
    (1 ≤ m) × (m < 3))
letter-between true b c = (omega arith, omega arith)
letter-between false true c = (omega arith, omega arith)
letter-between false false true = (omega arith, omega arith)
letter-between false false false = (omega arith, omega arith)

pub AreLetters-number : (count number : ℕ) → AreLetters 3 (letters_of count number)
AreLetters-number zero number place below = absurd (omega (arith, below))
AreLetters-number (suc count) number zero below = letter-between (nat_eq (number % 4) 0) (nat_eq (number % 4) 1) (nat_eq (number % 4) 2)
AreLetters-number (suc count) number (suc place) below = AreLetters-number count (number / 4) place (omega (arith, below))

pub accepted-number : (number : ℕ) → IsRenumbered (closure_parts 3 (letters_of 10 number)) → IsTrue (accepted (code_of_number number))
accepted-number number is = accepted-closure 3 (letters_of 10 number) (AreLetters-number 10 number) (omega arith) is

pub generators-number : (number : ℕ) → IsRenumbered (closure_parts 3 (letters_of 10 number))
    → generator_count (code_of_number number) ≤ 472392
generators-number number is =
    subst (λ (k : ℕ). generator_count (code_of_number number) ≤ k)
    (ap (λ k. 2 ^ 3 * 3 ^ k) (length-letters 10 number))
    (generators-closure 3 (letters_of 10 number) (AreLetters-number 10 number) is)

-- and renumbering gives what is wanted

pub IsRenumbered-closure : (strands : ℕ) (letters : List ℤ) → IsRenumbered (closure_parts strands letters)
IsRenumbered-closure strands letters = record {
  directed = IsDirected-renumbered (closure_parts strands letters) (ArePaired-closure strands letters);
  alike = AreAlike-renumbered (closure_parts strands letters) (ArePaired-closure strands letters);
}

pub closure-is_accepted : (strands : ℕ) (letters : List ℤ) → AreLetters strands letters → strands ≤ COMPONENTS
    → IsTrue (accepted (closure strands letters))
closure-is_accepted strands letters are few = accepted-closure strands letters are few (IsRenumbered-closure strands letters)

pub number-is_accepted : (number : ℕ) → IsTrue (accepted (code_of_number number))
number-is_accepted number = accepted-number number (IsRenumbered-closure 3 (letters_of 10 number))

pub number-is_small : (number : ℕ) → generator_count (code_of_number number) ≤ 472392
number-is_small number = generators-number number (IsRenumbered-closure 3 (letters_of 10 number))
