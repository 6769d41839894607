-- Where an input is cut.
use Rattle.std.proofs.Common.{◌≡◌, ◌≢◌, ℕ, ◌+◌, ◌∙◌, inl, inr, List, [], ◌∷◌, ◌++◌, length, drop, ap, subst, refl, arith, Bool, true, All}
use Rattle.std.specs.Prelude.{cond, not}
use Rattle.std.specs.List.{take_while}
use Rattle.std.proofs.Math.ListN.{drop_of_length-le}
use Rattle.std.proofs.Math.Seq.{drop-append-add}
use Rattle.std.proofs.lemmas.Bool.Decides.{eqb_tells}
use Rattle.std.proofs.lemmas.List.{append-nil}
use Rattle.std.proofs.lemmas.List.Elements.{All-head, All-tail}
use Rattle.std.proofs.lemmas.List.Sums.{take_while-cons}
use Rattle.kh_inputs.specs.Parts.{code_part, is_no_semicolon, part_behind}

-- a byte is no semicolon
abbrev pub IsNoSemicolon : ℕ → Type 0
IsNoSemicolon byte = byte ≢ 59

goes-on : (byte : ℕ) → IsNoSemicolon byte → is_no_semicolon byte ≡ true
goes-on byte other = elim (eqb_tells byte 59) [ inl here ↦ absurd (other here.1) | inr there ↦ ap not there.0 ]

-- the part before what ends it
code-before : (code rest : List ℕ) → All IsNoSemicolon code → code_part rest ≡ [] → code_part (code ++ rest) ≡ code
code-before [] rest are ends = ends
code-before (byte ∷ code) rest are ends =
    take_while-cons is_no_semicolon byte (code ++ rest)
    ∙ ap (λ (test : Bool). cond test (byte ∷ take_while is_no_semicolon (code ++ rest)) [])
    (goes-on byte (All-head IsNoSemicolon byte code are))
    ∙ ap (λ (bytes : List ℕ). byte ∷ bytes) (code-before code rest (All-tail IsNoSemicolon byte code are) ends)

script-from : (bytes code : List ℕ) → code_part bytes ≡ code → part_behind bytes ≡ drop (length code + 1) bytes
script-from bytes code is_code = ap (λ (part : List ℕ). drop (length part + 1) bytes) is_code

pub cut-at_semicolon : (code script : List ℕ) → All IsNoSemicolon code
    → (code_part (code ++ 59 ∷ script) ≡ code) × (part_behind (code ++ 59 ∷ script) ≡ script)
cut-at_semicolon code script are =
    let is_code = code-before code (59 ∷ script) are (take_while-cons is_no_semicolon 59 script) in (
      is_code,
      script-from (code ++ 59 ∷ script) code is_code ∙ drop-append-add code (59 ∷ script) 1,
    )

pub whole-without : (code : List ℕ) → All IsNoSemicolon code → (code_part code ≡ code) × (part_behind code ≡ [])
whole-without code are =
    let is_code = subst (λ (bytes : List ℕ). code_part bytes ≡ code) (append-nil code) (code-before code [] are refl) in (
      is_code,
      script-from code code is_code ∙ drop_of_length-le code (omega arith),
    )
