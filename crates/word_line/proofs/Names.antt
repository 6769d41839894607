-- Words that name an option, by their looks.
use Rattle.std.proofs.lemmas.Bool.Decides.{nat_tests}
use Rattle.std.proofs.Common.{◌≡◌, ◌==◌, inl, inr, Bool, true, false, [], ◌∷◌, ◌++◌, length, Option, Some, None, refl, sym, ap, cond, ◌∙◌, arith, true≢false, get_or}
use Rattle.std.proofs.lemmas.Bool.{cases_lt, eqb-true}
use Rattle.std.proofs.lemmas.List.Sums.{fails_before_first, passes_at_first, split_at_first}
use Rattle.clap.proofs.CutLemmas.{Lacks, before_first-Lacks, list_any-Lacks, list_any-at}
use Rattle.std.proofs.lemmas.Option.{none-some, same_Some}
use Rattle.std.specs.Prelude.{codes}
use Rattle.std.specs.List.{after_first, before_first, position_or_len}
use Rattle.std.specs.Option.{option_and_then}
use Rattle.std.specs.Str.{bytes_eq}
use Rattle.clap.specs.Lexer.{has_byte, long_of, long_of_rest, name_and_value, strip_byte}
use Rattle.clap.specs.Walk.{Text}
use Rattle.word_line.specs.Pieces.{HasNoDash, Key, key_name}
use Rattle.word_line.proofs.Machine.{IsText}

-- ---- the looks of words

-- a text with no dash looks like a text
pub no_dash_text : (word : Text) → HasNoDash word → IsText word
no_dash_text word plain = grind (arith, nat_tests)

-- a name, and what stands behind `=` if there is something
abbrev with_value : Text → Option Text → Text
with_value name None = name
with_value name (Some value) = name ++ 61 ∷ value

cut_is : (rest : Text) → with_value (before_first (λ x. x == 61) rest) (cond (has_byte 61 rest) (Some (after_first (λ x. x == 61) rest)) None) ≡ rest
cut_is rest = elim (cases_lt (position_or_len (λ x. x == 61) rest) (length rest)) [
  | inl below ↦
      let hit : (get_or rest (position_or_len (λ x. x == 61) rest) 0 == 61) ≡ true = passes_at_first (λ x. x == 61) rest 0 below in
      let split : rest ≡ before_first (λ x. x == 61) rest ++ 61 ∷ after_first (λ x. x == 61) rest =
      split_at_first (λ x. x == 61) rest 0 below
      ∙ ap (λ x. before_first (λ x. x == 61) rest ++ x ∷ after_first (λ x. x == 61) rest) (eqb-true _ 61 hit) in
      let has_it : has_byte 61 rest ≡ true =
      ap (has_byte 61) split ∙ list_any-at 61 (before_first (λ x. x == 61) rest) (after_first (λ x. x == 61) rest) in
      ap (λ b. with_value (before_first (λ x. x == 61) rest) (cond b (Some (after_first (λ x. x == 61) rest)) None)) has_it ∙ sym split
  | inr past ↦
      let lacks : Lacks 61 rest = λ i low is. true≢false (sym (ap (λ x. x == 61) is) ∙ fails_before_first (λ x. x == 61) rest i 0 (omega (arith, low, past))) in
      ap (λ b. with_value (before_first (λ x. x == 61) rest) (cond b (Some (after_first (λ x. x == 61) rest)) None)) (list_any-Lacks 61 rest lacks)
      ∙ before_first-Lacks 61 rest lacks
]

name_value-is : (rest name : Text) (value : Option Text) → name_and_value rest ≡ (name, value) → rest ≡ with_value name value
name_value-is rest name value same = sym (cut_is rest) ∙ ap (λ (p : Text × Option Text). with_value p.0 p.1) same

-- the word of a name and maybe a value
pub long_of-is : (word name : Text) (value : Option Text) → long_of word ≡ Some (name, value) → word ≡ 45 ∷ 45 ∷ with_value name value
long_of-is [] name value same = absurd (none-some (name, value) same)
long_of-is (a ∷ word) name value same = first (a == 45) refl same
  where
    third : (rest : Text) → long_of_rest rest ≡ Some (name, value) → rest ≡ with_value name value
    third [] same = absurd (none-some (name, value) same)
    third (x ∷ rest) same = name_value-is (x ∷ rest) name value (same_Some (name_and_value (x ∷ rest)) (name, value) same)

    second : (word : Text) → option_and_then long_of_rest (strip_byte 45 word) ≡ Some (name, value) → word ≡ 45 ∷ with_value name value
    second [] same = absurd (none-some (name, value) same)
    second (b ∷ word) same = go (b == 45) refl same
      where
        go : (t : Bool) → (b == 45) ≡ t → option_and_then long_of_rest (cond t (Some word) None) ≡ Some (name, value) → b ∷ word ≡ 45 ∷ with_value name value
        go t is same = grind (arith, nat_tests, eqb-true, third, none-some)

    first : (t : Bool) → (a == 45) ≡ t → option_and_then long_of_rest (option_and_then (strip_byte 45) (cond t (Some word) None)) ≡ Some (name, value)
        → a ∷ word ≡ 45 ∷ 45 ∷ with_value name value
    first t is same = grind (arith, nat_tests, eqb-true, second, none-some)

pub long_of-joined : (key : Key) (value : Text) → long_of (codes "--" ++ (key_name key ++ (codes "=" ++ value))) ≡ Some (key_name key, Some value)
long_of-joined key value = grind (arith, nat_tests)

pub dashes-name : (key : Key) (more : Text) → bytes_eq (codes "--" ++ (key_name key ++ more)) (45 ∷ 45 ∷ []) ≡ false
dashes-name key more = grind (arith, nat_tests)
