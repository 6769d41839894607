-- The first line of a text.
use Rattle.std.proofs.Common.{◌≡◌, ℕ, suc, ◌+◌, ◌<◌, ◌≤◌, ◌∙◌, List, [], ◌∷◌, ◌++◌, length, take, drop, ap, refl, arith, Bool, true, false, cond, not}
use Rattle.std.specs.Prelude.{None, Some, nat_lt}
use Rattle.std.specs.List.{AllByRecursion, position, position_or_len}
use Rattle.std.proofs.lemmas.Bool.{ltb-false}
use Rattle.std.proofs.lemmas.List.{length-append, take_all}
use Rattle.table_text.specs.Lines.{first_line}
use Rattle.kh_lex.specs.Lines.{is_line_feed}

-- through the first line feed

cut_at : (b : Bool) (byte : ℕ) (more : List ℕ) (n : ℕ) → first_line more ≡ take (n + 1) more
    → cond b (byte ∷ []) (byte ∷ first_line more) ≡ take (cond (not b) (1 + n) 0 + 1) (byte ∷ more)
cut_at true byte more n is = refl
cut_at false byte more n is =
    let e : suc (n + 1) ≡ 1 + n + 1 = omega arith in
    ap (λ (bytes : List ℕ). byte ∷ bytes) is ∙ ap (λ m. take m (byte ∷ more)) e

first_line-take : (text : List ℕ) → first_line text ≡ take (position_or_len is_line_feed text + 1) text
first_line-take [] = refl
first_line-take (byte ∷ more) = cut_at (is_line_feed byte) byte more (position_or_len is_line_feed more) (first_line-take more)

found : (b : Bool) (n m : ℕ) → cond b (Some n) None ≡ Some m → n ≡ m
found true n m is = cc
found false n m is = cc

none : (b : Bool) (n : ℕ) → cond b (Some n) None ≡ None → b ≡ false
none true n is = cc
none false n is = refl

pub first_line-found : (text : List ℕ) (feed : ℕ) → position is_line_feed text ≡ Some feed → first_line text ≡ take (feed + 1) text
first_line-found text feed is =
    first_line-take text
    ∙ ap (λ n. take (n + 1) text) (found (nat_lt (position_or_len is_line_feed text) (length text)) (position_or_len is_line_feed text) feed is)

pub first_line-none : (text : List ℕ) → position is_line_feed text ≡ None → first_line text ≡ text
first_line-none text is =
    let past = ltb-false (position_or_len is_line_feed text) (length text)
    (none (nat_lt (position_or_len is_line_feed text) (length text)) (position_or_len is_line_feed text) is) in
    first_line-take text ∙ take_all (position_or_len is_line_feed text + 1) text (omega (arith, past))

pub ruleset cuts = (first_line-found, first_line-none)

-- bytes without a line feed, and then one

pub first_line-line : (front more : List ℕ) → AllByRecursion (λ byte. is_line_feed byte ≡ false) front
    → first_line (front ++ 10 ∷ more) ≡ front ++ 10 ∷ []
first_line-line [] more none = refl
first_line-line (byte ∷ front) more (other, none) =
    ap (λ b. cond b (byte ∷ []) (byte ∷ first_line (front ++ 10 ∷ more))) other
    ∙ ap (λ (bytes : List ℕ). byte ∷ bytes) (first_line-line front more none)

-- the first line of a text, and what is behind it

once : (b : Bool) (byte : ℕ) (more : List ℕ) → is_line_feed byte ≡ b → first_line (first_line more) ≡ first_line more
    → first_line (cond b (byte ∷ []) (byte ∷ first_line more)) ≡ cond b (byte ∷ []) (byte ∷ first_line more)
once true byte more is same = ap (λ c. cond c (byte ∷ []) (byte ∷ [])) is
once false byte more is same =
    ap (λ c. cond c (byte ∷ []) (byte ∷ first_line (first_line more))) is ∙ ap (λ (bytes : List ℕ). byte ∷ bytes) same

pub first_line-first_line : (text : List ℕ) → first_line (first_line text) ≡ first_line text
first_line-first_line [] = refl
first_line-first_line (byte ∷ more) = once (is_line_feed byte) byte more refl (first_line-first_line more)

with_rest : (b : Bool) (byte : ℕ) (line more : List ℕ) → line ++ drop (length line) more ≡ more
    → cond b (byte ∷ []) (byte ∷ line) ++ drop (length (cond b (byte ∷ []) (byte ∷ line))) (byte ∷ more) ≡ byte ∷ more
with_rest true byte line more is = refl
with_rest false byte line more is = ap (λ (bytes : List ℕ). byte ∷ bytes) is

pub first_line-drop : (text : List ℕ) → first_line text ++ drop (length (first_line text)) text ≡ text
first_line-drop [] = refl
first_line-drop (byte ∷ more) = with_rest (is_line_feed byte) byte (first_line more) more (first_line-drop more)

not_empty : (b : Bool) (byte : ℕ) (line : List ℕ) → 0 < length (cond b (byte ∷ []) (byte ∷ line))
not_empty true byte line = omega arith
not_empty false byte line = omega arith

pub first_line-some : (text : List ℕ) → 0 < length text → 0 < length (first_line text)
first_line-some [] some = absurd (omega (arith, some))
first_line-some (byte ∷ more) some = not_empty (is_line_feed byte) byte (first_line more)

pub length-first_line-le : (text : List ℕ) → length (first_line text) ≤ length text
length-first_line-le text =
    let line = first_line text in
    omega (arith, ap length (first_line-drop text), length-append line (drop (length line) text))
