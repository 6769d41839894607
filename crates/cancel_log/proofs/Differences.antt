-- Where lists of lines first differ.
use Rattle.std.proofs.Common.{◌≡◌, ◌≢◌, ℕ, ◌+◌, ◌∙◌, List, [], ◌∷◌, ◌++◌, length, take, refl, sym, ap, arith}
use Rattle.std.specs.Prelude.{None, Some, slice_get}
use Rattle.std.proofs.Math.Seq.{take-append_seam}
use Rattle.std.proofs.lemmas.List.{append_assoc, length-append}
use Rattle.cancel_log.specs.LinesLeft.{DifferAt, LinesLeft, TakesLine}

-- two lists of lines begin with the same lines, and these are left
pub record BeginAlike (first wanted old left : LinesLeft) : Type 0 where
  pub front : List (List ℕ)
  pub lines : first.rest ≡ front ++ old.rest
  pub others : wanted.rest ≡ front ++ left.rest
  pub numbered : old.number ≡ first.number + length front

pub BeginAlike-next : (first wanted old left new after : LinesLeft) (line : List ℕ) → BeginAlike first wanted old left
    → TakesLine old line new → TakesLine left line after → BeginAlike first wanted new after
BeginAlike-next first wanted old left new after line alike takes also = record {
  front = alike.front ++ line ∷ [];
  lines = alike.lines ∙ ap (λ (ls : List (List ℕ)). alike.front ++ ls) takes.rest ∙ sym (append_assoc alike.front (line ∷ []) new.rest);
  others = alike.others ∙ ap (λ (ls : List (List ℕ)). alike.front ++ ls) also.rest ∙ sym (append_assoc alike.front (line ∷ []) after.rest);
  numbered = omega (arith, alike.numbered, takes.number, length-append alike.front (line ∷ []));
}

slice_get-behind : (front rest : List (List ℕ)) → slice_get (front ++ rest) (length front) ≡ slice_get rest 0
slice_get-behind [] rest = refl
slice_get-behind (line ∷ front) rest = slice_get-behind front rest

-- where other lines are left, they differ there
differ : (first wanted old left : LinesLeft) → BeginAlike first wanted old left → slice_get left.rest 0 ≢ slice_get old.rest 0
    → DifferAt first wanted old.number
differ first wanted old left alike other = (
  length alike.front,
  alike.numbered,
  record {
    before = ap (take (length alike.front)) alike.lines ∙ take-append_seam alike.front old.rest
        ∙ sym (ap (take (length alike.front)) alike.others ∙ take-append_seam alike.front left.rest);
    differ = λ same.
        other
        (sym (slice_get-behind alike.front left.rest)
        ∙ ap (λ (ls : List (List ℕ)). slice_get ls (length alike.front)) (sym alike.others)
        ∙ sym same
        ∙ ap (λ (ls : List (List ℕ)). slice_get ls (length alike.front)) alike.lines
        ∙ slice_get-behind alike.front old.rest);
  },
)

pub differ-line : (first wanted old left new : LinesLeft) (line : List ℕ) (number : ℕ) → BeginAlike first wanted old left
    → TakesLine old line new → slice_get left.rest 0 ≢ Some line → number ≡ old.number → DifferAt first wanted number
differ-line first wanted old left new line number alike takes other same =
    let at = differ first wanted old left alike
    (λ is. other (is ∙ ap (λ (ls : List (List ℕ)). slice_get ls 0) takes.rest)) in
    (at.0, same ∙ at.1, at.2)

pub differ-end : (first wanted old left : LinesLeft) (number : ℕ) → BeginAlike first wanted old left → old.rest ≡ []
    → slice_get left.rest 0 ≢ None → number ≡ old.number → DifferAt first wanted number
differ-end first wanted old left number alike end other same =
    let at = differ first wanted old left alike (λ is. other (is ∙ ap (λ (ls : List (List ℕ)). slice_get ls 0) end)) in
    (at.0, same ∙ at.1, at.2)

-- the next line

pub next-no : (old new : LinesLeft) (line other : List ℕ) → TakesLine old other new → other ≢ line → slice_get old.rest 0 ≢ Some line
next-no old new line other takes differ same =
    let so : Some other ≡ Some line = sym (ap (λ (ls : List (List ℕ)). slice_get ls 0) takes.rest) ∙ same in
    let is : other ≡ line = cc in differ is

pub next-none : (lines : List (List ℕ)) (line : List ℕ) → lines ≡ [] → slice_get lines 0 ≢ Some line
next-none lines line none same =
    let so : None ≡ Some line = sym (ap (λ (ls : List (List ℕ)). slice_get ls 0) none) ∙ same in absurd (cc)

pub next-yes : (old new : LinesLeft) (line other : List ℕ) → TakesLine old other new → other ≡ line → TakesLine old line new
next-yes old new line other takes same = record {
  rest = takes.rest ∙ ap (λ (l : List ℕ). l ∷ new.rest) same;
  number = takes.number;
}

pub ruleset nexts = (next-yes, next-no, next-none)

pub not-end : (old new : LinesLeft) (line : List ℕ) → TakesLine old line new → slice_get old.rest 0 ≢ None
not-end old new line takes same =
    let so : Some line ≡ None = sym (ap (λ (ls : List (List ℕ)). slice_get ls 0) takes.rest) ∙ same in absurd (cc)

pub ruleset ends = (not-end)
