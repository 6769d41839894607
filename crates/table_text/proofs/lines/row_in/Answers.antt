use Rattle.std.proofs.Common.{◌≡◌, ◌∙◌, ap, arith, List, ℕ, pos}
use Rattle.std.specs.Fmt.{signed_decimal}
use Rattle.std.proofs.lemmas.Int.{ints}
use Rattle.table_text.specs.Words.{word_of, behind_word}
use Rattle.table_text.proofs.LineTexts.{HasNumbers-row, second_word, behind_two, small-j, small-i}
use Rattle.table_text.proofs.lines.row_in.Goals as goal

pub returns-in_err-number-clause-only : goal.returns-in_err-number-clause-only
returns-in_err-number-clause-only c row within line =
    let is = within.row in
    let numbers = HasNumbers-row row is in
    let j : c.word.result.now ≡ signed_decimal row.j =
    c.word.ensures ∙ ap word_of c.behind_word-first.ensures ∙ ap second_word line ∙ numbers.j in
    cc (c.number.ensures row.j (small-j row is) j, c.in_err-number.was)

pub returns-in_err-number-2-clause-only : goal.returns-in_err-number-2-clause-only
returns-in_err-number-2-clause-only c row within line =
    let is = within.row in
    let numbers = HasNumbers-row row is in
    let i : c.word-2.result.now ≡ signed_decimal row.i =
    c.word-2.ensures ∙ ap word_of c.behind_word-second.ensures
    ∙ ap (λ (l : List ℕ). word_of (behind_word l)) c.behind_word.ensures
    ∙ ap (λ (l : List ℕ). second_word (behind_word l)) c.behind_word-first.ensures
    ∙ ap (λ (l : List ℕ). second_word (behind_two l)) line ∙ numbers.i in
    cc (c.number-2.ensures row.i (small-i row is) i, c.in_err-number-2.was)

pub returns-in_err-number-3-clause-only : goal.returns-in_err-number-3-clause-only
returns-in_err-number-3-clause-only c row within line =
    let is = within.row in
    let numbers = HasNumbers-row row is in
    let dim : c.word-3.result.now ≡ signed_decimal (pos row.dim) =
    c.word-3.ensures ∙ ap word_of c.behind_word-third.ensures
    ∙ ap (λ (l : List ℕ). word_of (behind_word l)) c.behind_word-2.ensures
    ∙ ap (λ (l : List ℕ). second_word (behind_word l)) c.behind_word-second.ensures
    ∙ ap (λ (l : List ℕ). second_word (behind_two l)) c.behind_word.ensures
    ∙ ap (λ (l : List ℕ). second_word (behind_two (behind_word l))) c.behind_word-first.ensures
    ∙ ap (λ (l : List ℕ). second_word (behind_two (behind_two l))) line ∙ numbers.dim in
    cc (c.number-3.ensures (pos row.dim) is.few dim, c.in_err-number-3.was)

pub returns-clause-only : goal.returns-clause-only
returns-clause-only c row within line =
    let is = within.row in
    let numbers = HasNumbers-row row is in
    let j : c.word.result.now ≡ signed_decimal row.j =
    c.word.ensures ∙ ap word_of c.behind_word-first.ensures ∙ ap second_word line ∙ numbers.j in
    let i : c.word-2.result.now ≡ signed_decimal row.i =
    c.word-2.ensures ∙ ap word_of c.behind_word-second.ensures
    ∙ ap (λ (l : List ℕ). word_of (behind_word l)) c.behind_word.ensures
    ∙ ap (λ (l : List ℕ). second_word (behind_word l)) c.behind_word-first.ensures
    ∙ ap (λ (l : List ℕ). second_word (behind_two l)) line ∙ numbers.i in
    let dim : c.word-3.result.now ≡ signed_decimal (pos row.dim) =
    c.word-3.ensures ∙ ap word_of c.behind_word-third.ensures
    ∙ ap (λ (l : List ℕ). word_of (behind_word l)) c.behind_word-2.ensures
    ∙ ap (λ (l : List ℕ). second_word (behind_word l)) c.behind_word-second.ensures
    ∙ ap (λ (l : List ℕ). second_word (behind_two l)) c.behind_word.ensures
    ∙ ap (λ (l : List ℕ). second_word (behind_two (behind_word l))) c.behind_word-first.ensures
    ∙ ap (λ (l : List ℕ). second_word (behind_two (behind_two l))) line ∙ numbers.dim in
    let j_is : c.in_ok-number.field-0 ≡ row.j = cc (c.number.ensures row.j (small-j row is) j, c.in_ok-number.was) in
    let i_is : c.in_ok-number-2.field-0 ≡ row.i = cc (c.number-2.ensures row.i (small-i row is) i, c.in_ok-number-2.was) in
    let dim_is : c.in_ok-number-3.field-0 ≡ pos row.dim = cc (c.number-3.ensures (pos row.dim) is.few dim, c.in_ok-number-3.was) in
    c.row_within.ensures.only row within (omega (arith, ints, j_is, small-j row is)) (omega (arith, ints, i_is, small-i row is))
    (omega (arith, ints, dim_is, is.few))
