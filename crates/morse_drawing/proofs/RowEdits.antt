-- The row of a page, edited in place.
use Rattle.std.proofs.lemmas.Bool.Decides.{nat_tests}
use Rattle.std.proofs.Common.{◌≡◌, ◌∙◌, ℕ, ◌+◌, ◌<◌, List, [], ◌∷◌, ◌++◌, length, take, drop, sym, ap, arith}
use Rattle.std.specs.List.{insert, remove}
use Rattle.std.proofs.lemmas.List.{append_assoc, length-take-le}
use Rattle.std.proofs.lemmas.List.Edits.{insert-append_right, remove-append_right}
use Rattle.morse_drawing.proofs.Parts.{parts-one, parts-two}

pub remove-here : (front : List ℕ) (x : ℕ) (back : List ℕ) (i : ℕ) → length front ≡ i → remove (front ++ x ∷ back) i ≡ front ++ back
remove-here front x back i size = grind (arith, nat_tests, remove-append_right front (x ∷ back) i i size (omega arith))

pub insert-here : (front : List ℕ) (x : ℕ) (back : List ℕ) (i : ℕ) → length front ≡ i → insert (front ++ back) i x ≡ front ++ x ∷ back
insert-here front x back i size = grind (arith, nat_tests, insert-append_right front back i i x size (omega arith))

-- two neighbours are removed
pub removed_two : (xs : List ℕ) (i : ℕ) → i + 1 < length xs → remove (remove xs i) i ≡ take i xs ++ drop (i + 2) xs
removed_two xs i below =
    let front = take i xs in
    let size : length front ≡ i = length-take-le i xs (omega (arith, below)) in
    let back = drop (i + 2) xs in
    ap (λ ys. remove (remove ys i) i) (parts-two i xs below)
    ∙ ap (λ ys. remove ys i) (remove-here front _ (_ ∷ back) i size) ∙ remove-here front _ back i size

-- one gives way to three
pub three_for_one : (xs : List ℕ) (i a b c : ℕ) → i < length xs
    → insert (insert (insert (remove xs i) i c) i b) i a ≡ take i xs ++ (a ∷ b ∷ c ∷ []) ++ drop (i + 1) xs
three_for_one xs i a b c below =
    let front = take i xs in
    let size : length front ≡ i = length-take-le i xs (omega (arith, below)) in
    let back = drop (i + 1) xs in
    ap (λ ys. insert (insert (insert (remove ys i) i c) i b) i a) (parts-one i xs below)
    ∙ ap (λ ys. insert (insert (insert ys i c) i b) i a) (remove-here front _ back i size)
    ∙ ap (λ ys. insert (insert ys i b) i a) (insert-here front c back i size)
    ∙ ap (λ ys. insert ys i a) (insert-here front b (c ∷ back) i size) ∙ insert-here front a (b ∷ c ∷ back) i size
    ∙ sym (append_assoc front (a ∷ b ∷ c ∷ []) back)
