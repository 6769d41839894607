-- Sums over all labels of a state of what stands at those that marks give.
use Rattle.std.proofs.lemmas.Bool.Decides.{nat_tests}
use Rattle.std.proofs.Common.{◌≡◌, ℕ, ◌*◌, ◌^◌, ◌≤◌, ◌∙◌, ◌⊎◌, inl, inr, List, sym, ap, arith, IsTrue}
use Rattle.std.specs.List.{sum_by, range_with_len}
use Rattle.std.proofs.lemmas.Bool.{cases_Bool}
use Rattle.kh_types.specs.Acceptance.{accepted}
use Rattle.kh_types.specs.Code.{Code}
use Rattle.kh_types.specs.Circles.{circle_count}
use Rattle.kh_types.specs.Generators.{Generator, generator_of}
use Rattle.kh_types.specs.CircleNumbers.{IsName}
use Rattle.kh_types.proofs.ListSums.{sum_by-none, sum_by-single}
use Rattle.square_laws.proofs.Marks.{hits, hits-circle}
use Rattle.kh_types.specs.Bits.{one_if}
use Rattle.square_laws.proofs.LabelNumbers.{label-exists, label-once}
use Rattle.square_laws.proofs.EdgeMarks.{IsMarked, is_marked, is_marked-decides}

-- what counts where marks give the labels of a number
pub term-marked : (code : Code) (generator : Generator) (marked : List ℕ) (n : ℕ) → (IsMarked code generator marked → n ≡ 0)
    → n * one_if (is_marked code generator marked) ≡ 0
term-marked code generator marked n zero_where = grind (arith, nat_tests, cases_Bool, is_marked, is_marked-decides)

-- a sum over all labels of a state of what is `total` at those that marks give: there is one, where each circle has one mark at most
pub marks-sum : (code : Code) (state : ℕ) (marked : List ℕ) (term : ℕ → ℕ) (total : ℕ) → IsTrue (accepted code)
    → ((number : ℕ) → IsMarked code (generator_of state number) marked → term number ≡ total)
    → (total ≡ 0) ⊎ ((arc : ℕ) → IsName code arc → hits code state marked arc ≤ 1)
    → sum_by (λ number. term number * one_if (is_marked code (generator_of state number) marked))
    (range_with_len 0 (2 ^ circle_count code state)) ≡ total
marks-sum code state marked term total is terms (inl none) = grind (arith, nat_tests, sum_by-none, is_marked, term-marked)
marks-sum code state marked term total is terms (inr small) =
    let found = label-exists code state (hits code state marked) is small (hits-circle code state marked) in
    let gives : IsMarked code (generator_of state found.0) marked = record { at = λ arc name. sym (found.2 arc name) } in
    sum_by-single (λ number. term number * one_if (is_marked code (generator_of state number) marked)) 0 (2 ^ circle_count code state)
    found.0 (omega arith) (omega (arith, found.1))
    (λ number from below other. term-marked code (generator_of state number) marked (term number) (λ too.
    absurd (other (label-once code state number found.0 (omega arith) found.1
    (λ arc name. sym (too.at arc name) ∙ gives.at arc name)))))
    ∙ ap (λ b. term found.0 * one_if b) ((is_marked-decides code (generator_of state found.0) marked).1 gives)
    ∙ (let once : term found.0 * 1 ≡ term found.0 = omega arith in once) ∙ terms found.0 gives
