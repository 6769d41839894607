-- Two lists of entries that agree up to a place, and the first place at which they differ.
use Rattle.std.proofs.Common.{◌≡◌, ◌≢◌, ℕ, ◌+◌, ◌<◌, ◌≤◌, ◌∙◌, inl, inr, List, sym, subst, subst₂, arith}
use Rattle.std.proofs.lemmas.Bool.Decides.{eqb_tells, leb_tells}
use Rattle.sparse_block.specs.Entries.{Entry, AreEntries, value_at}
use Rattle.sparse_block.specs.Least.{IsLeast}
use Rattle.sparse_block.specs.LinePairs.{first_place_of, rest_after, value_first}
use Rattle.sparse_block.proofs.RestLemmas.{HasMore, RestOf, bound-first, rest-after, rest-left, rest-right, rest-whole, value-between, value-first}

-- two lists that agree as far as both are read

pub record Agree (left right rest_left rest_right : List Entry) : Type 0 where
  pub p : ℕ
  pub q : ℕ
  pub bound : ℕ
  pub in_left : RestOf p bound left rest_left
  pub in_right : RestOf q bound right rest_right
  pub same : (place : ℕ) → place < bound → value_at left place ≡ value_at right place

pub agree_none : (p q size other_size : ℕ) (left right : List Entry) → AreEntries p size left → AreEntries q other_size right
    → Agree left right left right
agree_none p q size other_size left right are are_other =
    record {
      p = p;
      q = q;
      bound = 0;
      in_left = rest-whole p size left are;
      in_right = rest-whole q other_size right are_other;
      same = λ place before. absurd (omega (arith, before));
    }

-- they agree up to the first place that is left
pub record AgreeUpTo (left right rest_left rest_right : List Entry) (p q place : ℕ) : Type 0 where
  pub at_left : RestOf p place left rest_left
  pub at_right : RestOf q place right rest_right
  pub same : (k : ℕ) → k < place → value_at left k ≡ value_at right k

agree-first : (place : ℕ) (left right rest_left rest_right : List Entry) (agree : Agree left right rest_left rest_right)
    → HasMore rest_left rest_right → place ≡ first_place_of rest_left rest_right
    → AgreeUpTo left right rest_left rest_right agree.p agree.q place
agree-first place left right rest_left rest_right agree more is_first =
    let bound = agree.bound in
    let later : bound ≤ first_place_of rest_left rest_right =
    bound-first agree.p agree.q bound agree.in_left.end agree.in_right.end rest_left rest_right more agree.in_left.ascend
    agree.in_right.ascend in
    let at_left : RestOf agree.p place left rest_left =
    subst (λ (n : ℕ). RestOf agree.p n left rest_left) (sym is_first)
    (rest-left agree.p bound left rest_left rest_right later agree.in_left) in
    let at_right : RestOf agree.q place right rest_right =
    subst (λ (n : ℕ). RestOf agree.q n right rest_right) (sym is_first)
    (rest-right agree.q bound right rest_left rest_right later agree.in_right) in
    record {
      at_left = at_left;
      at_right = at_right;
      same = λ k before.
          elim (leb_tells bound k) [
            | inl from ↦
                value-between agree.p bound place k left rest_left agree.in_left at_left from.1 before
                ∙ sym (value-between agree.q bound place k right rest_right agree.in_right at_right from.1 before)
            | inr within ↦ agree.same k within.1
          ];
    }

pub agree_more : (place : ℕ) (left right rest_left rest_right : List Entry) → Agree left right rest_left rest_right
    → HasMore rest_left rest_right → place ≡ first_place_of rest_left rest_right
    → value_first rest_left place ≡ value_first rest_right place
    → Agree left right (rest_after rest_left place) (rest_after rest_right place)
agree_more place left right rest_left rest_right agree more is_first alike =
    let up = agree-first place left right rest_left rest_right agree more is_first in
    record {
      p = agree.p;
      q = agree.q;
      bound = place + 1;
      in_left = rest-after agree.p place left rest_left up.at_left;
      in_right = rest-after agree.q place right rest_right up.at_right;
      same = λ k before.
          elim (eqb_tells k place) [
            | inl here ↦
                subst (λ (n : ℕ). value_at left n ≡ value_at right n) (sym here.1)
                (sym (value-first agree.p place left rest_left up.at_left) ∙ alike
                ∙ value-first agree.q place right rest_right up.at_right)
            | inr other ↦ up.same k (omega (arith, before, other.1))
          ];
    }

pub agree_ends : (place : ℕ) (left right rest_left rest_right : List Entry) → Agree left right rest_left rest_right
    → HasMore rest_left rest_right → place ≡ first_place_of rest_left rest_right
    → value_first rest_left place ≢ value_first rest_right place
    → IsLeast (λ place. value_at left place ≢ value_at right place) place
agree_ends place left right rest_left rest_right agree more is_first differ =
    let up = agree-first place left right rest_left rest_right agree more is_first in
    record {
      holds = λ same.
          differ
          (value-first agree.p place left rest_left up.at_left ∙ same
          ∙ sym (value-first agree.q place right rest_right up.at_right));
      first = λ k other.
          elim (leb_tells place k) [ inl later ↦ later.1 | inr before ↦ absurd (other (up.same k before.1)) ];
    }

pub agree_step : (place here there : ℕ) (left right rest_left rest_right next_left next_right : List Entry)
    → Agree left right rest_left rest_right → HasMore rest_left rest_right → place ≡ first_place_of rest_left rest_right
    → here ≡ value_first rest_left place → there ≡ value_first rest_right place → here ≡ there
    → next_left ≡ rest_after rest_left place → next_right ≡ rest_after rest_right place → Agree left right next_left next_right
agree_step place here there left right rest_left rest_right next_left next_right agree more is_first is_here is_there alike is_left
    is_right =
    subst₂ (Agree left right) (sym is_left) (sym is_right)
    (agree_more place left right rest_left rest_right agree more is_first (sym is_here ∙ alike ∙ is_there))
