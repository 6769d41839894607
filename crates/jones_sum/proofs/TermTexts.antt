-- The terms of a polynomial, exponent by exponent.
use Rattle.std.proofs.Common.{◌≡◌, ℕ, ◌+◌, ◌*◌, ◌∙◌, List, [], ◌∷◌, ◌++◌, map, ap, sym, refl, ℤ, pos, ◌-ℤ◌, Bool, true, false, cond, codes}
use Rattle.std.specs.Prelude.{not}
use Rattle.std.specs.List.{range_with_len, filter, flat_map}
use Rattle.std.specs.Ordering.{int_eq}
use Rattle.std.proofs.lemmas.List.{append-nil}
use Rattle.std.proofs.lemmas.Grind.{flat_map-append}
use Rattle.kh_types.specs.declared.limits.TheConstants.{EXPONENT}
use Rattle.kh_types.specs.Table.{from_minus}
use Rattle.kh_types.specs.StateSum.{Term, term_text, terms, terms_text, polynomial_text}
use Rattle.kh_types.proofs.Ranges.{map_from_zero}
use Rattle.jones_sum.specs.Terms.{jones_line_of, text_at}

-- the texts of the terms of the exponents from -EXPONENT on, as many as a count says
unfoldable pub text_to : (ℤ → ℤ) → ℕ → List ℕ
text_to polynomial count = flat_map (text_at polynomial) (map (λ place. pos place -ℤ pos EXPONENT) (range_with_len 0 count))

-- no exponent, and one exponent more

pub text_to-none : (polynomial : ℤ → ℤ) → text_to polynomial 0 ≡ []
unfolding text_to
text_to-none polynomial = refl

pub text_to-more : (polynomial : ℤ → ℤ) (place : ℕ)
    → text_to polynomial (place + 1) ≡ text_to polynomial place ++ text_at polynomial (pos place -ℤ pos EXPONENT)
unfolding text_to
text_to-more polynomial place =
    let exponent = pos place -ℤ pos EXPONENT in
    let front = map (λ k. pos k -ℤ pos EXPONENT) (range_with_len 0 place) in
    ap (flat_map (text_at polynomial)) (map_from_zero (λ k. pos k -ℤ pos EXPONENT) place)
    ∙ flat_map-append (text_at polynomial) front (exponent ∷ [])
    ∙ ap (λ (text : List ℕ). flat_map (text_at polynomial) front ++ text) (append-nil (text_at polynomial exponent))

pub ruleset texts = (text_to-none, text_to-more)

-- the term of an exponent
abbrev term_at : (ℤ → ℤ) → ℤ → Term
term_at polynomial exponent = record { coefficient = polynomial exponent; exponent = exponent }

shown_first : (none : Bool) (term : Term) (later : List Term)
    → flat_map term_text (cond (not none) (term ∷ later) later) ≡ cond none [] (term_text term) ++ flat_map term_text later
shown_first true term later = refl
shown_first false term later = refl

-- the text of the terms that are shown is that of all exponents in turn
shown_text : (polynomial : ℤ → ℤ) (exponents : List ℤ)
    → flat_map term_text (filter (λ term. not (int_eq term.coefficient (pos 0))) (map (term_at polynomial) exponents))
    ≡ flat_map (text_at polynomial) exponents
shown_text polynomial [] = refl
shown_text polynomial (exponent ∷ exponents) =
    shown_first (int_eq (polynomial exponent) (pos 0)) (term_at polynomial exponent)
    (filter (λ term. not (int_eq term.coefficient (pos 0))) (map (term_at polynomial) exponents))
    ∙ ap (λ (text : List ℕ). text_at polynomial exponent ++ text) (shown_text polynomial exponents)

pub text_to-terms : (polynomial : ℤ → ℤ) → text_to polynomial (2 * EXPONENT + 1) ≡ flat_map term_text (terms polynomial)
unfolding text_to
text_to-terms polynomial = sym (shown_text polynomial (from_minus EXPONENT))

-- the line of terms
jones_line_of-all : (all : List Term) → jones_line_of (flat_map term_text all) ≡ codes "jones" ++ (terms_text all ++ codes "\n")
jones_line_of-all [] = refl
jones_line_of-all (term ∷ all) = refl

pub jones_line_of-terms : (polynomial : ℤ → ℤ) → jones_line_of (flat_map term_text (terms polynomial)) ≡ polynomial_text polynomial
jones_line_of-terms polynomial = jones_line_of-all (terms polynomial)
