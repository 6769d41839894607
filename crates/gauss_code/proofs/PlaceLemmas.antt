-- Where the numbers of a text stand.
use Rattle.std.proofs.Common.{◌≡◌, ℕ, suc, ◌+◌, ◌<◌, false, true, List, ◌∷◌, length, map, drop, get_or, slice_index, ap, ◌∙◌, cond}
use Rattle.std.specs.List.{filter}
use Rattle.std.proofs.lemmas.List.{at_drop_more}
use Rattle.kh_lex.specs.declared.token.Token.{Token}
use Rattle.gauss_code.specs.Grammar.{is_number_token, number_places}

-- a number is the first of those that are left
pub place_at : (tokens : List Token) (i : ℕ) (d : Token) → i < length tokens → is_number_token (get_or tokens i d) ≡ true
    → number_places (drop i tokens) ≡ (get_or tokens i d).place ∷ number_places (drop (i + 1) tokens)
place_at tokens i d less is =
    at_drop_more number_places tokens i d less
    ∙ ap (λ b. map (λ (token : Token). token.place) (cond b (get_or tokens i d ∷ filter is_number_token (drop (i + 1) tokens)) (filter is_number_token (drop (i + 1) tokens)))) is

-- any other token is none of them
pub place_skipped : (tokens : List Token) (i : ℕ) (d : Token) → i < length tokens → is_number_token (get_or tokens i d) ≡ false
    → number_places (drop i tokens) ≡ number_places (drop (i + 1) tokens)
place_skipped tokens i d less is =
    at_drop_more number_places tokens i d less
    ∙ ap (λ b. map (λ (token : Token). token.place) (cond b (get_or tokens i d ∷ filter is_number_token (drop (i + 1) tokens)) (filter is_number_token (drop (i + 1) tokens)))) is

-- behind a number the others have one place less
pub place_later : (tokens : List Token) (i : ℕ) (d : Token) (before now : ℕ) → i < length tokens → is_number_token (get_or tokens i d) ≡ true → before ≡ suc now
    → slice_index (number_places (drop i tokens)) before ≡ slice_index (number_places (drop (i + 1) tokens)) now
place_later tokens i d before now less is follows =
    ap (λ n. slice_index (number_places (drop i tokens)) n) follows ∙ ap (λ places. slice_index places (suc now)) (place_at tokens i d less is)
