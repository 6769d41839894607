-- What is spelled is read: a spelling leads the machine to an end, with what it spells.
use Rattle.std.proofs.Common.{◌≡◌, List, [], ◌∷◌, ◌++◌, Option, Some, None, sym, ◌∙◌, ap, refl, true, append_assoc, ℤ}
use Rattle.std.specs.List.{flat_map}
use Rattle.std.proofs.lemmas.List.{append-nil}
use Rattle.kh_lex.specs.declared.symbol.Symbol.{Symbol}
use Rattle.kh_lex.specs.declared.symbol.Symbol.TheVariants.{RightBracket, RightBrace}
use Rattle.kh_lex.specs.Machine.{run}
use Rattle.gauss_code.specs.declared.machine.State.TheVariants.{Open, BareNumber, GroupOpen, GroupNumber, GroupEnd, BodyEnd, SignNumber, Done}
use Rattle.gauss_code.specs.Listings.{Body, Listing}
use Rattle.gauss_code.specs.Grammar.{body_symbols, next_group, next_number, numbers_symbols, signs_symbols, gauss_spelled}
use Rattle.gauss_code.specs.Machine.{GaussProgress, gauss_advanced, is_gauss_end, listing_read, gauss_progress, start}

-- numbers behind commas are read, in each of the three lists
run-labels : (body : Body) (numbers more : List ℤ) (rest : List Symbol)
    → run gauss_advanced (gauss_progress BareNumber body numbers) (flat_map next_number more ++ rest) ≡ run gauss_advanced (gauss_progress BareNumber body (numbers ++ more)) rest
run-labels body numbers [] rest = ap (λ n. run gauss_advanced (gauss_progress BareNumber body n) rest) (sym (append-nil numbers))
run-labels body numbers (n ∷ more) rest =
    run-labels body (numbers ++ n ∷ []) more rest ∙ ap (λ n. run gauss_advanced (gauss_progress BareNumber body n) rest) (append_assoc numbers (n ∷ []) more)

run-group_labels : (body : Body) (numbers more : List ℤ) (rest : List Symbol)
    → run gauss_advanced (gauss_progress GroupNumber body numbers) (flat_map next_number more ++ rest) ≡ run gauss_advanced (gauss_progress GroupNumber body (numbers ++ more)) rest
run-group_labels body numbers [] rest = ap (λ n. run gauss_advanced (gauss_progress GroupNumber body n) rest) (sym (append-nil numbers))
run-group_labels body numbers (n ∷ more) rest =
    run-group_labels body (numbers ++ n ∷ []) more rest ∙ ap (λ n. run gauss_advanced (gauss_progress GroupNumber body n) rest) (append_assoc numbers (n ∷ []) more)

run-signs : (body : Body) (numbers more : List ℤ) (rest : List Symbol)
    → run gauss_advanced (gauss_progress SignNumber body numbers) (flat_map next_number more ++ rest) ≡ run gauss_advanced (gauss_progress SignNumber body (numbers ++ more)) rest
run-signs body numbers [] rest = ap (λ n. run gauss_advanced (gauss_progress SignNumber body n) rest) (sym (append-nil numbers))
run-signs body numbers (n ∷ more) rest =
    run-signs body (numbers ++ n ∷ []) more rest ∙ ap (λ n. run gauss_advanced (gauss_progress SignNumber body n) rest) (append_assoc numbers (n ∷ []) more)

-- a first group is read, and groups behind commas
run-first_group : (group : List ℤ) (rest : List Symbol)
    → run gauss_advanced (gauss_progress GroupOpen (Body.Bare []) []) ((numbers_symbols group ++ RightBrace ∷ []) ++ rest)
    ≡ run gauss_advanced (gauss_progress GroupEnd (Body.Groups group []) []) rest
run-first_group [] rest = refl
run-first_group (n ∷ group) rest =
    ap (run gauss_advanced (gauss_progress GroupNumber (Body.Bare []) (n ∷ []))) (append_assoc (flat_map next_number group) (RightBrace ∷ []) rest)
    ∙ run-group_labels (Body.Bare []) (n ∷ []) group (RightBrace ∷ rest)

run-group : (first : List ℤ) (groups : List (List ℤ)) (group : List ℤ) (rest : List Symbol)
    → run gauss_advanced (gauss_progress GroupOpen (Body.Groups first groups) []) ((numbers_symbols group ++ RightBrace ∷ []) ++ rest)
    ≡ run gauss_advanced (gauss_progress GroupEnd (Body.Groups first (groups ++ group ∷ [])) []) rest
run-group first groups [] rest = refl
run-group first groups (n ∷ group) rest =
    ap (run gauss_advanced (gauss_progress GroupNumber (Body.Groups first groups) (n ∷ []))) (append_assoc (flat_map next_number group) (RightBrace ∷ []) rest)
    ∙ run-group_labels (Body.Groups first groups) (n ∷ []) group (RightBrace ∷ rest)

run-groups : (first : List ℤ) (groups more : List (List ℤ)) (rest : List Symbol)
    → run gauss_advanced (gauss_progress GroupEnd (Body.Groups first groups) []) (flat_map next_group more ++ rest)
    ≡ run gauss_advanced (gauss_progress GroupEnd (Body.Groups first (groups ++ more)) []) rest
run-groups first groups [] rest = ap (λ g. run gauss_advanced (gauss_progress GroupEnd (Body.Groups first g) []) rest) (sym (append-nil groups))
run-groups first groups (group ∷ more) rest =
    ap (run gauss_advanced (gauss_progress GroupOpen (Body.Groups first groups) [])) (append_assoc (numbers_symbols group ++ RightBrace ∷ []) (flat_map next_group more) rest)
    ∙ run-group first groups group (flat_map next_group more ++ rest)
    ∙ run-groups first (groups ++ group ∷ []) more rest
    ∙ ap (λ g. run gauss_advanced (gauss_progress GroupEnd (Body.Groups first g) []) rest) (append_assoc groups (group ∷ []) more)

-- a body is read
run-body : (body : Body) (rest : List Symbol)
    → run gauss_advanced (gauss_progress Open (Body.Bare []) []) (body_symbols body ++ RightBracket ∷ rest) ≡ run gauss_advanced (gauss_progress BodyEnd body []) rest
run-body (Body.Bare []) rest = refl
run-body (Body.Bare (n ∷ labels)) rest = run-labels (Body.Bare []) (n ∷ []) labels (RightBracket ∷ rest)
run-body (Body.Groups group groups) rest =
    ap (run gauss_advanced (gauss_progress GroupOpen (Body.Bare []) [])) (append_assoc (numbers_symbols group ++ RightBrace ∷ []) (flat_map next_group groups) (RightBracket ∷ rest))
    ∙ run-first_group group (flat_map next_group groups ++ RightBracket ∷ rest)
    ∙ run-groups group [] groups (RightBracket ∷ rest)

-- the end to which a listing leads
abbrev pub end_of : Body → Option (List ℤ) → GaussProgress
end_of body None = gauss_progress BodyEnd body []
end_of body (Some signs) = gauss_progress Done body signs

-- signs are read
run-signs_symbols : (body : Body) (signs : Option (List ℤ)) → run gauss_advanced (gauss_progress BodyEnd body []) (signs_symbols signs) ≡ Some (end_of body signs)
run-signs_symbols body None = refl
run-signs_symbols body (Some []) = refl
run-signs_symbols body (Some (n ∷ signs)) = run-signs body (n ∷ []) signs (RightBracket ∷ [])

-- a spelling leads to that end
pub run-gauss_spelled : (listing : Listing) → run gauss_advanced start (gauss_spelled listing) ≡ Some (end_of listing.body listing.signs)
run-gauss_spelled listing = run-body listing.body (signs_symbols listing.signs) ∙ run-signs_symbols listing.body listing.signs

-- which is an end
is_gauss_end-end_of : (body : Body) (signs : Option (List ℤ)) → is_gauss_end (end_of body signs) ≡ true
is_gauss_end-end_of body None = refl
is_gauss_end-end_of body (Some signs) = refl

pub is_gauss_end-gauss_spelled : (listing : Listing) → is_gauss_end (end_of listing.body listing.signs) ≡ true
is_gauss_end-gauss_spelled listing = is_gauss_end-end_of listing.body listing.signs

-- and gives the listing back
listing_read-end_of : (body : Body) (signs : Option (List ℤ)) → listing_read (end_of body signs) ≡ record { body = body; signs = signs }
listing_read-end_of body None = refl
listing_read-end_of body (Some signs) = refl

pub listing_read-gauss_spelled : (listing : Listing) → listing_read (end_of listing.body listing.signs) ≡ listing
listing_read-gauss_spelled listing = listing_read-end_of listing.body listing.signs
