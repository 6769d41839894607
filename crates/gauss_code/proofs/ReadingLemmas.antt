-- Each text has a reading, and one only. A reading is computed: the text is cut into tokens, the machine of the grammar reads
-- these, and what they list gives its code or the first fault against it. That this is a reading is shown from the last step to
-- the first: for what is listed, for symbols by where they lead the machine, and for the text by its tokens or the fault in their
-- place. And each reading is of one of three cases: a fault of the bytes, a fault of the grammar, or what the listing comes to.
-- No two of them hold of one text, and in each of them the reading is one: a text is cut in one way, and the machine reads one
-- listing alone off a spelling.
use Rattle.std.proofs.Common.{◌≡◌, ℕ, ◌+◌, length, nat_eq, not, slice_index, ℤ, Bool, true, false, inl, inr, List, Result, Ok, Err, Option, None, Some, IfSome, refl, sym, ◌∙◌, ap, subst, arith}
use Rattle.std.specs.Option.{option_map, option_or}
use Rattle.kh_types.specs.Code.{Code}
use Rattle.kh_lex.specs.declared.stop.LexStop.{LexStop}
use Rattle.kh_lex.specs.declared.stop.LexStop.TheVariants as lexical
use Rattle.kh_lex.specs.declared.token.Token.{Token}
use Rattle.kh_lex.specs.Cuts.{Cuts, Stops}
use Rattle.kh_lex.specs.Grammar.{IsFirstFault, LeavesGrammar, fault_place}
use Rattle.kh_lex.specs.Lexer.{tokens_of}
use Rattle.kh_lex.specs.Machine.{run}
use Rattle.kh_lex.specs.Symbols.{Means, symbols_of}
use Rattle.kh_lex.proofs.CutReads.{Cuts-one, tokens_of-cut, tokens_of-stop}
use Rattle.kh_lex.proofs.GrammarLemmas.{LeavesGrammar-means, LeavesGrammar-one, LeavesGrammar-stops, Means-stops, Stops-one}
use Rattle.kh_lex.proofs.MachineLemmas.{IsOutcome, outcome, outcome_from_start}
use Rattle.gauss_code.specs.declared.stop.GaussStop.{GaussStop}
use Rattle.gauss_code.specs.declared.stop.GaussStop.TheVariants.{Text, Number, CrossingLimit, LoopLimit, Label, NoSigns, SignCount, NoMemory}
use Rattle.gauss_code.specs.Faults.{crossing_limit, gauss_fault_if, first_gauss_fault, label_fault, loop_limit, no_signs, sign_count, signs_of}
use Rattle.gauss_code.specs.Grammar.{IsGaussText, Lists, number_places, gauss_spelled}
use Rattle.code_passes.specs.Labels.{bad_label, bad_sign}
use Rattle.gauss_code.specs.Listings.{Body, Listing, crossing_count, labels_of}
use Rattle.gauss_code.specs.Machine.{GaussProgress, gauss_advanced, is_gauss_end, listing_read, start}
use Rattle.gauss_code.specs.Codes.{listed_code}
use Rattle.gauss_code.specs.Reading.{HasFault, IsGaussReading}
use Rattle.gauss_code.specs.Stops.{gauss_stop_of}
use Rattle.gauss_code.proofs.MachineReads.{reads_grammar}
use Rattle.gauss_code.proofs.SoFar.{run-done}
use Rattle.gauss_code.proofs.Spellings.{end_of, listing_read-gauss_spelled, run-gauss_spelled}

-- a fault, or else the code of a listing
abbrev pub coded_unless : Option GaussStop → Listing → Result Code GaussStop
coded_unless None listing = Ok (listed_code listing.body (signs_of listing))
coded_unless (Some fault) listing = Err fault

-- the code of a listing, or its first fault
abbrev pub coded : Listing → List ℕ → Result Code GaussStop
coded listing places = coded_unless (first_gauss_fault listing places) listing

-- one listing has a spelling
gauss_spelled-one : (a b : Listing) → gauss_spelled a ≡ gauss_spelled b → a ≡ b
gauss_spelled-one a b same =
    let first = run-gauss_spelled a in
    let second = run-gauss_spelled b in
    let e : Some (end_of a.body a.signs) ≡ Some (end_of b.body b.signs) = sym first ∙ ap (run gauss_advanced start) same ∙ second in
    let ends : end_of a.body a.signs ≡ end_of b.body b.signs = cc in
    sym (listing_read-gauss_spelled a) ∙ ap listing_read ends ∙ listing_read-gauss_spelled b

-- a text lists one body and signs at most, at one list of places
Lists-one : (text : List ℕ) (a b : Listing) (p q : List ℕ) → Lists text a p → Lists text b q → (a ≡ b) × (p ≡ q)
Lists-one text a b p q first second =
    let same : first.tokens ≡ second.tokens = Cuts-one text first.tokens second.tokens first.cut second.cut in (
      gauss_spelled-one a b (sym first.spells ∙ ap (symbols_of text) same ∙ second.spells),
      first.at ∙ ap number_places same ∙ sym second.at,
    )

-- a stop is a fault of a listing
abbrev pub IsListingFault : GaussStop → Type 0
IsListingFault (CrossingLimit count) = Unit {0}
IsListingFault (LoopLimit count) = Unit {0}
IsListingFault (Label place) = Unit {0}
IsListingFault NoSigns = Unit {0}
IsListingFault (SignCount found wanted) = Unit {0}
IsListingFault _ = ⊥

-- each first fault is one
gauss_fault_if-listing : (holds : Bool) (stop : GaussStop) → IsListingFault stop → IfSome (gauss_fault_if holds stop) IsListingFault
gauss_fault_if-listing true stop is = is
gauss_fault_if-listing false stop is = tt

option_or-listing : (a b : Option GaussStop) → IfSome a IsListingFault → IfSome b IsListingFault → IfSome (option_or a b) IsListingFault
option_or-listing (Some stop) b first second = first
option_or-listing None b first second = second

label-listing : (at : Option ℕ) (place : ℕ → ℕ) → IfSome (option_map (λ at. Label (place at)) at) IsListingFault
label-listing None place = tt
label-listing (Some at) place = tt

no_signs-listing : (listing : Listing) → IfSome (no_signs listing) IsListingFault
no_signs-listing listing = gauss_fault_if-listing _ NoSigns tt

sign_count-listing : (body : Body) (signs : Option (List ℤ)) → IfSome (sign_count (record { body = body; signs = signs })) IsListingFault
sign_count-listing body None = tt
sign_count-listing body (Some signs) = gauss_fault_if-listing (not (nat_eq (length signs) (crossing_count body))) (SignCount (length signs) (crossing_count body)) tt

first_gauss_fault-listing : (listing : Listing) (places : List ℕ) → IfSome (first_gauss_fault listing places) IsListingFault
first_gauss_fault-listing listing places =
    option_or-listing (crossing_limit listing.body) _ (gauss_fault_if-listing _ _ tt)
    (option_or-listing (loop_limit listing.body) _ (gauss_fault_if-listing _ _ tt)
    (option_or-listing (label_fault listing.body places) _ (label-listing (bad_label (labels_of listing.body)) (λ at. slice_index places at))
    (option_or-listing (no_signs listing) _ (no_signs-listing listing)
    (option_or-listing (sign_count listing) _ (sign_count-listing listing.body listing.signs)
    (label-listing (bad_sign (signs_of listing)) (λ at. slice_index places (length (labels_of listing.body) + at)))))))

-- a fault of what a text lists is a reading
HasFault-reading : (text : List ℕ) (stop : GaussStop) → IsListingFault stop → HasFault text stop → IsGaussReading text (Err stop)
HasFault-reading text (CrossingLimit count) is fault = fault
HasFault-reading text (LoopLimit count) is fault = fault
HasFault-reading text (Label place) is fault = fault
HasFault-reading text NoSigns is fault = fault
HasFault-reading text (SignCount found wanted) is fault = fault
HasFault-reading text (Text place) is fault = absurd is
HasFault-reading text (Number place) is fault = absurd is
HasFault-reading text NoMemory is fault = absurd is

-- what a text lists reads as its code, or its first fault
IsGaussReading-listed : (text : List ℕ) (listing : Listing) (places : List ℕ) → Lists text listing places → IsGaussReading text (coded listing places)
IsGaussReading-listed text listing places lists = go (first_gauss_fault listing places) refl (first_gauss_fault-listing listing places)
  where
    go : (fault : Option GaussStop) → first_gauss_fault listing places ≡ fault → IfSome fault IsListingFault → IsGaussReading text (coded_unless fault listing)
    go None good is = record { listing = listing; places = places; lists = lists; good = good; same = refl }
    go (Some stop) first is = HasFault-reading text stop is (record { listing = listing; places = places; lists = lists; first = first })

-- the same, of the tokens
pub IsGaussReading-gauss_spelled : (text : List ℕ) (tokens : List Token) (listing : Listing) → Cuts 0 text tokens → symbols_of text tokens ≡ gauss_spelled listing
    → IsGaussReading text (coded listing (number_places tokens))
IsGaussReading-gauss_spelled text tokens listing cut spells =
    IsGaussReading-listed text listing (number_places tokens) (record { tokens = tokens; cut = cut; spells = spells; at = refl })

-- and of a fault of what they spell
pub IsGaussReading-fault : (text : List ℕ) (tokens : List Token) (listing : Listing) (stop : GaussStop) → Cuts 0 text tokens → symbols_of text tokens ≡ gauss_spelled listing
    → first_gauss_fault listing (number_places tokens) ≡ Some stop → IsGaussReading text (Err stop)
IsGaussReading-fault text tokens listing stop cut spells first =
    subst (IsGaussReading text) (ap (λ fault. coded_unless fault listing) first) (IsGaussReading-gauss_spelled text tokens listing cut spells)

-- what symbols of tokens read as, by what they lead the machine to
abbrev pub outcome_reading : List ℕ → List Token → Result GaussProgress ℕ → Result Code GaussStop
outcome_reading text tokens (Ok end) = coded (listing_read end) (number_places tokens)
outcome_reading text tokens (Err at) = Err (Text (fault_place text tokens at))

-- what tokens read as, or the fault in their place
abbrev pub lexing_reading : List ℕ → Result (List Token) LexStop → Result Code GaussStop
lexing_reading text (Ok tokens) = outcome_reading text tokens (outcome gauss_advanced is_gauss_end start (symbols_of text tokens))
lexing_reading text (Err stop) = Err (gauss_stop_of stop)

-- what a text reads as, computed
abbrev pub reading_of : List ℕ → Result Code GaussStop
reading_of text = lexing_reading text (tokens_of text)

-- that is a reading
IsGaussReading-outcome : (text : List ℕ) (tokens : List Token) → Cuts 0 text tokens → (r : Result GaussProgress ℕ)
    → IsOutcome IsGaussText gauss_advanced start is_gauss_end (symbols_of text tokens) 0 r → IsGaussReading text (outcome_reading text tokens r)
IsGaussReading-outcome text tokens cut (Ok end) is = IsGaussReading-gauss_spelled text tokens (listing_read end) cut (run-done (symbols_of text tokens) end is.0 is.1)
IsGaussReading-outcome text tokens cut (Err at) fault =
    inr (record { tokens = tokens; cut = cut; leaves = record { at = at; fault = subst (IsFirstFault IsGaussText (symbols_of text tokens)) (omega arith) fault; named = refl } })

IsGaussReading-stop : (text : List ℕ) (stop : LexStop) → Stops 0 text stop → IsGaussReading text (Err (gauss_stop_of stop))
IsGaussReading-stop text (lexical.Bad place) stops = inl stops
IsGaussReading-stop text (lexical.Number place) stops = stops
IsGaussReading-stop text lexical.NoMemory stops = absurd stops.fault

pub IsGaussReading-reading_of : (text : List ℕ) → IsGaussReading text (reading_of text)
IsGaussReading-reading_of text = go (tokens_of text) refl
  where
    go : (r : Result (List Token) LexStop) → tokens_of text ≡ r → IsGaussReading text (lexing_reading text r)
    go (Ok tokens) cut = IsGaussReading-outcome text tokens ((tokens_of-cut text tokens).0 cut) (outcome gauss_advanced is_gauss_end start (symbols_of text tokens))
        (outcome_from_start IsGaussText gauss_advanced start is_gauss_end reads_grammar (symbols_of text tokens))
    go (Err stop) stops = IsGaussReading-stop text stop ((tokens_of-stop text stop).0 stops)

-- a reading is a fault of the bytes, a fault of the grammar, or what the listing comes to
data Case (text : List ℕ) (reading : Result Code GaussStop) : Type 0 where
  lexical_case : (stop : LexStop) → Stops 0 text stop → reading ≡ Err (gauss_stop_of stop) → Case text reading
  grammar_case : (place : ℕ) → LeavesGrammar IsGaussText text place → reading ≡ Err (Text place) → Case text reading
  listing_case : (listing : Listing) (places : List ℕ) → Lists text listing places → reading ≡ coded listing places → Case text reading

-- a fault is that of the listing
fault_case : (text : List ℕ) (stop : GaussStop) → HasFault text stop → Case text (Err stop)
fault_case text stop is = listing_case is.listing is.places is.lists (ap (λ fault. coded_unless fault is.listing) (sym is.first))

-- which it is
case_of : (text : List ℕ) (reading : Result Code GaussStop) → IsGaussReading text reading → Case text reading
case_of text (Ok code) is = listing_case is.listing is.places is.lists (ap Ok is.same ∙ ap (λ fault. coded_unless fault is.listing) (sym is.good))
case_of text (Err (Text place)) (inl stops) = lexical_case (lexical.Bad place) stops refl
case_of text (Err (Text place)) (inr leaves) = grammar_case place leaves refl
case_of text (Err (Number place)) is = lexical_case (lexical.Number place) is refl
case_of text (Err (CrossingLimit count)) is = fault_case text (CrossingLimit count) is
case_of text (Err (LoopLimit count)) is = fault_case text (LoopLimit count) is
case_of text (Err (Label place)) is = fault_case text (Label place) is
case_of text (Err NoSigns) is = fault_case text NoSigns is
case_of text (Err (SignCount found wanted)) is = fault_case text (SignCount found wanted) is
case_of text (Err NoMemory) is = absurd is

-- what a text lists, it means, and that is a text
Lists-means : (text : List ℕ) (listing : Listing) (places : List ℕ) → Lists text listing places → Means text (gauss_spelled listing)
Lists-means text listing places lists = record { tokens = lists.tokens; cut = lists.cut; meaning = lists.spells }

-- two readings of a text are one
pub IsGaussReading-one : (text : List ℕ) (a b : Result Code GaussStop) → IsGaussReading text a → IsGaussReading text b → a ≡ b
IsGaussReading-one text a b first second = go (case_of text a first) (case_of text b second)
  where
    stops_not : (stop : LexStop) (listing : Listing) (places : List ℕ) → Stops 0 text stop → ¬ Lists text listing places
    stops_not stop listing places stops lists = Means-stops text stop (gauss_spelled listing) stops (Lists-means text listing places lists)

    leaves_not : (place : ℕ) (listing : Listing) (places : List ℕ) → LeavesGrammar IsGaussText text place → ¬ Lists text listing places
    leaves_not place listing places leaves lists =
        LeavesGrammar-means IsGaussText text place (gauss_spelled listing) leaves (Lists-means text listing places lists) (listing, refl)

    go : Case text a → Case text b → a ≡ b
    go (lexical_case one s e) (lexical_case other t f) = e ∙ ap (λ stop. Err (gauss_stop_of stop)) (Stops-one text one other s t) ∙ sym f
    go (lexical_case one s e) (grammar_case place leaves f) = absurd (LeavesGrammar-stops IsGaussText text one place s leaves)
    go (lexical_case one s e) (listing_case listing places lists f) = absurd (stops_not one listing places s lists)
    go (grammar_case place leaves e) (lexical_case other t f) = absurd (LeavesGrammar-stops IsGaussText text other place t leaves)
    go (grammar_case place leaves e) (grammar_case later again f) = e ∙ ap (λ p. Err (Text p)) (LeavesGrammar-one IsGaussText text place later leaves again) ∙ sym f
    go (grammar_case place leaves e) (listing_case listing places lists f) = absurd (leaves_not place listing places leaves lists)
    go (listing_case listing places lists e) (lexical_case other t f) = absurd (stops_not other listing places t lists)
    go (listing_case listing places lists e) (grammar_case place leaves f) = absurd (leaves_not place listing places leaves lists)
    go (listing_case one places lists e) (listing_case other later again f) =
        let same = Lists-one text one other places later lists again in
        e ∙ ap (λ l. coded l places) same.0 ∙ ap (λ p. coded other p) same.1 ∙ sym f
