-- Each text has a reading, and one only.
use Rattle.std.proofs.Common.{◌≡◌, ℕ, nat_lt, Bool, true, false, cond, ◌<◌, inl, inr, List, [], length, Result, Ok, Err, Some, refl, sym, ◌∙◌, ap, subst, arith}
use Rattle.std.proofs.lemmas.Bool.{le-ltb, lt-ltb, ltb-false, ltb-true}
use Rattle.kh_types.specs.Code.{Code}
use Rattle.kh_types.specs.declared.limits.TheConstants.{CROSSINGS, LOOPS}
use Rattle.kh_lex.specs.declared.stop.LexStop.{LexStop}
use Rattle.kh_lex.specs.declared.stop.LexStop.TheVariants as lexical
use Rattle.kh_lex.specs.declared.token.Token.{Token}
use Rattle.kh_lex.specs.Cuts.{Cuts, Stops}
use Rattle.kh_lex.specs.Grammar.{IsFirstFault, LeavesGrammar, fault_place}
use Rattle.kh_lex.specs.Lexer.{tokens_of}
use Rattle.kh_lex.specs.Machine.{run}
use Rattle.kh_lex.proofs.CutReads.{tokens_of-cut, tokens_of-stop}
use Rattle.kh_lex.specs.Symbols.{symbols_of}
use Rattle.kh_lex.proofs.GrammarLemmas.{LeavesGrammar-means, LeavesGrammar-one, LeavesGrammar-stops, Means-one, Means-stops, Stops-one}
use Rattle.kh_lex.proofs.MachineLemmas.{IsOutcome, outcome, outcome_from_start}
use Rattle.pd_code.specs.declared.item.Item.{Item}
use Rattle.pd_code.specs.declared.machine.State.TheVariants.{Start, Done}
use Rattle.pd_code.specs.declared.stop.PdStop.{PdStop}
use Rattle.pd_code.specs.declared.stop.PdStop.TheVariants.{Text, Number, CrossingLimit, LoopLimit, NoMemory}
use Rattle.pd_code.specs.Grammar.{IsPdText, Spells, pd_spelled}
use Rattle.pd_code.specs.Items.{code_of_items, crossings_among, loop_item_count}
use Rattle.pd_code.specs.Limits.{code_within}
use Rattle.pd_code.specs.Machine.{PdProgress, pd_advanced, is_pd_end, pd_progress}
use Rattle.pd_code.specs.Reading.{HasManyCrossings, HasManyLoops, IsPdReading}
use Rattle.pd_code.specs.Stops.{pd_stop_of}
use Rattle.pd_code.proofs.MachineReads.{reads_grammar}
use Rattle.pd_code.proofs.SoFar.{run-done}
use Rattle.pd_code.proofs.Spellings.{run-pd_spelled}

-- one list of items has a spelling
pd_spelled-one : (a b : List Item) → pd_spelled a ≡ pd_spelled b → a ≡ b
pd_spelled-one a b same =
    let first = run-pd_spelled a in
    let second = run-pd_spelled b in
    let e : Some (pd_progress Done a) ≡ Some (pd_progress Done b)
    = sym first ∙ ap (run pd_advanced (pd_progress Start [])) same ∙ second in
    let ends : pd_progress Done a ≡ pd_progress Done b = cc in
    ap (λ (p : PdProgress). p.items) ends

-- a text spells one list of items at most
Spells-one : (text : List ℕ) (a b : List Item) → Spells text a → Spells text b → a ≡ b
Spells-one text a b first second = pd_spelled-one a b (Means-one text (pd_spelled a) (pd_spelled b) first second)

-- items that a text spells read as their code within the limits
IsPdReading-pd_spelled : (text : List ℕ) (items : List Item) → Spells text items → IsPdReading text (code_within items)
IsPdReading-pd_spelled text items spells =
    go (nat_lt CROSSINGS (length (crossings_among items))) refl (nat_lt LOOPS (loop_item_count items)) refl
  where
    go : (crossings : Bool) → nat_lt CROSSINGS (length (crossings_among items)) ≡ crossings → (loops : Bool) → nat_lt LOOPS (loop_item_count items) ≡ loops
        → IsPdReading text (cond crossings (Err (CrossingLimit (length (crossings_among items)))) (cond loops (Err (LoopLimit (loop_item_count items))) (Ok (code_of_items items))))
    go true many loops _ = record { items = items; pd_spelled = spells; counted = refl; above = ltb-true CROSSINGS (length (crossings_among items)) many }
    go false few true many = record {
      items = items;
      pd_spelled = spells;
      crossings = ltb-false CROSSINGS (length (crossings_among items)) few;
      counted = refl;
      above = ltb-true LOOPS (loop_item_count items) many;
    }
    go false few false few_loops = record {
      items = items;
      pd_spelled = spells;
      crossings = ltb-false CROSSINGS (length (crossings_among items)) few;
      loops = ltb-false LOOPS (loop_item_count items) few_loops;
      same = refl;
    }

-- what symbols of tokens read as, by what they lead the machine to
abbrev outcome_reading : List ℕ → List Token → Result PdProgress ℕ → Result Code PdStop
outcome_reading text tokens (Ok end) = code_within end.items
outcome_reading text tokens (Err at) = Err (Text (fault_place text tokens at))

-- what tokens read as, or the fault in their place
abbrev lexing_reading : List ℕ → Result (List Token) LexStop → Result Code PdStop
lexing_reading text (Ok tokens) = outcome_reading text tokens (outcome pd_advanced is_pd_end (pd_progress Start []) (symbols_of text tokens))
lexing_reading text (Err stop) = Err (pd_stop_of stop)

-- what a text reads as, computed
abbrev pub reading_of : List ℕ → Result Code PdStop
reading_of text = lexing_reading text (tokens_of text)

-- that is a reading
IsPdReading-outcome : (text : List ℕ) (tokens : List Token) → Cuts 0 text tokens → (r : Result PdProgress ℕ)
    → IsOutcome IsPdText pd_advanced (pd_progress Start []) is_pd_end (symbols_of text tokens) 0 r → IsPdReading text (outcome_reading text tokens r)
IsPdReading-outcome text tokens cut (Ok end) is =
    IsPdReading-pd_spelled text end.items (record { tokens = tokens; cut = cut; meaning = run-done (symbols_of text tokens) end is.0 is.1 })
IsPdReading-outcome text tokens cut (Err at) fault =
    inr (record { tokens = tokens; cut = cut; leaves = record { at = at; fault = subst (IsFirstFault IsPdText (symbols_of text tokens)) (omega arith) fault; named = refl } })

IsPdReading-stop : (text : List ℕ) (stop : LexStop) → Stops 0 text stop → IsPdReading text (Err (pd_stop_of stop))
IsPdReading-stop text (lexical.Bad place) stops = inl stops
IsPdReading-stop text (lexical.Number place) stops = stops
IsPdReading-stop text lexical.NoMemory stops = absurd stops.fault

pub IsPdReading-reading_of : (text : List ℕ) → IsPdReading text (reading_of text)
IsPdReading-reading_of text = go (tokens_of text) refl
  where
    go : (r : Result (List Token) LexStop) → tokens_of text ≡ r → IsPdReading text (lexing_reading text r)
    go (Ok tokens) cut = IsPdReading-outcome text tokens ((tokens_of-cut text tokens).0 cut) (outcome pd_advanced is_pd_end (pd_progress Start []) (symbols_of text tokens))
        (outcome_from_start IsPdText pd_advanced (pd_progress Start []) is_pd_end reads_grammar (symbols_of text tokens))
    go (Err stop) stops = IsPdReading-stop text stop ((tokens_of-stop text stop).0 stops)

-- a reading is a fault of the bytes, a fault of the grammar, or the code within the limits of the items that are spelled
data Case (text : List ℕ) (reading : Result Code PdStop) : Type 0 where
  lexical_case : (stop : LexStop) → Stops 0 text stop → reading ≡ Err (pd_stop_of stop) → Case text reading
  grammar_case : (place : ℕ) → LeavesGrammar IsPdText text place → reading ≡ Err (Text place) → Case text reading
  items_case : (items : List Item) → Spells text items → reading ≡ code_within items → Case text reading

many_crossings : (text : List ℕ) (count : ℕ) (is : HasManyCrossings text count) → nat_lt CROSSINGS (length (crossings_among is.items)) ≡ true
many_crossings text count is = lt-ltb CROSSINGS (length (crossings_among is.items)) (subst (λ n. CROSSINGS < n) is.counted is.above)

many_loops : (text : List ℕ) (count : ℕ) (is : HasManyLoops text count) → nat_lt LOOPS (loop_item_count is.items) ≡ true
many_loops text count is = lt-ltb LOOPS (loop_item_count is.items) (subst (λ n. LOOPS < n) is.counted is.above)

-- which it is
case_of : (text : List ℕ) (reading : Result Code PdStop) → IsPdReading text reading → Case text reading
case_of text (Ok code) is = items_case is.items is.pd_spelled
    (ap Ok is.same ∙ rw (le-ltb CROSSINGS (length (crossings_among is.items)) is.crossings, le-ltb LOOPS (loop_item_count is.items) is.loops) refl)
case_of text (Err (Text place)) (inl stops) = lexical_case (lexical.Bad place) stops refl
case_of text (Err (Text place)) (inr leaves) = grammar_case place leaves refl
case_of text (Err (Number place)) is = lexical_case (lexical.Number place) is refl
case_of text (Err (CrossingLimit count)) is = items_case is.items is.pd_spelled
    (ap (λ n. Err (CrossingLimit n)) is.counted ∙ rw (many_crossings text count is) refl)
case_of text (Err (LoopLimit count)) is = items_case is.items is.pd_spelled
    (ap (λ n. Err (LoopLimit n)) is.counted ∙ rw (le-ltb CROSSINGS (length (crossings_among is.items)) is.crossings, many_loops text count is) refl)
case_of text (Err NoMemory) is = absurd is

-- two readings of a text are one
pub IsPdReading-one : (text : List ℕ) (a b : Result Code PdStop) → IsPdReading text a → IsPdReading text b → a ≡ b
IsPdReading-one text a b first second = go (case_of text a first) (case_of text b second)
  where
    go : Case text a → Case text b → a ≡ b
    go (lexical_case one s e) (lexical_case other t f) = e ∙ ap (λ stop. Err (pd_stop_of stop)) (Stops-one text one other s t) ∙ sym f
    go (lexical_case one s e) (grammar_case place leaves f) = absurd (LeavesGrammar-stops IsPdText text one place s leaves)
    go (lexical_case one s e) (items_case items spells f) = absurd (Means-stops text one (pd_spelled items) s spells)
    go (grammar_case place leaves e) (lexical_case other t f) = absurd (LeavesGrammar-stops IsPdText text other place t leaves)
    go (grammar_case place leaves e) (grammar_case later again f) = e ∙ ap (λ p. Err (Text p)) (LeavesGrammar-one IsPdText text place later leaves again) ∙ sym f
    go (grammar_case place leaves e) (items_case items spells f) = absurd (LeavesGrammar-means IsPdText text place (pd_spelled items) leaves spells (items, refl))
    go (items_case items spells e) (lexical_case other t f) = absurd (Means-stops text other (pd_spelled items) t spells)
    go (items_case items spells e) (grammar_case place leaves f) = absurd (LeavesGrammar-means IsPdText text place (pd_spelled items) leaves spells (items, refl))
    go (items_case items spells e) (items_case others again f) = e ∙ ap code_within (Spells-one text items others spells again) ∙ sym f
