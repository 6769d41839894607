-- Words spell a line of an edit exactly where it is read from them. First single words: a place is read where the word is a
-- numeral within the limit; a side, a pass or a sign is read where the word is one of two. From reading to spelling the proof
-- follows the reader: the first word alone is `undo` or `redo`; else it chooses `r1`, `r2` or `r3`, then the number of the words
-- behind it and the word `add` or `drop` choose the kind of line, and its parts are read one after another. In all other cases
-- nothing is read. From spelling to reading there is a case for each kind of line: its words are put in, and each part is read as
-- what it was.
use Rattle.std.proofs.Common.{◌≡◌, ℕ, ◌↔◌, Bool, true, false, cond, List, [], ◌∷◌, Option, Some, None, refl, ◌∙◌, ap, subst, codes, nat_le, sym}
use Rattle.std.proofs.lemmas.Bool.{le-leb, leb-true}
use Rattle.std.proofs.lemmas.Option.{cond_some, none-some, option_and_then_some}
use Rattle.std.proofs.lemmas.Slice.Eq.{bytes_eq-Decides}
use Rattle.std.specs.Option.{option_and_then, option_map}
use Rattle.std.specs.Str.{bytes_eq}
use Rattle.kh_lex.specs.Numerals.{numeral_of}
use Rattle.kh_lex.proofs.NumeralReads.{WritesNumber-numeral_of, numeral_of-WritesNumber, option_map_some}
use Rattle.diagram_moves.specs.declared.change.Move.TheVariants.{KinkAdd, KinkDrop, FingerAdd, FingerDrop, Slide}
use Rattle.diagram_moves.specs.declared.change.Side.{Side}
use Rattle.diagram_moves.specs.declared.change.Side.TheVariants.{Left, Right}
use Rattle.undo_stack.specs.declared.edit_line.EditLine.{EditLine}
use Rattle.undo_stack.specs.declared.edit_line.EditLine.TheVariants.{Change, Undo, Redo}
use Rattle.undo_stack.specs.declared.limits.TheConstants.{NAMED_DIGITS, NAMED_LIMIT}
use Rattle.undo_stack.specs.EditScript.{NamesPlace, SpellsEdit, pass_word, side_word, sign_word}
use Rattle.undo_stack.specs.EditSteps.{edit_line_of, finger_drop_line, finger_line, kink_drop_line, kink_line, lone_line, move_line, pass_named, place_named, r1_line, r2_line, r3_line, side_named, sign_named, slide_line, told_by}

-- a word names a place exactly where it is read from it
NamesPlace-place_named : (word : List ℕ) (place : ℕ) → place_named word ≡ Some place → NamesPlace word place
NamesPlace-place_named word place same =
    option_and_then_some (λ p. cond (nat_le p NAMED_LIMIT) (Some p) None) (numeral_of NAMED_DIGITS word) place same (λ p is_p passes.
    let found = cond_some (nat_le p NAMED_LIMIT) p place passes in
    subst (NamesPlace word) found.1 (record {
      written = WritesNumber-numeral_of NAMED_DIGITS word p is_p;
      within = leb-true p NAMED_LIMIT found.0;
    }))

place_named-NamesPlace : (word : List ℕ) (place : ℕ) → NamesPlace word place → place_named word ≡ Some place
place_named-NamesPlace word place named =
    ap (option_and_then (λ p. cond (nat_le p NAMED_LIMIT) (Some p) None)) (numeral_of-WritesNumber NAMED_DIGITS word place named.written)
    ∙ ap (λ (b : Bool). cond b (Some place) None) (le-leb place NAMED_LIMIT named.within)

-- what is told by one of two words has a word that is the one which tells it
told-word : {T : Type 0} (word first second : List ℕ) (one other thing : T) (spell : T → List ℕ)
    → spell one ≡ first → spell other ≡ second → told_by word first one second other ≡ Some thing → word ≡ spell thing
told-word {T} word first second one other thing spell is_first is_second same =
    go (bytes_eq word first) (bytes_eq word second) refl refl same
  where
    go : (a b : Bool) → bytes_eq word first ≡ a → bytes_eq word second ≡ b → cond a (Some one) (cond b (Some other) None) ≡ Some thing
        → word ≡ spell thing
    go true b is is_other so =
        (bytes_eq-Decides word first).0 is ∙ sym is_first ∙ ap spell (cond_some true one thing so).1
    go false true is is_other so =
        (bytes_eq-Decides word second).0 is_other ∙ sym is_second ∙ ap spell (cond_some true other thing so).1
    go false false is is_other so = absurd (none-some thing so)

side_word-side_named : (word : List ℕ) (side : Side) → side_named word ≡ Some side → word ≡ side_word side
side_word-side_named word side same = told-word word (codes "left") (codes "right") Left Right side side_word refl refl same

pass_word-pass_named : (word : List ℕ) (under : Bool) → pass_named word ≡ Some under → word ≡ pass_word under
pass_word-pass_named word under same = told-word word (codes "under") (codes "over") true false under pass_word refl refl same

sign_word-sign_named : (word : List ℕ) (plus : Bool) → sign_named word ≡ Some plus → word ≡ sign_word plus
sign_word-sign_named word plus same = told-word word (codes "plus") (codes "minus") true false plus sign_word refl refl same

side_named-word : (side : Side) → side_named (side_word side) ≡ Some side
side_named-word Left = refl
side_named-word Right = refl

pass_named-word : (under : Bool) → pass_named (pass_word under) ≡ Some under
pass_named-word true = refl
pass_named-word false = refl

sign_named-word : (plus : Bool) → sign_named (sign_word plus) ≡ Some plus
sign_named-word true = refl
sign_named-word false = refl

-- a word that chooses what is read
chosen : (word first : List ℕ) (Spells : List ℕ → Type 0) (read other : Option EditLine) (line : EditLine)
    → (read ≡ Some line → Spells first) → (other ≡ Some line → Spells word)
    → cond (bytes_eq word first) read other ≡ Some line → Spells word
chosen word first Spells read other line here there same = go (bytes_eq word first) refl same
  where
    go : (b : Bool) → bytes_eq word first ≡ b → cond b read other ≡ Some line → Spells word
    go true is so = subst Spells (sym ((bytes_eq-Decides word first).0 is)) (here so)
    go false is so = there so

-- one word
SpellsEdit-lone : (name : List ℕ) (line : EditLine) → lone_line name ≡ Some line → SpellsEdit (name ∷ []) line
SpellsEdit-lone name line =
    chosen name (codes "undo") (λ n. SpellsEdit (n ∷ []) line) (Some Undo)
    (cond (bytes_eq name (codes "redo")) (Some Redo) None) line
    (λ so. subst (SpellsEdit (codes "undo" ∷ [])) (cond_some true Undo line so).1 refl)
    (chosen name (codes "redo") (λ n. SpellsEdit (n ∷ []) line) (Some Redo) None line
    (λ so. subst (SpellsEdit (codes "redo" ∷ [])) (cond_some true Redo line so).1 refl)
    (λ so. absurd (none-some line so)))

-- a kink that is dropped
SpellsEdit-kink_drop : (c : List ℕ) (line : EditLine) → kink_drop_line c ≡ Some line
    → SpellsEdit (codes "r1" ∷ codes "drop" ∷ c ∷ []) line
SpellsEdit-kink_drop c line same =
    option_map_some (λ crossing. Change (KinkDrop crossing)) (place_named c) line same (λ crossing is_crossing is_line.
    subst (SpellsEdit (codes "r1" ∷ codes "drop" ∷ c ∷ [])) is_line (c, refl, NamesPlace-place_named c crossing is_crossing))

-- a kink that is added
SpellsEdit-kink : (a pass sign : List ℕ) (line : EditLine) → kink_line a pass sign ≡ Some line
    → SpellsEdit (codes "r1" ∷ codes "add" ∷ a ∷ pass ∷ sign ∷ []) line
SpellsEdit-kink a pass sign line same =
    option_and_then_some
    (λ arc. option_and_then (λ under. option_map (λ plus. Change (KinkAdd arc under plus)) (sign_named sign)) (pass_named pass))
    (place_named a) line same (λ arc is_arc later.
    option_and_then_some (λ under. option_map (λ plus. Change (KinkAdd arc under plus)) (sign_named sign)) (pass_named pass) line later
    (λ under is_under last.
    option_map_some (λ plus. Change (KinkAdd arc under plus)) (sign_named sign) line last (λ plus is_plus is_line.
    subst (SpellsEdit (codes "r1" ∷ codes "add" ∷ a ∷ pass ∷ sign ∷ [])) is_line (
      a,
      ap (λ p. codes "r1" ∷ codes "add" ∷ a ∷ p ∷ sign ∷ []) (pass_word-pass_named pass under is_under)
          ∙ ap (λ s. codes "r1" ∷ codes "add" ∷ a ∷ pass_word under ∷ s ∷ []) (sign_word-sign_named sign plus is_plus),
      NamesPlace-place_named a arc is_arc,
    ))))

-- a finger that is added
SpellsEdit-finger : (a side b other : List ℕ) (line : EditLine) → finger_line a side b other ≡ Some line
    → SpellsEdit (codes "r2" ∷ codes "add" ∷ a ∷ side ∷ b ∷ other ∷ []) line
SpellsEdit-finger a side b other line same =
    option_and_then_some
    (λ over. option_and_then
    (λ over_side. option_and_then
    (λ under. option_map (λ under_side. Change (FingerAdd over over_side under under_side)) (side_named other))
    (place_named b))
    (side_named side))
    (place_named a) line same (λ over is_over second.
    option_and_then_some
    (λ over_side. option_and_then
    (λ under. option_map (λ under_side. Change (FingerAdd over over_side under under_side)) (side_named other))
    (place_named b))
    (side_named side) line second (λ over_side is_over_side third.
    option_and_then_some
    (λ under. option_map (λ under_side. Change (FingerAdd over over_side under under_side)) (side_named other))
    (place_named b) line third (λ under is_under last.
    option_map_some (λ under_side. Change (FingerAdd over over_side under under_side)) (side_named other) line last
    (λ under_side is_under_side is_line.
    subst (SpellsEdit (codes "r2" ∷ codes "add" ∷ a ∷ side ∷ b ∷ other ∷ [])) is_line (
      a,
      b,
      ap (λ s. codes "r2" ∷ codes "add" ∷ a ∷ s ∷ b ∷ other ∷ []) (side_word-side_named side over_side is_over_side)
          ∙ ap (λ s. codes "r2" ∷ codes "add" ∷ a ∷ side_word over_side ∷ b ∷ s ∷ []) (side_word-side_named other under_side is_under_side),
      NamesPlace-place_named a over is_over,
      NamesPlace-place_named b under is_under,
    )))))

-- two crossings of a bigon that are dropped
SpellsEdit-finger_drop : (c d : List ℕ) (line : EditLine) → finger_drop_line c d ≡ Some line
    → SpellsEdit (codes "r2" ∷ codes "drop" ∷ c ∷ d ∷ []) line
SpellsEdit-finger_drop c d line same =
    option_and_then_some (λ first. option_map (λ second. Change (FingerDrop first second)) (place_named d)) (place_named c) line same
    (λ first is_first last.
    option_map_some (λ second. Change (FingerDrop first second)) (place_named d) line last (λ second is_second is_line.
    subst (SpellsEdit (codes "r2" ∷ codes "drop" ∷ c ∷ d ∷ [])) is_line
    (c, d, refl, NamesPlace-place_named c first is_first, NamesPlace-place_named d second is_second)))

-- a slide
SpellsEdit-slide : (c d e : List ℕ) (line : EditLine) → slide_line c d e ≡ Some line → SpellsEdit (codes "r3" ∷ c ∷ d ∷ e ∷ []) line
SpellsEdit-slide c d e line same =
    option_and_then_some
    (λ first. option_and_then (λ second. option_map (λ third. Change (Slide first second third)) (place_named e)) (place_named d))
    (place_named c) line same (λ first is_first later.
    option_and_then_some (λ second. option_map (λ third. Change (Slide first second third)) (place_named e)) (place_named d) line later
    (λ second is_second last.
    option_map_some (λ third. Change (Slide first second third)) (place_named e) line last (λ third is_third is_line.
    subst (SpellsEdit (codes "r3" ∷ c ∷ d ∷ e ∷ [])) is_line (
      c,
      d,
      e,
      refl,
      NamesPlace-place_named c first is_first,
      NamesPlace-place_named d second is_second,
      NamesPlace-place_named e third is_third,
    ))))

-- the words behind `r1`
SpellsEdit-r1 : (words : List (List ℕ)) (line : EditLine) → r1_line words ≡ Some line → SpellsEdit (codes "r1" ∷ words) line
SpellsEdit-r1 [] line same = absurd (none-some line same)
SpellsEdit-r1 (verb ∷ []) line same = absurd (none-some line same)
SpellsEdit-r1 (verb ∷ c ∷ []) line same =
    chosen verb (codes "drop") (λ v. SpellsEdit (codes "r1" ∷ v ∷ c ∷ []) line) (kink_drop_line c) None line
    (SpellsEdit-kink_drop c line) (λ so. absurd (none-some line so)) same
SpellsEdit-r1 (verb ∷ a ∷ pass ∷ []) line same = absurd (none-some line same)
SpellsEdit-r1 (verb ∷ a ∷ pass ∷ sign ∷ []) line same =
    chosen verb (codes "add") (λ v. SpellsEdit (codes "r1" ∷ v ∷ a ∷ pass ∷ sign ∷ []) line) (kink_line a pass sign) None line
    (SpellsEdit-kink a pass sign line) (λ so. absurd (none-some line so)) same
SpellsEdit-r1 (verb ∷ a ∷ pass ∷ sign ∷ more ∷ others) line same = absurd (none-some line same)

-- the words behind `r2`
SpellsEdit-r2 : (words : List (List ℕ)) (line : EditLine) → r2_line words ≡ Some line → SpellsEdit (codes "r2" ∷ words) line
SpellsEdit-r2 [] line same = absurd (none-some line same)
SpellsEdit-r2 (verb ∷ []) line same = absurd (none-some line same)
SpellsEdit-r2 (verb ∷ c ∷ []) line same = absurd (none-some line same)
SpellsEdit-r2 (verb ∷ c ∷ d ∷ []) line same =
    chosen verb (codes "drop") (λ v. SpellsEdit (codes "r2" ∷ v ∷ c ∷ d ∷ []) line) (finger_drop_line c d) None line
    (SpellsEdit-finger_drop c d line) (λ so. absurd (none-some line so)) same
SpellsEdit-r2 (verb ∷ a ∷ side ∷ b ∷ []) line same = absurd (none-some line same)
SpellsEdit-r2 (verb ∷ a ∷ side ∷ b ∷ other ∷ []) line same =
    chosen verb (codes "add") (λ v. SpellsEdit (codes "r2" ∷ v ∷ a ∷ side ∷ b ∷ other ∷ []) line) (finger_line a side b other) None line
    (SpellsEdit-finger a side b other line) (λ so. absurd (none-some line so)) same
SpellsEdit-r2 (verb ∷ a ∷ side ∷ b ∷ other ∷ more ∷ others) line same = absurd (none-some line same)

-- the words behind `r3`
SpellsEdit-r3 : (words : List (List ℕ)) (line : EditLine) → r3_line words ≡ Some line → SpellsEdit (codes "r3" ∷ words) line
SpellsEdit-r3 [] line same = absurd (none-some line same)
SpellsEdit-r3 (c ∷ []) line same = absurd (none-some line same)
SpellsEdit-r3 (c ∷ d ∷ []) line same = absurd (none-some line same)
SpellsEdit-r3 (c ∷ d ∷ e ∷ []) line same = SpellsEdit-slide c d e line same
SpellsEdit-r3 (c ∷ d ∷ e ∷ more ∷ others) line same = absurd (none-some line same)

-- a name and the words behind it
SpellsEdit-move : (name : List ℕ) (words : List (List ℕ)) (line : EditLine) → move_line name words ≡ Some line
    → SpellsEdit (name ∷ words) line
SpellsEdit-move name words line =
    chosen name (codes "r1") (λ n. SpellsEdit (n ∷ words) line) (r1_line words)
    (cond (bytes_eq name (codes "r2")) (r2_line words) (cond (bytes_eq name (codes "r3")) (r3_line words) None)) line
    (SpellsEdit-r1 words line)
    (chosen name (codes "r2") (λ n. SpellsEdit (n ∷ words) line) (r2_line words)
    (cond (bytes_eq name (codes "r3")) (r3_line words) None) line
    (SpellsEdit-r2 words line)
    (chosen name (codes "r3") (λ n. SpellsEdit (n ∷ words) line) (r3_line words) None line
    (SpellsEdit-r3 words line) (λ so. absurd (none-some line so))))

-- what is read from words, they spell
SpellsEdit-edit_line_of : (words : List (List ℕ)) (line : EditLine) → edit_line_of words ≡ Some line → SpellsEdit words line
SpellsEdit-edit_line_of [] line same = absurd (none-some line same)
SpellsEdit-edit_line_of (name ∷ []) line same = SpellsEdit-lone name line same
SpellsEdit-edit_line_of (name ∷ word ∷ words) line same = SpellsEdit-move name (word ∷ words) line same

-- what words spell is read from them
edit_line_of-SpellsEdit : (words : List (List ℕ)) (line : EditLine) → SpellsEdit words line → edit_line_of words ≡ Some line
edit_line_of-SpellsEdit words (Change (KinkAdd arc under plus)) (a, are, is_arc) =
    ap edit_line_of are
    ∙ ap (option_and_then
    (λ x. option_and_then (λ u. option_map (λ p. Change (KinkAdd x u p)) (sign_named (sign_word plus))) (pass_named (pass_word under))))
    (place_named-NamesPlace a arc is_arc)
    ∙ ap (option_and_then (λ u. option_map (λ p. Change (KinkAdd arc u p)) (sign_named (sign_word plus)))) (pass_named-word under)
    ∙ ap (option_map (λ p. Change (KinkAdd arc under p))) (sign_named-word plus)
edit_line_of-SpellsEdit words (Change (KinkDrop crossing)) (c, are, is_crossing) =
    ap edit_line_of are ∙ ap (option_map (λ x. Change (KinkDrop x))) (place_named-NamesPlace c crossing is_crossing)
edit_line_of-SpellsEdit words (Change (FingerAdd over over_side under under_side)) (a, b, are, is_over, is_under) =
    ap edit_line_of are
    ∙ ap (option_and_then
    (λ o. option_and_then
    (λ s. option_and_then (λ u. option_map (λ t. Change (FingerAdd o s u t)) (side_named (side_word under_side))) (place_named b))
    (side_named (side_word over_side))))
    (place_named-NamesPlace a over is_over)
    ∙ ap (option_and_then
    (λ s. option_and_then (λ u. option_map (λ t. Change (FingerAdd over s u t)) (side_named (side_word under_side))) (place_named b)))
    (side_named-word over_side)
    ∙ ap (option_and_then (λ u. option_map (λ t. Change (FingerAdd over over_side u t)) (side_named (side_word under_side))))
    (place_named-NamesPlace b under is_under)
    ∙ ap (option_map (λ t. Change (FingerAdd over over_side under t))) (side_named-word under_side)
edit_line_of-SpellsEdit words (Change (FingerDrop first second)) (c, d, are, is_first, is_second) =
    ap edit_line_of are
    ∙ ap (option_and_then (λ x. option_map (λ y. Change (FingerDrop x y)) (place_named d))) (place_named-NamesPlace c first is_first)
    ∙ ap (option_map (λ y. Change (FingerDrop first y))) (place_named-NamesPlace d second is_second)
edit_line_of-SpellsEdit words (Change (Slide first second third)) (c, d, e, are, is_first, is_second, is_third) =
    ap edit_line_of are
    ∙ ap (option_and_then (λ x. option_and_then (λ y. option_map (λ z. Change (Slide x y z)) (place_named e)) (place_named d)))
    (place_named-NamesPlace c first is_first)
    ∙ ap (option_and_then (λ y. option_map (λ z. Change (Slide first y z)) (place_named e))) (place_named-NamesPlace d second is_second)
    ∙ ap (option_map (λ z. Change (Slide first second z))) (place_named-NamesPlace e third is_third)
edit_line_of-SpellsEdit words Undo are = ap edit_line_of are
edit_line_of-SpellsEdit words Redo are = ap edit_line_of are

-- words spell a line exactly where it is read from them
pub edit_line_of-means : (words : List (List ℕ)) (line : EditLine) → (edit_line_of words ≡ Some line) ↔ SpellsEdit words line
edit_line_of-means words line = (SpellsEdit-edit_line_of words line, edit_line_of-SpellsEdit words line)
