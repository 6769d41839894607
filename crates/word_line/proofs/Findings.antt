-- What `clap` finds in the words of a line is what the machine takes of them, and so words mean a command exactly where the rows that
-- are taken give it (`Reads`): from that follow, for each line and its commands, the clauses of the reading, and that words mean one
-- command or none.
use Rattle.std.proofs.lemmas.Bool.Decides.{nat_tests}
use Rattle.std.proofs.Common.{◌≡◌, ◌&&◌, ◌⊎◌, inl, inr, Bool, true, false, List, [], ◌∷◌, Option, Some, None, refl, sym, ap, ap₂, cond, not, ◌∙◌, arith, drop}
use Rattle.std.proofs.lemmas.Option.{none-some, option_and_then_some, same_Some}
use Rattle.std.specs.Prelude.{if◌then◌else◌, is_some}
use Rattle.std.specs.Option.{option_and_then}
use Rattle.clap.specs.Walk as steps
use Rattle.clap.specs.Walk.{Row, Text, walk, idle, nothing_held}
use Rattle.clap.specs.Simple.{App, entered, matches_of, names_of}
use Rattle.clap.specs.Faults.{built_fault, entered_fault, fault_of, level_fault}
use Rattle.clap.specs.Kinds.{Kinds}
use Rattle.word_line.proofs.Rules.{Line}
use Rattle.word_line.proofs.Rows.{Use, has, rows_at}
use Rattle.word_line.proofs.Machine.{ready, rows_taken, taken, with_task}
use Rattle.word_line.proofs.Walks.{fault_from, passed, walk_at, walk_of}
use Rattle.word_line.proofs.Agreement.{found_is_taken}

passed_none : (kinds : Kinds) (rows : List Row) → kinds ≡ [] → passed kinds rows ≡ Some rows
passed_none kinds rows none = rw none refl

none_passed : (kinds : Kinds) (rows made : List Row) → passed kinds rows ≡ Some made → kinds ≡ []
none_passed [] rows made same = refl
none_passed (kind ∷ kinds) rows made same = absurd (none-some made same)

module _ (line : Line) where
  abbrev line_built : App
  line_built = record { top = line.shape; subs = [] }

  start_fault : (words : List Text) (stop : Option (Text × List Text))
      → level_fault line.shape [] nothing_held words (is_some (entered line_built stop)) (entered_fault line_built stop)
      ≡ fault_from line (walk_at idle false 1 nothing_held) words
  start_fault words stop = grind (arith, nat_tests)

  fault_is : (words : List Text) → fault_of line.app words ≡ fault_from line (walk_at idle false 1 nothing_held) words
  fault_is words =
      ap₂ (λ (a : App) (b : Bool). built_fault a nothing_held (if b then words else drop 1 words)) line.is_built line.no_binary_name
      ∙ start_fault words (walk line.shape.rules [] nothing_held words).stopped

  matches_is : (words : List Text)
      → matches_of line.app words ≡ steps.finished line.shape.rules (walk_of line (walk_at idle false 1 nothing_held) words).held
  matches_is words =
      ap₂ (λ (a : App) (b : Bool). steps.rows_after a.top.rules (names_of a) (if b then words else drop 1 words))
      line.is_built line.no_binary_name

  -- words that `clap` takes, with what it finds
  pub taken_rows : (words : List Text) (rows : List Row) → fault_of line.app words ≡ [] → rows ≡ matches_of line.app words
      → rows_taken line ready [] words ≡ Some rows
  taken_rows words rows none are =
      sym (found_is_taken line words)
      ∙ passed_none (fault_from line (walk_at idle false 1 nothing_held) words) _ (sym (fault_is words) ∙ none)
      ∙ ap Some (sym (matches_is words) ∙ sym are)

  -- words that are taken have no fault for `clap`
  pub taken_faultless : (words : List Text) (rows : List Row) → rows_taken line ready [] words ≡ Some rows → fault_of line.app words ≡ []
  taken_faultless words rows took = fault_is words ∙ none_passed _ _ rows (found_is_taken line words ∙ took)

  -- the rows that are taken are those of texts
  pub rows_uses : (words : List Text) (rows : List Row) → rows_taken line ready [] words ≡ Some rows
      → (uses : List Use) × (taken line ready [] words ≡ Some uses) × (rows_at uses ≡ rows)
  rows_uses words rows took =
      option_and_then_some (with_task line) (taken line ready [] words) rows took (λ uses is_uses is_rows.
      (uses, is_uses, go uses (line.required && not (has None uses)) is_rows))
    where
      go : (uses : List Use) (b : Bool) → cond b None (Some (rows_at uses)) ≡ Some rows → rows_at uses ≡ rows
      go uses true same = absurd (none-some rows same)
      go uses false same = same_Some (rows_at uses) rows same

-- words of a line mean a command exactly where they are taken and the rows give the command
pub record Reads (line : Line) {C : Type 0} (Means : List Text → C → Type 0) (command_in : List Row → Option C) : Type 0 where
  pub from_rows : (words : List Text) (rows : List Row) (command : C) → rows_taken line ready [] words ≡ Some rows
      → command_in rows ≡ Some command → Means words command
  pub to_rows : (words : List Text) (command : C) → Means words command
      → (rows : List Row) × (rows_taken line ready [] words ≡ Some rows) × (command_in rows ≡ Some command)

module _ {line : Line} {C : Type 0} {Means : List Text → C → Type 0} {command_in : List Row → Option C}
    (reads : Reads line Means command_in) where
  -- words that mean a command have no fault for `clap`
  pub faultless : (words : List Text) (command : C) → Means words command → fault_of line.app words ≡ []
  faultless words command is = let rows = reads.to_rows words command is in taken_faultless line words rows.0 rows.1

  -- words that `clap` takes mean the command that its rows give
  pub rows_mean : (words : List Text) (rows : List Row) (command : C) → fault_of line.app words ≡ [] → rows ≡ matches_of line.app words
      → command_in rows ≡ Some command → Means words command
  rows_mean words rows command none are same = reads.from_rows words rows command (taken_rows line words rows none are) same

  -- and none where its rows give none
  pub rows_mean_none : (words : List Text) (rows : List Row) → fault_of line.app words ≡ [] → rows ≡ matches_of line.app words
      → command_in rows ≡ None → (command : C) → Means words command → ⊥
  rows_mean_none words rows none are same command is =
      let found = reads.to_rows words command is in
      let rows_are : rows ≡ found.0 = same_Some rows found.0 (sym (taken_rows line words rows none are) ∙ found.1) in
      none-some command (sym same ∙ ap command_in rows_are ∙ found.2)

  -- words that are written out
  pub means_none : (words : List Text) → option_and_then command_in (rows_taken line ready [] words) ≡ None
      → (command : C) → Means words command → ⊥
  means_none words none command is =
      let found = reads.to_rows words command is in
      none-some command (sym none ∙ ap (option_and_then command_in) found.1 ∙ found.2)

  pub means_this : (words : List Text) (command : C) → option_and_then command_in (rows_taken line ready [] words) ≡ Some command
      → Means words command
  means_this words command same =
      option_and_then_some command_in (rows_taken line ready [] words) command same (λ rows is_rows is.
      reads.from_rows words rows command is_rows is)

  -- words mean a command, or they mean none
  pub means-decided : (words : List Text) → ((command : C) × Means words command) ⊎ ((command : C) → Means words command → ⊥)
  means-decided words = go (option_and_then command_in (rows_taken line ready [] words)) refl
    where
      go : (found : Option C) → option_and_then command_in (rows_taken line ready [] words) ≡ found
          → ((command : C) × Means words command) ⊎ ((command : C) → Means words command → ⊥)
      go None none = inr (means_none words none)
      go (Some command) some = inl (command, means_this words command some)

  -- words mean one command at most
  pub means-one : (words : List Text) (first second : C) → Means words first → Means words second → first ≡ second
  means-one words first second is_first is_second =
      let one = reads.to_rows words first is_first in
      let two = reads.to_rows words second is_second in
      let rows_are : one.0 ≡ two.0 = same_Some one.0 two.0 (sym one.1 ∙ two.1) in
      same_Some first second (sym one.2 ∙ ap command_in rows_are ∙ two.2)
