-- What `clap` says of the words of a line is what the machine does with them.
-- By induction on the words, whatever was given before (`agree`). A text that `clap` holds as pending counts as given (`all_of`). The
-- machine refuses a second text of a slot at once, `clap` when it settles it, which may be at the end of the words: till then such
-- a walk is doomed, and finds nothing either.
use Rattle.std.proofs.lemmas.Bool.Decides.{nat_tests}
use Rattle.std.proofs.Common.{arith}
use Rattle.std.proofs.Common.{◌≡◌, ℕ, Bool, true, false, List, [], ◌∷◌, ◌++◌, Option, Some, None, refl, sym, ap, ap₂, cond, ◌∙◌, ◌||◌, ◌⊎◌}
use Rattle.std.specs.Option.{option_map, option_and_then}
use Rattle.std.specs.Prelude.{codes, if◌then◌else◌}
use Rattle.std.specs.Str.{bytes_eq}
use Rattle.clap.specs.Lexer.{long_of}
use Rattle.clap.specs.Walk.{Held, used, nothing_held, reacted, Row, Text, idle, after_flag, long_met, option, plain_word, settled}
use Rattle.clap.specs.Walk as walk
use Rattle.clap.specs.Faults.{long_fault, use_fault}
use Rattle.clap.specs.Kinds.{Kinds, or_else}
use Rattle.clap.specs.declared.error.kind.ErrorKind.TheVariants as kind
use Rattle.word_line.specs.Pieces.{Key, key_name}
use Rattle.word_line.proofs.Rules.{Line, Slot, id_of, rule_at}
use Rattle.word_line.proofs.Rows.{Pending, nothing, one, Use, all_of, Fits, has, held_at, held_waiting, same_id, settle_fault-fits, settle_fault-waiting, settled_fits, use_fault-again, use_fault-first, used_more}
use Rattle.word_line.proofs.Machine.{IsText, Look, Mode, added, in_mode, is_ending, is_long, is_short, is_text, look, option_step, ready, ready_step, rows_taken, sort_ending, sort_long, sort_short, sort_text, taken, trailing, value_step, waits, with_task}
use Rattle.word_line.proofs.Walks.{doomed, doomed_trailing, ended_fits, ends, fault_long, fault_short, fault_text, flag_fault, found_from, found_nil, held_skip, leads, met_long, met_text, place_of, stops, text_first, text_second, trail_first, trail_second, walk_at}

place_by : (uses : List Use) (b : Bool) → has None uses ≡ b → place_of uses ≡ (if b then 2 else 1)
place_by uses b is = ap (λ (some : Bool). if some then 2 else 1) is

place_some : (uses : List Use) → (place_of uses ≡ 1) ⊎ (place_of uses ≡ 2)
place_some uses = grind (arith, nat_tests)

or_no : (b : Bool) → (b || false) ≡ b
or_no b = grind (arith, nat_tests)

has_push : (slot : Slot) (uses : List Use) (given : Use)
    → has slot (uses ++ given ∷ []) ≡ (has slot uses || bytes_eq (id_of given.0) (id_of slot))
has_push slot [] given = or_no (bytes_eq (id_of given.0) (id_of slot))
has_push slot (first ∷ uses) given = go (bytes_eq (id_of first.0) (id_of slot)) (has_push slot uses given)
  where
    go : (b : Bool) → has slot (uses ++ given ∷ []) ≡ (has slot uses || bytes_eq (id_of given.0) (id_of slot))
        → (b || has slot (uses ++ given ∷ [])) ≡ ((b || has slot uses) || bytes_eq (id_of given.0) (id_of slot))
    go b rest = grind (arith, nat_tests)

pub key_differs : (key : Key) → bytes_eq (key_name key) (codes "task") ≡ false
key_differs key = grind (arith, nat_tests)

place_push : (uses : List Use) (key : Key) (value : Text) → place_of (uses ++ (Some key, value) ∷ []) ≡ place_of uses
place_push uses key value =
    ap (λ b. cond b 2 1) (has_push None uses (Some key, value) ∙ ap (λ b. has None uses || b) (key_differs key) ∙ or_no (has None uses))

place_push-task : (uses : List Use) (value : Text) → place_of (uses ++ (None, value) ∷ []) ≡ 2
place_push-task uses value =
    ap (λ b. cond b 2 1) (has_push None uses (None, value) ∙ ap (λ b. has None uses || b) (same_id None) ∙ or_yes (has None uses))
  where
    or_yes : (b : Bool) → (b || true) ≡ true
    or_yes true = refl
    or_yes false = refl

module _ (line : Line) where
  -- what is found in the words that are left after one
  abbrev rows_after : Option (Mode × List Use) → List Text → Option (List Row)
  rows_after next words = option_and_then (with_task line) (option_and_then (λ n. taken line n.0 n.1 words) next)

  -- where no word is left
  nil_is : (trail : Bool) (uses : List Use) (pending : Pending) → Fits line uses pending
      → found_from line (walk_at idle trail (place_of (all_of uses pending)) (held_at uses pending)) []
      ≡ with_task line (all_of uses pending)
  nil_is trail uses pending fits =
      found_nil line (walk_at idle trail (place_of (all_of uses pending)) (held_at uses pending)) [] (held_at (all_of uses pending) nothing)
      (settle_fault-fits line uses pending fits) (settled_fits line uses pending fits) ∙ ended_fits line (all_of uses pending)

  -- behind `--`
  trailing_is : (words : List Text) (uses : List Use) (pending : Pending) → Fits line uses pending
      → found_from line (walk_at idle true (place_of (all_of uses pending)) (held_at uses pending)) words
      ≡ rows_taken line trailing (all_of uses pending) words
  trailing_is [] uses pending fits = nil_is true uses pending fits
  trailing_is (word ∷ words) uses pending fits =
      go (λ fresh. trailing_is words (all_of uses pending) (one (None, word)) (fresh, tt)) (has None (all_of uses pending)) refl
    where
      all : List Use
      all = all_of uses pending

      go : (has None all ≡ false
          → found_from line (walk_at idle true (place_of (all ++ (None, word) ∷ [])) (held_at all (one (None, word)))) words
          ≡ rows_taken line trailing (all ++ (None, word) ∷ []) words) → (b : Bool) → has None all ≡ b
          → found_from line (walk_at idle true (place_of all) (held_at uses pending)) (word ∷ words)
          ≡ rows_taken line trailing all (word ∷ words)
      go rest true is = grind (arith, nat_tests, found_from line, walk_at, held_at, place_by, all, trail_second line)
      go rest false is = grind (arith, nat_tests, found_from line, walk_at, held_at, place_by, all, trail_first line, one, place_push-task)

  -- what `clap` says of words is what the machine does with them, where nothing waits for a value, and where an option does
  record Agrees (words : List Text) : Type 0 where
    at_ready : (uses : List Use) (pending : Pending) → Fits line uses pending
        → found_from line (walk_at idle false (place_of (all_of uses pending)) (held_at uses pending)) words
        ≡ rows_taken line ready (all_of uses pending) words
    at_waits : (uses : List Use) (key : Key) → line.knows key
        → found_from line (walk_at (option (id_of (Some key))) false (place_of uses) (held_waiting uses (Some key))) words
        ≡ rows_taken line (waits key) uses words

  waits_nil : (uses : List Use) (key : Key) → line.knows key
      → found_from line (walk_at (option (id_of (Some key))) false (place_of uses) (held_waiting uses (Some key))) []
      ≡ rows_taken line (waits key) uses []
  waits_nil uses key known =
      let w = walk_at (option (id_of (Some key))) false (place_of uses) (held_waiting uses (Some key)) in
      found_nil line w (kind.InvalidValue ∷ []) (settled line.shape.rules w.held) (settle_fault-waiting line uses (Some key) known) refl

  -- a text where nothing waits
  ready_text : (word : Text) (words : List Text) → Agrees words → (uses : List Use) (pending : Pending) → Fits line uses pending
      → IsText word
      → (b : Bool) → has None (all_of uses pending) ≡ b
      → found_from line (walk_at idle false (place_of (all_of uses pending)) (held_at uses pending)) (word ∷ words)
      ≡ rows_after (in_mode ready (added (all_of uses pending) None word)) words
  ready_text word words agrees uses pending fits is true some =
      let all = all_of uses pending in
      ap (λ place. found_from line (walk_at idle false place (held_at uses pending)) (word ∷ words)) (place_by all true some)
      ∙ text_second line uses pending word words is ∙ sym (rw some refl)
  ready_text word words agrees uses pending fits is false none =
      let all = all_of uses pending in
      ap (λ place. found_from line (walk_at idle false place (held_at uses pending)) (word ∷ words)) (place_by all false none)
      ∙ text_first line uses pending word words fits is
      ∙ ap (λ place. found_from line (walk_at idle false place (held_at all (one (None, word)))) words) (sym (place_push-task all word))
      ∙ agrees.at_ready all (one (None, word)) (none, tt) ∙ sym (rw none refl)

  -- an option where nothing waits
  ready_value : (word : Text) (words : List Text) → Agrees words → (uses : List Use) (pending : Pending) → Fits line uses pending
      → bytes_eq word (45 ∷ 45 ∷ []) ≡ false → (name value : Text) → long_of word ≡ Some (name, Some value)
      → (key : Key) → line.key_of name ≡ Some key → (b : Bool) → has (Some key) (all_of uses pending) ≡ b
      → found_from line (walk_at idle false (place_of (all_of uses pending)) (held_at uses pending)) (word ∷ words)
      ≡ rows_after (in_mode ready (added (all_of uses pending) (Some key) value)) words
  ready_value word words agrees uses pending fits dashes name value is key named true some =
      let h = held_at uses pending in
      let all = all_of uses pending in
      let fault : long_fault line.shape.rules false (Some (rule_at line.required (Some key))) (Some value) h ≡ kind.ArgumentConflict ∷ [] =
      ap₂ (λ (f : Kinds) (s : Held). or_else f (use_fault false (rule_at line.required (Some key)) (value ∷ []) s.rows))
      (settle_fault-fits line uses pending fits) (settled_fits line uses pending fits)
      ∙ use_fault-again line.required (Some key) value all some in
      stops line idle (place_of all) h word words kind.ArgumentConflict []
      (fault_long line h word name (Some value) dashes is
      ∙ ap (λ k. long_fault line.shape.rules false (option_map (λ key. rule_at line.required (Some key)) k) (Some value) h) named ∙ fault)
      ∙ sym (rw some refl)
  ready_value word words agrees uses pending fits dashes name value is key named false none =
      let h = held_at uses pending in
      let all = all_of uses pending in
      let fault : long_fault line.shape.rules false (Some (rule_at line.required (Some key))) (Some value) h ≡ [] =
      ap₂ (λ (f : Kinds) (s : Held). or_else f (use_fault false (rule_at line.required (Some key)) (value ∷ []) s.rows))
      (settle_fault-fits line uses pending fits) (settled_fits line uses pending fits)
      ∙ use_fault-first line.required (Some key) value all none in
      let next : reacted line.shape.rules (rule_at line.required (Some key)) (value ∷ []) h
      ≡ held_at (all ++ (Some key, value) ∷ []) nothing =
      ap₂ (λ (rows : List Row) (skip : ℕ). record { rows = rows; pending = None; skip = skip })
      (ap (λ (s : Held). used (rule_at line.required (Some key)) (value ∷ []) s.rows) (settled_fits line uses pending fits)
      ∙ used_more line.required (Some key) value all none) (held_skip uses pending) in
      leads line idle (place_of all) h word words
      (reacted line.shape.rules (rule_at line.required (Some key)) (value ∷ []) h, walk.next idle)
      (met_long line idle (place_of all) h word name (Some value) dashes is
      ∙ ap (λ k. let out = long_met line.shape.rules (option_map (λ key. rule_at line.required (Some key)) k) (Some value) h in
      after_flag line.shape.rules idle word out.0 out.1) named)
      (fault_long line h word name (Some value) dashes is
      ∙ ap (λ k. long_fault line.shape.rules false (option_map (λ key. rule_at line.required (Some key)) k) (Some value) h) named
      ∙ fault) refl
      ∙ ap₂ (λ place held. found_from line (walk_at idle false place held) words) (sym (place_push all key value)) next
      ∙ agrees.at_ready (all ++ (Some key, value) ∷ []) nothing tt ∙ sym (rw none refl)

  ready_name : (word : Text) (words : List Text) → Agrees words → (uses : List Use) (pending : Pending) → Fits line uses pending
      → bytes_eq word (45 ∷ 45 ∷ []) ≡ false → (name : Text) → long_of word ≡ Some (name, None)
      → (key : Key) → line.key_of name ≡ Some key
      → found_from line (walk_at idle false (place_of (all_of uses pending)) (held_at uses pending)) (word ∷ words)
      ≡ rows_after (Some (waits key, all_of uses pending)) words
  ready_name word words agrees uses pending fits dashes name is key named =
      let h = held_at uses pending in
      let all = all_of uses pending in
      let next : record (settled line.shape.rules h) { pending = Some (key_name key, []) } ≡ held_waiting all (Some key) =
      ap (λ (s : Held). record s { pending = Some (key_name key, []) }) (settled_fits line uses pending fits) in
      leads line idle (place_of all) h word words
      (record (settled line.shape.rules h) { pending = Some (key_name key, []) }, walk.next (option (key_name key)))
      (met_long line idle (place_of all) h word name None dashes is
      ∙ ap (λ k. let out = long_met line.shape.rules (option_map (λ key. rule_at line.required (Some key)) k) None h in
      after_flag line.shape.rules idle word out.0 out.1) named)
      (fault_long line h word name None dashes is
      ∙ ap (λ k. long_fault line.shape.rules false (option_map (λ key. rule_at line.required (Some key)) k) None h) named
      ∙ settle_fault-fits line uses pending fits) refl
      ∙ ap (λ held. found_from line (walk_at (option (key_name key)) false (place_of all) held) words) next
      ∙ agrees.at_waits all key (line.key_of-is name key named).1

  ready_long : (word : Text) (words : List Text) → Agrees words → (uses : List Use) (pending : Pending) → Fits line uses pending
      → bytes_eq word (45 ∷ 45 ∷ []) ≡ false → (name : Text) (value : Option Text) → long_of word ≡ Some (name, value)
      → (key : Option Key) → line.key_of name ≡ key
      → found_from line (walk_at idle false (place_of (all_of uses pending)) (held_at uses pending)) (word ∷ words)
      ≡ rows_after (option_step (all_of uses pending) key value) words
  ready_long word words agrees uses pending fits dashes name value is None named =
      let h = held_at uses pending in
      stops line idle (place_of (all_of uses pending)) h word words kind.UnknownArgument []
      (fault_long line h word name value dashes is
      ∙ ap (λ k. long_fault line.shape.rules false (option_map (λ key. rule_at line.required (Some key)) k) value h) named)
  ready_long word words agrees uses pending fits dashes name None is (Some key) named =
      ready_name word words agrees uses pending fits dashes name is key named
  ready_long word words agrees uses pending fits dashes name (Some value) is (Some key) named =
      ready_value word words agrees uses pending fits dashes name value is key named (has (Some key) (all_of uses pending)) refl

  ready_cons : (word : Text) (words : List Text) → Agrees words → (uses : List Use) (pending : Pending) → Fits line uses pending → Look word
      → found_from line (walk_at idle false (place_of (all_of uses pending)) (held_at uses pending)) (word ∷ words)
      ≡ rows_taken line ready (all_of uses pending) (word ∷ words)
  ready_cons word words agrees uses pending fits (is_ending is) =
      let all = all_of uses pending in
      ends line idle (place_of all) (held_at uses pending) word words is ∙ trailing_is words uses pending fits
      ∙ ap (λ sort. rows_after (ready_step line all sort word) words) (sym (sort_ending word is))
  ready_cons word words agrees uses pending fits (is_long dashes name value is) =
      let all = all_of uses pending in
      ready_long word words agrees uses pending fits dashes name value is (line.key_of name) refl
      ∙ ap (λ sort. rows_after (ready_step line all sort word) words) (sym (sort_long word name value dashes is))
  ready_cons word words agrees uses pending fits (is_short dashes no_name flags is x head) =
      let all = all_of uses pending in
      stops line idle (place_of all) (held_at uses pending) word words kind.UnknownArgument []
      (fault_short line (held_at uses pending) word flags x (held_skip uses pending) dashes no_name is head)
      ∙ ap (λ sort. rows_after (ready_step line all sort word) words) (sym (sort_short word flags x dashes no_name is head))
  ready_cons word words agrees uses pending fits (is_text is) =
      let all = all_of uses pending in
      ready_text word words agrees uses pending fits is (has None all) refl
      ∙ ap (λ sort. rows_after (ready_step line all sort word) words) (sym (sort_text word is))

  -- a word where an option waits
  waits_text : (word : Text) (words : List Text) → Agrees words → (uses : List Use) (key : Key) → line.knows key → IsText word
      → (b : Bool) → has (Some key) uses ≡ b
      → found_from line (walk_at (option (key_name key)) false (place_of uses) (held_waiting uses (Some key))) (word ∷ words)
      ≡ rows_after (in_mode ready (added uses (Some key) word)) words
  waits_text word words agrees uses key known is b same = lead ∙ go b same
    where
      h : Held
      h = held_waiting uses (Some key)

      over : plain_word line.shape.rules (option (key_name key)) word h ≡ (held_at uses (one (Some key, word)), walk.next idle)
      over = rw (line.by_id (Some key) known, same_id (Some key)) refl

      lead : found_from line (walk_at (option (key_name key)) false (place_of uses) h) (word ∷ words)
          ≡ found_from line (walk_at idle false (place_of uses) (held_at uses (one (Some key, word)))) words
      lead = leads line (option (key_name key)) (place_of uses) h word words (held_at uses (one (Some key, word)), walk.next idle)
          (met_text line (option (key_name key)) (place_of uses) h word refl refl is ∙ over) (fault_text line h word refl is) refl

      go : (b : Bool) → has (Some key) uses ≡ b
          → found_from line (walk_at idle false (place_of uses) (held_at uses (one (Some key, word)))) words
          ≡ rows_after (in_mode ready (added uses (Some key) word)) words
      go true some = doomed line (place_of uses) uses (Some key, word) words known some (place_some uses) ∙ sym (rw some refl)
      go false none =
          ap (λ place. found_from line (walk_at idle false place (held_at uses (one (Some key, word)))) words)
          (sym (place_push uses key word))
          ∙ agrees.at_ready uses (one (Some key, word)) (none, known) ∙ sym (rw none refl)

  waits_cons : (word : Text) (words : List Text) → Agrees words → (uses : List Use) (key : Key) → line.knows key → Look word
      → found_from line (walk_at (option (id_of (Some key))) false (place_of uses) (held_waiting uses (Some key))) (word ∷ words)
      ≡ rows_taken line (waits key) uses (word ∷ words)
  waits_cons word words agrees uses key known (is_ending is) =
      let h = held_waiting uses (Some key) in
      ends line (option (key_name key)) (place_of uses) h word words is
      ∙ doomed_trailing line (option (key_name key)) (place_of uses) h words kind.InvalidValue []
      (settle_fault-waiting line uses (Some key) known) (place_some uses)
      ∙ ap (λ sort. rows_after (value_step uses key sort word) words) (sym (sort_ending word is))
  waits_cons word words agrees uses key known (is_long dashes name value is) =
      let h = held_waiting uses (Some key) in
      let fault = flag_fault line h kind.InvalidValue (settle_fault-waiting line uses (Some key) known) (line.key_of name) value in
      stops line (option (key_name key)) (place_of uses) h word words fault.0 fault.1
      (fault_long line h word name value dashes is ∙ fault.2)
      ∙ ap (λ sort. rows_after (value_step uses key sort word) words) (sym (sort_long word name value dashes is))
  waits_cons word words agrees uses key known (is_short dashes no_name flags is x head) =
      let h = held_waiting uses (Some key) in
      stops line (option (key_name key)) (place_of uses) h word words kind.UnknownArgument []
      (fault_short line h word flags x refl dashes no_name is head)
      ∙ ap (λ sort. rows_after (value_step uses key sort word) words) (sym (sort_short word flags x dashes no_name is head))
  waits_cons word words agrees uses key known (is_text is) =
      waits_text word words agrees uses key known is (has (Some key) uses) refl
      ∙ ap (λ sort. rows_after (value_step uses key sort word) words) (sym (sort_text word is))

  agree : (words : List Text) → Agrees words
  agree [] = record { at_ready = nil_is false; at_waits = waits_nil }
  agree (word ∷ words) =
      let rest = agree words in
      record {
        at_ready = λ uses pending fits. ready_cons word words rest uses pending fits (look word);
        at_waits = λ uses key known. waits_cons word words rest uses key known (look word);
      }

  -- the rows that `clap` finds in the words, where it takes them
  pub found_is_taken : (words : List Text) → found_from line (walk_at idle false 1 nothing_held) words ≡ rows_taken line ready [] words
  found_is_taken words = (agree words).at_ready [] nothing tt
