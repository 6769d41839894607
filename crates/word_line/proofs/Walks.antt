-- What `clap` does with the words of a line: where it stands (`walk_at`), what it finds in words from there (`found_from`), and for a
-- word of each sort whether that stops it or where it leads: what it holds is settled first.
use Rattle.std.proofs.lemmas.Bool.Decides.{nat_tests}
use Rattle.std.proofs.Common.{arith}
use Rattle.std.proofs.Common.{◌≡◌, ℕ, zero, suc, Bool, true, false, List, [], ◌∷◌, length, Option, Some, None, refl, sym, ap, ap₂, cond, not, ◌∙◌, ◌&&◌, ◌⊎◌, inl, inr}
use Rattle.std.specs.List.{fold}
use Rattle.std.specs.Option.{option_map, option_map_or}
use Rattle.std.specs.Prelude.{if◌then◌else◌, slice_get}
use Rattle.std.specs.Str.{bytes_eq, chars}
use Rattle.clap.specs.Lexer.{long_of, short_of}
use Rattle.std.proofs.lemmas.Str.{chars-nil}
use Rattle.clap.specs.Walk.{Held, Outcome, is_pending, positional_held, pushed, bundle, plain, Row, Step, Text, Waiting, Walk, finished, idle, after_flag, after_step, bundle_met, long_met, plain_word, settled, short_or_plain, subcommand_met, subcommand_or_other, trailing as trailed, walked, with_default, word_met}
use Rattle.clap.specs.Walk as walk
use Rattle.clap.specs.Faults.{check_fault, defaults_fault, bundle_fault, flags_fault, long_fault, other_fault, settle_fault, step_fault, turn_fault, walk_fault, word_fault}
use Rattle.clap.specs.Kinds.{Kinds, or_else}
use Rattle.clap.specs.declared.error.kind.ErrorKind.{ErrorKind}
use Rattle.clap.specs.declared.error.kind.ErrorKind.TheVariants as kind
use Rattle.word_line.specs.Pieces.{Key}
use Rattle.word_line.proofs.Rules.{IsSlot, Line, id_of, rule_at}
use Rattle.word_line.proofs.Rows.{Pending, nothing, one, Use, all_of, Fits, given_has, has, held_at, rows_at, settle_fault-again, settle_fault-fits, settled_fits}
use Rattle.word_line.proofs.Machine.{IsText, Look, is_ending, is_long, is_short, is_text, look, with_task}

abbrev pub passed : Kinds → List Row → Option (List Row)
passed [] rows = Some rows
passed (k ∷ kinds) rows = None

-- where the walk stands
abbrev pub walk_at : Waiting → Bool → ℕ → Held → Walk
walk_at waiting trail place held = record { held = held; waiting = waiting; position = place; is_trailing = trail; stopped = None }

-- the place of the next positional
abbrev pub place_of : List Use → ℕ
place_of uses = if has None uses then 2 else 1

pub held_skip : (uses : List Use) (pending : Pending) → (held_at uses pending).skip ≡ 0
held_skip uses pending = grind (arith, nat_tests)

held_level : (uses : List Use) (pending : Pending) → record (held_at uses pending) { skip = 0 } ≡ held_at uses pending
held_level uses pending = grind (arith, nat_tests)

subcommand_none : (waiting : Waiting) (word : Text) → subcommand_met [] waiting word ≡ None
subcommand_none waiting word = grind (arith, nat_tests)

module _ (line : Line) where
  abbrev pub end_fault : Held → Kinds
  end_fault h = or_else (settle_fault line.shape.rules line.shape.args_override_self h)
      (or_else (defaults_fault (settled line.shape.rules h).rows line.shape.rules)
      (check_fault line.shape (finished line.shape.rules h) false))

  abbrev pub walk_of : Walk → List Text → Walk
  walk_of w words = fold (walked line.shape.rules []) w words

  -- what `clap` says of words, from where it stands
  abbrev pub fault_from : Walk → List Text → Kinds
  fault_from w words = or_else (walk_fault line.shape [] w words) (end_fault (walk_of w words).held)

  abbrev pub found_from : Walk → List Text → Option (List Row)
  found_from w words = passed (fault_from w words) (finished line.shape.rules (walk_of w words).held)

  found_step : (w : Walk) (word : Text) (words : List Text) → turn_fault line.shape [] w word ≡ []
      → found_from w (word ∷ words) ≡ found_from (walked line.shape.rules [] w word) words
  unfolding walk_fault
  found_step w word words none = rw none refl

  found_stop : (w : Walk) (word : Text) (words : List Text) (k : _) (ks : Kinds) → turn_fault line.shape [] w word ≡ k ∷ ks
      → found_from w (word ∷ words) ≡ None
  unfolding walk_fault
  found_stop w word words k ks some = rw some refl

  abbrev ended_with : Kinds → Held → Option (List Row)
  ended_with fault h = passed
      (or_else fault (or_else (defaults_fault h.rows line.shape.rules)
      (check_fault line.shape (fold with_default h.rows line.shape.rules) false)))
      (fold with_default h.rows line.shape.rules)

  pub found_nil : (w : Walk) (fault : Kinds) (h : Held) → settle_fault line.shape.rules false w.held ≡ fault
      → settled line.shape.rules w.held ≡ h
      → found_from w [] ≡ ended_with fault h
  unfolding walk_fault
  found_nil w fault h faulty same =
      ap₂ ended_with (ap (λ (again : Bool). settle_fault line.shape.rules again w.held) line.no_override ∙ faulty) same

  pub ended_fits : (uses : List Use) → ended_with [] (held_at uses nothing) ≡ with_task line uses
  ended_fits uses =
      rw (line.defaults (rows_at uses), line.finishes (rows_at uses), line.checks (rows_at uses), given_has None uses)
      (go (line.required && not (has None uses)))
    where
      go : (b : Bool) → passed (cond b (kind.MissingRequiredArgument ∷ []) []) (rows_at uses) ≡ cond b None (Some (rows_at uses))
      go true = refl
      go false = refl

  -- ---- one word

  met_other : (waiting : Waiting) (place : ℕ) (word : Text) (h : Held) → word_met line.shape.rules [] false waiting place word h
      ≡ subcommand_or_other line.shape.rules None waiting place word h
  met_other waiting place word h =
      ap (λ name. subcommand_or_other line.shape.rules name waiting place word h) (subcommand_none waiting word)

  fault_other : (waiting : Waiting) (word : Text) (h : Held)
      → word_fault line.shape [] false waiting word h ≡ other_fault line.shape None word h
  fault_other waiting word h = ap (λ name. other_fault line.shape name word h) (subcommand_none waiting word)

  turn_is : (waiting : Waiting) (place : ℕ) (h : Held) (word : Text) (met : Held × Step) (fault : Kinds)
      → subcommand_or_other line.shape.rules None waiting place word h ≡ met → other_fault line.shape None word h ≡ fault
      → turn_fault line.shape [] (walk_at waiting false place h) word ≡ or_else fault (step_fault line.shape place met.0 met.1)
  turn_is waiting place h word met fault is_met is_fault = grind (arith, nat_tests)

  walked_is : (waiting : Waiting) (place : ℕ) (h : Held) (word : Text) (met : Held × Step)
      → subcommand_or_other line.shape.rules None waiting place word h ≡ met
      → walked line.shape.rules [] (walk_at waiting false place h) word
      ≡ after_step line.shape.rules word (walk_at waiting false place h) met.0 met.1
  unfolding walked
  walked_is waiting place h word met is_met =
      ap (λ (m : Held × Step). after_step line.shape.rules word (walk_at waiting false place h) m.0 m.1)
      (met_other waiting place word h ∙ is_met)

  -- a word that stops the walk
  pub stops : (waiting : Waiting) (place : ℕ) (h : Held) (word : Text) (words : List Text) (k : ErrorKind) (ks : Kinds)
      → other_fault line.shape None word h ≡ k ∷ ks → found_from (walk_at waiting false place h) (word ∷ words) ≡ None
  stops waiting place h word words k ks fault =
      found_stop (walk_at waiting false place h) word words k ks (turn_is waiting place h word _ (k ∷ ks) refl fault)

  -- a word that leads on
  pub leads : (waiting : Waiting) (place : ℕ) (h : Held) (word : Text) (words : List Text) (met : Held × Step)
      → subcommand_or_other line.shape.rules None waiting place word h ≡ met → other_fault line.shape None word h ≡ []
      → step_fault line.shape place met.0 met.1 ≡ []
      → found_from (walk_at waiting false place h) (word ∷ words)
      ≡ found_from (after_step line.shape.rules word (walk_at waiting false place h) met.0 met.1) words
  leads waiting place h word words met is_met fault next =
      found_step (walk_at waiting false place h) word words (turn_is waiting place h word met [] is_met fault ∙ next)
      ∙ ap (λ w. found_from w words) (walked_is waiting place h word met is_met)

  -- `--`
  pub ends : (waiting : Waiting) (place : ℕ) (h : Held) (word : Text) (words : List Text) → bytes_eq word (45 ∷ 45 ∷ []) ≡ true
      → found_from (walk_at waiting false place h) (word ∷ words) ≡ found_from (walk_at waiting true place h) words
  ends waiting place h word words is = leads waiting place h word words (h, trailed place) (rw is refl) (rw is refl) refl

  -- an option's name
  pub fault_long : (h : Held) (word name : Text) (given : Option Text) → bytes_eq word (45 ∷ 45 ∷ []) ≡ false
      → long_of word ≡ Some (name, given)
      → other_fault line.shape None word h
      ≡ long_fault line.shape.rules false (option_map (λ key. rule_at line.required (Some key)) (line.key_of name)) given h
  fault_long h word name given dashes is = rw (dashes, is, line.no_override, line.by_long name) refl

  pub met_long : (waiting : Waiting) (place : ℕ) (h : Held) (word name : Text) (given : Option Text) → bytes_eq word (45 ∷ 45 ∷ []) ≡ false
      → long_of word ≡ Some (name, given)
      → subcommand_or_other line.shape.rules None waiting place word h
      ≡ (let out = long_met line.shape.rules (option_map (λ key. rule_at line.required (Some key)) (line.key_of name)) given h in
      after_flag line.shape.rules waiting word out.0 out.1)
  met_long waiting place h word name given dashes is = rw (dashes, is, line.by_long name) refl

  -- a flag of one dash is refused
  flags_known : (flags : Text) (h : Held) (x : ℕ) → slice_get (chars flags) 0 ≡ Some x
      → flags_fault line.shape.rules false (length flags) flags 0 h ≡ kind.UnknownArgument ∷ []
  unfolding flags_fault
  flags_known [] h x is =
      let none : slice_get (chars []) 0 ≡ None = ap (λ cs. slice_get cs 0) chars-nil in
      let bad : Some x ≡ None = sym is ∙ none in cc
  flags_known (y ∷ flags) h x is = rw (is, line.by_short x) refl

  pub fault_short : (h : Held) (word flags : Text) (x : ℕ) → h.skip ≡ 0 → bytes_eq word (45 ∷ 45 ∷ []) ≡ false → long_of word ≡ None
      → short_of word ≡ Some flags → slice_get (chars flags) 0 ≡ Some x
      → other_fault line.shape None word h ≡ kind.UnknownArgument ∷ []
  fault_short h word flags x level dashes is flagged head =
      rw (dashes, is, line.no_override, flagged, level) (flags_known flags (record h { skip = 0 }) x head)

  flags_none : (n : ℕ) (flags : Text) (h : Held) → slice_get (chars flags) 0 ≡ None → flags_fault line.shape.rules false n flags 0 h ≡ []
  unfolding flags_fault
  flags_none zero flags h none = refl
  flags_none (suc n) flags h none = rw none refl

  bundle_none : (n : ℕ) (flags : Text) (h : Held) → slice_get (chars flags) 0 ≡ None
      → bundle_met line.shape.rules n flags 0 plain h ≡ (h, plain)
  unfolding bundle_met
  bundle_none zero flags h none = refl
  bundle_none (suc n) flags h none = rw none refl

  pub fault_text : (h : Held) (word : Text) → h.skip ≡ 0 → IsText word → other_fault line.shape None word h ≡ []
  fault_text h word level is = rw (is.dashes, is.no_name, line.no_override) (go is.no_flags)
    where
      go : (short_of word ≡ None) ⊎ ((flags : Text) × (short_of word ≡ Some flags) × (slice_get (chars flags) 0 ≡ None))
          → option_map_or (λ flags. bundle_fault line.shape.rules false flags h) (short_of word) [] ≡ []
      go (inl none) = rw none refl
      go (inr some) = rw (some.1, level) (flags_none (length some.0) some.0 (record h { skip = 0 }) some.2)

  pub met_text : (waiting : Waiting) (place : ℕ) (h : Held) (word : Text) → record h { skip = 0 } ≡ h → h.skip ≡ 0 → IsText word
      → subcommand_or_other line.shape.rules None waiting place word h ≡ plain_word line.shape.rules waiting word h
  met_text waiting place h word same level is = rw (is.dashes, is.no_name) (go is.no_flags)
    where
      go : (short_of word ≡ None) ⊎ ((flags : Text) × (short_of word ≡ Some flags) × (slice_get (chars flags) 0 ≡ None))
          → short_or_plain line.shape.rules waiting word (short_of word) h ≡ plain_word line.shape.rules waiting word h
      go (inl none) = rw none refl
      go (inr some) =
          let bundled : bundle line.shape.rules some.0 h ≡ (h, plain) =
          ap₂ (λ skip start. bundle_met line.shape.rules (length some.0) some.0 skip plain start) level same
          ∙ bundle_none (length some.0) some.0 h some.2 in
          ap (λ flags. short_or_plain line.shape.rules waiting word flags h) some.1
          ∙ ap (λ (out : Held × Outcome). after_flag line.shape.rules waiting word out.0 out.1) bundled

  -- ---- positionals

  -- the first positional settles what is held
  step_first : (h : Held) → step_fault line.shape 1 h walk.value ≡ settle_fault line.shape.rules false h
  step_first h = rw (line.by_index_first, line.no_override) (go (is_pending (rule_at line.required None) h.pending))
    where
      go : (b : Bool) → cond (b && false) [] (settle_fault line.shape.rules false h) ≡ settle_fault line.shape.rules false h
      go true = refl
      go false = refl

  step_second : (h : Held) → step_fault line.shape 2 h walk.value ≡ kind.UnknownArgument ∷ []
  step_second h = rw (line.by_index_second, line.stray) refl

  positional_given : (uses : List Use) (pending : Pending) (word : Text) → Fits line uses pending
      → positional_held line.shape.rules (rule_at line.required None) word (held_at uses pending)
      ≡ held_at (all_of uses pending) (one (None, word))
  positional_given uses pending word fits = go (is_pending (rule_at line.required None) (held_at uses pending).pending)
    where
      go : (b : Bool) → pushed (id_of None) word (cond (b && false) (held_at uses pending)
          (settled line.shape.rules (held_at uses pending)))
          ≡ held_at (all_of uses pending) (one (None, word))
      go b = grind (arith, nat_tests, id_of, settled_fits line)

  after_first : (trail : Bool) (uses : List Use) (pending : Pending) (word : Text) → Fits line uses pending
      → after_step line.shape.rules word (walk_at idle trail 1 (held_at uses pending)) (held_at uses pending) walk.value
      ≡ walk_at idle trail 2 (held_at (all_of uses pending) (one (None, word)))
  after_first trail uses pending word fits = grind (arith, nat_tests, line.by_index_first, positional_given)

  -- a positional behind `--`
  pub trail_first : (uses : List Use) (pending : Pending) (word : Text) (words : List Text) → Fits line uses pending
      → found_from (walk_at idle true 1 (held_at uses pending)) (word ∷ words)
      ≡ found_from (walk_at idle true 2 (held_at (all_of uses pending) (one (None, word)))) words
  unfolding walked
  trail_first uses pending word words fits =
      found_step (walk_at idle true 1 (held_at uses pending)) word words
      (step_first (held_at uses pending) ∙ settle_fault-fits line uses pending fits)
      ∙ ap (λ w. found_from w words) (after_first true uses pending word fits)

  pub trail_second : (waiting : Waiting) (h : Held) (word : Text) (words : List Text)
      → found_from (walk_at waiting true 2 h) (word ∷ words) ≡ None
  trail_second waiting h word words = found_stop (walk_at waiting true 2 h) word words kind.UnknownArgument [] (step_second h)

  -- a positional before it
  pub text_first : (uses : List Use) (pending : Pending) (word : Text) (words : List Text) → Fits line uses pending → IsText word
      → found_from (walk_at idle false 1 (held_at uses pending)) (word ∷ words)
      ≡ found_from (walk_at idle false 2 (held_at (all_of uses pending) (one (None, word)))) words
  text_first uses pending word words fits is =
      leads idle 1 (held_at uses pending) word words (held_at uses pending, walk.value)
      (met_text idle 1 (held_at uses pending) word (held_level uses pending) (held_skip uses pending) is)
      (fault_text (held_at uses pending) word (held_skip uses pending) is)
      (step_first (held_at uses pending) ∙ settle_fault-fits line uses pending fits)
      ∙ ap (λ w. found_from w words) (after_first false uses pending word fits)

  pub text_second : (uses : List Use) (pending : Pending) (word : Text) (words : List Text) → IsText word
      → found_from (walk_at idle false 2 (held_at uses pending)) (word ∷ words) ≡ None
  text_second uses pending word words is =
      let h = held_at uses pending in
      found_stop (walk_at idle false 2 h) word words kind.UnknownArgument []
      (turn_is idle 2 h word (h, walk.value) [] (met_text idle 2 h word (held_level uses pending) (held_skip uses pending) is)
      (fault_text h word (held_skip uses pending) is) ∙ step_second h)

  -- ---- what was held is refused in the end

  -- no flag mends it
  pub flag_fault : (h : Held) (bad : ErrorKind) → settle_fault line.shape.rules false h ≡ bad ∷ []
      → (key : Option Key) (value : Option Text)
      → (k : ErrorKind) × (ks : Kinds)
      × (long_fault line.shape.rules false (option_map (λ key. rule_at line.required (Some key)) key) value h ≡ k ∷ ks)
  flag_fault h bad is None value = (kind.UnknownArgument, [], refl)
  flag_fault h bad is (Some key) None = (bad, [], is)
  flag_fault h bad is (Some key) (Some value) = (bad, [], rw is refl)

  pub doomed_trailing : (waiting : Waiting) (place : ℕ) (h : Held) (words : List Text) (k : ErrorKind) (ks : Kinds)
      → settle_fault line.shape.rules false h ≡ k ∷ ks → (place ≡ 1) ⊎ (place ≡ 2)
      → found_from (walk_at waiting true place h) words ≡ None
  doomed_trailing waiting place h [] k ks bad at = found_nil (walk_at waiting true place h) (k ∷ ks) (settled line.shape.rules h) bad refl
  doomed_trailing waiting place h (word ∷ words) k ks bad (inr second) = grind (arith, nat_tests, trail_second, h)
  doomed_trailing waiting place h (word ∷ words) k ks bad (inl first) =
      rw first (found_stop (walk_at waiting true 1 h) word words k ks (step_first h ∙ bad))

  -- a second text of one slot is refused in the end
  pub doomed : (place : ℕ) (uses : List Use) (given : Use) (words : List Text) → IsSlot line.knows given.0 → has given.0 uses ≡ true
      → (place ≡ 1) ⊎ (place ≡ 2)
      → found_from (walk_at idle false place (held_at uses (one given))) words ≡ None
  doomed place uses given [] known again at =
      let h = held_at uses (one given) in
      found_nil (walk_at idle false place h) (kind.ArgumentConflict ∷ []) (settled line.shape.rules h)
      (settle_fault-again line uses given known again) refl
  doomed place uses given (word ∷ words) known again at = go (look word)
    where
      h : Held
      h = held_at uses (one given)

      bad : settle_fault line.shape.rules false h ≡ kind.ArgumentConflict ∷ []
      bad = settle_fault-again line uses given known again

      by_place : IsText word → (place ≡ 1) ⊎ (place ≡ 2) → found_from (walk_at idle false place h) (word ∷ words) ≡ None
      by_place is (inr second) = rw second (text_second uses (one given) word words is)
      by_place is (inl first) =
          rw first (found_stop (walk_at idle false 1 h) word words kind.ArgumentConflict []
          (turn_is idle 1 h word (h, walk.value) [] (met_text idle 1 h word refl refl is) (fault_text h word refl is)
          ∙ step_first h ∙ bad))

      go : Look word → found_from (walk_at idle false place h) (word ∷ words) ≡ None
      go (is_ending is) = ends idle place h word words is ∙ doomed_trailing idle place h words kind.ArgumentConflict [] bad at
      go (is_long dashes name value is) =
          let fault = flag_fault h kind.ArgumentConflict bad (line.key_of name) value in
          stops idle place h word words fault.0 fault.1 (fault_long h word name value dashes is ∙ fault.2)
      go (is_short dashes no_name flags is x head) =
          stops idle place h word words kind.UnknownArgument [] (fault_short h word flags x refl dashes no_name is head)
      go (is_text is) = by_place is at
