-- Words spell a line of a schedule exactly where it is read from them.
use Rattle.std.proofs.Common.{◌≡◌, ℕ, ◌↔◌, ◌&&◌, Bool, true, false, cond, List, [], ◌∷◌, Some, None, refl, ◌∙◌, ap, subst, codes, nat_le}
use Rattle.std.proofs.lemmas.Bool.{and_parts, le-leb, leb-true}
use Rattle.std.proofs.lemmas.Option.{cond_some, none-some, option_and_then_some}
use Rattle.std.proofs.lemmas.Slice.Eq.{bytes_eq-Decides}
use Rattle.std.specs.Option.{option_and_then, option_map}
use Rattle.std.specs.Str.{bytes_eq}
use Rattle.kh_types.specs.declared.limits.TheConstants.{WORKERS}
use Rattle.undo_stack.specs.declared.schedule.ScheduleLine.{ScheduleLine}
use Rattle.undo_stack.specs.declared.schedule.ScheduleLine.TheVariants.{Look, Commit, Forget}
use Rattle.undo_stack.specs.Schedule.{NamesWorker, SpellsLine}
use Rattle.undo_stack.specs.ScheduleSteps.{block_named, schedule_line_of, worker_named}
use Rattle.kh_lex.specs.Numerals.{numeral_of}
use Rattle.kh_lex.proofs.NumeralReads.{WritesNumber-numeral_of, WritesSigned-signed_numeral_of, numeral_of-WritesNumber, option_map_some, signed_numeral_of-WritesSigned}

-- a word names a worker exactly where it is read from it
NamesWorker-worker_named : (word : List ℕ) (worker : ℕ) → worker_named word ≡ Some worker → NamesWorker word worker
NamesWorker-worker_named word worker same =
    option_and_then_some (λ w. cond (nat_le 1 w && nat_le w WORKERS) (Some w) None) (numeral_of 2 word) worker same (λ w is_w passes.
    let found = cond_some (nat_le 1 w && nat_le w WORKERS) w worker passes in
    let sizes = and_parts (nat_le 1 w) (nat_le w WORKERS) found.0 in
    subst (NamesWorker word) found.1 (record {
      written = WritesNumber-numeral_of 2 word w is_w;
      from_one = leb-true 1 w sizes.0;
      within = leb-true w WORKERS sizes.1;
    }))

worker_named-NamesWorker : (word : List ℕ) (worker : ℕ) → NamesWorker word worker → worker_named word ≡ Some worker
worker_named-NamesWorker word worker named =
    ap (option_and_then (λ w. cond (nat_le 1 w && nat_le w WORKERS) (Some w) None)) (numeral_of-WritesNumber 2 word worker named.written)
    ∙ rw (le-leb 1 worker named.from_one, le-leb worker WORKERS named.within) refl

-- three words
SpellsLine-three : (name first second : List ℕ) (line : ScheduleLine) (look : Bool) → bytes_eq name (codes "look") ≡ look
    → cond look (option_and_then (λ worker. option_map (Look worker) (block_named second)) (worker_named first)) None ≡ Some line
    → SpellsLine (name ∷ first ∷ second ∷ []) line
SpellsLine-three name first second line false is same = absurd (none-some line same)
SpellsLine-three name first second line true is same =
    option_and_then_some (λ worker. option_map (Look worker) (block_named second)) (worker_named first) line same (λ worker is_worker later.
    option_map_some (Look worker) (block_named second) line later (λ block is_block is_line.
    subst (SpellsLine (name ∷ first ∷ second ∷ [])) is_line (
      first,
      second,
      ap (λ n. n ∷ first ∷ second ∷ []) ((bytes_eq-Decides name (codes "look")).0 is),
      NamesWorker-worker_named first worker is_worker,
      WritesSigned-signed_numeral_of 3 second block is_block,
    )))

-- two words
SpellsLine-two : (name first : List ℕ) (line : ScheduleLine) (commit forget : Bool) → bytes_eq name (codes "commit") ≡ commit
    → bytes_eq name (codes "forget") ≡ forget
    → cond commit (option_map Commit (worker_named first)) (cond forget (option_map Forget (worker_named first)) None) ≡ Some line
    → SpellsLine (name ∷ first ∷ []) line
SpellsLine-two name first line true forget is is_forget same =
    option_map_some Commit (worker_named first) line same (λ worker is_worker is_line.
    subst (SpellsLine (name ∷ first ∷ [])) is_line
    (first, ap (λ n. n ∷ first ∷ []) ((bytes_eq-Decides name (codes "commit")).0 is), NamesWorker-worker_named first worker is_worker))
SpellsLine-two name first line false true is is_forget same =
    option_map_some Forget (worker_named first) line same (λ worker is_worker is_line.
    subst (SpellsLine (name ∷ first ∷ [])) is_line
    (first, ap (λ n. n ∷ first ∷ []) ((bytes_eq-Decides name (codes "forget")).0 is_forget), NamesWorker-worker_named first worker is_worker))
SpellsLine-two name first line false false is is_forget same = absurd (none-some line same)

-- what is read from words, they spell
SpellsLine-schedule_line_of : (words : List (List ℕ)) (line : ScheduleLine) → schedule_line_of words ≡ Some line → SpellsLine words line
SpellsLine-schedule_line_of [] line same = absurd (none-some line same)
SpellsLine-schedule_line_of (name ∷ []) line same = absurd (none-some line same)
SpellsLine-schedule_line_of (name ∷ first ∷ []) line same =
    SpellsLine-two name first line (bytes_eq name (codes "commit")) (bytes_eq name (codes "forget")) refl refl same
SpellsLine-schedule_line_of (name ∷ first ∷ second ∷ []) line same =
    SpellsLine-three name first second line (bytes_eq name (codes "look")) refl same
SpellsLine-schedule_line_of (name ∷ first ∷ second ∷ third ∷ more) line same = absurd (none-some line same)

-- what words spell is read from them
schedule_line_of-SpellsLine : (words : List (List ℕ)) (line : ScheduleLine) → SpellsLine words line → schedule_line_of words ≡ Some line
schedule_line_of-SpellsLine words (Look worker block) (first, second, are, is_worker, is_block) =
    ap schedule_line_of are
    ∙ ap (option_and_then (λ w. option_map (Look w) (block_named second))) (worker_named-NamesWorker first worker is_worker)
    ∙ ap (option_map (Look worker)) (signed_numeral_of-WritesSigned 3 second block is_block)
schedule_line_of-SpellsLine words (Commit worker) (first, are, is_worker) =
    ap schedule_line_of are ∙ ap (option_map Commit) (worker_named-NamesWorker first worker is_worker)
schedule_line_of-SpellsLine words (Forget worker) (first, are, is_worker) =
    ap schedule_line_of are ∙ ap (option_map Forget) (worker_named-NamesWorker first worker is_worker)

-- words spell a line exactly where it is read from them
pub schedule_line_of-means : (words : List (List ℕ)) (line : ScheduleLine) → (schedule_line_of words ≡ Some line) ↔ SpellsLine words line
schedule_line_of-means words line = (SpellsLine-schedule_line_of words line, schedule_line_of-SpellsLine words line)
