-- What the words of a command mean.
use Rattle.std.specs.Prelude.{◌≡◌, ◌⊎◌, ⊤, ℕ, ◌+◌, ◌≤◌, Bool, true, false, if◌then◌else◌, List, [], ◌∷◌, codes, Option, Some, None}
use Rattle.kh_lex.specs.Numerals.{WritesNumber}
use Rattle.word_line.specs.declared.command.Task.{Task}
use Rattle.word_line.specs.declared.command.Task.TheVariants.{Homology, Jones, Check, Convert, Edit, Draw, Schedule, Bench, Certify, Verify, Reduced, Mirror, Reverse, Union}
use Rattle.word_line.specs.declared.command.Form.{Form}
use Rattle.word_line.specs.declared.command.Form.TheVariants.{Pd, Gauss}
use Rattle.word_line.specs.Pieces.{Key, Piece, positional, apart, joined}
use Rattle.word_line.specs.Pieces as key
use Rattle.kh_types.specs.declared.limits.TheConstants.{WORKERS}
use Rattle.word_line.specs.declared.limits.TheConstants.{MARK_DIGITS, MARK_LIMIT, NUMBER_DIGITS, WORKERS_DIGITS}

-- the word of a task
abbrev pub task_name : Task → List ℕ
task_name Homology = codes "homology"
task_name Jones = codes "jones"
task_name Check = codes "check"
task_name Convert = codes "convert"
task_name Edit = codes "edit"
task_name Draw = codes "draw"
task_name Schedule = codes "schedule"
task_name Bench = codes "bench"
task_name Certify = codes "certify"
task_name Verify = codes "verify"
task_name Reduced = codes "reduced"
task_name Mirror = codes "mirror"
task_name Reverse = codes "reverse"
task_name Union = codes "union"

-- the word of a form
abbrev pub form_name : Form → List ℕ
form_name Pd = codes "pd"
form_name Gauss = codes "gauss"

-- two keys are one
abbrev pub same_key : Key → Key → Bool
same_key key.field key.field = true
same_key key.workers key.workers = true
same_key key.to key.to = true
same_key key.number key.number = true
same_key key.mark key.mark = true
same_key _ _ = false

-- the values that parts of a line give an option, in order
abbrev pub values_in : Key → List Piece → List (List ℕ)
values_in k [] = []
values_in k (positional word ∷ pieces) = values_in k pieces
values_in k (apart other value ∷ pieces) = if same_key k other then value ∷ values_in k pieces else values_in k pieces
values_in k (joined other value ∷ pieces) = if same_key k other then value ∷ values_in k pieces else values_in k pieces

-- the numbers of elements of the fields
abbrev pub IsFieldSize : ℕ → Type 0
IsFieldSize size = (size ≡ 2) ⊎ (size ≡ 3) ⊎ (size ≡ 5) ⊎ (size ≡ 7)

-- a number of workers
abbrev pub AreWorkers : ℕ → Type 0
AreWorkers count = (1 ≤ count) × (count ≤ WORKERS)

-- a value names a field by its number of elements, which is one digit
abbrev pub NamesField : List ℕ → ℕ → Type 0
NamesField value size = IsFieldSize size × (value ≡ (48 + size) ∷ [])

-- a value says how many workers there are: one or two digits
abbrev pub NamesWorkers : List ℕ → ℕ → Type 0
NamesWorkers value count = WritesNumber WORKERS_DIGITS value count × AreWorkers count

-- a value names a form
abbrev pub NamesForm : List ℕ → Form → Type 0
NamesForm value form = value ≡ form_name form

-- a value names a number: one to seven digits
abbrev pub NamesNumber : List ℕ → Option ℕ → Type 0
NamesNumber value None = ⊥
NamesNumber value (Some number) = WritesNumber NUMBER_DIGITS value number

-- a value names a mark: one to three digits, and the number is within the limit
abbrev pub NamesMark : List ℕ → Option ℕ → Type 0
NamesMark value None = ⊥
NamesMark value (Some mark) = WritesNumber MARK_DIGITS value mark × (mark ≤ MARK_LIMIT)

-- the values that an option is given, of which there is at most one, say what it is; where there is none it is the default
abbrev pub IsGiven : {X : Type 0} → (List ℕ → X → Type 0) → X → List (List ℕ) → X → Type 0
IsGiven names default [] given = given ≡ default
IsGiven names default (value ∷ []) given = names value given
IsGiven names default (first ∷ second ∷ more) given = ⊥

-- the task that needs a number has one
abbrev pub HasNumber : Task → Option ℕ → Type 0
HasNumber Bench None = ⊥
HasNumber _ _ = ⊤

-- the task that needs a mark has one
abbrev pub HasMark : Task → Option ℕ → Type 0
HasMark Reduced None = ⊥
HasMark _ _ = ⊤
