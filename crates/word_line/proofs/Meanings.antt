-- What a value means is what is read from it: for each kind of value both ways, from what is read to what is named and back.
-- Tasks, fields and forms are found by comparing the value with one name after another; the test that succeeds says which name it
-- is. Numbers of workers, numbers and marks are numerals of some digits, within their limits. An option with one value is what
-- the value says, an option without is the default, and two values say nothing. Last, a command is finished unless it is `bench`
-- without a number or `reduced` without a mark.
use Rattle.std.proofs.lemmas.Bool.Decides.{nat_tests}
use Rattle.std.proofs.Common.{◌≡◌, ℕ, ◌+◌, ◌≤◌, ◌&&◌, ◌⊎◌, inl, inr, Bool, true, List, [], ◌∷◌, length, Option, Some, None, refl, ap, subst, cond, ◌∙◌, arith, nat_le}
use Rattle.std.specs.Prelude.{codes, slice_get}
use Rattle.std.proofs.lemmas.Option.{none-some}
use Rattle.std.specs.List.{All}
use Rattle.std.proofs.lemmas.Slice.Eq.{bytes_eq-Decides}
use Rattle.std.specs.Str.{bytes_eq}
use Rattle.clap.specs.Walk.{Text}
use Rattle.word_line.specs.Pieces.{HasNoDash}
use Rattle.word_line.specs.declared.command.Task.{Task}
use Rattle.word_line.specs.declared.command.Task.TheVariants.{Homology, Jones, Check, Convert, Edit, Draw, Schedule, Bench, Certify, Verify, Reduced, Mirror, Reverse, Union}
use Rattle.word_line.specs.declared.command.Form.{Form}
use Rattle.word_line.specs.declared.command.Command.{Command}
use Rattle.kh_types.specs.declared.limits.TheConstants.{WORKERS}
use Rattle.word_line.specs.Values.{HasMark, HasNumber, IsGiven, NamesField, NamesForm, NamesMark, NamesNumber, NamesWorkers, form_name, task_name}
use Rattle.word_line.specs.Reading.{field_of, finished_with, form_of, given_by, value_mark, value_number, task_of, workers_of}

same_text : (a b : List ℕ) → bytes_eq a b ≡ true → a ≡ b
same_text a b is = (bytes_eq-Decides a b).0 is

-- a choice by a test
chosen : {A P : Type 0} (b : Bool) (x : A) (o : Option A) (y : A) → cond b (Some x) o ≡ Some y → (b ≡ true → x ≡ y → P) → (o ≡ Some y → P) → P
chosen b x o y same this other = grind (arith, nat_tests)

-- tasks
pub task_of-name : (task : Task) → task_of (task_name task) ≡ Some task
task_of-name task = grind (arith, nat_tests)

named : (name : List ℕ) (text : List ℕ) (this task : Task) → text ≡ task_name this → bytes_eq name text ≡ true → this ≡ task → name ≡ task_name task
named name text this task text_is is same = same_text name text is ∙ text_is ∙ ap task_name same

pub name_of-task : (name : List ℕ) (task : Task) → task_of name ≡ Some task → name ≡ task_name task
name_of-task name task same =
    chosen (bytes_eq name (codes "homology")) Homology _ task same (named name (codes "homology") Homology task refl) (λ same.
    chosen (bytes_eq name (codes "jones")) Jones _ task same (named name (codes "jones") Jones task refl) (λ same.
    chosen (bytes_eq name (codes "check")) Check _ task same (named name (codes "check") Check task refl) (λ same.
    chosen (bytes_eq name (codes "convert")) Convert _ task same (named name (codes "convert") Convert task refl) (λ same.
    chosen (bytes_eq name (codes "edit")) Edit _ task same (named name (codes "edit") Edit task refl) (λ same.
    chosen (bytes_eq name (codes "draw")) Draw _ task same (named name (codes "draw") Draw task refl) (λ same.
    chosen (bytes_eq name (codes "schedule")) Schedule _ task same (named name (codes "schedule") Schedule task refl) (λ same.
    chosen (bytes_eq name (codes "bench")) Bench _ task same (named name (codes "bench") Bench task refl) (λ same.
    chosen (bytes_eq name (codes "certify")) Certify _ task same (named name (codes "certify") Certify task refl) (λ same.
    chosen (bytes_eq name (codes "verify")) Verify _ task same (named name (codes "verify") Verify task refl) (λ same.
    chosen (bytes_eq name (codes "reduced")) Reduced _ task same (named name (codes "reduced") Reduced task refl) (λ same.
    chosen (bytes_eq name (codes "mirror")) Mirror _ task same (named name (codes "mirror") Mirror task refl) (λ same.
    chosen (bytes_eq name (codes "reverse")) Reverse _ task same (named name (codes "reverse") Reverse task refl) (λ same.
    chosen (bytes_eq name (codes "union")) Union _ task same (named name (codes "union") Union task refl) (λ same.
    absurd (none-some task same)))))))))))))))

-- fields
sized : (value text : List ℕ) (this size : ℕ) → text ≡ (48 + this) ∷ [] → ((this ≡ 2) ⊎ (this ≡ 3) ⊎ (this ≡ 5) ⊎ (this ≡ 7)) → bytes_eq value text ≡ true → this ≡ size → NamesField value size
sized value text this size text_is among is same = subst (NamesField value) same (among, same_text value text is ∙ text_is)

pub NamesField-read : (value : List ℕ) (size : ℕ) → field_of value ≡ Some size → NamesField value size
NamesField-read value size same =
    chosen (bytes_eq value (codes "2")) 2 _ size same (sized value (codes "2") 2 size refl (inl refl)) (λ same.
    chosen (bytes_eq value (codes "3")) 3 _ size same (sized value (codes "3") 3 size refl (inr (inl refl))) (λ same.
    chosen (bytes_eq value (codes "5")) 5 _ size same (sized value (codes "5") 5 size refl (inr (inr (inl refl)))) (λ same.
    chosen (bytes_eq value (codes "7")) 7 _ size same (sized value (codes "7") 7 size refl (inr (inr (inr refl)))) (λ same.
    absurd (none-some size same)))))

field_of-digit : (size : ℕ) → ((size ≡ 2) ⊎ (size ≡ 3) ⊎ (size ≡ 5) ⊎ (size ≡ 7)) → field_of ((48 + size) ∷ []) ≡ Some size
field_of-digit size has1 = grind (arith, nat_tests)

pub read-NamesField : (value : List ℕ) (size : ℕ) → NamesField value size → field_of value ≡ Some size
read-NamesField value size names = ap field_of names.1 ∙ field_of-digit size names.0

-- workers
within : ℕ → Option ℕ
within count = cond (nat_le 1 count && nat_le count WORKERS) (Some count) None

pub NamesWorkers-read : (value : List ℕ) (count : ℕ) → workers_of value ≡ Some count → NamesWorkers value count
NamesWorkers-read value count same = grind (arith, nat_tests)

pub read-NamesWorkers : (value : List ℕ) (count : ℕ) → NamesWorkers value count → workers_of value ≡ Some count
read-NamesWorkers value count names = grind (arith, nat_tests)

-- forms
pub NamesForm-read : (value : List ℕ) (form : Form) → form_of value ≡ Some form → NamesForm value form
NamesForm-read value form same = grind (arith, nat_tests, chosen, same_text, none-some)

form_of-name : (form : Form) → form_of (form_name form) ≡ Some form
form_of-name form = grind (arith, nat_tests)

pub read-NamesForm : (value : List ℕ) (form : Form) → NamesForm value form → form_of value ≡ Some form
read-NamesForm value form names = ap form_of names ∙ form_of-name form

-- numbers
pub NamesNumber-read : (value : List ℕ) (number : Option ℕ) → value_number value ≡ Some number → NamesNumber value number
NamesNumber-read value number same = grind (arith, nat_tests)

pub read-NamesNumber : (value : List ℕ) (number : Option ℕ) → NamesNumber value number → value_number value ≡ Some number
read-NamesNumber value number names = grind (arith, nat_tests)

-- marks
pub NamesMark-read : (value : List ℕ) (mark : Option ℕ) → value_mark value ≡ Some mark → NamesMark value mark
NamesMark-read value mark same = grind (arith, nat_tests)

pub read-NamesMark : (value : List ℕ) (mark : Option ℕ) → NamesMark value mark → value_mark value ≡ Some mark
read-NamesMark value mark names = grind (arith, nat_tests)

-- options
pub IsGiven-read : {X : Type 0} (names : List ℕ → X → Type 0) (reading : List ℕ → Option X) (default : X)
    → ((value : List ℕ) (x : X) → reading value ≡ Some x → names value x)
    → (values : List (List ℕ)) (x : X) → length values ≤ 1 → given_by reading default (slice_get values 0) ≡ Some x → IsGiven names default values x
IsGiven-read names reading default means values x few same = grind (arith, nat_tests)

pub read-IsGiven : {X : Type 0} (names : List ℕ → X → Type 0) (reading : List ℕ → Option X) (default : X)
    → ((value : List ℕ) (x : X) → names value x → reading value ≡ Some x)
    → (values : List (List ℕ)) (x : X) → IsGiven names default values x → given_by reading default (slice_get values 0) ≡ Some x
read-IsGiven names reading default means values x given = grind (arith, nat_tests)

pub IsGiven-once : {X : Type 0} (names : List ℕ → X → Type 0) (default : X) (values : List (List ℕ)) (x : X) → IsGiven names default values x → length values ≤ 1
IsGiven-once names default values x given = grind (arith, nat_tests)

-- what holds of the default and of all that is named holds of what is given
pub of_given : {X : Type 0} (names : Text → X → Type 0) (default : X) (P : X → Type 0) → ((value : Text) (x : X) → names value x → P x) → P default
    → (values : List Text) (x : X) → IsGiven names default values x → P x
of_given names default P of start values x given = grind (arith, nat_tests)

-- `bench` has a number, and `reduced` a mark
pub needs-read : (command made : Command) (task : Task) (number mark : Option ℕ) → finished_with command task number mark ≡ Some made
    → HasNumber task number × HasMark task mark × (command ≡ made)
needs-read command made task number mark same = grind (arith, nat_tests)

pub read-needs : (command : Command) (task : Task) (number mark : Option ℕ) → HasNumber task number → HasMark task mark
    → finished_with command task number mark ≡ Some command
read-needs command task number mark needed marked = grind (arith, nat_tests)

-- ---- no legal value begins with `-`

pub field_no_dash : (value : Text) (size : ℕ) → NamesField value size → HasNoDash value
field_no_dash value size names = grind (arith, nat_tests)

pub given_no_dash : {X : Type 0} (names : Text → X → Type 0) (default : X) → ((value : Text) (x : X) → names value x → HasNoDash value)
    → (values : List Text) (x : X) → IsGiven names default values x → All HasNoDash values
given_no_dash names default plain values x given = grind (arith, nat_tests)
