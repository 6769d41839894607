-- What the texts of a line of `kh-scan` ask for is what is read from them: both ways, from what is read to what is named and back; and
-- legal texts are few, begin with no dash, and name fields of the four sizes.
use Rattle.std.proofs.lemmas.Bool.Decides.{nat_tests}
use Rattle.std.proofs.Common.{◌≡◌, ℕ, ◌+◌, ◌≤◌, inl, Bool, true, false, List, [], ◌∷◌, length, Option, Some, None, refl, sym, ap, subst, cond, ◌∙◌, arith}
use Rattle.std.proofs.lemmas.List.Elements.{All-cons, All-nil}
use Rattle.std.proofs.lemmas.Option.{none-some, same_Some}
use Rattle.std.proofs.lemmas.Slice.Eq.{bytes_eq-Decides}
use Rattle.std.specs.Prelude.{codes, slice_get}
use Rattle.std.specs.List.{All}
use Rattle.std.specs.Option.{option_map}
use Rattle.std.specs.Str.{bytes_eq}
use Rattle.clap.specs.Walk.{Text}
use Rattle.word_line.specs.declared.scan_command.Fields.{Fields}
use Rattle.word_line.specs.declared.scan_command.Fields.TheVariants as fields
use Rattle.word_line.specs.declared.scan_command.ScanCommand.{ScanCommand}
use Rattle.word_line.specs.declared.scan_command.ScanCommand.TheVariants.{Alone, Each}
use Rattle.word_line.specs.Pieces.{HasNoDash}
use Rattle.word_line.specs.Reading.{field_in, field_of}
use Rattle.word_line.specs.ScanCommands.{AsksFor, HasFieldSizes, NamesFields}
use Rattle.word_line.specs.ScanReading.{fields_in, fields_of, scan_command_given}
use Rattle.word_line.specs.Values.{IsFieldSize, NamesField}
use Rattle.word_line.proofs.Meanings.{IsGiven-once, IsGiven-read, NamesField-read, given_no_dash, field_no_dash, of_given, read-IsGiven, read-NamesField}
use Rattle.kh_lex.proofs.NumeralReads.{option_map_some}

-- fields
pub NamesFields-read : (value : Text) (given : Fields) → fields_of value ≡ Some given → NamesFields value given
NamesFields-read value given same = go (bytes_eq value (codes "all")) refl same
  where
    go : (b : Bool) → bytes_eq value (codes "all") ≡ b
        → cond b (Some fields.All) (option_map (λ size. fields.One size) (field_of value)) ≡ Some given → NamesFields value given
    go true is same = subst (NamesFields value) (same_Some fields.All given same) ((bytes_eq-Decides value (codes "all")).0 is)
    go false is same =
        option_map_some (λ size. fields.One size) (field_of value) given same (λ size is_size is_given.
        subst (NamesFields value) is_given (NamesField-read value size is_size))

-- the name of a field is not `all`
digit_not_all : (size : ℕ) → bytes_eq ((48 + size) ∷ []) (codes "all") ≡ false
digit_not_all size = grind (arith, nat_tests)

pub read-NamesFields : (value : Text) (given : Fields) → NamesFields value given → fields_of value ≡ Some given
read-NamesFields value (fields.One size) names =
    ap (λ b. cond b (Some fields.All) (option_map (λ size. fields.One size) (field_of value)))
    (ap (λ v. bytes_eq v (codes "all")) names.1 ∙ digit_not_all size)
    ∙ ap (option_map (λ size. fields.One size)) (read-NamesField value size names)
read-NamesFields value fields.All names =
    ap (λ b. cond b (Some fields.All) (option_map (λ size. fields.One size) (field_of value)))
    ((bytes_eq-Decides value (codes "all")).1 names)

fields_no_dash : (value : Text) (given : Fields) → NamesFields value given → HasNoDash value
fields_no_dash value (fields.One size) names = field_no_dash value size names
fields_no_dash value fields.All names = subst HasNoDash (sym names) all_no_dash
  where
    all_no_dash : HasNoDash (codes "all")
    all_no_dash = grind (arith, nat_tests)

-- what is asked for
pub AsksFor-read : (names values : List Text) (command : ScanCommand) → length names ≤ 1 → length values ≤ 1
    → scan_command_given (slice_get names 0) (slice_get values 0) ≡ Some command → AsksFor names values command
AsksFor-read [] values command one few same =
    option_map_some (λ size. Alone size) (field_in (slice_get values 0)) command same (λ size is_size is.
    subst (AsksFor [] values) is (refl, IsGiven-read NamesField field_of 2 NamesField-read values size few is_size))
AsksFor-read (name ∷ []) values command one few same = go (bytes_eq name (codes "each")) refl same
  where
    go : (b : Bool) → bytes_eq name (codes "each") ≡ b
        → cond b (option_map (λ given. Each given) (fields_in (slice_get values 0))) None ≡ Some command
        → AsksFor (name ∷ []) values command
    go true is same =
        let named : name ≡ codes "each" = (bytes_eq-Decides name (codes "each")).0 is in
        option_map_some (λ given. Each given) (fields_in (slice_get values 0)) command same (λ given is_given is.
        subst (AsksFor (name ∷ []) values) is
        (ap (λ n. n ∷ []) named, IsGiven-read NamesFields fields_of (fields.One 2) NamesFields-read values given few is_given))
    go false is same = absurd (none-some command same)
AsksFor-read (first ∷ second ∷ more) values command one few same = absurd (omega arith)

pub read-AsksFor : (names values : List Text) (command : ScanCommand) → AsksFor names values command
    → scan_command_given (slice_get names 0) (slice_get values 0) ≡ Some command
read-AsksFor names values (Alone size) asked =
    ap (λ n. scan_command_given (slice_get n 0) (slice_get values 0)) asked.0
    ∙ ap (option_map (λ size. Alone size)) (read-IsGiven NamesField field_of 2 read-NamesField values size asked.1)
read-AsksFor names values (Each given) asked =
    ap (λ n. scan_command_given (slice_get n 0) (slice_get values 0)) asked.0
    ∙ ap (λ b. cond b (option_map (λ given. Each given) (fields_in (slice_get values 0))) None)
    ((bytes_eq-Decides (codes "each") (codes "each")).1 refl)
    ∙ ap (option_map (λ given. Each given)) (read-IsGiven NamesFields fields_of (fields.One 2) read-NamesFields values given asked.1)

-- texts that ask for something
pub asked_names : (names values : List Text) (command : ScanCommand) → AsksFor names values command
    → (length names ≤ 1) × All HasNoDash names
asked_names names values (Alone size) asked = subst (λ n. (length n ≤ 1) × All HasNoDash n) (sym asked.0) (omega arith, All-nil HasNoDash)
asked_names names values (Each given) asked =
    subst (λ n. (length n ≤ 1) × All HasNoDash n) (sym asked.0)
    (omega arith, All-cons HasNoDash (codes "each") [] each_no_dash (All-nil HasNoDash))
  where
    each_no_dash : HasNoDash (codes "each")
    each_no_dash = grind (arith, nat_tests)

pub asked_values : (names values : List Text) (command : ScanCommand) → AsksFor names values command
    → (length values ≤ 1) × All HasNoDash values
asked_values names values (Alone size) asked =
    (IsGiven-once NamesField 2 values size asked.1, given_no_dash NamesField 2 field_no_dash values size asked.1)
asked_values names values (Each given) asked = (
  IsGiven-once NamesFields (fields.One 2) values given asked.1,
  given_no_dash NamesFields (fields.One 2) fields_no_dash values given asked.1,
)

pub AsksFor-sizes : (names values : List Text) (command : ScanCommand) → AsksFor names values command → HasFieldSizes command
AsksFor-sizes names values (Alone size) asked =
    of_given NamesField 2 IsFieldSize (λ value size names. names.0) (inl refl) values size asked.1
AsksFor-sizes names values (Each given) asked =
    of_given NamesFields (fields.One 2) (λ given. HasFieldSizes (Each given)) sized (inl refl) values given asked.1
  where
    sized : (value : Text) (given : Fields) → NamesFields value given → HasFieldSizes (Each given)
    sized value (fields.One size) names = names.0
    sized value fields.All names = tt
