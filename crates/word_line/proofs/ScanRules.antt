-- The line of `kh-scan` as a line of words. It is fixed, so what is built of it is computed: one rule for the positional, which is not
-- required, and one for `--field`. Another long name finds nothing.
use Rattle.std.proofs.lemmas.Bool.Decides.{nat_tests}
use Rattle.std.proofs.Common.{arith}
use Rattle.std.proofs.Common.{◌≡◌, ℕ, Bool, true, false, List, [], ◌∷◌, map, Option, Some, None, refl, sym, ap, subst, cond, ◌∙◌, ◌||◌}
use Rattle.std.proofs.lemmas.Option.{none-some}
use Rattle.std.proofs.lemmas.Slice.Eq.{bytes_eq-Decides}
use Rattle.std.specs.List.{fold}
use Rattle.std.specs.Option.{option_map}
use Rattle.std.specs.Prelude.{if◌then◌else◌, codes}
use Rattle.std.specs.Str.{bytes_eq}
use Rattle.clap.specs.Walk.{Row, Text, arg_by_id, arg_by_index, arg_by_long, arg_by_short, with_default}
use Rattle.clap.specs.Simple.{Shape, built, is_simple}
use Rattle.clap.specs.Faults.{check_fault, defaults_fault, is_simple_and_free, stray_fault}
use Rattle.clap.specs.declared.error.kind.ErrorKind.TheVariants as kind
use Rattle.clap.proofs.OnLiterals.{clap_on_literals}
use Rattle.word_line.specs.ScanLine.{scan_line}
use Rattle.word_line.specs.Pieces.{Key, field, key_name}
use Rattle.word_line.proofs.Rules.{IsSlot, Line, Slot, id_of, no_defaults, rule_at, with_defaults}

abbrev slots : List Slot
slots = None ∷ Some field ∷ []

-- the only option
abbrev pub IsField : Key → Type 0
IsField key = key ≡ field

-- the line once it is built
unfoldable pub shape : Shape
unfolding clap_on_literals
shape = (built scan_line).top

shape_rules : shape.rules ≡ map (rule_at false) slots
unfolding clap_on_literals shape
shape_rules = refl

by_id-field : arg_by_id shape.rules (id_of (Some field)) ≡ Some (rule_at false (Some field))
unfolding clap_on_literals shape
by_id-field = refl

pub by_id : (slot : Slot) → IsSlot IsField slot → arg_by_id shape.rules (id_of slot) ≡ Some (rule_at false slot)
unfolding clap_on_literals shape
by_id None known = refl
by_id (Some key) known =
    subst (λ k. arg_by_id shape.rules (id_of (Some k)) ≡ Some (rule_at false (Some k))) (sym known) by_id-field

-- the option of a name
abbrev pub key_of : Text → Option Key
key_of name = if bytes_eq (codes "field") name then Some field else None

pub key_of-name : (key : Key) → IsField key → key_of (key_name key) ≡ Some key
key_of-name key known = subst (λ k. key_of (key_name k) ≡ Some k) (sym known) refl

pub key_of-is : (name : Text) (key : Key) → key_of name ≡ Some key → (name ≡ key_name key) × IsField key
key_of-is name key same = go (bytes_eq (codes "field") name) refl same
  where
    go : (b : Bool) → bytes_eq (codes "field") name ≡ b → cond b (Some field) None ≡ Some key → (name ≡ key_name key) × IsField key
    go true is same =
        let key_is : field ≡ key = cc in
        (sym ((bytes_eq-Decides (codes "field") name).0 is) ∙ ap key_name key_is, sym key_is)
    go false is same = absurd (none-some key same)

picked : (a : Bool) → cond (a || false) (Some (rule_at false (Some field))) None
    ≡ option_map (λ key. rule_at false (Some key)) (cond a (Some field) None)
picked a = grind (arith, nat_tests)

pub by_long : (name : Text) → arg_by_long shape.rules name ≡ option_map (λ key. rule_at false (Some key)) (key_of name)
unfolding clap_on_literals shape
by_long name = picked (bytes_eq (codes "field") name)

pub no_binary_name : scan_line.top.no_binary_name ≡ true
no_binary_name = refl

pub is_built : built scan_line ≡ record { top = shape; subs = [] }
unfolding clap_on_literals shape
is_built = refl

pub is_free : is_simple_and_free scan_line ≡ true
unfolding clap_on_literals
is_free = refl

pub is_plain : is_simple scan_line ≡ true
unfolding clap_on_literals
is_plain = refl

pub by_short : (x : ℕ) → arg_by_short shape.rules x ≡ None
unfolding clap_on_literals shape
by_short x = refl

pub by_index_first : arg_by_index shape.rules 1 ≡ Some (rule_at false None)
unfolding clap_on_literals shape
by_index_first = refl

pub by_index_second : arg_by_index shape.rules 2 ≡ None
unfolding clap_on_literals shape
by_index_second = refl

pub no_override : shape.args_override_self ≡ false
unfolding clap_on_literals shape
no_override = refl

pub stray : stray_fault shape ≡ kind.UnknownArgument ∷ []
unfolding clap_on_literals shape
stray = refl

pub finishes : (rows : List Row) → fold with_default rows shape.rules ≡ rows
finishes rows = rw shape_rules (with_defaults false slots rows)

pub defaults : (rows : List Row) → defaults_fault rows shape.rules ≡ []
defaults rows = rw shape_rules (no_defaults false slots rows)

-- nothing is required
pub checks : (rows : List Row) → check_fault shape rows false ≡ []
unfolding clap_on_literals shape
checks rows = refl

-- the line of `kh-scan`, whose positional may be absent, and which knows the one option
abbrev pub scan : Line
scan = record {
  app = scan_line;
  shape = shape;
  required = false;
  knows = IsField;
  key_of = key_of;
  key_of-name = key_of-name;
  key_of-is = key_of-is;
  no_binary_name = no_binary_name;
  is_built = is_built;
  is_free = is_free;
  is_plain = is_plain;
  by_id = by_id;
  by_long = by_long;
  by_short = by_short;
  by_index_first = by_index_first;
  by_index_second = by_index_second;
  no_override = no_override;
  stray = stray;
  finishes = finishes;
  defaults = defaults;
  checks = checks;
}
