-- The line of `kh` as a line of words. It is fixed, so what is built of it is computed: one rule for the positional, which is required,
-- and one for each of the five options. A long name is found by five comparisons.
use Rattle.std.proofs.lemmas.Bool.Decides.{nat_tests}
use Rattle.std.proofs.Common.{arith}
use Rattle.std.proofs.Common.{◌≡◌, ℕ, Bool, true, false, List, [], ◌∷◌, map, Option, Some, None, refl, sym, ap, cond, not, ◌∙◌, ◌||◌}
use Rattle.std.proofs.lemmas.Option.{none-some}
use Rattle.std.proofs.lemmas.Slice.Eq.{bytes_eq-Decides}
use Rattle.std.specs.List.{fold}
use Rattle.std.specs.Option.{option_map}
use Rattle.std.specs.Prelude.{⊤, if◌then◌else◌, codes}
use Rattle.std.specs.Str.{bytes_eq}
use Rattle.clap.specs.Walk.{Row, Text, arg_by_id, arg_by_index, arg_by_long, arg_by_short, with_default}
use Rattle.clap.specs.Simple.{Shape, built, is_simple}
use Rattle.clap.specs.Takes.{is_given}
use Rattle.clap.specs.Faults.{check_fault, defaults_fault, is_simple_and_free, stray_fault}
use Rattle.clap.specs.Kinds.{Kinds}
use Rattle.clap.specs.declared.error.kind.ErrorKind.TheVariants as kind
use Rattle.clap.proofs.OnLiterals.{clap_on_literals}
use Rattle.word_line.specs.Line.{kh_line}
use Rattle.word_line.specs.Pieces.{Key, field, workers, to, number, mark, key_name}
use Rattle.word_line.proofs.Rules.{Line, Slot, id_of, no_defaults, rule_at, with_defaults}

abbrev slots : List Slot
slots = None ∷ Some field ∷ Some workers ∷ Some to ∷ Some number ∷ Some mark ∷ []

-- the line once it is built
unfoldable pub shape : Shape
unfolding clap_on_literals
shape = (built kh_line).top

shape_rules : shape.rules ≡ map (rule_at true) slots
unfolding clap_on_literals shape
shape_rules = refl

pub by_id : (slot : Slot) → arg_by_id shape.rules (id_of slot) ≡ Some (rule_at true slot)
unfolding clap_on_literals shape
by_id None = refl
by_id (Some field) = refl
by_id (Some workers) = refl
by_id (Some to) = refl
by_id (Some number) = refl
by_id (Some mark) = refl

-- the option of a name
abbrev pub key_of : Text → Option Key
key_of name =
    if bytes_eq (codes "field") name then Some field else if bytes_eq (codes "workers") name then Some workers
    else if bytes_eq (codes "to") name then Some to else if bytes_eq (codes "number") name then Some number
    else if bytes_eq (codes "mark") name then Some mark else None

pub key_of-name : (key : Key) → key_of (key_name key) ≡ Some key
key_of-name key = grind (arith, nat_tests)

chosen_key : {P : Type 0} (b : Bool) (x : Key) (o : Option Key) (y : Key) → cond b (Some x) o ≡ Some y
    → (b ≡ true → x ≡ y → P) → (o ≡ Some y → P) → P
chosen_key b x o y same this other = grind (arith, nat_tests)

pub key_of-is : (name : Text) (key : Key) → key_of name ≡ Some key → name ≡ key_name key
key_of-is name key same =
    chosen_key (bytes_eq (codes "field") name) field _ key same
    (λ is same. sym ((bytes_eq-Decides (codes "field") name).0 is) ∙ ap key_name same) (λ same.
    chosen_key (bytes_eq (codes "workers") name) workers _ key same
    (λ is same. sym ((bytes_eq-Decides (codes "workers") name).0 is) ∙ ap key_name same) (λ same.
    chosen_key (bytes_eq (codes "to") name) to _ key same
    (λ is same. sym ((bytes_eq-Decides (codes "to") name).0 is) ∙ ap key_name same) (λ same.
    chosen_key (bytes_eq (codes "number") name) number _ key same
    (λ is same. sym ((bytes_eq-Decides (codes "number") name).0 is) ∙ ap key_name same) (λ same.
    chosen_key (bytes_eq (codes "mark") name) mark _ key same
    (λ is same. sym ((bytes_eq-Decides (codes "mark") name).0 is) ∙ ap key_name same) (λ same.
    absurd (none-some key same))))))

picked : (a b c d e : Bool) → cond (a || false) (Some (rule_at true (Some field))) (cond (b || false) (Some (rule_at true (Some workers)))
    (cond (c || false) (Some (rule_at true (Some to))) (cond (d || false) (Some (rule_at true (Some number)))
    (cond (e || false) (Some (rule_at true (Some mark))) None))))
    ≡ option_map (λ key. rule_at true (Some key))
    (cond a (Some field) (cond b (Some workers) (cond c (Some to) (cond d (Some number) (cond e (Some mark) None)))))
picked a b c d e = grind (arith, nat_tests)

pub by_long : (name : Text) → arg_by_long shape.rules name ≡ option_map (λ key. rule_at true (Some key)) (key_of name)
unfolding clap_on_literals shape
by_long name =
    picked (bytes_eq (codes "field") name) (bytes_eq (codes "workers") name) (bytes_eq (codes "to") name) (bytes_eq (codes "number") name)
    (bytes_eq (codes "mark") name)

-- the positional is required
pub checks : (rows : List Row) → check_fault shape rows false
    ≡ (if not (is_given (id_of None) rows) then kind.MissingRequiredArgument ∷ [] else [])
unfolding clap_on_literals shape
checks rows = go (is_given (id_of None) rows)
  where
    go : (b : Bool) → ◌≡◌ {A = Kinds} (cond (not b || false) (kind.MissingRequiredArgument ∷ []) [])
        (cond (not b) (kind.MissingRequiredArgument ∷ []) [])
    go true = refl
    go false = refl

pub no_binary_name : kh_line.top.no_binary_name ≡ true
no_binary_name = refl

pub is_built : built kh_line ≡ record { top = shape; subs = [] }
unfolding clap_on_literals shape
is_built = refl

pub is_free : is_simple_and_free kh_line ≡ true
unfolding clap_on_literals
is_free = refl

pub is_plain : is_simple kh_line ≡ true
unfolding clap_on_literals
is_plain = refl

pub by_short : (x : ℕ) → arg_by_short shape.rules x ≡ None
unfolding clap_on_literals shape
by_short x = refl

pub by_index_first : arg_by_index shape.rules 1 ≡ Some (rule_at true None)
unfolding clap_on_literals shape
by_index_first = refl

pub by_index_second : arg_by_index shape.rules 2 ≡ None
unfolding clap_on_literals shape
by_index_second = refl

pub no_override : shape.args_override_self ≡ false
unfolding clap_on_literals shape
no_override = refl

pub stray : stray_fault shape ≡ kind.UnknownArgument ∷ []
unfolding clap_on_literals shape
stray = refl

pub finishes : (rows : List Row) → fold with_default rows shape.rules ≡ rows
finishes rows = rw shape_rules (with_defaults true slots rows)

pub defaults : (rows : List Row) → defaults_fault rows shape.rules ≡ []
defaults rows = rw shape_rules (no_defaults true slots rows)

-- the line of `kh`, whose positional is required, and which knows all options
abbrev pub kh : Line
kh = record {
  app = kh_line;
  shape = shape;
  required = true;
  knows = λ key. ⊤;
  key_of = key_of;
  key_of-name = λ key _. key_of-name key;
  key_of-is = λ name key same. (key_of-is name key same, tt);
  no_binary_name = no_binary_name;
  is_built = is_built;
  is_free = is_free;
  is_plain = is_plain;
  by_id = λ slot _. by_id slot;
  by_long = by_long;
  by_short = by_short;
  by_index_first = by_index_first;
  by_index_second = by_index_second;
  no_override = no_override;
  stray = stray;
  finishes = finishes;
  defaults = defaults;
  checks = checks;
}
