-- The numbers of elements of the four fields, and the words for them.
use Rattle.std.specs.Prelude.{◌≡◌, ℕ, nat_eq, if◌then◌else◌, refl}
use Rattle.prime_field.specs.declared.size.Elements.{Elements}
use Rattle.prime_field.specs.declared.size.Elements.TheVariants.{Two, Three, Five, Seven}

-- the number that a word stands for
abbrev pub field_size : Elements → ℕ
field_size Two = 2
field_size Three = 3
field_size Five = 5
field_size Seven = 7

-- the word for a number that is one of the four
abbrev pub elements_for : ℕ → Elements
elements_for number = if nat_eq number 2 then Two else if nat_eq number 3 then Three else if nat_eq number 5 then Five else Seven

pub elements_for-field_size : (word : Elements) → elements_for (field_size word) ≡ word
elements_for-field_size Two = refl
elements_for-field_size Three = refl
elements_for-field_size Five = refl
elements_for-field_size Seven = refl
